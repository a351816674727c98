use Rattle.std.proofs.Common.{rules}
use Rattle.std.specs.Result.{IfOk}
use Rattle.std.proofs.lemmas.Result.{IfOk-weaker}
use Rattle.terminal_components.specs.Components.{AreRoots, AreTerminalComponents}
use Rattle.terminal_components.specs.ReachMarks.{AreStrayMarks, AreMemberMarks, AreMemberRoots}
use Rattle.terminal_components.proofs.TerminalMarks.{roots_by}
use Rattle.terminal_components.proofs.Roots.{components_of_roots}
use Rattle.terminal_components.proofs.components.terminal_roots.Goals as goal

pub returns-clause-roots : goal.returns-clause-roots
returns-clause-roots c =
    let links = c.args.links.now in
    let least = c.in_ok-least.least.items in
    let strays = c.in_ok-strays.strays.items in
    let members = c.in_ok-members.members.items in
    let lost : AreStrayMarks links least strays = search rules in
    let on : AreMemberMarks links least strays members = search rules in
    let told : IfOk c.member_roots.result (λ v. AreMemberRoots least members v.items) = search rules in
    IfOk-weaker c.member_roots.result (λ v. AreMemberRoots least members v.items) (λ v. AreRoots c.args.count links v.items)
    (λ v is. roots_by c.args.count links least strays members v.items c.in_ok-least.ensures lost on is)
    told

pub returns-clause-components : goal.returns-clause-components
returns-clause-components c =
    let links = c.args.links.now in
    let least = c.in_ok-least.least.items in
    let strays = c.in_ok-strays.strays.items in
    let members = c.in_ok-members.members.items in
    let lost : AreStrayMarks links least strays = search rules in
    let on : AreMemberMarks links least strays members = search rules in
    let told : IfOk c.member_roots.result (λ v. AreMemberRoots least members v.items) = search rules in
    IfOk-weaker c.member_roots.result (λ v. AreMemberRoots least members v.items) (λ v. AreTerminalComponents c.args.count links v.items)
    (λ v is.
    components_of_roots c.args.count links v.items
    (roots_by c.args.count links least strays members v.items c.in_ok-least.ensures lost on is))
    told
