use Rattle.std.proofs.Common.{◌≡◌, ◌<◌, rules, suc, false, subst, sym}
use Rattle.std.specs.List.{list_any}
use Rattle.fair_rounds.specs.Classes.{IsEmpty}
use Rattle.fair_rounds.specs.Lassos.{IsClosed}
use Rattle.fair_rounds.specs.Entries.{enters_out}
use Rattle.fair_rounds.proofs.Entering.{IsLevel, entered_by, first_level, next_level, at_most}
use Rattle.fair_rounds.proofs.entries.find_entries.Goals as goal

pub loop-level-init : goal.loop-level-init
loop-level-init c =
    let edges = c.args.ways.edges.now in
    let within = c.args.ways.within.now in
    let first = c.args.ways.begins.now in
    let inside = c.args.inside.now in
    let same : c.in_ok-begins.begins.items ≡ first = search rules in
    subst (IsLevel edges within first inside c.args.most 0) (sym same) (first_level edges within first inside c.args.most)

pub loop-level-preserved : goal.loop-level-preserved
loop-level-preserved c =
    let edges = c.args.ways.edges.now in
    let within = c.args.ways.within.now in
    let inside = c.args.inside.now in
    let begins = c.loop-level.begins.items in
    let marks = c.in_ok-reached.reached.marks.items in
    let next = c.in_ok-next.next.items in
    let closed : IsClosed edges within begins marks = search rules in
    let none : list_any (enters_out within inside marks next) edges ≡ false = search rules in
    let below : c.loop-level.level < suc c.args.most = search rules in
    next_level edges within c.args.ways.begins.now inside c.args.most c.loop-level.level below begins marks next closed
    (entered_by edges within inside marks next none) c.loop-level.invariant

pub returns-then-is_none : goal.returns-then-is_none
returns-then-is_none c =
    let edges = c.args.ways.edges.now in
    let within = c.args.ways.within.now in
    let inside = c.args.inside.now in
    let begins = c.loop-level.begins.items in
    let marks = c.in_ok-reached.reached.marks.items in
    let next = c.in_ok-next.next.items in
    let closed : IsClosed edges within begins marks = search rules in
    let none : list_any (enters_out within inside marks next) edges ≡ false = search rules in
    let below : c.loop-level.level < suc c.args.most = search rules in
    let empty : IsEmpty next = search rules in
    at_most edges within c.args.ways.begins.now inside c.args.most c.loop-level.level below begins marks next closed
    (entered_by edges within inside marks next none) c.loop-level.invariant empty
