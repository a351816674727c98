use Rattle.std.proofs.Common.{rules}
use Rattle.terminal_components.specs.Values.{IsNoHigher, AreReachedValues, AreLow}
use Rattle.terminal_components.proofs.Values.{lowest_by}
use Rattle.terminal_components.proofs.relaxation.relax_all.Goals as goal

pub returns-then-not-is_lower-clause-lowest : goal.returns-then-not-is_lower-clause-lowest
returns-then-not-is_lower-clause-lowest c =
    let links = c.args.links.now in
    let old = c.args.values.now in
    let new = c.relax_once-is_lower.new.values in
    let kept : IsNoHigher old new = search rules in
    let reached : AreReachedValues links c.args.cost old new = search rules in
    let low : AreLow links c.args.cost new = search rules in
    lowest_by links c.args.cost old new kept reached low
