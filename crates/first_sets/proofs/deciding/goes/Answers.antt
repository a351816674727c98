use Rattle.first_sets.proofs.Members.{goes_by, not_so}
use Rattle.std.proofs.Common.{sym, ap, ◌∙◌}
use Rattle.first_sets.specs.ApartSets.{is_blocked}
use Rattle.first_sets.proofs.deciding.goes.Goals as goal

pub returns-in-Some : goal.returns-in-Some
returns-in-Some g c =
    λ yes.
    goes_by c.args.machine.now.image c.args.machine.now.world c.args.step c.in-Some.ensures.0 c.in-Some.request
    c.in-Some.ensures.1
    (ap is_blocked (sym c.ending.ensures.reply) ∙ sym c.is_blocked.ensures ∙ not_so c.is_blocked.result yes)
