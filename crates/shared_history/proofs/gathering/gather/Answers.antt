use Rattle.std.proofs.Common.{subst, sym}
use Rattle.shared_history.specs.Schedule.{WovenValue, IsWoven, IsLongEnough}
use Rattle.shared_history.proofs.Lengths.{long-enough}
use Rattle.shared_history.proofs.gathering.gather.Goals as goal

pub returns-in-Ok-clause-long : goal.returns-in-Ok-clause-long
returns-in-Ok-clause-long g c =
    let Long : WovenValue → Type 0 = λ w. IsLongEnough c.args.parts.fuel w in
    let value : WovenValue = record {
      schedule = c.in-Ok.schedule.items;
      shared = c.args.parts.shared;
      records = c.args.parts.records;
    } in
    let woven : IsWoven value = rw (c.shared.ensures, c.records.ensures) at c.in-Ok.ensures in
    subst Long (sym c.of.ensures)
    (long-enough c.args.parts.fuel c.args.parts.shared c.args.parts.records c.in-Ok.schedule.items
    c.in-None.ensures.finished woven)
