-- What is left gives the worst of all.
use Rattle.std.proofs.Common.{◌≡◌, drop}
use Rattle.std.specs.Prelude.{map}
use Rattle.space_ends.specs.Judging.{end_status}
use Rattle.program_searches.specs.Statuses.{worst, status_of_bound}
use Rattle.program_searches.proofs.explored.Explored.status.Given as goal

abbrev pub invariant-loop-end : goal.invariant-loop-end
invariant-loop-end l =
    worst l.status (map end_status (drop l.end-index l.self.ends.items))
    ≡ worst (status_of_bound l.self.is_complete) (map end_status l.self.ends.items)
