use Rattle.std.proofs.Common.{◌≡◌, false}
use Rattle.run_findings.specs.TornReads.{any_between, parts_at}
use Rattle.run_findings.proofs.parting.Pair.is_parted_between.Given as goal

-- no step so far parts them
abbrev pub invariant-loop-place : goal.invariant-loop-place
invariant-loop-place l =
    any_between (parts_at l.actions l.self.way l.self.stream l.self.one l.self.other l.first) l.first l.place ≡ false
