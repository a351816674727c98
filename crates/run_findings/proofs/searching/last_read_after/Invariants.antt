use Rattle.std.proofs.Common.{◌≡◌, ◌≤◌, Some}
use Rattle.run_findings.specs.Actions.{read_by}
use Rattle.run_findings.specs.Places.{last_before}
use Rattle.run_findings.specs.Links.{word_at}
use Rattle.run_findings.proofs.searching.last_read_after.Given as goal

-- the stream did not read the word since step `step`, which has it too
abbrev pub invariant-loop-read : goal.invariant-loop-read
invariant-loop-read l = record {
  within : l.step ≤ l.end;
  word : word_at l.actions l.step ≡ Some l.word;
  same : last_before (read_by l.stream l.word) l.actions l.step
      ≡ last_before (read_by l.stream l.word) l.actions l.end;
}

abbrev pub decreases-loop-read : goal.decreases-loop-read
decreases-loop-read l = l.step
