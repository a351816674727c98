use Rattle.std.proofs.Common.{◌≡◌, ℕ, length}
use Rattle.run_findings.specs.Places.{last_before}
use Rattle.run_findings.specs.Links.{AreLinksSoFar, has_word, latest_of}
use Rattle.run_findings.specs.declared.parting.Meeting.TheVariants as meeting
use Rattle.run_findings.proofs.links.Links.of.Given as goal

-- the links of the steps so far, and the last of these that has each word
abbrev pub invariant-loop-step : goal.invariant-loop-step
invariant-loop-step l = record {
  writes_count : length l.writes.items ≡ l.step;
  writes : AreLinksSoFar meeting.Writes l.actions l.writes.items;
  reads_count : length l.reads.items ≡ l.step;
  reads : AreLinksSoFar meeting.Reads l.actions l.reads.items;
  latest : (a : ℕ) → latest_of l.latest a ≡ last_before (has_word a) l.actions l.step;
}
