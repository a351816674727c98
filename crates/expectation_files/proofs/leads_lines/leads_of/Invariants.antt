-- What is said of the streams so far, and behind it what is of the streams that are left.
use Rattle.std.proofs.Common.{◌≡◌, ◌++◌, drop, map}
use Rattle.expectation_files.specs.LeadsLines.{stream_leads}
use Rattle.expectation_files.specs.Seen.{condition_seen}
use Rattle.expectation_files.proofs.leads_lines.leads_of.Given as goal

abbrev pub invariant-loop-stream : goal.invariant-loop-stream
invariant-loop-stream l =
    map condition_seen l.conditions.items ++ map (stream_leads l.from l.to l.fairness) (drop l.stream-index l.streams)
    ≡ map (stream_leads l.from l.to l.fairness) l.streams
