use Rattle.std.proofs.Common.{◌≡◌, ◌+◌, false, [], length, map}
use Rattle.expectation_files.specs.Words.{words_of}
use Rattle.expectation_files.specs.ClaimLines.{groups_said}
use Rattle.expectation_files.specs.Seen.{names_in, group_seen}
use Rattle.expectation_files.proofs.claim_streams.groups_said.Given as goal

-- what was found, with what the words to come say, is what the text says
abbrev pub invariant-loop-word : goal.invariant-loop-word
invariant-loop-word l = record {
  same :
      groups_said (names_in l.names) l.image l.number (map group_seen l.groups.items) l.streams.items false (words_of l.rest)
      ≡ groups_said (names_in l.names) l.image 5 [] [] false (words_of l.text);
  counted : l.number + length (words_of l.rest) ≡ 5 + length (words_of l.text);
}

abbrev pub decreases-loop-word : goal.decreases-loop-word
decreases-loop-word l = length (words_of l.rest)
