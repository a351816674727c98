use Rattle.std.proofs.Common.{◌≡◌, ◌++◌}
use Rattle.std.proofs.Math.ListN.{replicate}
use Rattle.expectation_files.specs.Words.{words_on}
use Rattle.expectation_files.specs.Files.{texts_of_rules}
use Rattle.expectation_files.specs.Seen.{numbers_of, texts_of}
use Rattle.expectation_files.proofs.written_lines.push_rule_lines.Given as goal

abbrev pub invariant-loop-place : goal.invariant-loop-place
invariant-loop-place l = record {
  numbers : numbers_of l.lines.items ≡ numbers_of l.initial.lines.items ++ replicate l.place l.number;
  texts : texts_of l.lines.items ≡ texts_of l.initial.lines.items ++ texts_of_rules (words_on l.line) l.place;
}
