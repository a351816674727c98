use Rattle.std.proofs.Common.{◌≡◌, length, reverse}
use Rattle.asm_line.specs.Text.{skip_blanks}
use Rattle.source_layout.proofs.comments.without_last_blanks.Given as goal

abbrev pub invariant-loop-rest : goal.invariant-loop-rest
invariant-loop-rest l = skip_blanks (reverse l.rest) ≡ skip_blanks (reverse l.bytes)

abbrev pub decreases-loop-rest : goal.decreases-loop-rest
decreases-loop-rest l = length l.rest
