use Rattle.std.proofs.Common.{◌≡◌, ◌≤◌, length, vec_len}
use Rattle.text_parts.specs.Lines.{lines_of}
use Rattle.image_file.specs.ImageValue.{most_program_words}
use Rattle.mta_engines.specs.ProgramLines.{program_of}
use Rattle.mta_engines.proofs.ProgramText.{read_on}
use Rattle.mta_engines.proofs.program_lines.read_program.Given as goal

abbrev pub invariant-loop-rest : goal.invariant-loop-rest
invariant-loop-rest l = (vec_len l.words ≤ most_program_words) × (program_of l.text ≡ read_on l.words.items (lines_of l.rest))

abbrev pub decreases-loop-rest : goal.decreases-loop-rest
decreases-loop-rest l = length l.rest
