use Rattle.source_places.proofs.WordLines.{words_on_their_lines}
use Rattle.source_places.proofs.laws.program_words_stand_on_their_lines.Goals as goal

pub returns : goal.returns
returns c = words_on_their_lines
