use Rattle.std.proofs.Common.{sym, ◌∙◌}
use Rattle.image_file.specs.Reading.{image_at}
use Rattle.image_file.proofs.Sound.{sound_from, no_fault}
use Rattle.image_file.proofs.WrittenBack.{stands_at}
use Rattle.image_file.proofs.ReadBack.{image_again, sound_again}
use Rattle.image_file.proofs.laws.image_bytes_laws.Goals as goal

pub returns-clause-image_or_fault : goal.returns-clause-image_or_fault
returns-clause-image_or_fault c b are_bytes = (
  λ none. (image_at b, stands_at b are_bytes (sound_from b none)),
  λ found. no_fault b (sound_again b found.0 found.1),
)

pub returns-clause-one_image : goal.returns-clause-one_image
returns-clause-one_image c b i j first second = sym (image_again b i first) ∙ image_again b j second

pub returns-clause-one_spelling : goal.returns-clause-one_spelling
returns-clause-one_spelling c i b d first second = first.spelled ∙ sym second.spelled
