use Rattle.asm_text.proofs.FirstProfile.{first_decides}
use Rattle.asm_text.proofs.source_laws.first_profile_line_decides.Goals as goal

pub returns : goal.returns
returns c = first_decides
