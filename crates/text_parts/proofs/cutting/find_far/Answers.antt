use Rattle.memchr.specs.Find.{is_byte}
use Rattle.text_parts.proofs.FirstByte.{first_byte_position}
use Rattle.text_parts.proofs.cutting.find_far.Goals as goal

pub returns : goal.returns
returns c = first_byte_position (is_byte c.args.byte) c.args.text.now c.memchr.result c.memchr.ensures
