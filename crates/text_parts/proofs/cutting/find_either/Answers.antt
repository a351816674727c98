use Rattle.memchr.specs.Find.{is_byte2}
use Rattle.text_parts.proofs.FirstByte.{first_byte_position}
use Rattle.text_parts.proofs.cutting.find_either.Goals as goal

pub returns : goal.returns
returns c =
    first_byte_position (is_byte2 c.args.one c.args.other) c.args.text.now c.memchr2.result c.memchr2.ensures
