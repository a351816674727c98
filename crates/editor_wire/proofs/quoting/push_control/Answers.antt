use Rattle.std.proofs.Common.{false, rules}
use Rattle.std.proofs.lemmas.Fmt.{hex_byte}
use Rattle.editor_wire.proofs.quoting.push_control.Goals as goal

pub returns : goal.returns
returns c = rw (← hex_byte false c.args.code c.ranges.code.fits) (search rules)
