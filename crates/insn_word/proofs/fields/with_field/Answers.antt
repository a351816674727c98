use Rattle.std.proofs.lemmas.Nat.{or_shifted}
use Rattle.std.proofs.Math.Nat.{mod-eq_of_lt}
use Rattle.insn_word.proofs.fields.with_field.Goals as goal

pub returns : goal.returns
returns c fits small = rw (mod-eq_of_lt fits) (or_shifted c.args.bits c.args.width c.args.value small)
