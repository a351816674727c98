use Rattle.std.proofs.Common.{◌/◌, ◌^◌}
use Rattle.std.proofs.lemmas.Nat.{and_mask, one_shl}
use Rattle.insn_word.proofs.fields.field.Goals as goal

pub returns : goal.returns
returns c = rw (one_shl c.args.width 64 c.requires.width) (and_mask (c.args.bits / 2 ^ c.args.low) c.args.width)
