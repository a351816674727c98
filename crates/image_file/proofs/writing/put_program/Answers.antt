use Rattle.std.proofs.Common.{◌<◌, ◌^◌, arith}
use Rattle.std.proofs.lemmas.List.Elements.{All-from_get_or}
use Rattle.image_file.proofs.writing.put_program.Goals as goal

pub returns-clause-fit : goal.returns-clause-fit
returns-clause-fit c =
    All-from_get_or (λ w. w < 2 ^ 64) c.args.program.now 0 (λ k below. omega (arith, c.type_inv.program k))
