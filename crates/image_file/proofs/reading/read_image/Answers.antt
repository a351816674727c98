use Rattle.std.proofs.Common.{arith}
use Rattle.image_file.proofs.Made.{found, only}
use Rattle.image_file.proofs.reading.read_image.Goals as goal

pub returns-clause-found : goal.returns-clause-found
returns-clause-found c =
    found c.args.bytes.now c.image_of.result (λ k. omega (arith, c.type_inv.bytes k)) c.image_of.ensures

pub returns-clause-only : goal.returns-clause-only
returns-clause-only c = only c.args.bytes.now c.image_of.result c.image_of.ensures
