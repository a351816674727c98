use Rattle.std.proofs.Common.{rules}
use Rattle.processor.proofs.Opening.{opened, counted_opened, opened-length}
use Rattle.processor.proofs.processors.Processor.new.Goals as goal

pub invariant_of-result : goal.invariant_of-result
invariant_of-result g c =
    counted_opened c.args.image.now c.args.number _ c.slim.result c.slim.ensures.some c.slim.ensures.is
    (opened c.args.image.now c.args.number c.in-Some.entry c.slim.result c.born-first.result c.in_ok-table.table
    c.in-Some.ensures.is c.slim.ensures.is (search rules) c.in_ok-table.ensures)

pub returns-clause-is : goal.returns-clause-is
returns-clause-is g c =
    opened c.args.image.now c.args.number c.in-Some.entry c.slim.result c.born-first.result c.in_ok-table.table
    c.in-Some.ensures.is c.slim.ensures.is (search rules) c.in_ok-table.ensures

pub returns-clause-slim : goal.returns-clause-slim
returns-clause-slim g c =
    opened-length c.args.image.now c.args.number _
    (opened c.args.image.now c.args.number c.in-Some.entry c.slim.result c.born-first.result c.in_ok-table.table
    c.in-Some.ensures.is c.slim.ensures.is (search rules) c.in_ok-table.ensures)
