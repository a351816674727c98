use Rattle.dead_registers.specs.Clearing.{LiveValue}
use Rattle.dead_registers.proofs.live_registers.LiveRegisters.of.Goals as goal
use Rattle.dead_registers.proofs.Schedules.{live_table_of, schedules_cleared, schedules_end_alike}

pub returns-clause-live : goal.returns-clause-live
returns-clause-live c =
    live_table_of c.args.image.now c.args.names.now c.in_ok-table.table.items c.in_ok-codes.codes.items c.profile.result c.program.result.now
    c.may_have_handlers-handled.result c.profile.ensures c.program.ensures.is c.may_have_handlers-handled.ensures.is
    c.in_ok-table.ensures c.in_ok-codes.ensures.has c.in_ok-codes.ensures.all

pub returns-clause-agree : goal.returns-clause-agree
returns-clause-agree c =
    let made : LiveValue = record { names = c.args.names.now; table = c.in_ok-table.table.items; codes = c.in_ok-codes.codes.items } in
    schedules_cleared c.args.image.now made
    (live_table_of c.args.image.now c.args.names.now c.in_ok-table.table.items c.in_ok-codes.codes.items c.profile.result c.program.result.now
    c.may_have_handlers-handled.result c.profile.ensures c.program.ensures.is c.may_have_handlers-handled.ensures.is
    c.in_ok-table.ensures c.in_ok-codes.ensures.has c.in_ok-codes.ensures.all)

pub returns-clause-ends : goal.returns-clause-ends
returns-clause-ends c =
    let made : LiveValue = record { names = c.args.names.now; table = c.in_ok-table.table.items; codes = c.in_ok-codes.codes.items } in
    schedules_end_alike c.args.image.now made
    (live_table_of c.args.image.now c.args.names.now c.in_ok-table.table.items c.in_ok-codes.codes.items c.profile.result c.program.result.now
    c.may_have_handlers-handled.result c.profile.ensures c.program.ensures.is c.may_have_handlers-handled.ensures.is
    c.in_ok-table.ensures c.in_ok-codes.ensures.has c.in_ok-codes.ensures.all)
