use Rattle.std.proofs.Common.{codes}
use Rattle.clap.specs.Words.{found_of, rows_of}
use Rattle.command_line.specs.CommandLine.{assemble_source, debug_image, list_image, run_image}
use Rattle.command_line.proofs.ClapFacts.Getters.{value_is}
use Rattle.command_line.proofs.Matches.{asks, path_asks, paths_ask, number_rows, threads_ask}
use Rattle.command_line.proofs.reading.command_of_matches.Goals as goal

pub returns-in-Some-asm-default : goal.returns-in-Some-asm-default
returns-in-Some-asm-default c =
    let arm = c.in-Some-asm-default in
    let source = value_is arm.files.now (codes "SOURCE") c.path.result.now c.path.ensures in
    let image = value_is arm.files.now (codes "IMAGE") c.path-in-Some-asm-default.result.now
    c.path-in-Some-asm-default.ensures in
    asks c.args.matches.now arm.field-0-0.now (codes "asm") (rows_of (found_of arm.files.now)) _ arm.ensures.name
    arm.ensures.rows arm.is-asm (paths_ask assemble_source _ _ c.path.result.now c.path-in-Some-asm-default.result.now source
    image)

pub returns-in-Some-list-default : goal.returns-in-Some-list-default
returns-in-Some-list-default c =
    let arm = c.in-Some-list-default in
    let image = value_is arm.files.now (codes "IMAGE") c.path-in-Some-list-default.result.now
    c.path-in-Some-list-default.ensures in
    asks c.args.matches.now arm.field-0-0.now (codes "list") (rows_of (found_of arm.files.now)) _ arm.ensures.name
    arm.ensures.rows arm.is-list (path_asks list_image _ c.path-in-Some-list-default.result.now image)

pub returns-in-Some-run-default : goal.returns-in-Some-run-default
returns-in-Some-run-default c =
    let arm = c.in-Some-run-default in
    let image = value_is arm.files.now (codes "IMAGE") c.path-in-Some-run-default.result.now
    c.path-in-Some-run-default.ensures in
    let schedule = value_is arm.files.now (codes "SCHEDULE") c.path-in-Some-run-default-2.result.now
    c.path-in-Some-run-default-2.ensures in
    asks c.args.matches.now arm.field-0-0.now (codes "run") (rows_of (found_of arm.files.now)) _ arm.ensures.name
    arm.ensures.rows arm.is-run (paths_ask run_image _ _ c.path-in-Some-run-default.result.now
    c.path-in-Some-run-default-2.result.now image schedule)

pub returns-in-Some-threads-default : goal.returns-in-Some-threads-default
returns-in-Some-threads-default c =
    let arm = c.in-Some-threads-default in
    let image = value_is arm.arguments.now (codes "IMAGE") c.path-in-Some-threads-default.result.now
    c.path-in-Some-threads-default.ensures in
    let fuel = number_rows arm.arguments.now (codes "FUEL") c.number.result c.number.ensures in
    let schedule = value_is arm.arguments.now (codes "SCHEDULE") c.path-in-Some-threads-default-2.result.now
    c.path-in-Some-threads-default-2.ensures in
    asks c.args.matches.now arm.field-0-0.now (codes "threads") (rows_of (found_of arm.arguments.now)) _
    arm.ensures.name arm.ensures.rows arm.is-threads
    (threads_ask _ _ c.path-in-Some-threads-default.result.now c.path-in-Some-threads-default-2.result.now
    c.number.result _ image fuel schedule)

pub returns-in-Some-debug-default : goal.returns-in-Some-debug-default
returns-in-Some-debug-default c =
    let arm = c.in-Some-debug-default in
    let image = value_is arm.files.now (codes "IMAGE") c.path-in-Some-debug-default.result.now
    c.path-in-Some-debug-default.ensures in
    let schedule = value_is arm.files.now (codes "SCHEDULE") c.path-in-Some-debug-default-2.result.now
    c.path-in-Some-debug-default-2.ensures in
    asks c.args.matches.now arm.field-0-0.now (codes "debug") (rows_of (found_of arm.files.now)) _ arm.ensures.name
    arm.ensures.rows arm.is-debug (paths_ask debug_image _ _ c.path-in-Some-debug-default.result.now
    c.path-in-Some-debug-default-2.result.now image schedule)
