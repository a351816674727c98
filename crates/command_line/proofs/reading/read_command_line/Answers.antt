use Rattle.std.proofs.Common.{◌≡◌, ◌∙◌, sym, ap, subst, IfSome, map}
use Rattle.clap.specs.Words.{App, fault_of, is_simple, is_simple_and_free, subcommand_of}
use Rattle.command_line.specs.CommandLine.{command_of_line, command_in, value_of_command}
use Rattle.command_line.proofs.Matches.{only}
use Rattle.command_line.proofs.Commands.{command_asks}
use Rattle.command_line.proofs.reading.read_command_line.Goals as goal

pub returns-clause-fault : goal.returns-clause-fault
returns-clause-fault g c =
    let same = c.in_ok-tool_parser.ensures in
    ap (λ (a : App). fault_of a (map g.S.AsStr.text c.args.words.now)) (sym same)
    ∙ c.in_ok-matches.ensures.kinds (ap is_simple_and_free same)

pub returns-clause-command : goal.returns-clause-command
returns-clause-command g c =
    let words = map g.S.AsStr.text c.args.words.now in
    let same = c.in_ok-tool_parser.ensures in
    let met = (c.in_ok-matches.ensures.matches (ap is_simple same)).1
    ∙ ap (λ (a : App). subcommand_of a words) same in
    only (command_of_line words) (value_of_command c.command_of_matches.result) (command_asks words (returns-clause-fault g c))
    (subst (λ o. IfSome (command_in o) (λ wanted. value_of_command c.command_of_matches.result ≡ wanted)) met c.command_of_matches.ensures)
