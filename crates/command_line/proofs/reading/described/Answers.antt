use Rattle.std.proofs.Common.{◌≡◌, ◌∙◌, ap, Bool}
use Rattle.clap.specs.Simple.{app_of_fields}
use Rattle.clap.specs.declared.builder.command.Command.{Command}
use Rattle.clap.specs.declared.builder.command.Command.TheOpen.{Command-F}
use Rattle.command_line.proofs.reading.described.Goals as goal

-- the texts of a command's help say nothing of what the parser reads
pub returns-clause-app : goal.returns-clause-app
returns-clause-app c =
    ap app_of_fields c.after_help.ensures ∙ ap app_of_fields c.long_about.ensures
    ∙ ap app_of_fields c.about.ensures ∙ c.new.ensures.app

abbrev has_globals : Command-F Command → Bool
has_globals f = f.has_globals

pub returns-clause-local : goal.returns-clause-local
returns-clause-local c =
    ap has_globals c.after_help.ensures ∙ ap has_globals c.long_about.ensures
    ∙ ap has_globals c.about.ensures ∙ c.new.ensures.local
