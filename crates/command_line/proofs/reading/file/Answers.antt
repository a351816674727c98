use Rattle.std.proofs.Common.{◌≡◌, ◌∙◌, ap, Bool, Some, true}
use Rattle.clap.specs.Words.{Rule, rule_of}
use Rattle.clap.specs.declared.builder.ArgAction.TheVariants.{Set}
use Rattle.clap.specs.declared.builder.arg.Arg.{Arg}
use Rattle.command_line.proofs.reading.file.Goals as goal

abbrev with_action : Rule → Rule
with_action r = record r { action = Some Set }

abbrev needed : Rule → Rule
needed r = record r { action = Some Set; required = true }

pub returns-clause-rule : goal.returns-clause-rule
returns-clause-rule c =
    ap rule_of c.action.ensures ∙ ap (λ (a : Arg). with_action (rule_of a)) c.required.ensures
    ∙ ap (λ (a : Arg). needed (rule_of a)) c.help.ensures ∙ ap needed c.new.ensures.rule

abbrev is_global : Arg → Bool
is_global a = a.global

pub returns-clause-local : goal.returns-clause-local
returns-clause-local c =
    ap is_global c.action.ensures ∙ ap is_global c.required.ensures ∙ ap is_global c.help.ensures
    ∙ c.new.ensures.optional.1
