use Rattle.std.proofs.Common.{◌≡◌, ◌∙◌, ap, Bool, Option, Some, true}
use Rattle.clap.specs.Words.{Rule, rule_of}
use Rattle.clap.specs.declared.builder.ArgAction.TheVariants.{Set}
use Rattle.clap.specs.declared.builder.ValueParser.{ValueParser}
use Rattle.clap.specs.declared.builder.ValueParser.TheVariants.{Unsigned}
use Rattle.clap.specs.declared.builder.arg.Arg.{Arg}
use Rattle.command_line.proofs.reading.fuel.Goals as goal

abbrev counted : Arg → Arg
counted a = record a { value_parser = Some (Unsigned 1 1000000) }

abbrev acting : Arg → Arg
acting a = record (counted a) { action = Some Set }

abbrev needed : Arg → Arg
needed a = record (acting a) { required = true }

abbrev needed_rule : Rule → Rule
needed_rule r = record r { action = Some Set; required = true; parser = Some (Unsigned 1 1000000) }

pub returns-clause-rule : goal.returns-clause-rule
returns-clause-rule c =
    let given = c.value_parser.ensures.given in
    let parser : c.value_parser.result.value_parser ≡ Some (Unsigned 1 1000000) =
    cc (given.1, given.2, c.unsigned.ensures) in
    ap rule_of c.value_parser.ensures.others
    ∙ ap (λ (p : Option ValueParser). rule_of (record c.action.result { value_parser = p })) parser
    ∙ ap (λ (a : Arg). rule_of (counted a)) c.action.ensures
    ∙ ap (λ (a : Arg). rule_of (acting a)) c.required.ensures
    ∙ ap (λ (a : Arg). rule_of (needed a)) c.help.ensures
    ∙ ap needed_rule c.new.ensures.rule

abbrev is_global : Arg → Bool
is_global a = a.global

pub returns-clause-local : goal.returns-clause-local
returns-clause-local c =
    ap is_global c.value_parser.ensures.others ∙ ap is_global c.action.ensures ∙ ap is_global c.required.ensures
    ∙ ap is_global c.help.ensures ∙ c.new.ensures.optional.1
