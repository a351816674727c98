use Rattle.std.proofs.Common.{◌≡◌, ◌∙◌, ◌||◌, ap, ap₂}
use Rattle.std.proofs.lemmas.Result.{IfOk-weaker}
use Rattle.clap.specs.Words.{App, rule_of}
use Rattle.clap.specs.Simple.{with_rule}
use Rattle.command_line.proofs.reading.with_two.Goals as goal

pub returns-clause-app : goal.returns-clause-app
returns-clause-app c =
    IfOk-weaker c.arg-2.result _ _ (λ command added. added.shape c.requires.nor_second
    ∙ ap (λ (a : App). with_rule a (rule_of c.args.second)) (c.in_ok-arg.ensures.shape c.requires.no_global)) c.arg-2.ensures

pub returns-clause-local : goal.returns-clause-local
returns-clause-local c =
    IfOk-weaker c.arg-2.result _ _ (λ command added. added.globals
    ∙ ap₂ ◌||◌ (c.in_ok-arg.ensures.globals ∙ ap₂ ◌||◌ c.requires.local c.requires.no_global) c.requires.nor_second)
    c.arg-2.ensures
