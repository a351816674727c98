use Rattle.std.proofs.Common.{◌≡◌, ◌∙◌, ap₂}
use Rattle.std.proofs.lemmas.Result.{IfOk-weaker}
use Rattle.clap.specs.Simple.{with_rule}
use Rattle.command_line.proofs.reading.threads_parser.Goals as goal

pub returns-clause-app : goal.returns-clause-app
returns-clause-app c =
    let image = c.in_ok-threads.ensures.shape c.file.ensures.local
    ∙ ap₂ with_rule c.described.ensures.app c.file.ensures.rule in
    IfOk-weaker c.with_two.result _ _ (λ command added. added
    ∙ ap₂ with_rule (ap₂ with_rule image c.fuel.ensures.rule) c.file-schedule.ensures.rule) c.with_two.ensures.app
