use Rattle.std.proofs.Common.{◌∙◌, ap, unwrap_or, slice_get}
use Rattle.std.proofs.lemmas.Option.{unwrap_or-slice_get}
use Rattle.stream_core.specs.StatusWords.{status_at}
use Rattle.stream_core.proofs.registers.Targets.word.Goals as goal

pub returns : goal.returns
returns c =
    c.unwrap_or.ensures ∙ ap (λ o. unwrap_or o c.at.result) c.get.ensures.is
    ∙ ap (λ d. unwrap_or (slice_get c.args.self.now c.args.target) d) c.at.ensures
    ∙ unwrap_or-slice_get c.args.self.now c.args.target (status_at 0)
