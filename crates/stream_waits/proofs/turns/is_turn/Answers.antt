use Rattle.std.proofs.Common.{sym, ap, ◌∙◌, Some}
use Rattle.std.proofs.lemmas.Bool.{eqb-true, eq-eqb}
use Rattle.std.proofs.lemmas.Option.{same_Some}
use Rattle.stream_waits.proofs.turns.is_turn.Goals as goal

pub returns-in-Some : goal.returns-in-Some
returns-in-Some c =
    let is = c.word_filled_or_emptied.ensures c.args.address in (
      λ same. is.0 (c.in-Some.is ∙ ap Some (eqb-true _ _ same)),
      λ turned. eq-eqb _ _ (same_Some _ _ (sym c.in-Some.is ∙ is.1 turned)),
    )

pub returns-in-None : goal.returns-in-None
returns-in-None c =
    let is = c.word_filled_or_emptied.ensures c.args.address in
    (λ no. let f = no in cc, λ turned. let some = is.1 turned in let none = c.in-None.is in cc)
