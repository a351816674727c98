use Rattle.std.proofs.Common.{◌≡◌, ◌∙◌, sym, refl, inl, inr, true, false}
use Rattle.step_views.proofs.differences.note.Goals as goal

pub returns-then-is_same_content-clause-kept : goal.returns-then-is_same_content-clause-kept
returns-then-is_same_content-clause-kept c = inl (c.is_same_content.ensures.0 c.if-is_same_content.true, refl)

pub returns-clause-kept : goal.returns-clause-kept
returns-clause-kept c = inr (
  λ e. let f : false ≡ true = sym c.if-is_same_content.false ∙ c.is_same_content.ensures.1 e in let z : ⊥ = cc in z,
  c.in-Ok.ensures.items,
)
