use Rattle.schedule_space.proofs.fates.fate_of.Goals as goal

pub returns : goal.returns
returns g c = (
  c.some_run.ensures.0 c.if-not-some_run.false,
  λ still.
      let on = c.is_standstill.ensures.is.1 still in
      let off = c.if-is_standstill.false in
      let e : ⊥ = cc in
      e,
)
