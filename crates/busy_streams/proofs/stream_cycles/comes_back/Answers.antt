use Rattle.std.proofs.Common.{rules, length, refl, sym, ◌∙◌}
use Rattle.std.proofs.lemmas.Option.{slice_get_within, slice_get_read}
use Rattle.busy_streams.proofs.OwnLinks.{is-step}
use Rattle.busy_streams.proofs.Told.{still_none, none_own, told}
use Rattle.busy_streams.proofs.stream_cycles.comes_back.Goals as goal

pub returns-then-is_step : goal.returns-then-is_step
returns-then-is_step c =
    let v = c.args.space.now in
    let rs = c.args.cycles.now in
    let r = c.index-cycles-number.result in
    let there = slice_get_read rs (length rs) c.loop-number.number r refl (search rules) c.index-cycles-number.is in
    let roots = c.requires.cycles.own c.loop-number.number r there in
    told v c.args.stream r c.args.place c.index.result.now c.is_some.result
    (is-step c.args.stream r.stream (sym c.is_step.ensures ∙ c.if-is_step.true)) roots c.requires.within (search rules)
    c.index.ensures c.is_some.ensures

pub loop-number-preserved : goal.loop-number-preserved
loop-number-preserved c =
    still_none c.args.cycles.now c.loop-number.number c.index-cycles-number.result c.args.stream c.is_step.result
    (search rules) c.index-cycles-number.is c.is_step.ensures c.if-is_step.false c.loop-number.invariant

pub returns : goal.returns
returns c = (
  λ yes.
      none_own c.args.space.now c.args.stream c.args.cycles.now c.requires.cycles
      (λ i r there.
      let within = slice_get_within c.args.cycles.now i r there in
      c.loop-number.invariant i r (search rules) there)
      c.args.place,
  λ back. refl,
)
