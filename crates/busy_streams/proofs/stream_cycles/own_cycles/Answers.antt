use Rattle.std.proofs.Common.{rules, ◌≡◌, ◌<◌, ◌∙◌, refl, ap, sym, subst, length, slice_index_or, List, [], ◌∷◌, ◌++◌, Vec, Global}
use Rattle.schedule_space.specs.declared.links.Edge.{Edge}
use Rattle.busy_streams.specs.declared.stream_cycles.OwnCycles.{OwnCycles}
use Rattle.busy_streams.specs.OwnCycles.{AreAllOwn, HasCyclesOf}
use Rattle.busy_streams.proofs.Growing.{still_has, has_last, own_more, each_more}
use Rattle.busy_streams.proofs.stream_cycles.own_cycles.Goals as goal
use Rattle.busy_streams.proofs.stream_cycles.own_cycles.Goals.{then-not-has_cycles_of+in_ok-cycles_of+in_ok-push, else-not-has_cycles_of}

pub loop-number-preserved : goal.loop-number-preserved
loop-number-preserved c =
    let v = c.args.space.now in
    let es = c.edges-edges.result.now in
    let rs = c.loop-number.cycles.items in
    let n = c.loop-number.number in
    let none : Edge = record { from = 0; step = record { p = 0; s = 0 }; to = 0 } in
    let new = c.if-not-has_cycles_of.cycles.items in
    elim c.if-not-has_cycles_of.branch [
      | then-not-has_cycles_of+in_ok-cycles_of+in_ok-push b ↦
          let r = b.in_ok-cycles_of.field-0 in
          let e : new ≡ rs ++ r ∷ [] =
          ap (λ (x : Vec OwnCycles Global). x.items) b.cycles-is ∙ b.in_ok-push.ensures.items in
          record {
            own =
                subst (AreAllOwn v) (sym e)
                (own_more rs r v c.loop-number.invariant.own b.in_ok-cycles_of.ensures.own);
            each =
                each_more es rs new n r.stream none
                (λ u has. subst (λ (xs : List OwnCycles). HasCyclesOf xs u) (sym e) (still_has rs r u has))
                (subst (λ (xs : List OwnCycles). HasCyclesOf xs r.stream) (sym e) (has_last rs r r.stream refl))
                (search rules) b.in_ok-cycles_of.ensures.stream c.loop-number.invariant.each;
          }
      | else-not-has_cycles_of b ↦
          let e : new ≡ rs = ap (λ (x : Vec OwnCycles Global). x.items) b.cycles-is in
          let t = (slice_index_or es n none).step in
          let has : HasCyclesOf rs t =
          subst (λ (xs : List OwnCycles). HasCyclesOf xs t) c.deref.ensures.value
          (c.has_cycles_of.ensures b.if-not-has_cycles_of.false) in
          record {
            own = subst (AreAllOwn v) (sym e) c.loop-number.invariant.own;
            each =
                each_more es rs new n t none (λ u found. subst (λ (xs : List OwnCycles). HasCyclesOf xs u) (sym e) found)
                (subst (λ (xs : List OwnCycles). HasCyclesOf xs t) (sym e) has)
                (search rules) refl c.loop-number.invariant.each;
          }
    ]

pub returns : goal.returns
returns c = record {
  own = c.loop-number.invariant.own;
  each = λ e there.
      let edges = c.edges-edges.ensures.edges in
      let below : there.0 < length c.edges-edges.result.now = subst (λ (es : List Edge). there.0 < length es) (sym edges) there.1 in
      let has = c.loop-number.invariant.each there.0 e (search rules) in
      subst (λ (d : Edge). HasCyclesOf c.loop-number.cycles.items d.step)
      (ap (λ (es : List Edge). slice_index_or es there.0 e) edges ∙ there.2) has;
}
