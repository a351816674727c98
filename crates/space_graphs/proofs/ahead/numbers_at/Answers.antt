use Rattle.std.proofs.Common.{slice_index_or, ◌≡◌, ℕ, ◌+◌, ◌<◌, [], ◌∷◌, ◌++◌, ◌∙◌, length, sym, subst, rules}
use Rattle.std.specs.List.{HoldsAt}
use Rattle.std.proofs.lemmas.List.{get_or_default}
use Rattle.space_graphs.specs.Ahead.{IsMarkedIn, AreMarkNumbers}
use Rattle.space_graphs.proofs.EndsAhead.{marked_more, unmarked_more}
use Rattle.space_graphs.proofs.ahead.numbers_at.Goals.{then-is_marked+in_ok-push, else-is_marked}
use Rattle.space_graphs.proofs.ahead.numbers_at.Goals as goal

pub loop-index-preserved : goal.loop-index-preserved
loop-index-preserved c =
    let marks = c.args.marks.now in
    let k = c.args.place in
    let n = c.loop-index.index in
    let mark = c.index-marks-index.result in
    let below : n < length marks = search rules in
    let is : mark ≡ slice_index_or marks n mark = c.index-marks-index.is in
    elim c.if-is_marked.branch [
      | then-is_marked+in_ok-push w ↦
          let on : IsMarkedIn k mark = search rules in
          let marked : HoldsAt (IsMarkedIn k) marks n =
          λ d. subst (IsMarkedIn k) (is ∙ get_or_default marks n mark d below) on in
          let items : c.if-is_marked.numbers.items ≡ c.loop-index.numbers.items ++ (n + 1) ∷ [] = search rules in
          subst (AreMarkNumbers marks k (n + 1)) (sym items)
          (marked_more marks k n c.loop-index.numbers.items c.loop-index.invariant marked)
      | else-is_marked w ↦
          let off : IsMarkedIn k mark → ⊥ = search rules in
          let unmarked : HoldsAt (IsMarkedIn k) marks n → ⊥ = λ on. off (subst (IsMarkedIn k) (sym is) (on mark)) in
          let items : c.if-is_marked.numbers.items ≡ c.loop-index.numbers.items = search rules in
          subst (AreMarkNumbers marks k (n + 1)) (sym items)
          (unmarked_more marks k n c.loop-index.numbers.items c.loop-index.invariant unmarked)
    ]

pub returns : goal.returns
returns c =
    let same : c.loop-index.index ≡ length c.args.marks.now = search rules in
    subst (λ (n : ℕ). AreMarkNumbers c.args.marks.now c.args.place n c.loop-index.numbers.items) same
    c.loop-index.invariant
