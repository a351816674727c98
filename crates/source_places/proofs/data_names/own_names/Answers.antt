use Rattle.std.proofs.Common.{◌≡◌, ◌+◌, ◌∷◌, [], sym, ◌∙◌, ap, get_or, drop, add-one, filter}
use Rattle.std.proofs.Math.Seq.{drop-cons}
use Rattle.asm_line.specs.Labels.{places_of}
use Rattle.source_places.specs.DataNames.{is_own}
use Rattle.source_places.specs.SourcePlaces.{data_name_seen, data_names_seen}
use Rattle.source_places.proofs.OwnNames.{kept, passed}
use Rattle.source_places.proofs.data_names.own_names.Goals as goal
use Rattle.source_places.proofs.data_names.own_names.Goals.{then-is_own+in_ok-push, else-is_own}

pub loop-name-preserved : goal.loop-name-preserved
loop-name-preserved c =
    let said = c.args.said.now in
    let i = c.loop-name.name-index in
    let p = is_own (places_of c.args.labels.now) (data_names_seen said) in
    let all = filter p (data_names_seen said) in
    let n = get_or said i (record { number = 0; name = record { ref_ptr = (0, 0); now = [] }; first = 0; count = 0 }) in
    let next : drop i said ≡ n ∷ drop (i + 1) said = rw add-one (drop-cons said i _ c.loop-name-test.true) in
    let is : c.is_own.result ≡ p (data_name_seen n) =
    c.is_own.ensures (data_names_seen said) (c.in_ok-times.ensures _) in
    elim c.if-is_own.branch [
      | then-is_own+in_ok-push w ↦
          rw (ap (λ v. v.items) w.names-is ∙ w.in_ok-push.ensures.items)
          (kept p c.loop-name.names.items said i n all next (sym is ∙ w.if-is_own.true) c.loop-name.invariant)
      | else-is_own w ↦
          rw (ap (λ v. v.items) w.names-is)
          (passed p c.loop-name.names.items said i n all next (sym is ∙ w.if-is_own.false) c.loop-name.invariant)
    ]
