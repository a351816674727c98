use Rattle.std.proofs.Common.{ap, sym, ◌∙◌, subst, Vec, Global}
use Rattle.std.specs.Prelude.{All}
use Rattle.source_slips.specs.declared.unmade.UnmadeCode.{UnmadeCode}
use Rattle.source_slips.specs.Codes.{AsksNoCode}
use Rattle.source_slips.specs.MostCodes.{MostMade}
use Rattle.source_slips.proofs.Ways.{one_more}
use Rattle.source_slips.proofs.NeverMade.{asks_no_code, most_made}
use Rattle.source_slips.proofs.unmade.unmade_by.Goals as goal
use Rattle.source_slips.proofs.unmade.unmade_by.Goals.{in-Some+then-asks_at+in_ok-push, in-Some+else-asks_at, in_default-most_at}

pub loop-place-preserved : goal.loop-place-preserved
loop-place-preserved c = elim c.match-most_at.branch [
  | in-Some+then-asks_at+in_ok-push w ↦
      let closed = c.is_closed.ensures c.if-not-is_closed.false in
      let at = sym c.most_at.ensures ∙ w.in-Some.is in
      let items = sym (ap (λ (r : Vec UnmadeCode Global). r.items) w.found-is ∙ w.in_ok-push.ensures.items) in
      record {
        codes =
            subst (All (λ (u : UnmadeCode). AsksNoCode c.args.image.now u.place)) items
            (one_more (λ (u : UnmadeCode). AsksNoCode c.args.image.now u.place) c.loop-place.found.items _
            (asks_no_code c.args.image.now c.args.table.now c.args.anywhere closed c.in-Ok.place w.in-Some.most at
            (w.asks_at.ensures w.if-asks_at.true))
            c.loop-place.invariant.codes);
        most =
            subst (All (λ (u : UnmadeCode). MostMade c.args.image.now u.place u.most)) items
            (one_more (λ (u : UnmadeCode). MostMade c.args.image.now u.place u.most) c.loop-place.found.items _
            (most_made c.args.image.now c.args.table.now c.args.anywhere closed c.in-Ok.place w.in-Some.most at c.requires)
            c.loop-place.invariant.most);
      }
  | in-Some+else-asks_at w ↦ record {
    codes =
        subst (λ (r : Vec UnmadeCode Global). All (λ (u : UnmadeCode). AsksNoCode c.args.image.now u.place) r.items)
        (sym w.found-is) c.loop-place.invariant.codes;
    most =
        subst (λ (r : Vec UnmadeCode Global). All (λ (u : UnmadeCode). MostMade c.args.image.now u.place u.most) r.items)
        (sym w.found-is) c.loop-place.invariant.most;
  }
  | in_default-most_at w ↦ record {
    codes =
        subst (λ (r : Vec UnmadeCode Global). All (λ (u : UnmadeCode). AsksNoCode c.args.image.now u.place) r.items)
        (sym w.found-is) c.loop-place.invariant.codes;
    most =
        subst (λ (r : Vec UnmadeCode Global). All (λ (u : UnmadeCode). MostMade c.args.image.now u.place u.most) r.items)
        (sym w.found-is) c.loop-place.invariant.most;
  }
]
