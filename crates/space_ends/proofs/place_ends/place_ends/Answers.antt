use Rattle.std.proofs.Common.{◌≡◌, ◌+◌, ◌<◌, ◌∙◌, sym, subst, map, arith, List, Vec, Global, rules}
use Rattle.std.specs.Prelude.{IsTrue}
use Rattle.std.proofs.lemmas.List.Elements.{All-nil}
use Rattle.seed_verdicts.specs.ScheduleSpace.Spaces.{count, world_of}
use Rattle.space_ends.specs.EndsOfSpace.{listed_of, AreEndsBefore}
use Rattle.space_ends.specs.Judging.{is_end_kind}
use Rattle.space_ends.specs.Loops.{AreAllEnds}
use Rattle.space_ends.specs.Shown.{IsShownSo, AreShownSo}
use Rattle.space_ends.specs.declared.end_values.SpaceEnd.{SpaceEnd}
use Rattle.space_ends.proofs.Listing.{none_yet, passed, all_places, none_spins, fate_ends, fate_goes_on}
use Rattle.space_ends.proofs.place_ends.place_ends.Goals as goal
use Rattle.space_ends.proofs.place_ends.place_ends.Goals.{then-is_end+in_ok-add_place, else-is_end}

pub loop-place-init : goal.loop-place-init
loop-place-init g c =
    let v = c.args.space.now in
    let expected = c.args.expected.now in
    record {
      ends =
          subst (λ (xs : List SpaceEnd). AreEndsBefore v expected 0 (map listed_of xs)) (sym c.new-ends.ensures.items)
          (none_yet v expected);
      shown = subst (AreShownSo v expected) (sym c.new-ends.ensures.items) (All-nil (IsShownSo v expected));
      kinds = subst AreAllEnds (sym c.new-ends.ensures.items) (All-nil (λ (e : SpaceEnd). IsTrue (is_end_kind e.kind)));
    }

pub loop-place-preserved : goal.loop-place-preserved
loop-place-preserved g c =
    let v = c.args.space.now in
    let expected = c.args.expected.now in
    let place = c.loop-place.place in
    let w = world_of v place in
    elim c.if-is_end.branch [
      | then-is_end+in_ok-add_place b ↦
          let within : place < count v = first_of (search rules, grind arith) in
          let ends = fate_ends v.image w c.fate.result c.fate.ensures (sym c.is_end.ensures ∙ b.if-is_end.true) in
          record {
            ends =
                subst (λ (xs : Vec SpaceEnd Global). AreEndsBefore v expected (place + 1) (map listed_of xs.items))
                (sym b.ends-is) (b.in_ok-add_place.ensures.ends within ends c.loop-place.invariant.ends);
            shown =
                subst (λ (xs : Vec SpaceEnd Global). AreShownSo v expected xs.items) (sym b.ends-is)
                (b.in_ok-add_place.ensures.shown within c.loop-place.invariant.shown);
            kinds =
                subst (λ (xs : Vec SpaceEnd Global). AreAllEnds xs.items) (sym b.ends-is)
                (b.in_ok-add_place.ensures.kinds c.loop-place.invariant.kinds);
          }
      | else-is_end b ↦
          let never = fate_goes_on v.image w c.fate.result c.fate.ensures (sym c.is_end.ensures ∙ b.if-is_end.false) in
          record {
            ends =
                subst (λ (xs : Vec SpaceEnd Global). AreEndsBefore v expected (place + 1) (map listed_of xs.items))
                (sym b.ends-is)
                (passed v expected place (map listed_of c.loop-place.ends.items) c.loop-place.invariant.ends never);
            shown =
                subst (λ (xs : Vec SpaceEnd Global). AreShownSo v expected xs.items) (sym b.ends-is)
                c.loop-place.invariant.shown;
            kinds =
                subst (λ (xs : Vec SpaceEnd Global). AreAllEnds xs.items) (sym b.ends-is) c.loop-place.invariant.kinds;
          }
    ]

pub returns : goal.returns
returns g c =
    let v = c.args.space.now in
    let all : c.loop-place.place ≡ count v = first_of (search rules, grind arith) in
    let none =
    none_spins v c.args.expected.now c.loop-place.place (map listed_of c.loop-place.ends.items)
    c.loop-place.invariant.ends in
    record {
      ends =
          all_places v c.args.expected.now c.loop-place.place (map listed_of c.loop-place.ends.items)
          c.len-place-end.ensures.in_order all c.loop-place.invariant.ends;
      spinning = none;
      shown = c.loop-place.invariant.shown;
      kinds = c.loop-place.invariant.kinds;
    }
