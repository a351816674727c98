-- The machines that a search keeps, while its space grows.
use Rattle.std.proofs.Common.{◌≡◌, ℕ, ◌<◌, ◌≤◌, refl, sym, ap, ◌∙◌, subst, arith, List, [], ◌∷◌, ◌++◌, Some}
use Rattle.std.proofs.Common.{inl, inr, length, map, get_or}
use Rattle.std.specs.List.{All}
use Rattle.std.specs.Prelude.{Result, Ok, Err, OnOk}
use Rattle.std.proofs.lemmas.List.{map-append}
use Rattle.std.proofs.lemmas.List.Elements.{All-head, All-tail, All-weaker, All-push}
use Rattle.machine.specs.MachineValue.{MachineValue}
use Rattle.processor.specs.World.{World, start, steps, run}
use Rattle.processor.specs.declared.steps.Step.{Step}
use Rattle.processor.proofs.Histories.{steps-append}
use Rattle.schedule_space.specs.declared.links.Link.{Link}
use Rattle.schedule_space.specs.Spaces.{schedules, SpaceValue, count, machine_after, machine_by, IsRoute}
use Rattle.schedule_space.specs.Finding.{with_link, IsGrown}
use Rattle.schedule_space.proofs.Growing.{last_world}
use Rattle.schedule_space.specs.Kept.{KeptValue, IsAtHand, machine_at, machine_next, AreKept, AreKeptAt, IsSameButHere, IsMachineMore}

-- the machine at a place stays where the space grows
at_grown : (v w : SpaceValue) (k : ℕ) → IsGrown v w → k < count v → machine_at v k ≡ machine_at w k
at_grown v w k g below = λ i. machine_after (sym g.image i) (sym (g.same k below) i)

maps_alike : (f h : ℕ → MachineValue) (ks : List ℕ) → All (λ k. f k ≡ h k) ks → map f ks ≡ map h ks
maps_alike f h [] all = refl
maps_alike f h (k ∷ ks) all =
    let here = All-head (λ j. f j ≡ h j) k ks all in
    let rest = maps_alike f h ks (All-tail (λ j. f j ≡ h j) k ks all) in
    λ i. here i ∷ rest i

pub kept_grown : (v w : SpaceValue) (ms : KeptValue) → IsGrown v w → AreKept v ms → AreKept w ms
kept_grown v w ms g is = record {
  first = is.first ∙ (λ i. machine_after (sym g.image i) (sym g.begin i));
  each =
      is.each
      ∙ maps_alike (machine_at v) (machine_at w) ms.places
      (All-weaker (λ k. k < count v) (λ k. machine_at v k ≡ machine_at w k) (λ k below. at_grown v w k g below) ms.places is.there);
  there =
      All-weaker (λ k. k < count v) (λ k. k < count w) (λ k below. omega (arith, below, g.more)) ms.places is.there;
}

pub at_hand_grown : (v w : SpaceValue) (ms : KeptValue) (from : ℕ) → IsGrown v w → from < count v → AreKeptAt v ms from
    → AreKeptAt w ms from
at_hand_grown v w ms from g below is = record {
  kept = kept_grown v w ms g is.kept;
  here = subst (λ (m : MachineValue). IsAtHand m ms.here) (at_grown v w from g below) is.here;
}

-- where only what is at hand has changed
pub kept_same : (v : SpaceValue) (old new : KeptValue) → IsSameButHere old new → AreKept v old → AreKept v new
kept_same v old new same is = subst (AreKept v) (sym same) (record {
  first = is.first;
  each = is.each;
  there = is.there;
})

pub at_hand_same : (v : SpaceValue) (old new : KeptValue) (from : ℕ) → IsSameButHere old new
    → IsAtHand (machine_at v from) new.here → AreKept v old → AreKeptAt v new from
at_hand_same v old new from same here is = record { kept = kept_same v old new same is; here = here }

-- one machine more, at a place that the space has got
pub kept_more : (v w : SpaceValue) (old new : KeptValue) (m : MachineValue) (k : ℕ) → IsGrown v w → k < count w
    → m ≡ machine_at w k → IsMachineMore old new k m → AreKept v old → AreKept w new
kept_more v w old new m k g below is (inl same) kept = subst (AreKept w) (sym same) (kept_grown v w old g kept)
kept_more v w old new m k g below is (inr more) kept =
    let grown = kept_grown v w old g kept in
    subst (AreKept w) (sym more) (record {
      first = grown.first;
      each =
          (λ i. grown.each i ++ is i ∷ []) ∙ sym (map-append (machine_at w) old.places (k ∷ []));
      there = All-push (λ j. j < count w) old.places k grown.there below;
    })

pub more_here : (old new : KeptValue) (m : MachineValue) (k : ℕ) → IsMachineMore old new k m → new.here ≡ old.here
more_here old new m k (inl same) = ap (λ (x : KeptValue). x.here) same
more_here old new m k (inr more) = ap (λ (x : KeptValue). x.here) more

-- a search that comes to a place
pub gone_to : (v : SpaceValue) (old new : KeptValue) (from : ℕ) → new.first ≡ old.first
    → ((n : ℕ) → All (λ k. k < n) old.places → All (λ k. k < n) new.places)
    → ((f : ℕ → MachineValue) → old.waiting ≡ map f old.places → new.waiting ≡ map f new.places)
    → ((f : ℕ → MachineValue) → old.waiting ≡ map f old.places → IsAtHand (f from) new.here)
    → AreKept v old → AreKeptAt v new from
gone_to v old new from first fewer kept here is = record {
  kept = record {
    first = first ∙ is.first;
    each = kept (machine_at v) is.each;
    there = fewer (count v) is.there;
  };
  here = here (machine_at v) is.each;
}

-- The next of those that are kept.

pub next_kept : (f : ℕ → MachineValue) (ks ls : List ℕ) (ms ns : List MachineValue) (k : ℕ) (m : MachineValue)
    → ms ≡ map f ks → ks ≡ k ∷ ls → ms ≡ m ∷ ns → (m ≡ f k) × (ns ≡ map f ls)
next_kept f ks ls ms ns k m is places machines =
    let both : m ∷ ns ≡ f k ∷ map f ls = sym machines ∙ is ∙ ap (map f) places in
    let one : m ≡ f k = cc in
    let rest : ns ≡ map f ls = cc in
    (one, rest)

-- The machine that is made for a place.

-- the steps behind those of the beginning lead on from the first machine
pub made_by : (first m n : MachineValue) (begin back : List Step) (links : List Link) (place : ℕ)
    → first ≡ machine_after first.image begin → m ≡ first
    → n ≡ record m { world = steps m.image m.world back }
    → begin ++ back ≡ get_or (schedules begin links) place []
    → n ≡ machine_by first.image begin links place
made_by first m n begin back links place is cloned ran all =
    let image = first.image in
    let at : n ≡ record { image = image; world = steps image first.world back } =
    ran ∙ ap (λ (x : MachineValue). record x { world = steps x.image x.world back }) cloned in
    let from : first.world ≡ run image begin = ap (λ (x : MachineValue). x.world) is in
    at
    ∙ (λ i. record { image = image; world = (ap (λ (w : World). steps image w back) from ∙ sym (steps-append image (start image) begin back) ∙ ap (run image) all) i })

-- by the links of the space it is that of the place
pub by_route : (v w : SpaceValue) (ms : KeptValue) (from : ℕ) (begin : List Step) (links : List Link) (place : ℕ) → w ≡ v
    → AreKept v ms → begin ≡ w.begin → links ≡ w.links → place ≡ from
    → machine_by ms.first.image begin links place ≡ machine_at v from
by_route v w ms from begin links place view is begins linked at =
    let image : ms.first.image ≡ v.image = ap (λ (m : MachineValue). m.image) is.first in
    let begun : begin ≡ v.begin = begins ∙ ap (λ (x : SpaceValue). x.begin) view in
    let all : links ≡ v.links = linked ∙ ap (λ (x : SpaceValue). x.links) view in
    λ i. machine_by (image i) (begun i) (all i) (at i)

-- the machine of the first world is that of the beginning by its own image
pub first_by : (v : SpaceValue) (ms : KeptValue) (begin : List Step) → AreKept v ms → begin ≡ v.begin
    → ms.first ≡ machine_after ms.first.image begin
first_by v ms begin is same =
    let image : ms.first.image ≡ v.image = ap (λ (m : MachineValue). m.image) is.first in
    is.first ∙ (λ i. machine_after (sym image i) (sym same i))

-- A space that gets one world more.

-- the machine behind the step is that of the new place
pub new_machine : (v w : SpaceValue) (l : Link) (m : MachineValue) (k : ℕ) → w ≡ with_link v l → k ≡ count v
    → m ≡ machine_at v l.from → machine_next m l.step ≡ machine_at w k
new_machine v w l m k is at here =
    ap (λ (x : MachineValue). machine_next x l.step) here
    ∙ (λ i. record { image = v.image; world = sym (last_world v l) i })
    ∙ (λ i. machine_at (sym is i) (sym at i))

pub placed_at_hand : (v w : SpaceValue) (old new : KeptValue) (m : MachineValue) (from k : ℕ) → IsGrown v w → from < count v
    → k < count w → m ≡ machine_at w k → IsMachineMore old new k m → AreKeptAt v old from → AreKeptAt w new from
placed_at_hand v w old new m from k g below there is more kept = record {
  kept = kept_more v w old new m k g there is more kept.kept;
  here = λ n some. kept.here n (sym (more_here old new m k more) ∙ some) ∙ at_grown v w from g below;
}

pub route_there : (w v : SpaceValue) (links : List Link) (place from : ℕ) → w ≡ v
    → ((k : ℕ) (l : Link) → k < length w.links → (get_or w.links k l).from ≤ k) → links ≡ w.links → place ≡ from
    → from < count v → IsRoute links place
route_there w v links place from view earlier same at below = record {
  earlier = subst (λ (ls : List Link). (k : ℕ) (l : Link) → k < length ls → (get_or ls k l).from ≤ k) (sym same) earlier;
  there = omega (arith, at, below, ap length same, ap (λ (x : SpaceValue). length x.links) view);
}

module _ {E : Type 0} where
  -- the machine that was made is at hand
  pub made_here : (r : Result Unit E) (v : SpaceValue) (old new : KeptValue) (from : ℕ) (m : MachineValue) → m ≡ machine_at v from
      → OnOk r (new ≡ record old { here = Some m }) → OnOk r (new.here ≡ Some (machine_at v from))
  made_here (Ok a) v old new from m is made = ap (λ (x : KeptValue). x.here) made ∙ ap (λ (x : MachineValue). Some x) is
  made_here (Err e) v old new from m is made = made

  pub made_at : (r : Result Unit E) (v : SpaceValue) (old new : KeptValue) (from : ℕ) (m : MachineValue) → m ≡ machine_at v from
      → OnOk r (new ≡ record old { here = Some m }) → AreKeptAt v old from → OnOk r (AreKeptAt v new from)
  made_at (Ok a) v old new from m is made kept = subst (λ (x : KeptValue). AreKeptAt v x from) (sym made) (record {
    kept = record { first = kept.kept.first; each = kept.kept.each; there = kept.kept.there };
    here = λ n some. (let e : Some m ≡ Some n = some in let same : m ≡ n = cc in sym same) ∙ is;
  })
  made_at (Err e) v old new from m is made kept = made

  -- a machine that was put behind the others is one more
  pub more_if : (r : Result Unit E) (old new : KeptValue) (place : ℕ) (n m : MachineValue) → n ≡ m
      → OnOk r (new ≡ record old { places = old.places ++ place ∷ []; waiting = old.waiting ++ n ∷ [] })
      → OnOk r (IsMachineMore old new place m)
  more_if (Ok a) old new place n m same made =
      inr (made ∙ ap (λ (x : MachineValue). record old { places = old.places ++ place ∷ []; waiting = old.waiting ++ x ∷ [] }) same)
  more_if (Err e) old new place n m same made = made
