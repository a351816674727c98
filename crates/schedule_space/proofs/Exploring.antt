-- The search from its first world on, and what is known where it ends.
use Rattle.std.proofs.Common.{◌≡◌, ℕ, ◌<◌, refl, sym, ap, ◌∙◌, subst, arith, List, [], ◌∷◌, ◌++◌, append_assoc, None, false}
use Rattle.std.specs.Prelude.{Result, Ok, Err, OnOk}
use Rattle.std.specs.Result.{is_err}
use Rattle.image_file.specs.ImageValue.{ImageValue}
use Rattle.machine.specs.MachineValue.{MachineValue}
use Rattle.processor.specs.World.{start, after, run, steps}
use Rattle.processor.specs.declared.steps.Step.{Step}
use Rattle.world_keys.specs.DeadRegisters.Clearing.{LiveValue, IsLive}
use Rattle.schedule_space.specs.Spaces.{SpaceValue, count, schedule_of, world_of, machine_after, AreAllApart, IsShortest}
use Rattle.schedule_space.specs.Spaces.{HasStandIn, LacksStandIn, HasEarlierLinks}
use Rattle.schedule_space.specs.Answers.{most_places, IsFull}
use Rattle.schedule_space.specs.Finding.{space_of, IsGrown, IsExpanded, IsBreadthFirst, IsFullAt}
use Rattle.schedule_space.specs.Kept.{KeptValue, AreKept}
use Rattle.std.proofs.lemmas.List.Elements.{All-nil}
use Rattle.schedule_space.proofs.Schedules.{goes_on, run-push}
use Rattle.schedule_space.proofs.Growing.{expanded_grown}
use Rattle.schedule_space.proofs.Breadth.{shortest_below}

-- the machine that an image is loaded to, run on a schedule, is at the world of the schedule
pub loaded : (image : ImageValue) (m n : MachineValue) (begin : List Step)
    → m ≡ record { image = image; world = start image }
    → n ≡ record m { world = steps m.image m.world begin } → n ≡ machine_after n.image begin
loaded image m n begin is ran =
    let at : n ≡ machine_after image begin = ran ∙ ap (λ (x : MachineValue). record x { world = steps x.image x.world begin }) is in
    at ∙ sym (ap (λ (i : ImageValue). machine_after i begin) (ap (λ (x : MachineValue). x.image) at))

-- the machines that are kept at first
pub begun_kept : (v : SpaceValue) (m : MachineValue) (ms : KeptValue) (live : LiveValue) (begin : List Step)
    → v ≡ space_of m.image live begin [] [] → m ≡ machine_after m.image begin
    → ms ≡ record { first = m; here = None; places = []; waiting = [] } → AreKept v ms
begun_kept v m ms live begin is at one =
    subst (AreKept v) (sym one) (record {
      first = at ∙ ap (λ (x : SpaceValue). machine_after x.image x.begin) (sym is);
      each = refl;
      there = All-nil (λ k. k < count v);
    })

-- where an expansion stopped before its end, schedules are as short as any
pub shortest_stopped : (v w : SpaceValue) (n : ℕ) → IsGrown v w → n < count v
    → ((k : ℕ) → k < n → IsExpanded v k) → IsBreadthFirst w n → IsLive w.image w.live → AreAllApart w
    → IsShortest w
shortest_stopped v w n g inside all breadth live apart =
    shortest_below w n live apart breadth (λ k less. expanded_grown v w k g (omega (arith, less, inside)) (all k less))

-- what is expanded in a space is so in the same one
pub same_expanded : (v w : SpaceValue) → w ≡ v → ((k : ℕ) → k < count v → IsExpanded v k) → (k : ℕ) → k < count w
    → IsExpanded w k
same_expanded v w is all = subst (λ (x : SpaceValue). (k : ℕ) → k < count x → IsExpanded x k) (sym is) all

pub same_shortest : (v w u : SpaceValue) (n : ℕ) → u ≡ w → IsGrown v w → n < count v
    → ((k : ℕ) → k < n → IsExpanded v k) → IsBreadthFirst w n → IsLive u.image u.live → AreAllApart u
    → IsShortest u
same_shortest v w u n is g inside all breadth live apart =
    subst IsShortest (sym is)
    (shortest_stopped v w n g inside all breadth (subst (λ (x : SpaceValue). IsLive x.image x.live) is live)
    (subst AreAllApart is apart))

-- a space that is full at a place lacks a world that a schedule leads to
lacks_at : (v : SpaceValue) (from most : ℕ) → HasEarlierLinks v → from < count v → IsFullAt v from most → LacksStandIn v
lacks_at v from most earlier below full =
    let on = goes_on v.begin v.links from from earlier (omega arith) (omega (arith, below)) in
    let t = full.step in
    let leads : run v.image (v.begin ++ (on.0 ++ t ∷ [])) ≡ after v.image (world_of v from) t =
    ap (run v.image) (sym (append_assoc v.begin on.0 (t ∷ [])) ∙ ap (λ ts. ts ++ t ∷ []) (sym on.1))
    ∙ run-push v.image (schedule_of v from) t in
    (on.0 ++ t ∷ [], λ h. full.missing (subst (HasStandIn v) leads h))

pub full_when : (v w : SpaceValue) (from limit most : ℕ) → w ≡ v → limit ≡ most_places most → HasEarlierLinks w
    → from < count v → IsFullAt v from limit → IsFull w most
full_when v w from limit most is at earlier below full =
    subst (λ (x : SpaceValue). IsFull x most) (sym is) (record {
      many = full.many ∙ at;
      more = lacks_at v from limit (subst HasEarlierLinks is earlier) below full;
    })

-- what holds where a call ended well, where it did
pub ended_well : {A E : Type 0} (r : Result A E) (P : Type 0) → is_err r ≡ false → OnOk r P → P
ended_well (Ok a) P well holds = holds
ended_well (Err e) P well holds = absurd cc
