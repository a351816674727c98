-- A world that stands for another one has been found before exactly where the key of both is there.
use Rattle.std.proofs.Common.{◌≡◌, ℕ, zero, suc, ◌<◌, refl, sym, ap, ◌∙◌, subst, arith, List, [], ◌∷◌, ◌++◌}
use Rattle.std.proofs.Common.{◌⊎◌, inl, inr, length, get_or, map, Bool, true, false, cond, bytes_eq}
use Rattle.std.specs.List.{Contains}
use Rattle.std.proofs.lemmas.List.{map-append}
use Rattle.std.proofs.lemmas.Slice.Eq.{bytes_eq-Decides}
use Rattle.image_file.specs.ImageValue.{ImageValue}
use Rattle.machine.specs.MachineValue.{MachineValue}
use Rattle.processor.specs.World.{World, after, run}
use Rattle.processor.specs.declared.steps.Step.{Step}
use Rattle.world_keys.specs.DeadRegisters.Clearing.{LiveValue, cleared, IsLive, AgreeBy}
use Rattle.world_keys.proofs.DeadRegisters.Worlds.{agreeing_same, same_agree}
use Rattle.world_keys.specs.Tables.{place_in, Has, Extends}
use Rattle.world_keys.specs.WorldKeys.{key_of, IsKnown}
use Rattle.world_keys.proofs.Places.{place_get}
use Rattle.world_keys.proofs.Worlds.{same_world}
use Rattle.schedule_space.specs.declared.links.Link.{Link}
use Rattle.schedule_space.specs.declared.links.Edge.{Edge}
use Rattle.schedule_space.specs.declared.fates.Fate.{Fate}
use Rattle.schedule_space.specs.Spaces.{schedules, SpaceValue, count, schedule_of, world_of, machine_after, StandsFor, IsEdgeToStandIn}
use Rattle.schedule_space.specs.Spaces.{ShortestFirst}
use Rattle.schedule_space.specs.Fates.{IsFate}
use Rattle.schedule_space.specs.Finding.{space_of, with_link, with_edge, IsKeyed, IsFound}
use Rattle.schedule_space.proofs.Schedules.{one_more, schedules-push, run-push, one_schedule}
use Rattle.schedule_space.proofs.Growing.{world_grown, last_world, with_link_grown}
use Rattle.schedule_space.proofs.Parts.{key_after, key_at, keys_many, below_next, begun, linked, edged, first_key, keyed_later, keyed_edge}
use Rattle.schedule_space.proofs.Agreeing.{agree_turned, agree_moved}

-- Lists that have a key.

has_first : (b : Bool) (n m : ℕ) → b ≡ true → cond b 0 (suc n) < suc m
has_first true n m on = omega arith
has_first false n m on = absurd cc

has_later : (b : Bool) (n m : ℕ) → n < m → cond b 0 (suc n) < suc m
has_later true n m less = omega arith
has_later false n m less = omega arith

pub has_at : (t : List (List ℕ)) (k : ℕ) (x d : List ℕ) → k < length t → get_or t k d ≡ x → Has t x
unfolding place_in
has_at [] k x d below is = absurd (omega arith)
has_at (y ∷ ys) zero x d below is =
    has_first (bytes_eq x y) (place_in ys x) (length ys) ((bytes_eq-Decides x y).1 (sym is))
has_at (y ∷ ys) (suc k) x d below is =
    has_later (bytes_eq x y) (place_in ys x) (length ys) (has_at ys k x d (omega arith) is)

-- a key that is there is that of a world that stands for the other one
pub found_world : (v : SpaceValue) (table keys : List (List ℕ)) (key : List ℕ) (w : World) → IsKeyed v table keys
    → IsKnown table v.image (cleared v.live w) → key ≡ key_of table v.image (cleared v.live w) → Has keys key
    → (place_in keys key < count v) × StandsFor v (place_in keys key) w
found_world v table keys key w is known key_is has =
    let k = place_in keys key in
    let below : k < count v = omega (arith, has, keys_many v table keys is) in
    let at : key_of table v.image (cleared v.live (world_of v k)) ≡ key_of table v.image (cleared v.live w) =
    sym (key_at v table keys k is below) ∙ place_get keys key [] has ∙ key_is in (
      below,
      same_agree v.live (world_of v k) w
          (same_world table v.image (cleared v.live (world_of v k)) (cleared v.live w) (is.known k below) known at),
    )

-- a world whose key is that at a place is one for which the world there stands
pub kept_world : (v : SpaceValue) (table keys : List (List ℕ)) (key : List ℕ) (w : World) (k : ℕ) → IsKeyed v table keys
    → IsKnown table v.image (cleared v.live w) → key ≡ key_of table v.image (cleared v.live w) → k < count v
    → get_or keys k [] ≡ key → StandsFor v k w
kept_world v table keys key w k is known key_is below at =
    same_agree v.live (world_of v k) w
    (same_world table v.image (cleared v.live (world_of v k)) (cleared v.live w) (is.known k below) known
    (sym (key_at v table keys k is below) ∙ at ∙ key_is))

-- a key that is not there is of a world for which none stands
pub new_world : (v : SpaceValue) (table keys : List (List ℕ)) (key : List ℕ) (w : World) (k : ℕ) → IsKeyed v table keys
    → key ≡ key_of table v.image (cleared v.live w) → (Has keys key → ⊥) → k < count v → StandsFor v k w → ⊥
new_world v table keys key w k is key_is none below g =
    none (has_at keys k key [] (omega (arith, below, keys_many v table keys is))
    (key_at v table keys k is below ∙ ap (key_of table v.image) (agreeing_same v.live (world_of v k) w g) ∙ sym key_is))

-- the space with a world for which none stood
pub keyed_more : (v : SpaceValue) (table keys more : List (List ℕ)) (key : List ℕ) (l : Link) → IsKeyed v table keys
    → IsKnown table v.image (cleared v.live (after v.image (world_of v l.from) l.step))
    → key ≡ key_of table v.image (cleared v.live (after v.image (world_of v l.from) l.step)) → (Has keys key → ⊥)
    → more ≡ keys ++ key ∷ [] → IsKeyed (with_link v l) table more
keyed_more v table keys more key l is known key_is none pushed = record {
  keys =
      pushed
      ∙ (λ i. is.keys i ++ (key_is ∙ ap (λ (w : World). key_of table v.image (cleared v.live w)) (sym (run-push v.image (schedule_of v l.from) l.step))) i ∷ [])
      ∙ sym (map-append (key_after table v) (schedules v.begin v.links) (one_more (schedules v.begin v.links) l ∷ []))
      ∙ ap (map (key_after table v)) (sym (schedules-push v.begin v.links l));
  known = λ k below. by_place k (below_next v l k below);
  apart = λ k j kb jb same. by_both k j (below_next v l k kb) (below_next v l j jb) same;
} where
  next : World
  next = after v.image (world_of v l.from) l.step

  now : ℕ → World
  now = world_of (with_link v l)

  stays : (k : ℕ) → k < count v → now k ≡ world_of v k
  stays k less = world_grown v (with_link v l) k (with_link_grown v l) less

  last : (k : ℕ) → count v ≡ k → now k ≡ next
  last k same = ap now (sym same) ∙ last_world v l

  by_place : (k : ℕ) → (k < count v) ⊎ (count v ≡ k) → IsKnown table v.image (cleared v.live (now k))
  by_place k (inl less) =
      subst (λ (w : World). IsKnown table v.image (cleared v.live w)) (sym (stays k less)) (is.known k less)
  by_place k (inr same) =
      subst (λ (w : World). IsKnown table v.image (cleared v.live w)) (sym (last k same)) known

  by_both : (k j : ℕ) → (k < count v) ⊎ (count v ≡ k) → (j < count v) ⊎ (count v ≡ j) → AgreeBy v.live (now k) (now j)
      → k ≡ j
  by_both k j (inl kl) (inl jl) g =
      is.apart k j kl jl (agree_moved v.live (now k) (now j) (world_of v k) (world_of v j) (stays k kl) (stays j jl) g)
  by_both k j (inl kl) (inr je) g =
      absurd (new_world v table keys key next k is key_is none kl
      (agree_moved v.live (now k) (now j) (world_of v k) next (stays k kl) (last j je) g))
  by_both k j (inr ke) (inl jl) g =
      absurd (new_world v table keys key next j is key_is none jl
      (agree_turned v.live next (world_of v j)
      (agree_moved v.live (now k) (now j) next (world_of v j) (last k ke) (stays j jl) g)))
  by_both k j (inr ke) (inr je) g = sym ke ∙ je

-- A space in the making.

pub found_later : (v : SpaceValue) (fates : List Fate) (old new keys : List (List ℕ)) → Extends old new
    → IsFound v fates old keys → IsFound v fates new keys
found_later v fates old new keys grown is = record {
  space = is.space;
  keyed = keyed_later v old new keys grown is.keyed;
}

pub found_more : (v : SpaceValue) (fates more : List Fate) (table keys new : List (List ℕ)) (key : List ℕ) (l : Link)
    (f : Fate) (m : MachineValue) → IsFound v fates table keys → l.from < count v → ShortestFirst (with_link v l)
    → m.image ≡ v.image → m.world ≡ after v.image (world_of v l.from) l.step → IsFate m.image m.world f → more ≡ fates ++ f ∷ []
    → IsKnown table m.image (cleared v.live m.world) → key ≡ key_of table m.image (cleared v.live m.world)
    → (Has keys key → ⊥) → new ≡ keys ++ key ∷ [] → IsFound (with_link v l) more table new
found_more v fates more table keys new key l f m is from in_order image world fate one known key_is none pushed = record {
  space =
      linked v fates more l f is.space from in_order
      (subst (λ (w : World). IsFate v.image w f) world
      (subst (λ (i : ImageValue). IsFate i m.world f) image fate)) one;
  keyed =
      keyed_more v table keys new key l is.keyed
      (subst (λ (w : World). IsKnown table v.image (cleared v.live w)) world
      (subst (λ (i : ImageValue). IsKnown table i (cleared v.live m.world)) image known))
      (key_is ∙ (λ i. key_of table (image i) (cleared v.live (world i)))) none pushed;
}

pub found_edge : (v : SpaceValue) (fates : List Fate) (table keys : List (List ℕ)) (e : Edge)
    → IsFound v fates table keys → IsEdgeToStandIn v e → (Contains v.edges e → ⊥) → IsFound (with_edge v e) fates table keys
found_edge v fates table keys e is edge new =
    record { space = edged v fates e is.space edge new; keyed = keyed_edge v e table keys is.keyed }

pub found_first : (image : ImageValue) (live : LiveValue) (begin : List Step) (f : Fate) (fates : List Fate)
    (table keys : List (List ℕ)) (key : List ℕ) (m : MachineValue) → m ≡ machine_after image begin → IsLive image live
    → IsFate m.image m.world f → fates ≡ f ∷ [] → IsKnown table m.image (cleared live m.world)
    → key ≡ key_of table m.image (cleared live m.world) → keys ≡ key ∷ []
    → IsFound (space_of image live begin [] []) fates table keys
found_first image live begin f fates table keys key m is closed fate one known key_is only =
    let first : schedule_of (space_of image live begin [] []) 0 ≡ begin =
    ap (λ xs. get_or xs 0 []) (one_schedule begin) in
    record {
      space =
          begun image live begin f fates closed one
          (subst (λ (ts : List Step). IsFate image (run image ts) f) (sym first)
          (subst (λ (x : MachineValue). IsFate x.image x.world f) is fate));
      keyed =
          first_key (space_of image live begin [] []) table keys key refl
          (key_is ∙ ap (λ (x : MachineValue). key_of table x.image (cleared live x.world)) is)
          (subst (λ (x : MachineValue). IsKnown table x.image (cleared live x.world)) is known) only;
    }

pub found_begun : (image : ImageValue) (live : LiveValue) (begin : List Step) (links : List Link) (edges : List Edge)
    (f : Fate) (fates : List Fate) (table keys : List (List ℕ)) (key : List ℕ) (m : MachineValue) → image ≡ m.image
    → IsLive m.image live → links ≡ [] → edges ≡ [] → m ≡ machine_after m.image begin → IsFate m.image m.world f
    → fates ≡ f ∷ [] → IsKnown table m.image (cleared live m.world)
    → key ≡ key_of table m.image (cleared live m.world) → keys ≡ key ∷ []
    → IsFound (space_of image live begin links edges) fates table keys
found_begun image live begin links edges f fates table keys key m image_is closed none empty is fate one known key_is only =
    subst (λ (v : SpaceValue). IsFound v fates table keys) (λ i. space_of (sym image_is i) live begin (sym none i) (sym empty i))
    (found_first m.image live begin f fates table keys key m is closed fate one known key_is only)
