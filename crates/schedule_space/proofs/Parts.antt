-- Keys, fates and frontiers of a space that gets one world more.
use Rattle.std.proofs.Common.{◌≡◌, ℕ, zero, suc, ◌<◌, ◌≤◌, refl, sym, ap, ◌∙◌, subst, arith, List, [], ◌∷◌, ◌++◌}
use Rattle.std.proofs.Common.{◌⊎◌, inl, inr, length, get_or, map, length-append}
use Rattle.std.specs.List.{Contains}
use Rattle.std.proofs.lemmas.Bool.{cases_lt}
use Rattle.std.proofs.lemmas.List.{get_or_append_left, get_or-map, length-map, get_or_read}
use Rattle.std.proofs.lemmas.List.Elements.{Contains-push_cases}
use Rattle.std.proofs.Math.Seq.{get_or-append_seam}
use Rattle.image_file.specs.ImageValue.{ImageValue}
use Rattle.processor.specs.World.{World, after}
use Rattle.processor.specs.declared.steps.Step.{Step}
use Rattle.world_keys.specs.DeadRegisters.Clearing.{LiveValue, IsLive}
use Rattle.world_keys.specs.Tables.{Extends}
use Rattle.world_keys.specs.WorldKeys.{key_of, IsKnown}
use Rattle.world_keys.proofs.Worlds.{key_kept, known_kept}
use Rattle.schedule_space.specs.declared.links.Link.{Link}
use Rattle.schedule_space.specs.declared.links.Edge.{Edge}
use Rattle.schedule_space.specs.declared.fates.Fate.{Fate}
use Rattle.schedule_space.specs.declared.fates.Fate.TheVariants as fate
use Rattle.schedule_space.specs.Spaces.{schedules, SpaceValue, count, schedule_of, world_of, ShortestFirst, IsEdgeToStandIn}
use Rattle.schedule_space.specs.Fates.{IsFate}
use Rattle.schedule_space.specs.Finding.{space_of, with_link, with_edge, IsSpace, IsKeyed, cleared_after}
use Rattle.schedule_space.proofs.Schedules.{length-schedules, one_schedule}
use Rattle.schedule_space.proofs.Different.{different_none, different_push}
use Rattle.schedule_space.proofs.Growing.{world_grown, count-link}
use Rattle.schedule_space.proofs.Growing.{last_world, with_link_grown, with_edge_grown, edge_grown}

-- a number below the count with one more is below the count, or it
pub below_next : (v : SpaceValue) (l : Link) (k : ℕ) → k < count (with_link v l) → (k < count v) ⊎ (count v ≡ k)
below_next v l k below = by_case (cases_lt k (count v)) where
  by_case : (k < count v) ⊎ (count v ≤ k) → (k < count v) ⊎ (count v ≡ k)
  by_case (inl less) = inl less
  by_case (inr past) = inr (omega (arith, past, below, count-link v l))

-- The parts of a space.

pub begun : (image : ImageValue) (live : LiveValue) (begin : List Step) (f : Fate) (fates : List Fate)
    → IsLive image live → fates ≡ f ∷ [] → IsFate image (world_of (space_of image live begin [] []) 0) f
    → IsSpace (space_of image live begin [] []) fates
begun image live begin f fates closed one is = record {
  live = closed;
  earlier = λ k l below. absurd (omega (arith, below));
  in_order = λ j k le below.
      let at : k ≡ j = omega (arith, le, below) in
      subst (λ (n : ℕ). length (schedule_of v j) ≤ length (schedule_of v n)) (sym at) (omega arith);
  edges = λ e has. absurd (omega (arith, has.1));
  once = different_none [] refl;
  each = omega (arith, ap length one);
  fates = λ k below. by_place k below;
} where
  v : SpaceValue
  v = space_of image live begin [] []

  by_place : (k : ℕ) → k < count (space_of image live begin [] []) → IsFate image (world_of (space_of image live begin [] []) k) (get_or fates k fate.GoesOn)
  by_place zero below =
      subst (λ (xs : List Fate). IsFate image (world_of (space_of image live begin [] []) 0) (get_or xs 0 fate.GoesOn)) (sym one)
      is
  by_place (suc k) below = absurd (omega (arith, below))

pub linked : (v : SpaceValue) (fates more : List Fate) (l : Link) (f : Fate) → IsSpace v fates → l.from < count v
    → ShortestFirst (with_link v l) → IsFate v.image (after v.image (world_of v l.from) l.step) f → more ≡ fates ++ f ∷ []
    → IsSpace (with_link v l) more
linked v fates more l f is from in_order has one = record {
  live = is.live;
  earlier = earlier;
  in_order = in_order;
  edges = λ e edge. edge_grown v (with_link v l) e (with_link_grown v l) (is.edges e edge);
  once = is.once;
  each = omega (arith, ap length one, length-append fates (f ∷ []), is.each, count-link v l);
  fates = λ k below. by_place k (below_next v l k below);
} where
  earlier : (k : ℕ) (d : Link) → k < length (v.links ++ l ∷ []) → (get_or (v.links ++ l ∷ []) k d).from ≤ k
  earlier k d below =
      elim (cases_lt k (length v.links)) [
        | inl less ↦
            subst (λ (x : Link). x.from ≤ k) (sym (get_or_append_left v.links (l ∷ []) d k less)) (is.earlier k d less)
        | inr past ↦
            let same : length v.links ≡ k = omega (arith, past, below, length-append v.links (l ∷ [])) in
            let at : get_or (v.links ++ l ∷ []) k d ≡ l =
            ap (λ n. get_or (v.links ++ l ∷ []) n d) (sym same) ∙ get_or-append_seam v.links l [] d in
            subst (λ (x : Link). x.from ≤ k) (sym at) (omega (arith, from, same))
      ]

  by_place : (k : ℕ) → (k < count v) ⊎ (count v ≡ k)
      → IsFate v.image (world_of (with_link v l) k) (get_or more k fate.GoesOn)
  by_place k (inl less) =
      let at : get_or more k fate.GoesOn ≡ get_or fates k fate.GoesOn =
      ap (λ xs. get_or xs k fate.GoesOn) one
      ∙ get_or_append_left fates (f ∷ []) fate.GoesOn k (omega (arith, less, is.each)) in
      subst (λ (g : Fate). IsFate v.image (world_of (with_link v l) k) g) (sym at)
      (subst (λ (w : World). IsFate v.image w (get_or fates k fate.GoesOn))
      (sym (world_grown v (with_link v l) k (with_link_grown v l) less)) (is.fates k less))
  by_place k (inr same) =
      let at : get_or more (count v) fate.GoesOn ≡ f =
      ap (λ xs. get_or xs (count v) fate.GoesOn) one
      ∙ ap (λ n. get_or (fates ++ f ∷ []) n fate.GoesOn) (sym is.each)
      ∙ get_or-append_seam fates f [] fate.GoesOn in
      subst (λ (n : ℕ). IsFate v.image (world_of (with_link v l) n) (get_or more n fate.GoesOn)) same
      (subst (λ (g : Fate). IsFate v.image (world_of (with_link v l) (count v)) g) (sym at)
      (subst (λ (w : World). IsFate v.image w f) (sym (last_world v l)) has))

pub edged : (v : SpaceValue) (fates : List Fate) (e : Edge) → IsSpace v fates → IsEdgeToStandIn v e
    → (Contains v.edges e → ⊥) → IsSpace (with_edge v e) fates
edged v fates e is edge new = record {
  live = is.live;
  earlier = is.earlier;
  in_order = is.in_order;
  edges = λ d has. by_case d (Contains-push_cases v.edges e d has);
  once = different_push v.edges e is.once new;
  each = is.each;
  fates = is.fates;
} where
  by_case : (d : Edge) → Contains v.edges d ⊎ (e ≡ d) → IsEdgeToStandIn (with_edge v e) d
  by_case d (inl has) = edge_grown v (with_edge v e) d (with_edge_grown v e) (is.edges d has)
  by_case d (inr same) = edge_grown v (with_edge v e) d (with_edge_grown v e) (subst (IsEdgeToStandIn v) same edge)

-- the fate at a place is that of its world
pub fate_at : (v w : SpaceValue) (fs : List Fate) (k : ℕ) (f : Fate) → IsSpace v fs → v ≡ w → k < count w
    → f ≡ get_or fs k f → IsFate w.image (world_of w k) f
fate_at v w fs k f is view below read =
    let there : k < count v = omega (arith, below, ap count view) in
    let at : f ≡ get_or fs k fate.GoesOn = get_or_read fs k f (omega (arith, there, is.each)) read fate.GoesOn in
    subst (λ (x : SpaceValue). IsFate x.image (world_of x k) f) view
    (subst (λ (g : Fate). IsFate v.image (world_of v k) g) (sym at) (is.fates k there))

-- Keys.

-- the key of the world after a schedule, cleared
abbrev pub key_after : List (List ℕ) → SpaceValue → List Step → List ℕ
key_after table v ts = key_of table v.image (cleared_after v ts)

pub first_key : (v : SpaceValue) (table keys : List (List ℕ)) (key : List ℕ) → v.links ≡ []
    → key ≡ key_after table v v.begin → IsKnown table v.image (cleared_after v v.begin) → keys ≡ key ∷ []
    → IsKeyed v table keys
first_key v table keys key none is known one = record {
  keys =
      one
      ∙ ap (λ x. x ∷ []) is
      ∙ sym (ap (map (key_after table v)) (ap (schedules v.begin) none ∙ one_schedule v.begin));
  known = λ k below. by_place k below;
  apart = λ k j kb jb same. omega (arith, kb, jb, ap length none);
} where
  by_place : (k : ℕ) → k < count v → IsKnown table v.image (cleared_after v (schedule_of v k))
  by_place k below =
      let at : zero ≡ k = omega (arith, below, ap length none) in
      let first : schedule_of v 0 ≡ v.begin =
      ap (λ ls. get_or (schedules v.begin ls) 0 []) none ∙ ap (λ xs. get_or xs 0 []) (one_schedule v.begin) in
      subst (λ (n : ℕ). IsKnown table v.image (cleared_after v (schedule_of v n))) at
      (subst (λ (ts : List Step). IsKnown table v.image (cleared_after v ts)) (sym first) known)

keys_kept : (v : SpaceValue) (old new : List (List ℕ)) (tss : List (List Step)) → Extends old new
    → ((k : ℕ) → k < length tss → IsKnown old v.image (cleared_after v (get_or tss k [])))
    → map (key_after new v) tss ≡ map (key_after old v) tss
keys_kept v old new [] grown known = refl
keys_kept v old new (ts ∷ tss) grown known =
    let here = key_kept old new v.image (cleared_after v ts) grown (known 0 (omega arith)) in
    let rest = keys_kept v old new tss grown (λ k below. known (suc k) (omega (arith, below))) in
    λ i. here i ∷ rest i

-- the table may be extended
pub keyed_later : (v : SpaceValue) (old new keys : List (List ℕ)) → Extends old new → IsKeyed v old keys
    → IsKeyed v new keys
keyed_later v old new keys grown is = record {
  keys =
      is.keys
      ∙ sym (keys_kept v old new (schedules v.begin v.links) grown
      (λ k below. is.known k (omega (arith, below, length-schedules v.begin v.links))));
  known = λ k below. known_kept old new v.image (cleared_after v (schedule_of v k)) grown (is.known k below);
  apart = is.apart;
}

-- the edges don't matter
pub keyed_edge : (v : SpaceValue) (e : Edge) (table keys : List (List ℕ)) → IsKeyed v table keys
    → IsKeyed (with_edge v e) table keys
keyed_edge v e table keys is = record { keys = is.keys; known = is.known; apart = is.apart }

-- the key at a place
pub key_at : (v : SpaceValue) (table keys : List (List ℕ)) (k : ℕ) → IsKeyed v table keys → k < count v
    → get_or keys k [] ≡ key_after table v (schedule_of v k)
key_at v table keys k is below =
    ap (λ xs. get_or xs k []) is.keys
    ∙ get_or-map (key_after table v) (schedules v.begin v.links) k [] []
    (omega (arith, below, length-schedules v.begin v.links))

pub keys_many : (v : SpaceValue) (table keys : List (List ℕ)) → IsKeyed v table keys → length keys ≡ count v
keys_many v table keys is =
    ap length is.keys
    ∙ length-map (schedules v.begin v.links) (key_after table v)
    ∙ length-schedules v.begin v.links
