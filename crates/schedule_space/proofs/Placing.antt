-- What is known of a space in the making that gets the world of a machine, or has it.
use Rattle.std.proofs.Common.{◌≡◌, ℕ, ◌<◌, ◌≤◌, refl, sym, ap, ◌∙◌, subst, arith, List, [], ◌∷◌, ◌++◌}
use Rattle.std.proofs.Common.{Option, Some, None, ◌⊎◌, inl, inr, IsSome, get_or, slice_get, option_copied, Bor}
use Rattle.std.specs.List.{Contains}
use Rattle.std.proofs.lemmas.List.Elements.{Contains-push_cases}
use Rattle.std.proofs.lemmas.Option.{get_or_from_slice_get, slice_get-get_or}
use Rattle.image_file.specs.ImageValue.{ImageValue}
use Rattle.machine.specs.MachineValue.{MachineValue}
use Rattle.processor.specs.World.{after}
use Rattle.processor.specs.declared.steps.Step.{Step}
use Rattle.std.specs.Prelude.{IsTrue}
use Rattle.agreeing_ends.specs.SameFutures.Handlers.{may_have_handlers}
use Rattle.agreeing_ends.specs.SameFutures.Links.{TellsHandlers}
use Rattle.agreeing_ends.proofs.SameFutures.NoHandlers.{told_by}
use Rattle.world_keys.specs.DeadRegisters.Clearing.{LiveValue, cleared, IsLive}
use Rattle.world_keys.specs.Tables.{place_in, Has, Extends}
use Rattle.world_keys.specs.WorldKeys.{key_of, IsKnown}
use Rattle.schedule_space.specs.declared.links.Link.{Link}
use Rattle.schedule_space.specs.declared.links.Edge.{Edge}
use Rattle.schedule_space.specs.declared.fates.Fate.{Fate}
use Rattle.schedule_space.specs.Spaces.{SpaceValue, count, schedule_of, world_of, machine_after, StandsFor, HasStandIn, IsEdgeToStandIn}
use Rattle.schedule_space.specs.Fates.{IsFate}
use Rattle.schedule_space.specs.declared.known_steps.StepsSeen.{StepsSeen}
use Rattle.schedule_space.specs.StreamSteps.{AreAllLeft}
use Rattle.schedule_space.specs.Finding.{space_of, with_link, with_edge, IsKeyed, IsFound, IsGrown, IsBreadthFirst, IsExpanding, IsFullAt}
use Rattle.schedule_space.specs.Kept.{machine_next}
use Rattle.schedule_space.proofs.Agreeing.{agree_same}
use Rattle.schedule_space.proofs.Growing.{last_world, with_link_grown, count-link}
use Rattle.schedule_space.proofs.Parts.{key_at, keys_many, keyed_later}
use Rattle.schedule_space.proofs.Keys.{found_world, kept_world, new_world, found_later, found_more, found_edge}
use Rattle.schedule_space.proofs.Breadth.{breadth_more, breadth_stays}

-- The machine at a place.

seen_at : (v w : SpaceValue) (k : ℕ) (m : MachineValue) → v ≡ w → m ≡ machine_after w.image (schedule_of w k)
    → m ≡ machine_after v.image (schedule_of v k)
seen_at v w k m view at = at ∙ ap (λ (x : SpaceValue). machine_after x.image (schedule_of x k)) (sym view)

-- what its world holds, cleared, is in the table
pub known_at : (v w : SpaceValue) (fates : List Fate) (table keys : List (List ℕ)) (k : ℕ) (m : MachineValue)
    → IsFound v fates table keys → v ≡ w → k < count w → m ≡ machine_after w.image (schedule_of w k)
    → IsKnown table m.image (cleared v.live m.world)
known_at v w fates table keys k m is view below at =
    subst (λ (x : MachineValue). IsKnown table x.image (cleared v.live x.world)) (sym (seen_at v w k m view at))
    (is.keyed.known k (subst (λ (x : SpaceValue). k < count x) (sym view) below))

-- the key at the place is that of its world, cleared
pub key_of_at : (v w : SpaceValue) (fates : List Fate) (table keys : List (List ℕ)) (key : List ℕ) (k : ℕ)
    (m : MachineValue) → IsFound v fates table keys → v ≡ w → k < count w
    → m ≡ machine_after w.image (schedule_of w k) → Some key ≡ slice_get keys k
    → key ≡ key_of table m.image (cleared v.live m.world)
key_of_at v w fates table keys key k m is view below at there =
    sym (get_or_from_slice_get keys k key [] (sym there))
    ∙ key_at v table keys k is.keyed (subst (λ (x : SpaceValue). k < count x) (sym view) below)
    ∙ sym (ap (λ (x : MachineValue). key_of table x.image (cleared v.live x.world)) (seen_at v w k m view at))

-- its image is that of the space
image_at : (v w : SpaceValue) (k : ℕ) (m : MachineValue) → v ≡ w → m ≡ machine_after w.image (schedule_of w k)
    → v.image ≡ m.image
image_at v w k m view at = sym (ap (λ (x : MachineValue). x.image) (seen_at v w k m view at))

pub live_at : (v w : SpaceValue) (fates : List Fate) (table keys : List (List ℕ)) (k : ℕ) (m : MachineValue)
    → IsFound v fates table keys → v ≡ w → m ≡ machine_after w.image (schedule_of w k) → IsLive m.image v.live
live_at v w fates table keys k m is view at =
    subst (λ (i : ImageValue). IsLive i v.live) (image_at v w k m view at) is.space.live

-- where a trap of one of its streams has a handler, its image says so
pub told_at : (w : SpaceValue) (k : ℕ) (m : MachineValue) → m ≡ machine_after w.image (schedule_of w k)
    → TellsHandlers (IsTrue (may_have_handlers m.image)) m.world
told_at w k m at =
    subst (λ (x : MachineValue). TellsHandlers (IsTrue (may_have_handlers x.image)) x.world) (sym at)
    (told_by w.image (may_have_handlers w.image) refl (schedule_of w k))

pub steps_at : (v w : SpaceValue) (table : List (List ℕ)) (steps : StepsSeen) (k : ℕ) (m : MachineValue)
    → AreAllLeft v.image v.live table steps → v ≡ w → m ≡ machine_after w.image (schedule_of w k)
    → AreAllLeft m.image v.live table steps
steps_at v w table steps k m all view at =
    subst (λ (i : ImageValue). AreAllLeft i v.live table steps) (image_at v w k m view at) all

pub steps_back : (v w : SpaceValue) (table : List (List ℕ)) (steps : StepsSeen) (k : ℕ) (m : MachineValue)
    → AreAllLeft m.image v.live table steps → v ≡ w → m ≡ machine_after w.image (schedule_of w k)
    → AreAllLeft v.image v.live table steps
steps_back v w table steps k m all view at =
    subst (λ (i : ImageValue). AreAllLeft i v.live table steps) (sym (image_at v w k m view at)) all

-- what is lent of a place that has a machine is the machine
pub lent_is : (o : Option (Bor MachineValue)) (b : Bor MachineValue) (s : Option MachineValue) (m : MachineValue)
    → option_copied o ≡ s → o ≡ Some b → s ≡ Some m → b.now ≡ m
lent_is o b s m copied is some = let e : Some b.now ≡ Some m = sym (ap option_copied is) ∙ copied ∙ some in cc

-- The machine after a step of it.

pub next_image : (w : SpaceValue) (k : ℕ) (m n : MachineValue) (u : Step) → m ≡ machine_after w.image (schedule_of w k)
    → n ≡ machine_next m u → n.image ≡ w.image
next_image w k m n u at is =
    ap (λ (x : MachineValue). x.image) is ∙ ap (λ (x : MachineValue). x.image) at

pub next_world : (w : SpaceValue) (k : ℕ) (m n : MachineValue) (u : Step) → m ≡ machine_after w.image (schedule_of w k)
    → n ≡ machine_next m u → n.world ≡ after w.image (world_of w k) u
next_world w k m n u at is =
    ap (λ (x : MachineValue). x.world) is ∙ ap (λ (x : MachineValue). after x.image x.world u) at

-- there is a key of each world
pub has_key : (v w : SpaceValue) (table keys : List (List ℕ)) (k : ℕ) (o : Option (Bor (List ℕ))) → IsKeyed v table keys
    → v ≡ w → k < count w → option_copied o ≡ slice_get keys k → IsSome o
has_key v w table keys k o is view below at =
    is_there o
    (at ∙ slice_get-get_or keys k [] (omega (arith, below, ap count view, keys_many v table keys is))) where
      is_there : (x : Option (Bor (List ℕ))) → option_copied x ≡ Some (get_or keys k []) → IsSome x
      is_there None none = absurd cc
      is_there (Some x) some = refl

-- a world that stands for that of the machine is at the place of its key
pub found_at : (v w : SpaceValue) (fates : List Fate) (old table keys : List (List ℕ)) (key : List ℕ)
    (m : MachineValue) (k : ℕ) → IsFound v fates old keys → v ≡ w → Extends old table
    → IsKnown table m.image (cleared v.live m.world) → key ≡ key_of table m.image (cleared v.live m.world)
    → m.image ≡ w.image → k ≡ place_in keys key → Has keys key → (k < count w) × StandsFor w k m.world
found_at v w fates old table keys key m k is view grown known key_is image at has =
    let same : m.image ≡ v.image = image ∙ ap (λ (x : SpaceValue). x.image) (sym view) in
    let here =
    found_world v table keys key m.world (keyed_later v old table keys grown is.keyed)
    (subst (λ (i : ImageValue). IsKnown table i (cleared v.live m.world)) same known)
    (key_is ∙ ap (λ (i : ImageValue). key_of table i (cleared v.live m.world)) same) has in
    subst (λ (x : SpaceValue). (k < count x) × StandsFor x k m.world) view
    (subst (λ (n : ℕ). (n < count v) × StandsFor v n m.world) (sym at) here)

-- the world at a place stands for that of the machine whose key is the same
pub stays_at : (v w : SpaceValue) (fates : List Fate) (old table keys : List (List ℕ)) (key : List ℕ)
    (m : MachineValue) (k : ℕ) → IsFound v fates old keys → v ≡ w → Extends old table
    → IsKnown table m.image (cleared v.live m.world) → key ≡ key_of table m.image (cleared v.live m.world)
    → m.image ≡ w.image → k < count w → Some key ≡ slice_get keys k → StandsFor w k m.world
stays_at v w fates old table keys key m k is view grown known key_is image below there =
    let same : m.image ≡ v.image = image ∙ ap (λ (x : SpaceValue). x.image) (sym view) in
    subst (λ (x : SpaceValue). StandsFor x k m.world) view
    (kept_world v table keys key m.world k (keyed_later v old table keys grown is.keyed)
    (subst (λ (i : ImageValue). IsKnown table i (cleared v.live m.world)) same known)
    (key_is ∙ ap (λ (i : ImageValue). key_of table i (cleared v.live m.world)) same)
    (subst (λ (x : SpaceValue). k < count x) (sym view) below)
    (get_or_from_slice_get keys k key [] (sym there)))

-- none stands for the world of the machine where its key is not there
none_at : (v w : SpaceValue) (fates : List Fate) (old table keys : List (List ℕ)) (key : List ℕ) (m : MachineValue)
    → IsFound v fates old keys → v ≡ w → Extends old table → key ≡ key_of table m.image (cleared v.live m.world)
    → m.image ≡ w.image → (Has keys key → ⊥) → HasStandIn v m.world → ⊥
none_at v w fates old table keys key m is view grown key_is image none h =
    let same : m.image ≡ v.image = image ∙ ap (λ (x : SpaceValue). x.image) (sym view) in
    new_world v table keys key m.world h.0 (keyed_later v old table keys grown is.keyed)
    (key_is ∙ ap (λ (i : ImageValue). key_of table i (cleared v.live m.world)) same) none h.1 h.2

-- so the space is full, where it has as many worlds as it may
pub full_at : (v w : SpaceValue) (fates : List Fate) (old table keys : List (List ℕ)) (key : List ℕ) (m : MachineValue)
    (from most : ℕ) (t : Step) → IsFound v fates old keys → v ≡ w → Extends old table
    → key ≡ key_of table m.image (cleared v.live m.world) → m.image ≡ w.image
    → m.world ≡ after w.image (world_of w from) t → (Has keys key → ⊥) → count w ≡ most → IsFullAt v from most
full_at v w fates old table keys key m from most t is view grown key_is image world none many = record {
  many = ap count view ∙ many;
  step = t;
  missing = λ h.
      none_at v w fates old table keys key m is view grown key_is image none
      (subst (HasStandIn v) (sym (world ∙ ap (λ (x : SpaceValue). after x.image (world_of x from) t) (sym view))) h);
}

-- the parts with one world more
pub placed : (image : ImageValue) (live : LiveValue) (begin : List Step) (links more : List Link) (edges : List Edge)
    (v : SpaceValue) (fates fates_more : List Fate) (old table keys keys_more : List (List ℕ)) (key : List ℕ) (l : Link)
    (f : Fate) (m : MachineValue) → IsFound (space_of image live begin links edges) fates old keys
    → space_of image live begin links edges ≡ v → Extends old table → l.from < count v → IsBreadthFirst v l.from
    → m.image ≡ v.image
    → m.world ≡ after v.image (world_of v l.from) l.step → IsFate m.image m.world f
    → IsKnown table m.image (cleared live m.world) → key ≡ key_of table m.image (cleared live m.world)
    → (Has keys key → ⊥) → more ≡ links ++ l ∷ [] → fates_more ≡ fates ++ f ∷ [] → keys_more ≡ keys ++ key ∷ []
    → IsFound (space_of image live begin more edges) fates_more table keys_more
placed image live begin links more edges v fates fates_more old table keys keys_more key l f m is view grown from breadth same world fate
    known key_is none linked fated keyed =
    let w : SpaceValue = space_of image live begin links edges in
    let from_here : l.from < count w = subst (λ (x : SpaceValue). l.from < count x) (sym view) from in
    let image_is : m.image ≡ w.image = same ∙ ap (λ (x : SpaceValue). x.image) (sym view) in
    let world_is : m.world ≡ after w.image (world_of w l.from) l.step =
    world ∙ ap (λ (x : SpaceValue). after x.image (world_of x l.from) l.step) (sym view) in
    subst (λ (ls : List Link). IsFound (space_of image live begin ls edges) fates_more table keys_more) (sym linked)
    (found_more w fates fates_more table keys keys_more key l f m (found_later w fates old table keys grown is)
    from_here (breadth_more w l from_here (subst (λ (x : SpaceValue). IsBreadthFirst x l.from) (sym view) breadth)).sorted
    image_is world_is fate fated known key_is none keyed)

-- what contracts see of them
pub placed_view : (image : ImageValue) (live : LiveValue) (begin : List Step) (links more : List Link) (edges : List Edge) (v : SpaceValue) (l : Link)
    → space_of image live begin links edges ≡ v → more ≡ links ++ l ∷ [] → space_of image live begin more edges ≡ with_link v l
placed_view image live begin links more edges v l view linked =
    ap (λ (ls : List Link). space_of image live begin ls edges) linked ∙ ap (λ (x : SpaceValue). with_link x l) view

-- What contracts say of a space with one world more.

pub placed_grown : (v w : SpaceValue) (l : Link) → w ≡ with_link v l → IsGrown v w
placed_grown v w l is = subst (λ (x : SpaceValue). IsGrown v x) (sym is) (with_link_grown v l)

pub placed_there : (v w : SpaceValue) (l : Link) (k : ℕ) → w ≡ with_link v l → k ≡ count v → k < count w
placed_there v w l k is at = omega (arith, ap count is, count-link v l, at)

pub placed_stands : (v w : SpaceValue) (l : Link) (m : MachineValue) (k : ℕ) → w ≡ with_link v l → k ≡ count v
    → m.world ≡ after v.image (world_of v l.from) l.step → StandsFor w k m.world
placed_stands v w l m k is at world =
    agree_same w.live (world_of w k) m.world
    (ap (λ (x : SpaceValue). world_of x k) is ∙ ap (world_of (with_link v l)) at ∙ last_world v l ∙ sym world)

pub placed_expanding : (v w : SpaceValue) (l : Link) (most : ℕ) → w ≡ with_link v l → count w ≤ most
    → IsExpanding v l.from most → IsExpanding w l.from most
placed_expanding v w l most is few e = record {
  there = omega (arith, e.there, ap count is, count-link v l);
  within = few;
  edges = subst (λ (x : SpaceValue). (d : Edge) → Contains x.edges d → d.from ≤ l.from) (sym is) e.edges;
  breadth = subst (λ (x : SpaceValue). IsBreadthFirst x l.from) (sym is) (breadth_more v l e.there e.breadth);
}

-- A space with one edge more.

pub edge_view : (image : ImageValue) (live : LiveValue) (begin : List Step) (links : List Link) (edges more : List Edge) (v : SpaceValue) (e : Edge)
    → space_of image live begin links edges ≡ v → more ≡ edges ++ e ∷ [] → space_of image live begin links more ≡ with_edge v e
edge_view image live begin links edges more v e view pushed =
    ap (λ (es : List Edge). space_of image live begin links es) pushed ∙ ap (λ (x : SpaceValue). with_edge x e) view

pub edge_put : (image : ImageValue) (live : LiveValue) (begin : List Step) (links : List Link) (edges more : List Edge) (v : SpaceValue) (e : Edge)
    (fates : List Fate) (table keys : List (List ℕ)) → IsFound (space_of image live begin links edges) fates table keys
    → space_of image live begin links edges ≡ v → more ≡ edges ++ e ∷ [] → IsEdgeToStandIn v e → (Contains v.edges e → ⊥)
    → IsFound (space_of image live begin links more) fates table keys
edge_put image live begin links edges more v e fates table keys is view pushed edge new =
    let w : SpaceValue = space_of image live begin links edges in
    subst (λ (es : List Edge). IsFound (space_of image live begin links es) fates table keys) (sym pushed)
    (found_edge w fates table keys e is (subst (λ (x : SpaceValue). IsEdgeToStandIn x e) (sym view) edge)
    (subst (λ (x : SpaceValue). Contains x.edges e → ⊥) (sym view) new))

pub edge_expanding : (v w : SpaceValue) (e : Edge) (from most : ℕ) → w ≡ with_edge v e → e.from ≡ from
    → IsExpanding v from most → IsExpanding w from most
edge_expanding v w e from most is at x =
    subst (λ (y : SpaceValue). IsExpanding y from most) (sym is) (record {
      there = x.there;
      within = x.within;
      edges = λ d has. by_case d (Contains-push_cases v.edges e d has);
      breadth = breadth_stays v (with_edge v e) from refl refl x.breadth;
    }) where
      by_case : (d : Edge) → Contains v.edges d ⊎ (e ≡ d) → d.from ≤ from
      by_case d (inl has) = x.edges d has
      by_case d (inr last) = omega (arith, at, ap (λ (y : Edge). y.from) last)

-- What stays as it is.

pub kept : (image : ImageValue) (live : LiveValue) (begin : List Step) (links ls : List Link) (edges : List Edge) (fates fs : List Fate)
    (old table keys ks : List (List ℕ)) → IsFound (space_of image live begin links edges) fates old keys → Extends old table
    → ls ≡ links → fs ≡ fates → ks ≡ keys → IsFound (space_of image live begin ls edges) fs table ks
kept image live begin links ls edges fates fs old table keys ks is grown linked fated keyed =
    subst (λ (xs : List Link). IsFound (space_of image live begin xs edges) fs table ks) (sym linked)
    (subst (λ (xs : List Fate). IsFound (space_of image live begin links edges) xs table ks) (sym fated)
    (subst (λ (xs : List (List ℕ)). IsFound (space_of image live begin links edges) fates table xs) (sym keyed)
    (found_later (space_of image live begin links edges) fates old table keys grown is)))

pub kept_view : (image : ImageValue) (live : LiveValue) (begin : List Step) (links ls : List Link) (edges : List Edge) (v : SpaceValue)
    → space_of image live begin links edges ≡ v → ls ≡ links → space_of image live begin ls edges ≡ v
kept_view image live begin links ls edges v view linked = ap (λ (xs : List Link). space_of image live begin xs edges) linked ∙ view

pub stays_expanding : (v w : SpaceValue) (from most : ℕ) → w ≡ v → IsExpanding v from most → IsExpanding w from most
stays_expanding v w from most is x = subst (λ (y : SpaceValue). IsExpanding y from most) (sym is) x
