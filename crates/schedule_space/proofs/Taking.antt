-- A step that is taken, and all steps from a world.
use Rattle.std.proofs.Common.{◌≡◌, ℕ, zero, suc, ◌+◌, ◌<◌, ◌≤◌, refl, sym, ap, ◌∙◌, subst, arith, List, [], ◌∷◌, ◌++◌}
use Rattle.std.proofs.Common.{◌⊎◌, inl, inr, length, get_or, Bool, true, false, ◌≢◌}
use Rattle.std.specs.List.{Contains}
use Rattle.std.proofs.lemmas.Bool.{cases_lt}
use Rattle.std.proofs.lemmas.List.Elements.{Contains-push}
use Rattle.stream_core.specs.declared.steps.Outcome.{Outcome}
use Rattle.machine.specs.MachineValue.{MachineValue}
use Rattle.processor.specs.World.{World, world_step, after}
use Rattle.processor.specs.declared.steps.Step.{Step}
use Rattle.waiting.specs.Running.{runs_in}
use Rattle.world_keys.specs.DeadRegisters.Clearing.{AgreeBy}
use Rattle.schedule_space.specs.declared.links.Edge.{Edge}
use Rattle.schedule_space.specs.Spaces.{SpaceValue, count, schedule_of, world_of, machine_after, StandsFor, IsEdgeToStandIn}
use Rattle.schedule_space.specs.Finding.{with_edge, IsGrown, IsTaken, IsTakenTo, IsExpanded, IsBreadthFirst, HasRunning}
use Rattle.schedule_space.proofs.Agreeing.{agree_same}
use Rattle.schedule_space.proofs.Growing.{world_grown, taken_grown, expanded_grown, grown_trans, with_edge_grown}
use Rattle.schedule_space.proofs.Breadth.{breadth_stays}
use Rattle.schedule_space.proofs.Resting.{rested}

-- a step that leaves the world as it is
pub taken_stays : (v : SpaceValue) (from : ℕ) (t : Step) → from < count v
    → after v.image (world_of v from) t ≡ world_of v from → IsTaken v from t
taken_stays v from t below stays = record {
  step = record {
    to = from;
    within = below;
    leads = agree_same v.live (world_of v from) (after v.image (world_of v from) t) (sym stays);
    near = omega arith;
  };
  edge = inl refl;
}

-- where the world at a place stands for the one that a step led to, it does so in a space that has grown
stands_for : (old new : SpaceValue) (from to : ℕ) (t : Step) (w : World) → IsGrown old new → from < count old
    → StandsFor new to w → w ≡ after old.image (world_of old from) t
    → StandsFor new to (after new.image (world_of new from) t)
stands_for old new from to t w g below is leads =
    subst (AgreeBy new.live (world_of new to))
    (leads ∙ (λ i. after (sym g.image i) (sym (world_grown old new from g below) i) t)) is

-- a step that leads to a place of the space, with an edge unless it is the same place
pub taken_there : (old new : SpaceValue) (from to : ℕ) (t : Step) (w : World) → IsGrown old new → from < count old
    → to < count new → StandsFor new to w → w ≡ after old.image (world_of old from) t → IsBreadthFirst new from
    → (to ≡ from) ⊎ Contains new.edges (record { from = from; step = t; to = to }) → IsTakenTo new from t to
taken_there old new from to t w g below there is leads breadth edge = (
  record {
    step = record {
      to = to;
      within = there;
      leads = stands_for old new from to t w g below is leads;
      near = breadth.near to there;
    };
    edge = edge;
  },
  refl,
)

pub edge_to : (old new : SpaceValue) (from to : ℕ) (t : Step) (w : World) → IsGrown old new → from < count old
    → to < count new → StandsFor new to w → w ≡ after old.image (world_of old from) t → (to ≢ from)
    → IsEdgeToStandIn new (record { from = from; step = t; to = to })
edge_to old new from to t w g below there is leads apart = record {
  from = omega (arith, g.more, below);
  to = there;
  apart = apart;
  leads = stands_for old new from to t w g below is leads;
}

-- the steps so far are taken
abbrev pub AreTaken : SpaceValue → ℕ → List Step → ℕ → Type 0
AreTaken v from ts n = (k : ℕ) (d : Step) → k < n → IsTaken v from (get_or ts k d)

pub same_default : (ts : List Step) (n : ℕ) (c d : Step) → n < length ts → get_or ts n c ≡ get_or ts n d
same_default [] n c d below = absurd (omega arith)
same_default (t ∷ ts) zero c d below = refl
same_default (t ∷ ts) (suc n) c d below = same_default ts n c d (omega (arith, below))

pub taken_next : (v w : SpaceValue) (from n : ℕ) (ts : List Step) (c : Step) → IsGrown v w → from < count v
    → n < length ts → AreTaken v from ts n → IsTaken w from (get_or ts n c) → AreTaken w from ts (n + 1)
taken_next v w from n ts c g below within all last k d less = by_case (cases_lt k n) where
  by_case : (k < n) ⊎ (n ≤ k) → IsTaken w from (get_or ts k d)
  by_case (inl before) = taken_grown v w from (get_or ts k d) g below (all k d before)
  by_case (inr past) =
      let same : n ≡ k = omega (arith, past, less) in
      subst (λ (j : ℕ). IsTaken w from (get_or ts j d)) same (subst (IsTaken w from) (same_default ts n c d within) last)

-- each step of a list is taken
abbrev pub AreAllTaken : SpaceValue → ℕ → List Step → Type 0
AreAllTaken v from ts = (t : Step) → Contains ts t → IsTaken v from t

pub taken_each : (v : SpaceValue) (from n : ℕ) (ts : List Step) → length ts ≤ n → AreTaken v from ts n
    → AreAllTaken v from ts
taken_each v from n ts many all t has = subst (IsTaken v from) has.2 (all has.0 t (omega (arith, has.1, many)))

-- where the steps of all streams that run are taken, all steps are
pub all_taken : (v : SpaceValue) (from : ℕ) (ts : List Step) → from < count v → HasRunning (world_of v from) ts
    → AreAllTaken v from ts → IsExpanded v from
all_taken v from ts below running all t = by_runs (runs_in (world_of v from) t) refl where
  by_runs : (b : Bool) → runs_in (world_of v from) t ≡ b → IsTaken v from t
  by_runs true on = all t (running t on)
  by_runs false off = taken_stays v from t below (rested v.image (world_of v from) t off)

-- Steps that are taken, or wait among others.

abbrev pub IsTakenOrWaits : SpaceValue → ℕ → List Step → Step → Type 0
IsTakenOrWaits v from others t = IsTaken v from t ⊎ Contains others t

-- so are the steps so far
abbrev pub AreTakenOrWait : SpaceValue → ℕ → List Step → List Step → ℕ → Type 0
AreTakenOrWait v from others ts n = (k : ℕ) (d : Step) → k < n → IsTakenOrWaits v from others (get_or ts k d)

taken_or_waits : (v w : SpaceValue) (from : ℕ) (old new : List Step) (t : Step) → IsGrown v w → from < count v
    → ((u : Step) → Contains old u → Contains new u) → IsTakenOrWaits v from old t → IsTakenOrWaits w from new t
taken_or_waits v w from old new t g below more (inl taken) = inl (taken_grown v w from t g below taken)
taken_or_waits v w from old new t g below more (inr waits) = inr (more t waits)

pub waits_next : (v w : SpaceValue) (from n : ℕ) (old new ts : List Step) (c : Step) → IsGrown v w → from < count v
    → n < length ts → ((u : Step) → Contains old u → Contains new u) → AreTakenOrWait v from old ts n
    → IsTakenOrWaits w from new (get_or ts n c) → AreTakenOrWait w from new ts (n + 1)
waits_next v w from n old new ts c g below within more all last k d less = by_case (cases_lt k n) where
  by_case : (k < n) ⊎ (n ≤ k) → IsTakenOrWaits w from new (get_or ts k d)
  by_case (inl before) = taken_or_waits v w from old new (get_or ts k d) g below more (all k d before)
  by_case (inr past) =
      let same : n ≡ k = omega (arith, past, less) in
      subst (λ (j : ℕ). IsTakenOrWaits w from new (get_or ts j d)) same
      (subst (IsTakenOrWaits w from new) (same_default ts n c d within) last)

taken_then : (v w : SpaceValue) (from : ℕ) (others : List Step) (t : Step) → IsGrown v w → from < count v
    → AreAllTaken w from others → IsTakenOrWaits v from others t → IsTaken w from t
taken_then v w from others t g below all (inl taken) = taken_grown v w from t g below taken
taken_then v w from others t g below all (inr waits) = all t waits

-- so it is of each that was looked at
pub each_waits : (v : SpaceValue) (from n : ℕ) (others ts : List Step) → length ts ≤ n → AreTakenOrWait v from others ts n
    → (t : Step) → Contains ts t → IsTakenOrWaits v from others t
each_waits v from n others ts many left t has =
    subst (IsTakenOrWaits v from others) has.2 (left has.0 t (omega (arith, has.1, many)))

-- where the others are taken too, each is
pub waits_taken : (v w : SpaceValue) (from n : ℕ) (others ts : List Step) → IsGrown v w → from < count v
    → length ts ≤ n → AreTakenOrWait v from others ts n → AreAllTaken w from others → AreAllTaken w from ts
waits_taken v w from n others ts g below many left all t has =
    taken_then v w from others t g below all (each_waits v from n others ts many left t has)

-- What the code does for one step.

-- a clone of the machine at a place, after a step
pub stepped : (v : SpaceValue) (from : ℕ) (m c n : MachineValue) (o : Outcome) (t : Step)
    → m ≡ machine_after v.image (schedule_of v from) → c ≡ m → (n.world, o) ≡ world_step c.image c.world t
    → n.image ≡ c.image → (n.image ≡ v.image) × (n.world ≡ after v.image (world_of v from) t)
stepped v from m c n o t is same world image =
    let at = same ∙ is in (
      image ∙ ap (λ (x : MachineValue). x.image) at,
      ap (λ (x : World × Outcome). x.0) world ∙ (λ i. after (at i).image (at i).world t),
    )

-- the space with the edge of a step
pub taken_edge : (old new : SpaceValue) (from to : ℕ) (t : Step) (w : World) (e : Edge) → IsGrown old new
    → from < count old → to < count new → StandsFor new to w → w ≡ after old.image (world_of old from) t
    → IsBreadthFirst new from → e ≡ record { from = from; step = t; to = to } → IsTakenTo (with_edge new e) from t to
taken_edge old new from to t w e g below there is leads breadth edge =
    taken_there old (with_edge new e) from to t w (grown_trans old new (with_edge new e) g (with_edge_grown new e)) below
    there is leads (breadth_stays new (with_edge new e) from refl refl breadth)
    (inr (subst (Contains (new.edges ++ e ∷ [])) edge (Contains-push new.edges e)))

-- a machine is at the world of its place also where the space has grown
pub machine_grown : (v w : SpaceValue) (k : ℕ) (m : MachineValue) → IsGrown v w → k < count v
    → m ≡ machine_after v.image (schedule_of v k) → m ≡ machine_after w.image (schedule_of w k)
machine_grown v w k m g below is = is ∙ (λ i. machine_after (sym g.image i) (sym (g.same k below) i))

-- one world more is expanded
pub expanded_more : (v w : SpaceValue) (n : ℕ) → IsGrown v w → n < count v → ((k : ℕ) → k < n → IsExpanded v k)
    → IsExpanded w n → (k : ℕ) → k < n + 1 → IsExpanded w k
expanded_more v w n g inside all last k below = by_case (cases_lt k n) where
  by_case : (k < n) ⊎ (n ≤ k) → IsExpanded w k
  by_case (inl less) = expanded_grown v w k g (omega (arith, less, inside)) (all k less)
  by_case (inr past) = let same : n ≡ k = omega (arith, below, past) in subst (IsExpanded w) same last
