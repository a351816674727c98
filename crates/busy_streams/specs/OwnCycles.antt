-- The steps of one stream alone in a space, as links between its places.
use Rattle.std.specs.Prelude.{◌≡◌, ℕ, ◌<◌, ◌==◌, ◌&&◌, Bool, IsTrue, List, Some, None, map, filter, slice_get, Contains}
use Rattle.processor.specs.declared.steps.Step.{Step}
use Rattle.waiting.specs.Running.{runs_in, running_steps}
use Rattle.waiting.specs.Stuck.{IsStuck}
use Rattle.terminal_components.specs.declared.links.Link.{Link}
use Rattle.terminal_components.specs.Components.{IsTerminal, AreRoots}
use Rattle.schedule_space.specs.declared.links.Edge.{Edge}
use Rattle.schedule_space.specs.Spaces.{SpaceValue, count, world_of}
use Rattle.busy_streams.specs.declared.stream_cycles.OwnCycles.{OwnCycles}

-- whether a step is this one
abbrev pub is_step : Step → Step → Bool
is_step t u = u.p == t.p && u.s == t.s

-- the link that an edge is
abbrev pub link_of : Edge → Link
link_of e = record { from = e.from; to = e.to }

-- the edges of one stream, as links
abbrev pub own_links : Step → List Edge → List Link
own_links t es = map link_of (filter (λ (e : Edge). is_step t e.step) es)

-- each place that steps of the stream alone lead to from this one leads back by them
abbrev pub ComesBack : SpaceValue → ℕ → Step → Type 0
ComesBack v k t = IsTerminal (count v) (own_links t v.edges) k

-- for each place of a space the root of its terminal component by steps of the stream alone; None if it belongs to none
abbrev pub AreOwnCycles : SpaceValue → OwnCycles → Type 0
AreOwnCycles v r = AreRoots (count v) (own_links r.stream v.edges) r.roots.items

-- so it is with each of some
abbrev pub AreAllOwn : SpaceValue → List OwnCycles → Type 0
AreAllOwn v rs = (i : ℕ) (r : OwnCycles) → slice_get rs i ≡ Some r → AreOwnCycles v r

-- one of them is that of the stream
abbrev pub HasCyclesOf : List OwnCycles → Step → Type 0
HasCyclesOf rs t = (i : ℕ) × (r : OwnCycles) × (slice_get rs i ≡ Some r) × (r.stream ≡ t)

-- they are those of each stream that an edge has
pub record HasOwnCycles (v : SpaceValue) (rs : List OwnCycles) : Type 0 where
  pub own : AreAllOwn v rs
  pub each : (e : Edge) → Contains v.edges e → HasCyclesOf rs e.step

-- the stream runs in the world at a place, is not stuck there, and comes back
pub record IsFreeCycle (v : SpaceValue) (k : ℕ) (t : Step) : Type 0 where
  pub runs : IsTrue (runs_in (world_of v k) t)
  pub free : ¬ (IsStuck v.image (world_of v k) t)
  pub back : ComesBack v k t

-- The stream is the first that runs in the world at the place of which that is so.
pub record IsFirstCycle (v : SpaceValue) (k : ℕ) (t : Step) : Type 0 where
  pub cycle : IsFreeCycle v k t
  pub index : ℕ
  pub at : slice_get (running_steps (world_of v k)) index ≡ Some t
  pub before : (i : ℕ) (u : Step) → i < index → slice_get (running_steps (world_of v k)) i ≡ Some u → ¬ (IsFreeCycle v k u)
