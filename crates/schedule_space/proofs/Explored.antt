-- What a search has found, by what it was asked for.
use Rattle.std.proofs.Common.{◌≡◌, ℕ, ◌<◌, true, false, refl, sym, subst, List, ◌++◌, Bool, Some, replicate}
use Rattle.processor.specs.World.{run}
use Rattle.std.proofs.lemmas.List.{get_or-replicate}
use Rattle.std.specs.Prelude.{Result, Ok, Err, IfOk, IsTrue}
use Rattle.std.specs.List.{Contains}
use Rattle.program_flow.specs.Tables.{is_named_by}
use Rattle.world_keys.specs.DeadRegisters.Clearing.{IsLive}
use Rattle.schedule_space.specs.declared.explorations.Exploration.{Exploration}
use Rattle.schedule_space.specs.declared.expanding.Wanted.{Wanted}
use Rattle.schedule_space.specs.declared.links.Edge.{Edge}
use Rattle.schedule_space.specs.declared.watches.Bound.TheVariants as bound
use Rattle.schedule_space.specs.Answers.{space_in, is_complete, bound_in, IsFull}
use Rattle.schedule_space.specs.Spaces.{count, world_of, IsComplete, IsDistinct, HasAllEdges}
use Rattle.schedule_space.specs.Spaces.{AreAllApart, StandAlone, IsEdgeToStandIn}
use Rattle.schedule_space.specs.Finding.{IsExpanded, NamesAll}
use Rattle.schedule_space.specs.Followed.{AllFollowed, HasAllEnds, HasShortestEnds, TellsWhetherAllEnd}
use Rattle.schedule_space.specs.Quiet.{AllFollowedQuietly}
use Rattle.schedule_space.proofs.Agreeing.{agree_same}
use Rattle.schedule_space.proofs.Alone.{followed_all}
use Rattle.schedule_space.proofs.Breadth.{complete_from, all_edges}
use Rattle.schedule_space.proofs.Following.{ends_all, ends_shortest, tells_all}

-- where the search is complete, all worlds are expanded
abbrev pub AreAllExpanded : Exploration → Type 0
AreAllExpanded e = is_complete e ≡ true → (k : ℕ) → k < count (space_in e) → IsExpanded (space_in e) k

-- where the search is complete, all worlds are followed
abbrev pub AreAllFollowed : Exploration → Type 0
AreAllFollowed e = is_complete e ≡ true → AllFollowed (space_in e)

-- by sets of which nobody sees one step, where others are left out
abbrev pub AreAllQuiet : List Bool → List ℕ → Exploration → Type 0
AreAllQuiet looked_at words e = is_complete e ≡ true → AllFollowedQuietly looked_at words (space_in e)

abbrev IsLiveIn : Exploration → Type 0
IsLiveIn e = IsLive (space_in e).image (space_in e).live

-- each of 32 registers is named
pub all_named : (r : ℕ) → r < 32 → IsTrue (is_named_by (replicate 32 true) r)
all_named r below = get_or-replicate 32 r true false below

-- where all registers are named, each world stands for itself alone
abbrev StandAloneIn : Exploration → Type 0
StandAloneIn e = NamesAll (space_in e).live → StandAlone (space_in e)

alone_if : (names : List Bool) (e : Exploration) → ((r : ℕ) → r < 32 → IsTrue (is_named_by names r))
    → (space_in e).live.names ≡ names → StandAloneIn e → StandAlone (space_in e)
alone_if names e all same alone =
    alone (subst (λ (ns : List Bool). (r : ℕ) → r < 32 → IsTrue (is_named_by ns r)) (sym same) all)

module _ {E : Type 0} where
  pub complete_if : (names : List Bool) (a : Wanted) (r : Result Exploration E)
      → ((n : ℕ) → n < 32 → IsTrue (is_named_by names n)) → IfOk r (λ e. (space_in e).live.names ≡ names)
      → IfOk r StandAloneIn → IfOk r IsLiveIn → IfOk r (λ e. a ≡ a → AreAllExpanded e)
      → IfOk r (λ e. is_complete e ≡ true → IsComplete (space_in e))
  complete_if names a (Ok e) named is alone live all = λ on.
      complete_from (space_in e) live (alone_if names e named is alone) (all refl on)
  complete_if names a (Err f) named is alone live all = all

  pub edges_if : (names : List Bool) (a : Wanted) (r : Result Exploration E)
      → ((n : ℕ) → n < 32 → IsTrue (is_named_by names n)) → IfOk r (λ e. (space_in e).live.names ≡ names)
      → IfOk r StandAloneIn → IfOk r (λ e. a ≡ a → AreAllExpanded e) → IfOk r (λ e. AreAllApart (space_in e))
      → IfOk r (λ e. (d : Edge) → Contains (space_in e).edges d → IsEdgeToStandIn (space_in e) d)
      → IfOk r (λ e. is_complete e ≡ true → HasAllEdges (space_in e))
  edges_if names a (Ok e) named is alone all apart edges = λ on.
      all_edges (space_in e) apart (alone_if names e named is alone) (all refl on) edges
  edges_if names a (Err f) named is alone all apart edges = all

  pub distinct_if : (r : Result Exploration E) → IfOk r (λ e. AreAllApart (space_in e))
      → IfOk r (λ e. IsDistinct (space_in e))
  distinct_if (Ok e) apart = λ k j kb jb same.
      apart k j kb jb (agree_same (space_in e).live (world_of (space_in e) k) (world_of (space_in e) j) same)
  distinct_if (Err f) apart = apart

  pub missing_if : (most : ℕ) (r : Result Exploration E)
      → IfOk r (λ e. bound_in e ≡ Some bound.Worlds → IsFull (space_in e) most)
      → IfOk r (λ e. bound_in e ≡ Some bound.Worlds → ¬ (IsComplete (space_in e)))
  missing_if most (Ok e) full = λ ended all.
      let more = (full ended).more in
      let has = all more.0 in
      more.1 (
        has.0,
        has.1,
        agree_same (space_in e).live (world_of (space_in e) has.0)
            (run (space_in e).image ((space_in e).begin ++ more.0)) has.2,
      )
  missing_if most (Err f) full = full

  pub followed_if : (looked_at : List Bool) (words : List ℕ) (r : Result Exploration E) → IfOk r (AreAllQuiet looked_at words)
      → IfOk r AreAllFollowed
  followed_if looked_at words (Ok e) all = λ on. followed_all looked_at words (space_in e) (all on)
  followed_if looked_at words (Err f) all = all

  pub alone_in : (names : List Bool) (r : Result Exploration E)
      → ((n : ℕ) → n < 32 → IsTrue (is_named_by names n)) → IfOk r (λ e. (space_in e).live.names ≡ names)
      → IfOk r StandAloneIn → IfOk r (λ e. StandAlone (space_in e))
  alone_in names (Ok e) named is alone = alone_if names e named is alone
  alone_in names (Err f) named is alone = alone

  pub ends_if : (r : Result Exploration E) → IfOk r IsLiveIn → IfOk r AreAllFollowed
      → IfOk r (λ e. is_complete e ≡ true → HasAllEnds (space_in e))
  ends_if (Ok e) live all = λ on. ends_all (space_in e) live (all on)
  ends_if (Err f) live all = all

  pub tells_if : (r : Result Exploration E) → IfOk r IsLiveIn → IfOk r AreAllFollowed
      → IfOk r (λ e. is_complete e ≡ true → TellsWhetherAllEnd (space_in e))
  tells_if (Ok e) live all = λ on. tells_all (space_in e) live (all on)
  tells_if (Err f) live all = all

  pub shortest_if : (r : Result Exploration E) → IfOk r IsLiveIn → IfOk r AreAllFollowed
      → IfOk r (λ e. AreAllApart (space_in e)) → IfOk r (λ e. is_complete e ≡ true → HasShortestEnds (space_in e))
  shortest_if (Ok e) live all apart = λ on. ends_shortest (space_in e) live (all on) apart
  shortest_if (Err f) live all apart = all
