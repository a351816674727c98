-- What is known of the space of a search, by what ended it.
use Rattle.std.specs.Prelude.{IsTrue, IsFalse, IsNone, IsSome, Option, None, Some, slice_index_or, is_some, min}
use Rattle.std.specs.List.{Contains}
use Rattle.std.proofs.Common.{◌≡◌, ℕ, ◌<◌, ◌≤◌, ◌⊎◌, inl, inr, Bool, true, false, not, ◌||◌, List, refl, sym, ap, ◌∙◌, subst, arith}
use Rattle.expectations.specs.declared.expectation.Expectation.{Expectation}
use Rattle.claims.specs.Looking.{is_looked_at, is_word_looked_at}
use Rattle.claims.specs.declared.claim.Claim.{Claim}
use Rattle.program_flow.specs.Tables.{is_named_by}
use Rattle.expectations.specs.NamedRegisters.{is_register_named}
use Rattle.space_ends.specs.ScheduleSpaceTypes.Bound.TheVariants as space
use Rattle.space_ends.specs.ScheduleSpaceTypes.Exploration.{Exploration}
use Rattle.space_ends.specs.ScheduleSpaceTypes.Exploration.TheVariants.{Complete, Bounded}
use Rattle.space_ends.specs.ScheduleSpace.Spaces.{SpaceValue, count, IsComplete, HasAllEdges, IsDistinct, StandAlone, IsShortest}
use Rattle.space_ends.specs.ScheduleSpace.Followed.{AllFollowed, HasAllEnds}
use Rattle.space_ends.specs.ScheduleSpace.Quiet.{AllFollowedQuietly}
use Rattle.space_ends.specs.ScheduleSpace.Answers.{space_in, is_complete, bound_in, IsFull}
use Rattle.space_ends.proofs.ScheduleSpace.Agreeing.{agree_same}
use Rattle.space_ends.specs.ScheduleVerdicts.NamedRegisters.{AreNamed}
use Rattle.space_ends.specs.ScheduleVerdicts.RightSpaces.{IsFollowedForClaims}
use Rattle.space_ends.specs.ScheduleVerdicts.ShownClaims.{TellsOfClaims}
use Rattle.program_searches.specs.Bounds.{IsBoundBy}
use Rattle.program_searches.specs.Kept.{asks_conditions}
use Rattle.program_searches.specs.Searches.{takes_all, most_worlds, HasNeededWorlds, IsSearched}
use Rattle.program_searches.specs.declared.bounds.SearchBound.{SearchBound}
use Rattle.program_searches.specs.declared.bounds.SearchBound.TheVariants as bound
use Rattle.program_searches.specs.declared.searches.ProgramSearch.{ProgramSearch}

-- What is said to have ended a search.

pub ended_not : (e : Exploration) (b : Option SearchBound) → IsBoundBy (bound_in e) b → b ≡ None
    → is_complete e ≡ true
ended_not (Complete v) b by none = refl
ended_not (Bounded v space.Worlds) b by none = cc
ended_not (Bounded v space.Watch) b (inl by) none = cc
ended_not (Bounded v space.Watch) b (inr by) none = cc
ended_not (Bounded v space.Memory) b by none = cc

pub by_worlds : (e : Exploration) (b : Option SearchBound) → IsBoundBy (bound_in e) b → b ≡ Some bound.States
    → bound_in e ≡ Some space.Worlds
by_worlds (Complete v) b by states = cc
by_worlds (Bounded v space.Worlds) b by states = refl
by_worlds (Bounded v space.Watch) b (inl by) states = cc
by_worlds (Bounded v space.Watch) b (inr by) states = cc
by_worlds (Bounded v space.Memory) b by states = cc

-- What a search for all worlds answers, and one for ends.
module _ (asked : ProgramSearch) (most : ℕ) (e : Exploration) (v : SpaceValue) (b : Option SearchBound)
    (same : v ≡ space_in e) (by : IsBoundBy (bound_in e) b) (is_most : most ≡ most_worlds asked)
    (within : count (space_in e) ≤ most) (full : bound_in e ≡ Some space.Worlds → IsFull (space_in e) most) where
  pub of_worlds : IsTrue (takes_all asked) → (is_complete e ≡ true → IsComplete (space_in e))
      → (is_complete e ≡ true → HasAllEdges (space_in e)) → IsDistinct (space_in e) → StandAlone (space_in e)
      → IsShortest (space_in e) → (bound_in e ≡ Some space.Worlds → ¬ (IsComplete (space_in e))) → IsSearched asked v b
  of_worlds on complete edges distinct alone shortest missing =
      subst (λ (x : SpaceValue). IsSearched asked x b) (sym same)
      (record {
        worlds = λ none _. record {
          complete = complete (ended_not e b by none);
          edges = edges (ended_not e b by none);
          distinct = distinct;
        };
        needed = λ none off. cc;
        alone = λ _. alone;
        shortest = λ _. shortest;
        within = subst (λ n. count (space_in e) ≤ n) is_most within;
        full = λ states. subst (λ n. IsFull (space_in e) n) is_most (full (by_worlds e b by states));
        missing = λ states _. missing (by_worlds e b by states);
      })

  pub of_ends : IsFalse (takes_all asked) → (is_complete e ≡ true → HasNeededWorlds asked.required.now (space_in e))
      → IsSearched asked v b
  of_ends off needed =
      subst (λ (x : SpaceValue). IsSearched asked x b) (sym same)
      (record {
        worlds = λ none on. cc;
        needed = λ none _. needed (ended_not e b by none);
        alone = λ on. cc;
        shortest = λ on. cc;
        within = subst (λ n. count (space_in e) ≤ n) is_most within;
        full = λ states. subst (λ n. IsFull (space_in e) n) is_most (full (by_worlds e b by states));
        missing = λ states on. cc;
      })

-- a space of a search for no more worlds, as one that the time ended
pub of_first : (asked : ProgramSearch) (most : ℕ) (v : SpaceValue) (b : Option SearchBound)
    → IsSearched (record asked { bounds = record asked.bounds { worlds = min most asked.bounds.worlds } }) v b
    → IsSearched asked v (Some bound.Seconds)
of_first asked most v b s = record {
  worlds = λ none _. cc;
  needed = λ none _. cc;
  alone = λ on. s.alone on;
  shortest = λ on. s.shortest on;
  within = let within = s.within in omega (arith, within);
  full = λ states. cc;
  missing = λ states _. cc;
}

-- places and words that are reported are covered
pub shown_by : (v : SpaceValue) (claims : List Claim) (places looked_at : List Bool) (reported words : List ℕ)
    → looked_at ≡ places → words ≡ reported → ((k : ℕ) → slice_index_or places k false ≡ is_looked_at claims k)
    → ((a : ℕ) → IsTrue (is_word_looked_at claims a) → Contains reported a) → AllFollowedQuietly looked_at words v
    → IsFollowedForClaims v claims
shown_by v claims places looked_at reported words same alike each named quiet = record {
  looked_at = looked_at;
  words = words;
  covers = λ k is. ap (λ (bs : List Bool). slice_index_or bs k false) same ∙ each k ∙ is;
  covers_words = λ a is. subst (λ (ws : List ℕ). Contains ws a) (sym alike) (named a is);
  quiet = quiet;
}

-- names of each of the 32 registers at which expectations look
pub names_known : (expected : List Expectation) (names found : List Bool) → found ≡ names
    → ((r : ℕ) → r < 32 → slice_index_or names r false ≡ is_register_named expected r) → AreNamed expected found
names_known expected names found same reported = λ r below is.
    ap (λ (bs : List Bool). is_named_by bs r) same ∙ reported r below ∙ is

-- What is known where nothing ended the search before.
module _ (asked : ProgramSearch) (v : SpaceValue) (b : Option SearchBound) (s : IsSearched asked v b) (none : b ≡ None) where
  -- it has all worlds, or is followed for the claims and has the registers named
  pub known : IsComplete v
      ⊎ (AreNamed asked.required.now.ends.items v.live.names × IsFollowedForClaims v asked.required.now.claims.items)
  known = by_kind (takes_all asked) refl where
    by_kind : (t : Bool) → takes_all asked ≡ t
        → IsComplete v
        ⊎ (AreNamed asked.required.now.ends.items v.live.names × IsFollowedForClaims v asked.required.now.claims.items)
    by_kind true on = inl (s.worlds none on).complete
    by_kind false off = inr ((s.needed none off).named, (s.needed none off).claimed)

  pub taken : (IsComplete v × HasAllEdges v) ⊎ AllFollowed v
  taken = by_kind (takes_all asked) refl where
    by_kind : (t : Bool) → takes_all asked ≡ t → (IsComplete v × HasAllEdges v) ⊎ AllFollowed v
    by_kind true on = inl ((s.worlds none on).complete, (s.worlds none on).edges)
    by_kind false off = inr (s.needed none off).followed

  pub tells : TellsOfClaims v asked.required.now.claims.items
  tells = by_kind (takes_all asked) refl where
    by_kind : (t : Bool) → takes_all asked ≡ t → TellsOfClaims v asked.required.now.claims.items
    by_kind true on = inl (s.worlds none on).complete
    by_kind false off = inr (s.needed none off).claimed

  -- some world stands for each end: where it has all worlds, the end itself
  pub all_ends : HasAllEnds v
  all_ends = by_kind (takes_all asked) refl where
    by_kind : (t : Bool) → takes_all asked ≡ t → HasAllEnds v
    by_kind true on = λ ts end.
        let here = (s.worlds none on).complete ts in (here.0, here.1, agree_same v.live _ _ here.2)
    by_kind false off = (s.needed none off).ends

or_right : (a b : Bool) → b ≡ true → (a || b) ≡ true
or_right true b on = refl
or_right false b on = on

or_left : (a b : Bool) → a ≡ true → (a || b) ≡ true
or_left true b on = refl
or_left false b on = cc

-- where no stream is to loop alone all worlds are looked for
pub all_if_never_busy : (asked : ProgramSearch) → IsSome asked.required.now.never_busy → IsTrue (takes_all asked)
all_if_never_busy asked some =
    let required = asked.required.now in
    or_left (asked.is_plain || is_some required.never_busy) (is_some required.never_starved || asks_conditions required)
    (or_right asked.is_plain (is_some required.never_busy) some)

-- whether there is none
pub none_if : {A : Type 0} (b : Option A) (t : Bool) → is_some b ≡ not t → t ≡ true → b ≡ None
none_if None t is on = refl
none_if (Some x) t is on = cc

pub if_none : {A : Type 0} (b : Option A) (t : Bool) → is_some b ≡ not t → b ≡ None → t ≡ true
if_none b true is none = refl
if_none None false is none = cc
if_none (Some x) false is none = cc

-- what is found of what may be there
pub none_found : {A B : Type 0} (asked : Option A) (found : Option B) → (IsNone asked → found ≡ None)
    → (IsSome asked → found ≡ None) → found ≡ None
none_found None found without with = without refl
none_found (Some a) found without with = with refl
