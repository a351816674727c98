-- What is listed of streams that loop alone.
use Rattle.std.proofs.Common.{◌≡◌, ℕ, List, [], ◌∷◌, Option, Some, None, refl, sym, ◌∙◌, subst}
use Rattle.std.specs.Prelude.{MatchOption}
use Rattle.processor.specs.declared.steps.Step.{Step}
use Rattle.space_ends.specs.BusyStreams.BusySpaces.{HasNoneBusy, IsFirstBusy}
use Rattle.space_ends.specs.Loops.{LoopingEnd, loop_of}
use Rattle.space_ends.specs.ScheduleSpace.Spaces.{SpaceValue}
use Rattle.program_searches.specs.Loops.{AreFirstLoops}

-- the first one is listed
pub one_listed : (v : SpaceValue) (place : ℕ) (stream : Step) (steps : ℕ) (loops : List LoopingEnd)
    → loops ≡ loop_of v place stream steps ∷ []
    → IsFirstBusy v (record { place = place; stream = stream; steps = steps }) → AreFirstLoops v loops
one_listed v place stream steps loops is first =
    subst (AreFirstLoops v) (sym is) (record {
      place = place;
      stream = stream;
      steps = steps;
      first = first;
      is = refl;
    })

-- none is
pub none_listed : (v : SpaceValue) (loops : List LoopingEnd) → loops ≡ [] → HasNoneBusy v → AreFirstLoops v loops
none_listed v loops is none = subst (AreFirstLoops v) (sym is) none

-- what is known of something that may be there, by two facts
pub either_way : {B : Type 0} {F G : B → Type 0} {P Q R : Type 0} (found : Option B) → MatchOption found P F
    → MatchOption found Q G → ((b : B) → F b → G b → R) → (P → Q → R) → R
either_way None p q some none = none p q
either_way (Some b) f g some none = some b f g

-- nothing is found exactly if nothing is listed
pub if_not_found : {B : Type 0} {P : Type 0} (F : B → Type 0) (found : Option B) → MatchOption found P F → found ≡ None
    → P
if_not_found F None p none = p
if_not_found F (Some b) f none = absurd (cc)

pub if_none_listed : {B L : Type 0} {F G : B → Type 0} (Q : Type 0) (found : Option B) (loops : List L)
    → MatchOption found (loops ≡ []) F → MatchOption found Q G → ((b : B) → F b → G b → (l : L) × (loops ≡ l ∷ []))
    → loops ≡ [] → found ≡ None
if_none_listed Q None loops p q some none = refl
if_none_listed Q (Some b) loops f g some none = let one = some b f g in let h = sym none ∙ one.1 in absurd (cc)
