-- What is known of a claim and the worlds of a space.
use Rattle.std.specs.Prelude.{◌≡◌, ℕ, Bool, false, IsTrue, ◌&&◌, ⊤, List, slice_index_or}
use Rattle.processor.specs.World.{World}
use Rattle.claims.specs.Holding.{holds, shows}
use Rattle.claims.specs.declared.claim.Claim.{Claim}
use Rattle.std.specs.List.{All}
use Rattle.busy_streams.specs.ScheduleSpace.Spaces.{SpaceValue, world_of, StandsFor}
use Rattle.schedule_verdicts.specs.declared.claim_marks.Mark.{Mark}
use Rattle.schedule_verdicts.specs.declared.claim_marks.Mark.TheVariants as mark

-- whether a world passes a claim: it does not break it, and shows it if it has to hold of one world at least
abbrev pub passes : World → Claim → Bool
passes w c = holds w c && shows w c

-- what contracts see of the marks: the space and the claim
pub record MarksValue : Type 0 where
  pub space : SpaceValue
  pub claim : Claim

-- the marks of a claim
abbrev pub marks_for : SpaceValue → Claim → MarksValue
marks_for v c = record { space = v; claim = c }

-- a mark says nothing, or whether a claim is passed
abbrev pub IsMark : Bool → Mark → Type 0
IsMark so mark.Unknown = ⊤
IsMark so mark.Passed = IsTrue so
IsMark so mark.Failed = so ≡ false

-- so it is of the world at a place of a space
abbrev pub IsMarkOf : SpaceValue → Claim → ℕ → Mark → Type 0
IsMarkOf v c k m = IsMark (passes (world_of v k) c) m

-- and so is each of some marks
abbrev pub AreMarks : SpaceValue → Claim → List Mark → Type 0
AreMarks v c marks = (k : ℕ) → IsMarkOf v c k (slice_index_or marks k mark.Unknown)

-- some marks are all of this space
abbrev pub AreOfSpace : SpaceValue → List MarksValue → Type 0
AreOfSpace v marks = All (λ m. m.space ≡ v) marks

-- the world at this place stands for this one in the space of each of some marks
abbrev pub AreJudgedBy : ℕ → World → List MarksValue → Type 0
AreJudgedBy place w marks = All (λ m. StandsFor m.space place w) marks
