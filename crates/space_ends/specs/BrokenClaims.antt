-- Where claims are broken in a space, and the ends that list it.
use Rattle.std.specs.Prelude.{◌≡◌, ℕ, ◌+◌, ◌==◌, ◌&&◌, not, if◌then◌else◌, List, [], ◌∷◌, ◌++◌, length}
use Rattle.std.specs.List.{filter, range_with_len}
use Rattle.processor.specs.World.{start}
use Rattle.claims.specs.Holding.{holds}
use Rattle.claims.specs.Breaks.{breaks_from}
use Rattle.claims.specs.declared.claim.Claim.{Claim}
use Rattle.seed_verdicts.specs.ScheduleSpace.Spaces.{SpaceValue, count, world_of}
use Rattle.space_ends.specs.declared.end_values.SpaceEnd.{SpaceEnd}
use Rattle.space_ends.specs.declared.end_values.SpaceEndKind.{SpaceEndKind}
use Rattle.space_ends.specs.declared.end_values.SpaceEndKind.TheVariants as kind

-- the places of the worlds of a space of which a claim does not hold, in order
abbrev pub broken_places : SpaceValue → Claim → List ℕ
broken_places v c = filter (λ k. not (holds (world_of v k) c)) (range_with_len 0 (count v))

-- after how many of the steps that all schedules of a space begin with it does not hold, and some are left
abbrev pub broken_before : SpaceValue → Claim → List ℕ
broken_before v c = breaks_from c v.image (start v.image) 0 v.begin

-- What is known of an end: its kind, the places of its worlds, and how many more it has on the way through the steps that
-- all schedules begin with.
pub record EndValue : Type 0 where
  pub kind : SpaceEndKind
  pub places : List ℕ
  pub before : ℕ

abbrev pub value_of : SpaceEnd → EndValue
value_of e = record { kind = e.kind; places = e.places.items; before = e.before }

-- that the claim at this place is broken, at these places and so many worlds before them
abbrev pub broken_end : ℕ → List ℕ → ℕ → EndValue
broken_end claim places before = record { kind = kind.Broken claim; places = places; before = before }

-- nothing where a claim is broken nowhere, else one end with all places
abbrev pub broken_end_of : SpaceValue → ℕ → Claim → List EndValue
broken_end_of v index c =
    if length (broken_places v c) == 0 && length (broken_before v c) == 0 then []
    else (broken_end index (broken_places v c) (length (broken_before v c)) ∷ [])

-- the same of each claim, the first of which stands at this place among all
abbrev pub broken_ends : SpaceValue → ℕ → List Claim → List EndValue
broken_ends v index [] = []
broken_ends v index (c ∷ cs) = broken_end_of v index c ++ broken_ends v (index + 1) cs

-- the last ends are those of the claims that are broken
pub record HasBrokenEnds (v : SpaceValue) (claims : List Claim) (ends : List EndValue) : Type 0 where
  pub others : List EndValue
  pub all : ends ≡ others ++ broken_ends v 0 claims
