-- What ends a search before its end.
use Rattle.std.specs.Prelude.{◌≡◌, ◌⊎◌, ⊤, ℕ, List, codes, Option, Some, None}
use Rattle.space_ends.specs.ScheduleSpaceTypes.Bound.{Bound}
use Rattle.space_ends.specs.ScheduleSpaceTypes.Bound.TheVariants as space
use Rattle.program_searches.specs.declared.bounds.SearchBound.{SearchBound}
use Rattle.program_searches.specs.declared.bounds.SearchBound.TheVariants as bound
use Rattle.program_searches.specs.declared.searches.SearchFault.{SearchFault}
use Rattle.program_searches.specs.declared.searches.SearchFault.TheVariants as fault

-- in words, which follow what was not reached
abbrev pub bound_words : SearchBound → List ℕ
bound_words bound.States = codes "ended by --states"
bound_words bound.Seconds = codes "ended by --seconds"
bound_words bound.Memory = codes "ended by --memory"
bound_words bound.Refused = codes "memory was refused"

-- in JSON
abbrev pub bound_json_name : SearchBound → List ℕ
bound_json_name bound.States = codes "states"
bound_json_name bound.Seconds = codes "seconds"
bound_json_name bound.Memory = codes "memory"
bound_json_name bound.Refused = codes "refused"

-- one of the bounds that a search is watched for
abbrev pub IsWatched : Option SearchBound → Type 0
IsWatched b = (b ≡ Some bound.Seconds) ⊎ (b ≡ Some bound.Memory)

-- the same, of what is said to have ended the search of a space
abbrev pub IsBoundBy : Option Bound → Option SearchBound → Type 0
IsBoundBy None b = b ≡ None
IsBoundBy (Some space.Worlds) b = b ≡ Some bound.States
IsBoundBy (Some space.Watch) b = IsWatched b
IsBoundBy (Some space.Memory) b = b ≡ Some bound.Refused

-- the fault is the clock's
abbrev pub IsOfClock : SearchFault → Type 0
IsOfClock fault.NoMemory = ⊥
IsOfClock (fault.Clock e) = ⊤
