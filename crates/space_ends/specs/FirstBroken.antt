-- The first claim that is broken on the way of a listed end.
use Rattle.std.specs.Prelude.{◌≡◌, ℕ, List, Option, Some, None}
use Rattle.std.specs.List.{All}
use Rattle.image_file.specs.ImageValue.{ImageValue}
use Rattle.processor.specs.declared.steps.Step.{Step}
use Rattle.claims.specs.declared.claim.Claim.{Claim}
use Rattle.seed_verdicts.specs.RunFlaws.{IsFirstBroken}
use Rattle.seed_verdicts.specs.ScheduleVerdicts.KeptClaims.{AreKeptOnTheWay}
use Rattle.seed_verdicts.specs.ScheduleSpace.Spaces.{SpaceValue}
use Rattle.space_ends.specs.declared.end_values.SpaceEnd.{SpaceEnd}
use Rattle.space_ends.specs.declared.end_values.SpaceEndKind.{SpaceEndKind}
use Rattle.space_ends.specs.declared.end_values.SpaceEndKind.TheVariants as kind

-- This is the first claim that is broken on the way through a schedule; or none is.
abbrev pub IsBrokenClaim : ImageValue → List Step → List Claim → Option ℕ → Type 0
IsBrokenClaim image ts claims None = AreKeptOnTheWay image ts claims
IsBrokenClaim image ts claims (Some claim) = (taken : ℕ) × IsFirstBroken image ts claims taken claim

-- The claim that an end of this kind with this schedule names as broken: of an end, or of a set that spins, the first one
-- that is broken on the way of the schedule; of worlds that break a claim, that one; of a stream that loops alone, none.
abbrev pub IsBrokenAs : ImageValue → List Claim → SpaceEndKind → List Step → Option ℕ → Type 0
IsBrokenAs image claims (kind.End k) ts broken = IsBrokenClaim image ts claims broken
IsBrokenAs image claims (kind.Broken claim) ts broken = broken ≡ Some claim
IsBrokenAs image claims kind.Busy ts broken = broken ≡ None

-- so it is of a listed end
abbrev pub IsBrokenSo : SpaceValue → List Claim → SpaceEnd → Type 0
IsBrokenSo v claims e = IsBrokenAs v.image claims e.kind e.schedule.items e.broken

-- so it is of each listed end
abbrev pub AreBrokenSo : SpaceValue → List Claim → List SpaceEnd → Type 0
AreBrokenSo v claims ends = All (IsBrokenSo v claims) ends
