-- Where a claim is broken on the way through a schedule.
use Rattle.std.specs.Prelude.{ℕ, ◌+◌, Bool, List, [], ◌∷◌, if◌then◌else◌}
use Rattle.image_file.specs.ImageValue.{ImageValue}
use Rattle.machine.specs.Processor.World.{World, after}
use Rattle.machine.specs.ProcessorTypes.Step.{Step}
use Rattle.claims.specs.declared.claim.Claim.{Claim}
use Rattle.claims.specs.Holding.{holds}

-- a number in front of others, unless something holds
abbrev pub unless_so : Bool → ℕ → List ℕ → List ℕ
unless_so so n ns = if so then ns else n ∷ ns

-- after how many steps a claim does not hold, where n were taken before: of the world before each step of a schedule
abbrev pub breaks_from : Claim → ImageValue → World → ℕ → List Step → List ℕ
breaks_from c image w n [] = []
breaks_from c image w n (t ∷ ts) = unless_so (holds w c) n (breaks_from c image (after image w t) (n + 1) ts)
