-- No end shows any flaw where none shows each, and the worst flaw is the first that any end shows.
use Rattle.std.proofs.Common.{List, ℕ, ◌<◌, arith}
use Rattle.seed_outcomes.specs.SpaceEndsTypes.SpaceEnd.{SpaceEnd}
use Rattle.judgements.specs.declared.end_flaws.EndFlaw.{EndFlaw}
use Rattle.judgements.specs.Flaws.{NoneShows, ShowNothing, IsFirstToShow, IsWorstFlaw, flaw_rank}
use Rattle.judgements.specs.declared.end_flaws.EndFlaw.TheVariants as flaw

pub none_shown : (ends : List SpaceEnd) → NoneShows ends flaw.Trap → NoneShows ends flaw.Deadlock
    → NoneShows ends flaw.Wrong → NoneShows ends flaw.Broken → NoneShows ends flaw.Spinning → ShowNothing ends
none_shown ends trap deadlock wrong broken spinning flaw.Trap = trap
none_shown ends trap deadlock wrong broken spinning flaw.Deadlock = deadlock
none_shown ends trap deadlock wrong broken spinning flaw.Wrong = wrong
none_shown ends trap deadlock wrong broken spinning flaw.Broken = broken
none_shown ends trap deadlock wrong broken spinning flaw.Spinning = spinning

pub worst_trap : (ends : List SpaceEnd) (place : ℕ) → IsFirstToShow ends flaw.Trap place
    → IsWorstFlaw ends flaw.Trap place
worst_trap ends place first = record { first = first; worst = worst } where
  worst : (worse : EndFlaw) → flaw_rank worse < flaw_rank flaw.Trap → NoneShows ends worse
  worst flaw.Trap below = absurd (omega (arith, below))
  worst flaw.Deadlock below = absurd (omega (arith, below))
  worst flaw.Wrong below = absurd (omega (arith, below))
  worst flaw.Broken below = absurd (omega (arith, below))
  worst flaw.Spinning below = absurd (omega (arith, below))

pub worst_deadlock : (ends : List SpaceEnd) (place : ℕ) → NoneShows ends flaw.Trap
    → IsFirstToShow ends flaw.Deadlock place → IsWorstFlaw ends flaw.Deadlock place
worst_deadlock ends place trap first = record { first = first; worst = worst } where
  worst : (worse : EndFlaw) → flaw_rank worse < flaw_rank flaw.Deadlock → NoneShows ends worse
  worst flaw.Trap below = trap
  worst flaw.Deadlock below = absurd (omega (arith, below))
  worst flaw.Wrong below = absurd (omega (arith, below))
  worst flaw.Broken below = absurd (omega (arith, below))
  worst flaw.Spinning below = absurd (omega (arith, below))

pub worst_wrong : (ends : List SpaceEnd) (place : ℕ) → NoneShows ends flaw.Trap → NoneShows ends flaw.Deadlock
    → IsFirstToShow ends flaw.Wrong place → IsWorstFlaw ends flaw.Wrong place
worst_wrong ends place trap deadlock first = record { first = first; worst = worst } where
  worst : (worse : EndFlaw) → flaw_rank worse < flaw_rank flaw.Wrong → NoneShows ends worse
  worst flaw.Trap below = trap
  worst flaw.Deadlock below = deadlock
  worst flaw.Wrong below = absurd (omega (arith, below))
  worst flaw.Broken below = absurd (omega (arith, below))
  worst flaw.Spinning below = absurd (omega (arith, below))

pub worst_broken : (ends : List SpaceEnd) (place : ℕ) → NoneShows ends flaw.Trap → NoneShows ends flaw.Deadlock
    → NoneShows ends flaw.Wrong → IsFirstToShow ends flaw.Broken place → IsWorstFlaw ends flaw.Broken place
worst_broken ends place trap deadlock wrong first = record { first = first; worst = worst } where
  worst : (worse : EndFlaw) → flaw_rank worse < flaw_rank flaw.Broken → NoneShows ends worse
  worst flaw.Trap below = trap
  worst flaw.Deadlock below = deadlock
  worst flaw.Wrong below = wrong
  worst flaw.Broken below = absurd (omega (arith, below))
  worst flaw.Spinning below = absurd (omega (arith, below))

pub worst_spinning : (ends : List SpaceEnd) (place : ℕ) → NoneShows ends flaw.Trap → NoneShows ends flaw.Deadlock
    → NoneShows ends flaw.Wrong → NoneShows ends flaw.Broken → IsFirstToShow ends flaw.Spinning place
    → IsWorstFlaw ends flaw.Spinning place
worst_spinning ends place trap deadlock wrong broken first = record { first = first; worst = worst } where
  worst : (worse : EndFlaw) → flaw_rank worse < flaw_rank flaw.Spinning → NoneShows ends worse
  worst flaw.Trap below = trap
  worst flaw.Deadlock below = deadlock
  worst flaw.Wrong below = wrong
  worst flaw.Broken below = broken
  worst flaw.Spinning below = absurd (omega (arith, below))
