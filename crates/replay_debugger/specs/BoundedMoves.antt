-- Moves that look at so many steps at most.
use Rattle.std.specs.Prelude.{◌≡◌, ℕ, ◌+◌, ◌<◌, ◌≤◌, false, length, Option, Some, None}
use Rattle.debug_commands.specs.declared.answers.Why.{Why}
use Rattle.replay_debugger.specs.Sessions.{SessionValue}
use Rattle.replay_debugger.specs.declared.session.bounded_back.Search.{Search}
use Rattle.replay_debugger.specs.declared.session.bounded_back.Search.TheVariants as search
use Rattle.replay_debugger.specs.Stops.{NoneAbove, IsGreatestBelow, NoneBelow}
use Rattle.replay_debugger.specs.Table.{stops_of, ContinuesTo, GoesBackTo}

-- where `c` goes, found within so many steps; else so many steps on, where no stop is behind it
abbrev pub ContinuesWithin : SessionValue → ℕ → ℕ → Option Why → Type 0
ContinuesWithin s count k (Some why) = (k ≤ s.position + count) × ContinuesTo s k why
ContinuesWithin s count k None =
    (k ≡ s.position + count) × (k < length s.schedule) × NoneAbove (stops_of s) s.position k

-- where `back` goes; else where no stop is from there to below the position
abbrev pub GoesBackWithin : SessionValue → ℕ → Option Why → Type 0
GoesBackWithin s k (Some why) = GoesBackTo s k why
GoesBackWithin s k None = (k ≤ s.position) × ((j : ℕ) → k ≤ j → j < s.position → stops_of s j ≡ false)

-- what a search below the position of a session found is so
abbrev pub IsSearchBelow : SessionValue → Search → Type 0
IsSearchBelow s (search.Stop k) = IsGreatestBelow (stops_of s) s.position k
IsSearchBelow s search.NoStop = NoneBelow (stops_of s) s.position
IsSearchBelow s (search.NoneFrom k) = GoesBackWithin s k None

-- the position that a search leads to
abbrev pub goal_of : Search → ℕ
goal_of (search.Stop k) = k
goal_of search.NoStop = 0
goal_of (search.NoneFrom k) = k
