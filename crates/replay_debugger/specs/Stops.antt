-- Which positions are stops.
use Rattle.std.specs.Prelude.{◌≡◌, ℕ, ◌-◌, ◌<◌, ◌≤◌, ◌==◌, ◌&&◌, Bool, true, false, not, List, Option, Some, None}
use Rattle.std.specs.Prelude.{slice_get}
use Rattle.std.specs.List.{list_any}
use Rattle.tag_memory.specs.Cell.{Cell, tag_number}
use Rattle.tag_memory.specs.Storage.{cell_at}
use Rattle.image_file.specs.ImageValue.{ImageValue}
use Rattle.image_file.specs.Same.{same_cell}
use Rattle.stream_core.specs.Streams.{StreamValue, idle}
use Rattle.processor.specs.Processors.{ProcessorValue, stream_at}
use Rattle.processor.specs.Records.{is_running}
use Rattle.processor.specs.World.{World}
use Rattle.processor.specs.declared.steps.Step.{Step}
use Rattle.replay_debugger.specs.declared.points.Point.{Point}
use Rattle.replay_debugger.specs.declared.points.Point.TheVariants.{Break, Watch, WatchTags}
use Rattle.replay_debugger.specs.Sessions.{world_at}

-- Breakpoints.

-- the stream of this number; the idle one where there is no processor
abbrev pub stream_named_in : ℕ → Option ProcessorValue → StreamValue
stream_named_in s None = idle
stream_named_in s (Some proc) = stream_at proc.streams s

-- the stream that a step names; idle where there is none
abbrev pub stream_named : World → Step → StreamValue
stream_named w t = stream_named_in t.s (slice_get w.processors t.p)

-- whether a step is of a running stream whose processor and pc pass the test; where no step follows it is not
abbrev pub is_met : (ℕ → ℕ → Bool) → World → Option Step → Bool
is_met test w None = false
is_met test w (Some t) = is_running (stream_named w t) && test t.p (stream_named w t).ssw.pc

-- Watched words. It is the word at the address itself that is watched, whatever it is forwarded to.

-- whether a word has another value or other tags
abbrev pub word_differs : Option Cell → Option Cell → Bool
word_differs None None = false
word_differs None (Some d) = true
word_differs (Some c) None = true
word_differs (Some c) (Some d) = not (same_cell c d)

-- whether a word has other tags
abbrev pub tags_differ : Option Cell → Option Cell → Bool
tags_differ None None = false
tags_differ None (Some d) = true
tags_differ (Some c) None = true
tags_differ (Some c) (Some d) = not (tag_number c == tag_number d)

-- Stops.

-- whether a point stops in a world, given the world before the last step, and the step that follows
abbrev pub point_stops : World → World → Option Step → Point → Bool
point_stops before w next (Break p pc) = is_met (λ q at. (q == p) && (at == pc)) w next
point_stops before w next (Watch a) = word_differs (cell_at before.memory a) (cell_at w.memory a)
point_stops before w next (WatchTags a) = tags_differ (cell_at before.memory a) (cell_at w.memory a)

-- whether the point of a slot, if it has one, stops between two worlds
abbrev pub slot_stops : World → World → Option Step → Option Point → Bool
slot_stops before w next None = false
slot_stops before w next (Some point) = point_stops before w next point

-- whether one of the points does
abbrev pub any_stops : World → World → Option Step → List (Option Point) → Bool
any_stops before w next points = list_any (slot_stops before w next) points

-- Whether position k is a stop: by positions k - 1 and k and the step after k. At position 0 nothing has changed:
-- there 0 - 1 is 0.
unfoldable pub is_stop : ImageValue → List Step → List (Option Point) → ℕ → Bool
is_stop image schedule points k =
    any_stops (world_at image schedule (k - 1)) (world_at image schedule k) (slice_get schedule k) points

-- The next stop and the last one.

-- k is the least number above low, and at most high, that passes the test
pub record IsLeastAbove (test : ℕ → Bool) (low high k : ℕ) : Type 0 where
  pub above : low < k
  pub within : k ≤ high
  pub passes : test k ≡ true
  pub least : (j : ℕ) → low < j → j < k → test j ≡ false

-- no number above low, and at most high, passes the test
abbrev pub NoneAbove : (ℕ → Bool) → ℕ → ℕ → Type 0
NoneAbove test low high = (j : ℕ) → low < j → j ≤ high → test j ≡ false

-- k is the greatest number below high that passes the test
pub record IsGreatestBelow (test : ℕ → Bool) (high k : ℕ) : Type 0 where
  pub below : k < high
  pub passes : test k ≡ true
  pub greatest : (j : ℕ) → k < j → j < high → test j ≡ false

-- no number below high passes the test
abbrev pub NoneBelow : (ℕ → Bool) → ℕ → Type 0
NoneBelow test high = (j : ℕ) → j < high → test j ≡ false
