use Rattle.std.proofs.Common.{◌≡◌, ℕ, ◌<◌, Some}
use Rattle.stream_core.specs.Registers.{register_at}
use Rattle.touched_words.specs.declared.few.Few.{Few}
use Rattle.touched_words.specs.TouchTables.{IsOneOf, known_by}
use Rattle.touched_words.proofs.touch_tables.standing.holds_known.Given as goal

abbrev pub invariant-loop-register : goal.invariant-loop-register
invariant-loop-register l =
    (r : ℕ) (few : Few) → r < l.register → known_by l.row r ≡ Some few → IsOneOf few (register_at l.stream.registers r)
