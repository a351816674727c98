use Rattle.std.proofs.Common.{◌≡◌, ℕ, ◌<◌, Some}
use Rattle.stream_core.specs.Registers.{register_at}
use Rattle.stream_core.specs.Streams.{StreamValue}
use Rattle.program_flow.specs.Agreement.{registers_over}
use Rattle.touched_words.specs.declared.few.Few.{Few}
use Rattle.touched_words.specs.TouchTables.{IsOneOf, known_by, HoldsKnown}
use Rattle.touched_words.proofs.touch_tables.closing.covers_known.Given as goal

abbrev pub invariant-loop-register : goal.invariant-loop-register
invariant-loop-register l =
    (r : ℕ) (few : Few) → r < l.register → known_by l.to r ≡ Some few → (s : StreamValue) (value grant : ℕ)
    → HoldsKnown l.row s.registers → IsOneOf few (register_at (registers_over s l.insn value grant s.registers) r)
