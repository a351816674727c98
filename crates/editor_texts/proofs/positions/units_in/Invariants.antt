use Rattle.std.proofs.Common.{◌≡◌, ◌≤◌, ◌*◌, take}
use Rattle.std.specs.List.{sum_by}
use Rattle.editor_texts.specs.Positions.{units_of}
use Rattle.editor_texts.proofs.positions.units_in.Given as goal

-- the units of the bytes so far, at most two for each
abbrev pub invariant-loop-byte : goal.invariant-loop-byte
invariant-loop-byte l =
    (l.units ≡ sum_by units_of (take l.byte-index l.line)) × (l.units ≤ 2 * l.byte-index)
