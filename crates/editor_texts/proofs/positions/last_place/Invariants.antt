use Rattle.std.proofs.Common.{◌≡◌, ◌≤◌, ◌*◌, take}
use Rattle.editor_texts.specs.Positions.{units_before}
use Rattle.editor_texts.proofs.positions.last_place.Given as goal

-- the units before the place, which are not too many
abbrev pub invariant-loop-index : goal.invariant-loop-index
invariant-loop-index l =
    (l.units ≡ units_before l.line l.index) × (l.units ≤ 2 * l.index) × (l.units ≤ l.most)
