use Rattle.std.proofs.Common.{sym, subst, Result}
use Rattle.std.specs.Prelude.{IfOk}
use Rattle.asm_line.specs.Labels.{places_of}
use Rattle.asm_line.specs.Ranges.{IsItemInRange}
use Rattle.asm_line.specs.SourceLines.{line_seen}
use Rattle.asm_line.specs.declared.fault.Fault.{Fault}
use Rattle.asm_line.specs.declared.item.Item.{Item}
use Rattle.asm_line.proofs.ItemRanges.{item_range}
use Rattle.asm_line.proofs.lines.read_line.Goals as goal

pub returns-clause-range : goal.returns-clause-range
returns-clause-range c =
    let P : Result Item Fault → Type 0 = λ r. IfOk r (IsItemInRange c.args.profile c.args.words) in
    subst P (sym c.line_item.ensures)
    (item_range c.spelling_is_one_to_one.ensures.valid c.args.profile (places_of c.args.labels.now) c.args.words
    c.args.number c.args.here
    (line_seen c.args.line.now))
