use Rattle.std.proofs.Common.{sym, ◌∙◌}
use Rattle.std.specs.Option.{option_copied}
use Rattle.text_parts.specs.Pieces.{text_before}
use Rattle.asm_line.specs.SourceLines.{line_seen}
use Rattle.asm_line.proofs.CodeCut.{lines_cut, line_end_first, rest_is_shorter}
use Rattle.asm_line.proofs.lines.next_source_line.Goals as goal

pub returns-then-begins-clause-lines : goal.returns-then-begins-clause-lines
returns-then-begins-clause-lines c =
    line_end_first c.args.text.now c.tail.result.now (sym c.begins.ensures ∙ c.if-begins.true) c.tail.ensures

pub returns-clause-lines : goal.returns-clause-lines
returns-clause-lines c =
    lines_cut c.args.text.now (line_seen c.cut_code.result) (option_copied c.next_code.result.1)
    (c.cut_code.ensures (text_before 10 c.args.text.now) c.next_code.ensures.code) c.next_code.ensures.after

pub returns-clause-shorter : goal.returns-clause-shorter
returns-clause-shorter c = rw c.next_code.ensures.after (rest_is_shorter 10 c.args.text.now)
