use Rattle.std.proofs.Common.{◌≡◌, ◌+◌, ◌≤◌, length}
use Rattle.std.specs.Option.{option_copied}
use Rattle.asm_line.specs.Lines.{lines, rest_lines}
use Rattle.asm_line.specs.Labels.{places_of}
use Rattle.text_parts.specs.Pieces.{rest_length}
use Rattle.asm_text.specs.Drafts.{empty}
use Rattle.asm_text.specs.Limits.{KeepsLimits}
use Rattle.asm_text.specs.Sources.{with_lines}
use Rattle.asm_text.proofs.source.all_lines.Given as goal

abbrev pub invariant-loop-rest : goal.invariant-loop-rest
invariant-loop-rest l = record {
  lines : with_lines l.outline.profile (places_of l.outline.labels) l.outline.words l.number l.draft
      (rest_lines (option_copied l.rest))
      ≡ with_lines l.outline.profile (places_of l.outline.labels) l.outline.words 0 empty (lines l.text);
  kept : KeepsLimits l.outline.profile l.outline.words l.draft;
  number : l.number + rest_length (option_copied l.rest) ≤ length l.text + 1;
}

abbrev pub decreases-loop-rest : goal.decreases-loop-rest
decreases-loop-rest l = rest_length (option_copied l.rest)
