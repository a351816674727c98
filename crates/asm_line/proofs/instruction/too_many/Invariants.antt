use Rattle.std.proofs.Common.{◌≡◌, map}
use Rattle.std.specs.List.{list_all}
use Rattle.std.specs.Option.{option_copied}
use Rattle.asm_line.specs.Text.{trim, head}
use Rattle.text_parts.specs.Pieces.{pieces}
use Rattle.asm_line.specs.Heads.{operation_of}
use Rattle.asm_line.specs.Instructions.{is_ok}
use Rattle.text_parts.specs.Pieces.{rest_pieces, rest_length}
use Rattle.asm_line.proofs.instruction.too_many.Given as goal

abbrev pub invariant-loop-rest : goal.invariant-loop-rest
invariant-loop-rest l =
    list_all (λ part. is_ok (operation_of l.profile (head part))) (map trim (rest_pieces 124 (option_copied l.rest)))
    ≡ list_all (λ part. is_ok (operation_of l.profile (head part))) (map trim (pieces 124 l.text))

abbrev pub decreases-loop-rest : goal.decreases-loop-rest
decreases-loop-rest l = rest_length (option_copied l.rest)
