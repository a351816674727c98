-- A line without bytes has no label and no statement.
use Rattle.std.proofs.Common.{◌≡◌, ℕ, List, [], ◌∷◌, length, None, arith, refl}
use Rattle.text_parts.specs.Pieces.{text_after}
use Rattle.asm_line.specs.Text.{trim}
use Rattle.asm_line.specs.Lines.{Line, line}

pub empty_line : (bytes : List ℕ) → length bytes ≡ 0
    → let empty : Line = record { label = None; statement = bytes } in
    empty ≡ line bytes
unfolding line trim text_after
empty_line [] none = refl
empty_line (byte ∷ bytes) none = absurd (omega (arith, none))
