-- The pieces of a text between the places of a byte.
use Rattle.std.specs.Prelude.{ℕ, ◌+◌, ◌==◌, nat_lt, if◌then◌else◌, List, [], length, Option, Some, None}
use Rattle.std.specs.List.{slice_split, before_first, after_first, position_or_len}

-- the pieces between the bytes c
abbrev pub pieces : ℕ → List ℕ → List (List ℕ)
pieces c bytes = slice_split (λ b. b == c) bytes

-- what stands before the first c, or all
abbrev pub text_before : ℕ → List ℕ → List ℕ
text_before c bytes = before_first (λ b. b == c) bytes

-- what stands after the first c, if there is one
unfoldable pub text_after : ℕ → List ℕ → Option (List ℕ)
text_after c bytes =
    if nat_lt (position_or_len (λ b. b == c) bytes) (length bytes) then Some (after_first (λ b. b == c) bytes)
    else None

-- What is left of a text of which a piece is cut off. Loops over pieces go by these.

-- the other pieces
abbrev pub rest_pieces : ℕ → Option (List ℕ) → List (List ℕ)
rest_pieces c None = []
rest_pieces c (Some text) = pieces c text

-- how many bytes are left, with the separator before them
abbrev pub rest_length : Option (List ℕ) → ℕ
rest_length None = 0
rest_length (Some text) = length text + 1
