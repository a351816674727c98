-- Tables of what is live and of what may be asked for, one row for each word: where there is no row that is all.
use Rattle.std.specs.Prelude.{ℕ, Bool, true, false, List, [], IsTrue, slice_index_or}
use Rattle.insn_word.specs.declared.profiles.Profile.{Profile}
use Rattle.program_flow.specs.Flow.{IsClosed}
use Rattle.program_flow.specs.Codes.{HasCodes}

-- whether a register is live by a row: one that the row does not have is
abbrev pub is_live_by : List Bool → ℕ → Bool
is_live_by row r = slice_index_or row r true

-- whether a register is live at a place
abbrev pub is_live_at : List (List Bool) → ℕ → ℕ → Bool
is_live_at table k r = is_live_by (slice_index_or table k []) r

-- whether a register is among those that are named, each by its number
abbrev pub is_named_by : List Bool → ℕ → Bool
is_named_by names r = slice_index_or names r false

-- The table has all that may be read from each place of this program on, and the registers that are named at each place.
abbrev pub IsClosedTable : Profile → List ℕ → Bool → List Bool → List (List Bool) → Type 0
IsClosedTable profile program handled names table = IsClosed profile program (IsTrue handled)
    (λ r. IsTrue (is_named_by names r)) (λ k r. IsTrue (is_live_at table k r))

-- whether a condition code may be asked for from a place on, the newest code by 0
abbrev pub is_asked_at : List (List Bool) → ℕ → ℕ → Bool
is_asked_at table k c = is_live_by (slice_index_or table k []) c

-- The table has all condition codes that may be asked for from each place of this program on.
abbrev pub HasCodesOf : Profile → List ℕ → Bool → List (List Bool) → Type 0
HasCodesOf profile program handled table =
    HasCodes profile program (IsTrue handled) (λ k c. IsTrue (is_asked_at table k c))
