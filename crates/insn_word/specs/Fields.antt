-- Numbers as binary digits, and as fields of digits.
use Rattle.std.specs.Prelude.{ℕ, zero, suc, ◌+◌, ◌-◌, ◌*◌, ◌/◌, ◌%◌, ◌^◌, ◌<◌, ℤ, pos, negsuc, neg_ℤ, ◌≤ℤ◌, ◌<ℤ◌}
use Rattle.std.specs.Prelude.{Bool, if◌then◌else◌, List, [], ◌∷◌, ◌++◌}
use Rattle.std.specs.List.{AllByRecursion}

-- so many binary digits of a number, the most significant first
unfoldable pub digits : ℕ → ℕ → List ℕ
digits zero n = []
digits (suc k) n = n / 2 ^ k % 2 ∷ digits k n

-- a field: how many digits it has, and its value
pub data Field : Type 0 where
  unsigned : ℕ → ℕ → Field
  signed : ℕ → ℤ → Field

-- a field of so many digits 0
abbrev pub zeros : ℕ → Field
zeros k = unsigned k 0

-- a field of one digit: 1 for yes, 0 for no
abbrev pub flag : Bool → Field
flag b = unsigned 1 (if b then 1 else 0)

-- what its digits can say
abbrev pub IsFieldInRange : Field → Type 0
IsFieldInRange (unsigned k n) = n < 2 ^ k
IsFieldInRange (signed k z) = (neg_ℤ (pos (2 ^ (k - 1))) ≤ℤ z) × (z <ℤ pos (2 ^ (k - 1)))

abbrev pub AreInRange : List Field → Type 0
AreInRange fs = AllByRecursion IsFieldInRange fs

-- two's complement: a negative number, here -(n + 1), stands as 2 ^ k more
abbrev pub twos_complement : ℕ → ℤ → ℕ
twos_complement k (pos n) = n
twos_complement k (negsuc n) = 2 ^ k - suc n

-- how many digits a field has
abbrev pub width : Field → ℕ
width (unsigned k n) = k
width (signed k z) = k

-- the number that a field's digits are
abbrev pub value : Field → ℕ
value (unsigned k n) = n
value (signed k z) = twos_complement k z

-- the fields' digits, one after another
unfoldable pub spelling : List Field → List ℕ
spelling [] = []
spelling (f ∷ fs) = digits (width f) (value f) ++ spelling fs

-- how many digits fields have together
abbrev pub total_width : List Field → ℕ
total_width [] = 0
total_width (f ∷ fs) = width f + total_width fs

-- the number that the digits of fields are, one field after another
abbrev pub number_of_fields : List Field → ℕ
number_of_fields [] = 0
number_of_fields (f ∷ fs) = value f * 2 ^ total_width fs + number_of_fields fs
