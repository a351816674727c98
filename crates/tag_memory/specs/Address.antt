-- The fields of a pointer: bits 0 to 47 are the byte address, 48 to 58 are zero, 59 and 60 are the control,
-- 61 to 63 disable forwarding and the two trap bits.
use Rattle.std.specs.Prelude.{ℕ, ◌/◌, ◌%◌, ◌^◌, ◌==◌, Bool, not, ◌||◌}

-- the byte address
abbrev pub address_of : ℕ → ℕ
address_of p = p % 2 ^ 48

-- the control as a number: 0 normal, 1 reserved, 2 future, 3 sync
abbrev pub pointer_control_number : ℕ → ℕ
pointer_control_number p = p / 2 ^ 59 % 4

-- whether no reference may use the pointer
abbrev pub is_reserved : ℕ → Bool
is_reserved p = not (p / 2 ^ 48 % 2 ^ 11 == 0) || (pointer_control_number p == 1)
