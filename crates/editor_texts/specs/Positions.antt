-- Places in a line, by its bytes, which are UTF-8, and by units of UTF-16.
use Rattle.std.specs.Prelude.{ℕ, nat_lt, if◌then◌else◌, List, take}
use Rattle.std.specs.List.{sum_by}

-- How many units the character takes that begins with a byte. One below 128 is a character, one from 128 to 191 begins
-- none, and one from 240 on begins a character of four bytes, which takes two units.
abbrev pub units_of : ℕ → ℕ
units_of b = if nat_lt b 128 then 1 else (if nat_lt b 192 then 0 else (if nat_lt b 240 then 1 else 2))

-- how many units the characters take that begin within the first k bytes
abbrev pub units_before : List ℕ → ℕ → ℕ
units_before line k = sum_by units_of (take k line)
