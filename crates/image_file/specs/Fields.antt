-- The fields of an image file: numbers with their highest byte first, and lists of parts that have one size.
use Rattle.std.specs.Prelude.{ℕ, zero, suc, List, [], ◌∷◌, drop, ◌<◌, slice_index}
use Rattle.byteorder.specs.Endian.{big_bytes, big_number}

-- a list of bytes
abbrev pub IsBytes : List ℕ → Type 0
IsBytes bytes = (k : ℕ) → slice_index bytes k < 256

-- the size bytes of a number
unfoldable pub number_bytes : (size n : ℕ) → List ℕ
number_bytes size n = big_bytes size n

-- the number whose bytes stand in front
unfoldable pub number_of_bytes : (size : ℕ) → List ℕ → ℕ
number_of_bytes size bytes = big_number size bytes

-- count parts of this size, one after another, as value reads each in front
unfoldable pub parts_of : {X : Type 0} → (size : ℕ) → (value : List ℕ → X) → (count : ℕ) → List ℕ → List X
parts_of size value zero bytes = []
parts_of size value (suc n) bytes = value bytes ∷ parts_of size value n (drop size bytes)
