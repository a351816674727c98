-- Numbers and their bytes: what is written is read back, and what is read is written back, at every size.
use Rattle.std.proofs.Common.{◌≡◌, ℕ, zero, suc, ◌+◌, ◌*◌, ◌/◌, ◌%◌, ◌^◌, ◌<◌, ◌≤◌, List, [], ◌∷◌, ◌++◌, length, take}
use Rattle.std.proofs.Common.{refl, sym, ap, ◌∙◌, arith}
use Rattle.std.proofs.Math.Nat.{div-eq_of_lt, div-one, mul_assoc, mul-add-div_right, one-le-pow, pow-succ'}
use Rattle.std.specs.Int.{byte_at, bytes_high_first}
use Rattle.byteorder.specs.Endian.{big_number, big_bytes}
use Rattle.byteorder.specs.Numbers.{big_from-cons, big_from-lt, big_number-reads_back, length-bytes_high_first}
use Rattle.image_file.specs.Fields.{IsBytes, number_bytes, number_of_bytes}

-- a byte of a number, by its place
byte_at-pow : (k x : ℕ) → byte_at k x ≡ x / 256 ^ k % 256
byte_at-pow zero x = ap (λ (y : ℕ). y % 256) (sym (div-one x))
byte_at-pow (suc k) x = refl

pow_above : (n : ℕ) → zero < 256 ^ n
pow_above n = let h = one-le-pow n 256 (omega arith) in omega arith

-- the byte in front of n others
byte_at-front : (n m r : ℕ) → byte_at n (m * 256 ^ n + r) ≡ (m + r / 256 ^ n) % 256
byte_at-front n m r =
    byte_at-pow n (m * 256 ^ n + r) ∙ ap (λ (y : ℕ). y % 256) (mul-add-div_right (pow_above n) m r)

-- what stands above n bytes does not reach them
bytes-skip : (n m r : ℕ) → bytes_high_first n (m * 256 ^ n + r) ≡ bytes_high_first n r
bytes-skip zero m r = refl
bytes-skip (suc n) m r =
    let moved : m * 256 ^ suc n + r ≡ m * 256 * 256 ^ n + r =
    ap (λ (p : ℕ). m * p + r) (pow-succ' 256 n) ∙ ap (λ (p : ℕ). p + r) (sym (mul_assoc m 256 (256 ^ n))) in
    let high : (m * 256 + r / 256 ^ n) % 256 ≡ r / 256 ^ n % 256 = omega arith in
    let first : byte_at n (m * 256 ^ suc n + r) ≡ byte_at n r =
    ap (byte_at n) moved ∙ byte_at-front n (m * 256) r ∙ high ∙ sym (byte_at-pow n r) in
    let rest : bytes_high_first n (m * 256 ^ suc n + r) ≡ bytes_high_first n r =
    ap (bytes_high_first n) moved ∙ bytes-skip n (m * 256) r in
    λ i. first i ∷ rest i

bytes_back : (n : ℕ) (bytes : List ℕ) → IsBytes bytes → n ≤ length bytes
    → big_bytes n (big_number n bytes) ≡ take n bytes
bytes_back zero bytes are_bytes long = refl
bytes_back (suc n) [] are_bytes long = absurd (omega arith)
bytes_back (suc n) (b ∷ bytes) are_bytes long =
    let others : IsBytes bytes = λ k. are_bytes (suc k) in
    let r = big_number n bytes in
    let small : b < 256 = are_bytes 0 in
    let below : r < 256 ^ n = big_from-lt 0 n bytes others in
    let value : big_number (suc n) (b ∷ bytes) ≡ b * 256 ^ n + r =
    ap (λ (y : ℕ). b * 256 ^ n + y) (big_from-cons 0 n b bytes) in
    let none : r / 256 ^ n ≡ 0 = div-eq_of_lt below in
    let high : (b + r / 256 ^ n) % 256 ≡ b = omega arith in
    let first : byte_at n (big_number (suc n) (b ∷ bytes)) ≡ b =
    ap (byte_at n) value ∙ byte_at-front n b r ∙ high in
    let rest : bytes_high_first n (big_number (suc n) (b ∷ bytes)) ≡ take n bytes =
    ap (bytes_high_first n) value ∙ bytes-skip n b r ∙ bytes_back n bytes others (omega arith) in
    λ i. first i ∷ rest i

-- ---- the same of the words of this crate

pub length-number_bytes : (size n : ℕ) → length (number_bytes size n) ≡ size
unfolding number_bytes
length-number_bytes size n = length-bytes_high_first size n

-- what is written is read back
pub number_again : (size n : ℕ) (rest : List ℕ) → n < 256 ^ size → number_of_bytes size (number_bytes size n ++ rest) ≡ n
unfolding number_bytes number_of_bytes
number_again size n rest below = big_number-reads_back size n rest below

-- what is read is written back
pub number_back : (size : ℕ) (bytes : List ℕ) → IsBytes bytes → size ≤ length bytes
    → number_bytes size (number_of_bytes size bytes) ≡ take size bytes
unfolding number_bytes number_of_bytes
number_back size bytes are_bytes long = bytes_back size bytes are_bytes long

pub number_below : (size : ℕ) (bytes : List ℕ) → IsBytes bytes → number_of_bytes size bytes < 256 ^ size
unfolding number_of_bytes
number_below size bytes are_bytes = big_from-lt 0 size bytes are_bytes
