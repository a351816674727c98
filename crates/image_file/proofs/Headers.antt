-- A header that is read is the one that was written, and what was written is read again.
use Rattle.std.proofs.Common.{◌≡◌, ℕ, ◌+◌, ◌^◌, ◌<◌, ◌≤◌, List, [], ◌++◌, length, drop}
use Rattle.std.proofs.Common.{refl, sym, ap, ◌∙◌, append_assoc, append-nil, arith, length-append}
use Rattle.std.proofs.lemmas.List.{take-append-drop, drop-drop, drop_at, length-drop}
use Rattle.image_file.specs.Fields.{IsBytes, number_bytes, number_of_bytes}
use Rattle.image_file.specs.Spelling.{header_bytes}
use Rattle.image_file.specs.Reading.{processors_at, slim_at}
use Rattle.image_file.proofs.Numbers.{length-number_bytes, number_again, number_back}
use Rattle.image_file.proofs.Sequences.{IsBytes-drop}

-- the number at a place, and the rest
pub number_cut : (place size : ℕ) (bytes : List ℕ) → IsBytes bytes → place + size ≤ length bytes
    → drop place bytes ≡ number_bytes size (number_of_bytes size (drop place bytes)) ++ drop (place + size) bytes
number_cut place size bytes are_bytes long =
    let here = drop place bytes in
    let room : size ≤ length here = omega (arith, length-drop place bytes) in
    let front = number_back size here (IsBytes-drop place bytes are_bytes) room in
    sym (take-append-drop size here) ∙ (λ i. sym front i ++ drop-drop size place bytes i)

-- a number that was written is read, and what stands behind it
pub record IsNext (place size n : ℕ) (bytes rest : List ℕ) : Type 0 where
  pub value : number_of_bytes size (drop place bytes) ≡ n
  pub after : drop (place + size) bytes ≡ rest

pub number_after : (place size n : ℕ) (bytes rest : List ℕ) → drop place bytes ≡ number_bytes size n ++ rest
    → drop (place + size) bytes ≡ rest
number_after place size n bytes rest stands =
    sym (drop-drop size place bytes) ∙ ap (drop size) stands
    ∙ drop_at (number_bytes size n) rest size (length-number_bytes size n)

pub number_next : (place size n : ℕ) (bytes rest : List ℕ) → n < 256 ^ size
    → drop place bytes ≡ number_bytes size n ++ rest → IsNext place size n bytes rest
number_next place size n bytes rest fits stands = record {
  value = ap (number_of_bytes size) stands ∙ number_again size n rest fits;
  after = number_after place size n bytes rest stands;
}

joined : (bytes x rest y tail : List ℕ) → bytes ≡ x ++ rest → rest ≡ y ++ tail → bytes ≡ (x ++ y) ++ tail
joined bytes x rest y tail first second =
    first ∙ ap (λ r. x ++ r) second ∙ sym (append_assoc x y tail)

-- what stands behind the 16 bytes that follow the chain limit
pub tail_end : (k : ℕ) (b : List ℕ) → drop 16 (drop (10 + k) b) ≡ drop (26 + k) b
tail_end k b =
    let all : 10 + k + 16 ≡ 26 + k = omega arith in drop-drop 16 (10 + k) b ∙ ap (λ (n : ℕ). drop n b) all

-- bytes begin with the header of the numbers that they say, where their chain limit has k bytes
pub header_back : (k limit : ℕ) (b : List ℕ) → IsBytes b → 26 + k ≤ length b
    → number_bytes k (number_of_bytes k (drop 10 b)) ≡ number_bytes k limit
    → let t = drop (10 + k) b in
    b ≡ header_bytes (number_of_bytes 4 b) (number_of_bytes 2 (drop 4 b)) (processors_at b) (slim_at b) k limit
    (number_of_bytes 4 t) (number_of_bytes 4 (drop 4 t)) (number_of_bytes 4 (drop 8 t)) (number_of_bytes 4 (drop 12 t))
    ++ drop (26 + k) b
unfolding header_bytes
header_back k limit b are_bytes long chain =
    let t = drop (10 + k) b in
    let rest = drop (26 + k) b in
    let t_bytes = IsBytes-drop (10 + k) b are_bytes in
    let t_long : 16 ≤ length t = omega (arith, length-drop (10 + k) b) in
    let t12 = joined (drop 12 t) _ (drop 16 t) [] rest (number_cut 12 4 t t_bytes (omega arith)) (tail_end k b) in
    let t8 = joined (drop 8 t) _ (drop 12 t) _ rest (number_cut 8 4 t t_bytes (omega arith)) t12 in
    let t4 = joined (drop 4 t) _ (drop 8 t) _ rest (number_cut 4 4 t t_bytes (omega arith)) t8 in
    let t0 = joined t _ (drop 4 t) _ rest (number_cut 0 4 t t_bytes (omega arith)) t4 in
    let limit_cut = number_cut 10 k b are_bytes (omega arith) ∙ ap (λ x. x ++ t) chain in
    let c10 = joined (drop 10 b) _ t _ rest limit_cut t0 in
    let c8 = joined (drop 8 b) _ (drop 10 b) _ rest (number_cut 8 2 b are_bytes (omega arith)) c10 in
    let c6 = joined (drop 6 b) _ (drop 8 b) _ rest (number_cut 6 2 b are_bytes (omega arith)) c8 in
    let c4 = joined (drop 4 b) _ (drop 6 b) _ rest (number_cut 4 2 b are_bytes (omega arith)) c6 in
    joined b _ (drop 4 b) _ rest (number_cut 0 4 b are_bytes (omega arith)) c4

-- the numbers that bytes with this header say
pub record HasHeader (k : ℕ) (b : List ℕ) (m v p s l r t w c : ℕ) (tail : List ℕ) : Type 0 where
  pub magic : number_of_bytes 4 b ≡ m
  pub version : number_of_bytes 2 (drop 4 b) ≡ v
  pub processors : processors_at b ≡ p
  pub slim : slim_at b ≡ s
  pub chain_limit : l < 256 ^ k → number_of_bytes k (drop 10 b) ≡ l
  pub retry_limit : number_of_bytes 4 (drop (10 + k) b) ≡ r
  pub trap_entry : number_of_bytes 4 (drop 4 (drop (10 + k) b)) ≡ t
  pub words : number_of_bytes 4 (drop 8 (drop (10 + k) b)) ≡ w
  pub cells : number_of_bytes 4 (drop 12 (drop (10 + k) b)) ≡ c
  pub after : drop (26 + k) b ≡ tail

pub header_again : (k : ℕ) (b : List ℕ) (m v p s l r t w c : ℕ) (tail : List ℕ)
    → m < 2 ^ 32 → v < 2 ^ 16 → p < 2 ^ 16 → s < 2 ^ 16 → r < 2 ^ 32 → t < 2 ^ 32 → w < 2 ^ 32 → c < 2 ^ 32
    → b ≡ header_bytes m v p s k l r t w c ++ tail → HasHeader k b m v p s l r t w c tail
unfolding header_bytes
header_again k b m v p s l r t w c tail fm fv fp fs fr ft fw fc stands =
    let end = drop (10 + k) b in
    let t22 = number_bytes 4 c ++ tail in
    let t18 = number_bytes 4 w ++ t22 in
    let t14 = number_bytes 4 t ++ t18 in
    let t10 = number_bytes 4 r ++ t14 in
    let tl = number_bytes k l ++ t10 in
    let t8 = number_bytes 2 s ++ tl in
    let t6 = number_bytes 2 p ++ t8 in
    let t4 = number_bytes 2 v ++ t6 in
    let whole : b ≡ number_bytes 4 m ++ t4 = stands ∙ simp (append_assoc, append-nil) refl in
    let n0 = number_next 0 4 m b t4 fm whole in
    let n4 = number_next 4 2 v b t6 fv n0.after in
    let n6 = number_next 6 2 p b t8 fp n4.after in
    let n8 = number_next 8 2 s b tl fs n6.after in
    let limit = n8.after in
    let e0 = number_next 0 4 r end t14 fr (number_after 10 k l b t10 limit) in
    let e4 = number_next 4 4 t end t18 ft e0.after in
    let e8 = number_next 8 4 w end t22 fw e4.after in
    let e12 = number_next 12 4 c end tail fc e8.after in
    record {
      magic = n0.value;
      version = n4.value;
      processors = n6.value;
      slim = n8.value;
      chain_limit = λ fl. ap (number_of_bytes k) limit ∙ number_again k l t10 fl;
      retry_limit = e0.value;
      trap_entry = e4.value;
      words = e8.value;
      cells = e12.value;
      after = sym (tail_end k b) ∙ e12.after;
    }

pub length-header_bytes : (m v p s k l r t w c : ℕ) → length (header_bytes m v p s k l r t w c) ≡ 26 + k
unfolding header_bytes
length-header_bytes m v p s k l r t w c = simp (length-append, length-number_bytes) (omega arith)

-- the fields of a header, added one by one
pub header_put : (out : List ℕ) (m v p s k l r t w c : ℕ)
    → ((((((((out ++ number_bytes 4 m) ++ number_bytes 2 v) ++ number_bytes 2 p) ++ number_bytes 2 s)
    ++ number_bytes k l)
    ++ number_bytes 4 r)
    ++ number_bytes 4 t)
    ++ number_bytes 4 w)
    ++ number_bytes 4 c
    ≡ out ++ header_bytes m v p s k l r t w c
unfolding header_bytes
header_put out m v p s k l r t w c = simp (append_assoc, append-nil) refl
