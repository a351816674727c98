-- Bytes without a fault stand for the image that is read at their places.
use Rattle.std.proofs.Common.{◌≡◌, ℕ, ◌*◌, ◌^◌, ◌<◌, ◌≤◌, false, List, [], ◌++◌, length, take, drop}
use Rattle.std.proofs.Common.{sym, ap, ◌∙◌, append-nil, arith}
use Rattle.std.specs.Prelude.{nat_le}
use Rattle.std.specs.List.{flat_map}
use Rattle.std.proofs.Math.Seq.{take-add}
use Rattle.std.proofs.lemmas.Bool.Decides.{nat_tests}
use Rattle.std.proofs.lemmas.List.{drop-drop, length-drop, nil_from_length}
use Rattle.tag_memory.specs.Cell.{tag_number}
use Rattle.tag_memory.specs.TagNumber.{tag_number-cell_of}
use Rattle.image_file.specs.ImageValue.{IsWithin}
use Rattle.image_file.specs.Fields.{IsBytes, number_bytes, number_of_bytes}
use Rattle.image_file.specs.Spelling.{entry_bytes, word_bytes, cell_bytes, header_bytes, bytes_of_image, Fits, Stands}
use Rattle.image_file.specs.Versions.{chain_size, tail_place}
use Rattle.image_file.specs.Reading.{profile_at, processors_at, slim_at, chain_limit_at, tail_at}
use Rattle.image_file.specs.Reading.{retry_limit_at, trap_entry_at, words_at, cells_at}
use Rattle.image_file.specs.Reading.{version_at, entries_place, program_place, cells_place}
use Rattle.image_file.specs.Reading.{entries_from, program_from, tag_byte, tags_from, cell_from, cells_from, image_at}
use Rattle.image_file.proofs.Profiles.{version_is, chain_of_one, chain_back}
use Rattle.image_file.proofs.Limits.{within}
use Rattle.image_file.proofs.Searches.{none_fails}
use Rattle.image_file.proofs.Numbers.{number_back, number_below}
use Rattle.image_file.proofs.Sequences.{IsBytes-drop, length-parts_of, get_or-parts_of, parts_back, parts_all}
use Rattle.image_file.proofs.Headers.{header_back}
use Rattle.image_file.proofs.Sound.{IsSound}

pub image_within : (b : List ℕ) → IsSound b → IsWithin (image_at b)
unfolding image_at
image_within b s =
    let processors = length-parts_of 4 (number_of_bytes 4) (processors_at b) (drop (entries_place b) b) in
    let words = length-parts_of 8 (number_of_bytes 8) (words_at b) (drop (program_place b) b) in
    let cells = length-parts_of 9 cell_from (cells_at b) (drop (cells_place b) b) in
    within (image_at b) (chain_of_one (profile_at b) b) (rw (processors, words, cells) s.counts) (rw words s.entries)

image_fits : (b : List ℕ) → IsBytes b → Fits (image_at b)
unfolding image_at
image_fits b are_bytes =
    let program = IsBytes-drop (program_place b) b are_bytes in
    let cells = IsBytes-drop (cells_place b) b are_bytes in
    let tail = IsBytes-drop (tail_place (profile_at b)) b are_bytes in
    record {
      retry_limit = number_below 4 (tail_at b) tail;
      trap_entry = number_below 4 (drop 4 (tail_at b)) (IsBytes-drop 4 (tail_at b) tail);
      program = parts_all (λ w. w < 2 ^ 64) 8 (number_of_bytes 8) (number_below 8) (words_at b)
          (drop (program_place b) b) program;
      cells = parts_all (λ c. c.value < 2 ^ 64) 9 cell_from (number_below 8) (cells_at b)
          (drop (cells_place b) b) cells;
    }

cell_back : (b : List ℕ) → IsBytes b × (tag_byte b < 16) → 9 ≤ length b → cell_bytes (cell_from b) ≡ take 9 b
cell_back b fits long =
    let tags : number_bytes 1 (tag_number (cell_from b)) ≡ take 1 (drop 8 b) =
    ap (number_bytes 1) (tag_number-cell_of (number_of_bytes 8 b) (tag_byte b) fits.1)
    ∙ number_back 1 (drop 8 b) (IsBytes-drop 8 b fits.0) (omega (arith, length-drop 8 b)) in
    let value : number_bytes 8 (number_of_bytes 8 b) ≡ take 8 b = number_back 8 b fits.0 (omega arith) in
    (λ i. value i ++ tags i) ∙ sym (take-add 8 1 b)

tag_below : (b : List ℕ) → IsSound b → (k : ℕ) → k < cells_at b
    → tag_byte (drop (9 * k) (drop (cells_place b) b)) < 16
tag_below b s k here =
    let cells = drop (cells_place b) b in
    let all = length-parts_of 9 tag_byte (cells_at b) cells in
    let passes = none_fails (λ t. nat_le 16 t) (tags_from (cells_at b) cells) s.tags k 0 (omega arith) in
    let is = get_or-parts_of 9 tag_byte (cells_at b) cells k 0 here in
    let small : nat_le 16 (tag_byte (drop (9 * k) cells)) ≡ false = rw is at passes in
    grind (arith, nat_tests)

-- the three lists, each in front of the next
entries_back : (b : List ℕ) → IsBytes b → IsSound b
    → drop (entries_place b) b ≡ flat_map entry_bytes (entries_from (processors_at b) (drop (entries_place b) b)) ++ drop (program_place b) b
entries_back b are_bytes s =
    let rest = drop (entries_place b) b in
    let p = processors_at b in
    let bytes = IsBytes-drop (entries_place b) b are_bytes in
    let whole = s.whole in
    let room : 4 * p ≤ length rest = omega (arith, length-drop (entries_place b) b) in
    parts_back IsBytes 4 (number_of_bytes 4) entry_bytes (number_back 4) p rest room
    (λ k below. IsBytes-drop (4 * k) rest bytes)
    ∙ ap (λ r. flat_map entry_bytes (entries_from p rest) ++ r) (drop-drop (4 * p) (entries_place b) b)

program_back : (b : List ℕ) → IsBytes b → IsSound b
    → drop (program_place b) b
    ≡ flat_map word_bytes (program_from (words_at b) (drop (program_place b) b)) ++ drop (cells_place b) b
program_back b are_bytes s =
    let place = program_place b in
    let rest = drop place b in
    let w = words_at b in
    let bytes = IsBytes-drop place b are_bytes in
    let whole = s.whole in
    let room : 8 * w ≤ length rest = omega (arith, length-drop place b) in
    parts_back IsBytes 8 (number_of_bytes 8) word_bytes (number_back 8) w rest room
    (λ k below. IsBytes-drop (8 * k) rest bytes)
    ∙ ap (λ r. flat_map word_bytes (program_from w rest) ++ r) (drop-drop (8 * w) place b)

cells_back : (b : List ℕ) → IsBytes b → IsSound b
    → drop (cells_place b) b ≡ flat_map cell_bytes (cells_from (cells_at b) (drop (cells_place b) b))
cells_back b are_bytes s =
    let place = cells_place b in
    let rest = drop place b in
    let c = cells_at b in
    let bytes = IsBytes-drop place b are_bytes in
    let whole = s.whole in
    let room : 9 * c ≤ length rest = omega (arith, length-drop place b) in
    let none : drop (9 * c) rest ≡ [] =
    nil_from_length (drop (9 * c) rest) (omega (arith, length-drop (9 * c) rest, length-drop place b)) in
    parts_back (λ x. IsBytes x × (tag_byte x < 16)) 9 cell_from cell_bytes cell_back c rest room
    (λ k below. (IsBytes-drop (9 * k) rest bytes, tag_below b s k below))
    ∙ ap (λ r. flat_map cell_bytes (cells_from c rest) ++ r) none
    ∙ append-nil (flat_map cell_bytes (cells_from c rest))

image_back : (b : List ℕ) → IsBytes b → IsSound b → b ≡ bytes_of_image (image_at b)
unfolding image_at bytes_of_image
image_back b are_bytes s =
    let processors = length-parts_of 4 (number_of_bytes 4) (processors_at b) (drop (entries_place b) b) in
    let words = length-parts_of 8 (number_of_bytes 8) (words_at b) (drop (program_place b) b) in
    let cells = length-parts_of 9 cell_from (cells_at b) (drop (cells_place b) b) in
    let last = program_back b are_bytes s
    ∙ ap (λ r. flat_map word_bytes (program_from (words_at b) (drop (program_place b) b)) ++ r)
    (cells_back b are_bytes s) in
    let lists = entries_back b are_bytes s
    ∙ ap (λ r. flat_map entry_bytes (entries_from (processors_at b) (drop (entries_place b) b)) ++ r) last in
    let profile = profile_at b in
    let version = version_is (version_at b) profile s.versioned.known in
    header_back (chain_size profile) (chain_limit_at b) b are_bytes s.versioned.long (chain_back profile b)
    ∙ (λ i. header_bytes (s.magic_stands i) (version i) (sym processors i) (slim_at b) (chain_size profile)
    (chain_limit_at b) (retry_limit_at b)
    (trap_entry_at b) (sym words i) (sym cells i) ++ lists i)

pub stands_at : (b : List ℕ) → IsBytes b → IsSound b → Stands b (image_at b)
stands_at b are_bytes s = record {
  within = image_within b s;
  fits = image_fits b are_bytes;
  spelled = image_back b are_bytes s;
}
