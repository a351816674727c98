-- Bytes that stand for an image have no fault, and the image is read at their places.
use Rattle.std.proofs.Common.{◌≡◌, ℕ, ◌*◌, ◌^◌, ◌<◌, ◌≤◌, false, List, [], ◌∷◌, ◌++◌, length, map, drop}
use Rattle.std.proofs.Common.{None, Some, subst, sym, ap, ◌∙◌, append_assoc, append-nil, arith, length-append}
use Rattle.std.specs.Prelude.{nat_le}
use Rattle.std.specs.List.{flat_map, All, AllByRecursion}
use Rattle.std.proofs.lemmas.Bool.Decides.{nat_tests}
use Rattle.std.proofs.lemmas.List.{drop-drop, drop_at}
use Rattle.std.proofs.lemmas.List.Elements.{recursion_from_All}
use Rattle.insn_word.specs.declared.profiles.Profile.{Profile}
use Rattle.insn_word.specs.declared.profiles.Profile.TheVariants.{One, Two}
use Rattle.tag_memory.specs.Cell.{Cell, cell_of, tag_number}
use Rattle.image_file.specs.ImageValue.{ImageValue, IsWithin}
use Rattle.image_file.specs.SameLaws.{cell_of-tag_number}
use Rattle.image_file.proofs.TagNumbers.{tag_number-below}
use Rattle.image_file.specs.Fields.{number_bytes, number_of_bytes}
use Rattle.image_file.specs.Parts.{count_fault, entry_fault}
use Rattle.image_file.specs.Versions.{version_of, profile_of_version, chain_size}
use Rattle.image_file.specs.Spelling.{magic, entry_bytes, word_bytes, cell_bytes, header_bytes, bytes_of_image}
use Rattle.image_file.specs.Spelling.{Stands}
use Rattle.image_file.specs.Reading.{profile_at, chain_limit_at, processors_at, words_at, cells_at}
use Rattle.image_file.specs.Reading.{entries_place, program_place, cells_place, asked_length}
use Rattle.image_file.specs.Reading.{entries_from, program_from, tag_byte, tags_from, cell_from, cells_from, image_at}
use Rattle.image_file.specs.Reading.{tag_fault}
use Rattle.image_file.proofs.Profiles.{profile_again, profile_from, chain_again}
use Rattle.image_file.proofs.Limits.{AreCounts, no_count_fault}
use Rattle.image_file.proofs.Searches.{none_where_all_pass}
use Rattle.image_file.proofs.Numbers.{length-number_bytes, number_again}
use Rattle.image_file.proofs.Sequences.{IsWritten, length-written, parts_again, parts_seen}
use Rattle.image_file.proofs.Headers.{HasHeader, header_again, length-header_bytes}
use Rattle.image_file.proofs.Sound.{IsSound}

numbers_written : (size limit : ℕ) → limit ≤ 256 ^ size
    → IsWritten (λ n. n < limit) size (number_of_bytes size) (number_bytes size) (λ n. n)
numbers_written size limit wide = record {
  sized = length-number_bytes size;
  again = λ n rest below. number_again size n rest (omega arith);
}

length-cell_bytes : (c : Cell) → length (cell_bytes c) ≡ 9
length-cell_bytes c =
    omega (
      arith,
      length-append (number_bytes 8 c.value) (number_bytes 1 (tag_number c)),
      length-number_bytes 8 c.value,
      length-number_bytes 1 (tag_number c),
    )

tag_again : (c : Cell) (rest : List ℕ) → tag_byte (cell_bytes c ++ rest) ≡ tag_number c
tag_again c rest =
    let regrouped = append_assoc (number_bytes 8 c.value) (number_bytes 1 (tag_number c)) rest in
    let below = tag_number-below c in
    ap tag_byte regrouped
    ∙ ap (number_of_bytes 1)
    (drop_at (number_bytes 8 c.value) (number_bytes 1 (tag_number c) ++ rest) 8 (length-number_bytes 8 c.value))
    ∙ number_again 1 (tag_number c) rest (omega arith)

cell_again : (c : Cell) (rest : List ℕ) → c.value < 2 ^ 64 → cell_from (cell_bytes c ++ rest) ≡ c
cell_again c rest below =
    let regrouped = append_assoc (number_bytes 8 c.value) (number_bytes 1 (tag_number c)) rest in
    let value = ap (number_of_bytes 8) regrouped ∙ number_again 8 c.value (number_bytes 1 (tag_number c) ++ rest) below in
    (λ i. cell_of (value i) (tag_again c rest i)) ∙ cell_of-tag_number c

cells_written : IsWritten (λ (c : Cell). c.value < 2 ^ 64) 9 cell_from cell_bytes (λ c. c)
cells_written = record { sized = length-cell_bytes; again = cell_again }

tags_written : IsWritten (λ (c : Cell). c.value < 2 ^ 64) 9 tag_byte cell_bytes tag_number
tags_written = record { sized = length-cell_bytes; again = λ c rest below. tag_again c rest }

-- ---- the bytes of an image

abbrev entries_text : ImageValue → List ℕ
entries_text i = flat_map entry_bytes i.entries

abbrev program_text : ImageValue → List ℕ
program_text i = flat_map word_bytes i.program

abbrev cells_text : ImageValue → List ℕ
cells_text i = flat_map cell_bytes i.cells

-- the header of the image, where the chain limit has as many bytes as in profile p
abbrev SaysIn : Profile → List ℕ → ImageValue → Type 0
SaysIn p b i =
    HasHeader (chain_size p) b magic (version_of i.profile) (length i.entries) i.slim i.chain_limit i.retry_limit
    i.trap_entry (length i.program) (length i.cells)
    (entries_text i ++ (program_text i ++ cells_text i))

version_fits : (p : Profile) → version_of p < 2 ^ 16
version_fits One = omega arith
version_fits Two = omega arith

says_in : (b : List ℕ) (i : ImageValue) → Stands b i → SaysIn i.profile b i
unfolding bytes_of_image
says_in b i stands =
    let w = stands.within in
    let f = stands.fits in
    header_again (chain_size i.profile) b magic (version_of i.profile) (length i.entries) i.slim i.chain_limit
    i.retry_limit i.trap_entry (length i.program) (length i.cells)
    (entries_text i ++ (program_text i ++ cells_text i)) (omega arith) (version_fits i.profile) (omega arith)
    (omega arith)
    f.retry_limit
    f.trap_entry (omega arith) (omega arith) stands.spelled

profile_is : (b : List ℕ) (i : ImageValue) → Stands b i → profile_at b ≡ i.profile
profile_is b i stands = profile_from b i.profile ((says_in b i stands).version)

abbrev Says : List ℕ → ImageValue → Type 0
Says b i = SaysIn (profile_at b) b i

says : (b : List ℕ) (i : ImageValue) → Stands b i → Says b i
says b i stands = subst (λ p. SaysIn p b i) (sym (profile_is b i stands)) (says_in b i stands)

chain_is : (b : List ℕ) (i : ImageValue) → Stands b i → chain_limit_at b ≡ i.chain_limit
chain_is b i stands =
    let w = stands.within in
    let profile = profile_is b i stands in
    chain_again (profile_at b) i.chain_limit b (λ one. w.chain_of_one (sym profile ∙ one)) w.chain
    ((says b i stands).chain_limit)

-- what stands at each place
pub record HasLists (b : List ℕ) (i : ImageValue) : Type 0 where
  pub entries : drop (entries_place b) b ≡ entries_text i ++ (program_text i ++ cells_text i)
  pub program : drop (program_place b) b ≡ program_text i ++ cells_text i
  pub cells : drop (cells_place b) b ≡ cells_text i
  pub whole : length b ≡ asked_length b

lists : (b : List ℕ) (i : ImageValue) → Stands b i → Says b i → HasLists b i
unfolding bytes_of_image
lists b i stands h =
    let entries = length-written 4 entry_bytes (length-number_bytes 4) i.entries in
    let words = length-written 8 word_bytes (length-number_bytes 8) i.program in
    let cells = length-written 9 cell_bytes length-cell_bytes i.cells in
    let processors-is = h.processors in
    let words-is = h.words in
    let cells-is = h.cells in
    let program : drop (program_place b) b ≡ program_text i ++ cells_text i =
    sym (drop-drop (4 * processors_at b) (entries_place b) b)
    ∙ ap (drop (4 * processors_at b)) h.after
    ∙ drop_at (entries_text i) (program_text i ++ cells_text i) (4 * processors_at b) (omega arith) in
    let last : drop (cells_place b) b ≡ cells_text i =
    sym (drop-drop (8 * words_at b) (program_place b) b)
    ∙ ap (drop (8 * words_at b)) program
    ∙ drop_at (program_text i) (cells_text i) (8 * words_at b) (omega arith) in
    let header = header_bytes magic (version_of i.profile) (length i.entries) i.slim (chain_size i.profile)
    i.chain_limit i.retry_limit i.trap_entry (length i.program) (length i.cells) in
    let whole : length b ≡ asked_length b =
    omega (
      arith,
      ap length stands.spelled,
      length-append header (entries_text i ++ (program_text i ++ cells_text i)),
      length-append (entries_text i) (program_text i ++ cells_text i),
      length-append (program_text i) (cells_text i),
      length-header_bytes magic (version_of i.profile) (length i.entries) i.slim (chain_size i.profile)
          i.chain_limit i.retry_limit i.trap_entry (length i.program) (length i.cells),
      ap chain_size (profile_is b i stands),
    ) in
    record { entries = h.after; program = program; cells = last; whole = whole }

-- ---- what is read there

entries_again : (b : List ℕ) (i : ImageValue) → Stands b i → Says b i
    → entries_from (processors_at b) (drop (entries_place b) b) ≡ i.entries
entries_again b i stands h =
    let w = stands.within in
    let below : All (λ e. e < 2 ^ 32) i.entries = λ k d here. let e = w.entries_stand k d here in omega arith in
    (λ j. entries_from (h.processors j) (h.after j))
    ∙ parts_again (λ e. e < 2 ^ 32) 4 (number_of_bytes 4) entry_bytes (numbers_written 4 (2 ^ 32) (omega arith)) i.entries
    (program_text i ++ cells_text i) (recursion_from_All (λ e. e < 2 ^ 32) i.entries below)

program_again : (b : List ℕ) (i : ImageValue) → Stands b i → Says b i → HasLists b i
    → program_from (words_at b) (drop (program_place b) b) ≡ i.program
program_again b i stands h l =
    (λ j. program_from (h.words j) (l.program j))
    ∙ parts_again (λ w. w < 2 ^ 64) 8 (number_of_bytes 8) word_bytes (numbers_written 8 (2 ^ 64) (omega arith)) i.program
    (cells_text i)
    stands.fits.program

cells_again : (b : List ℕ) (i : ImageValue) → Stands b i → Says b i → HasLists b i
    → cells_from (cells_at b) (drop (cells_place b) b) ≡ i.cells
cells_again b i stands h l =
    let ended = l.cells ∙ sym (append-nil (cells_text i)) in
    (λ j. cells_from (h.cells j) (ended j))
    ∙ parts_again (λ c. c.value < 2 ^ 64) 9 cell_from cell_bytes cells_written i.cells [] stands.fits.cells

tags_again : (b : List ℕ) (i : ImageValue) → Stands b i → Says b i → HasLists b i
    → tags_from (cells_at b) (drop (cells_place b) b) ≡ map tag_number i.cells
tags_again b i stands h l =
    let ended = l.cells ∙ sym (append-nil (cells_text i)) in
    (λ j. tags_from (h.cells j) (ended j))
    ∙ parts_seen (λ c. c.value < 2 ^ 64) 9 tag_byte cell_bytes tag_number tags_written i.cells [] stands.fits.cells

pub image_again : (b : List ℕ) (i : ImageValue) → Stands b i → image_at b ≡ i
unfolding image_at
image_again b i stands =
    let h = says b i stands in
    let l = lists b i stands h in
    λ j. record {
      profile = profile_is b i stands j;
      slim = h.slim j;
      chain_limit = chain_is b i stands j;
      retry_limit = h.retry_limit j;
      trap_entry = h.trap_entry j;
      entries = entries_again b i stands h j;
      program = program_again b i stands h l j;
      cells = cells_again b i stands h l j;
    }

-- ---- and there is no fault

counts_of : (i : ImageValue) → IsWithin i → AreCounts (length i.entries) i.slim i.chain_limit (length i.program) (length i.cells)
counts_of i w = record {
  some_processors = w.some_processors;
  few_processors = w.few_processors;
  some_slim = w.some_slim;
  few_slim = w.few_slim;
  chain = w.chain;
  some_words = w.some_words;
  few_words = w.few_words;
  some_cells = w.some_cells;
  few_cells = w.few_cells;
}

entries_pass : (words : ℕ) (entries : List ℕ) → All (λ e. e < words) entries → entry_fault words entries ≡ None
entries_pass words entries stand =
    let passes : All (λ e. nat_le words e ≡ false) entries =
    λ k d here. let below = stand k d here in grind (arith, nat_tests) in
    none_where_all_pass (λ e. nat_le words e) entries
    (recursion_from_All (λ e. nat_le words e ≡ false) entries passes)

tags_pass : (cells : List Cell) → AllByRecursion (λ t. nat_le 16 t ≡ false) (map tag_number cells)
tags_pass [] = tt
tags_pass (c ∷ cells) = (let below = tag_number-below c in grind (arith, nat_tests), tags_pass cells)

pub sound_again : (b : List ℕ) (i : ImageValue) → Stands b i → IsSound b
sound_again b i stands =
    let h = says b i stands in
    let l = lists b i stands h in
    let whole = l.whole in
    record {
      versioned = record {
        known = ap profile_of_version h.version ∙ profile_again i.profile ∙ ap Some (sym (profile_is b i stands));
        long = omega arith;
      };
      magic_stands = h.magic;
      counts = (λ j. count_fault (h.processors j) (h.slim j) (chain_is b i stands j) (h.words j) (h.cells j))
          ∙ no_count_fault (length i.entries) i.slim i.chain_limit (length i.program) (length i.cells) (counts_of i stands.within);
      entries = (λ j. entry_fault (h.words j) (entries_again b i stands h j))
          ∙ entries_pass (length i.program) i.entries stands.within.entries_stand;
      tags = ap tag_fault (tags_again b i stands h l)
          ∙ none_where_all_pass (λ t. nat_le 16 t) (map tag_number i.cells) (tags_pass i.cells);
      whole = whole;
    }
