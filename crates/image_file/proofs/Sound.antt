-- What it is for bytes to have no fault.
use Rattle.std.proofs.Common.{◌≡◌, ℕ, ◌*◌, ◌≤◌, Bool, true, false, not, List, length, drop, Option, Some, None}
use Rattle.std.proofs.Common.{if◌then◌else◌, refl, arith, length-drop}
use Rattle.std.specs.Prelude.{nat_lt, ◌==◌}
use Rattle.std.specs.Option.{option_map}
use Rattle.std.proofs.lemmas.Bool.Decides.{nat_tests}
use Rattle.image_file.specs.declared.fault.ImageFault.{ImageFault}
use Rattle.image_file.specs.declared.fault.ImageFault.TheVariants.{Short, Magic, Trailing, Entry, TagByte}
use Rattle.image_file.specs.declared.fault.ImageFault.TheVariants.{Count}
use Rattle.image_file.specs.Fault.{first_of}
use Rattle.image_file.specs.Fields.{number_of_bytes}
use Rattle.image_file.specs.Parts.{count_fault, entry_fault}
use Rattle.image_file.specs.Versions.{header_length}
use Rattle.image_file.specs.Spelling.{magic}
use Rattle.image_file.proofs.Profiles.{IsVersioned, versioned}
use Rattle.image_file.specs.Reading.{profile_at, chain_limit_at, entries_place}
use Rattle.image_file.specs.Reading.{front_fault, header_fault, body_fault, image_fault, tag_fault}
use Rattle.image_file.specs.Reading.{processors_at, slim_at, words_at, cells_at, asked_length, program_place}
use Rattle.image_file.specs.Reading.{cells_place}
use Rattle.image_file.specs.Reading.{entries_from, tags_from}

pub record IsSound (b : List ℕ) : Type 0 where
  pub versioned : IsVersioned b
  pub magic_stands : number_of_bytes 4 b ≡ magic
  pub counts : count_fault (processors_at b) (slim_at b) (chain_limit_at b) (words_at b) (cells_at b) ≡ None
  pub entries : entry_fault (words_at b) (entries_from (processors_at b) (drop (entries_place b) b)) ≡ None
  pub tags : tag_fault (tags_from (cells_at b) (drop (cells_place b) b)) ≡ None
  pub whole : length b ≡ asked_length b

first_of-none : (earlier later : Option ImageFault) → first_of earlier later ≡ None
    → (earlier ≡ None) × (later ≡ None)
first_of-none (Some f) later e = absurd cc
first_of-none None later e = (refl, e)

option_map-none : {A B : Type 0} (f : A → B) (o : Option A) → option_map f o ≡ None → o ≡ None
option_map-none f None e = refl
option_map-none f (Some x) e = absurd cc

guard-none : (b : Bool) (f : ImageFault) (later : Option ImageFault) → (if b then Some f else later) ≡ None
    → (b ≡ false) × (later ≡ None)
guard-none true f later e = absurd cc
guard-none false f later e = (refl, e)

pub counts_from_header : (b : List ℕ) → header_fault b ≡ None
    → count_fault (processors_at b) (slim_at b) (chain_limit_at b) (words_at b) (cells_at b) ≡ None
counts_from_header b none =
    let counts = count_fault (processors_at b) (slim_at b) (chain_limit_at b) (words_at b) (cells_at b) in
    let parts = first_of-none (front_fault b) (option_map Count counts) none in
    option_map-none Count counts parts.1

pub sound : (b : List ℕ) → header_fault b ≡ None → body_fault b ≡ None → IsSound b
unfolding front_fault body_fault
sound b header body =
    let counts = count_fault (processors_at b) (slim_at b) (chain_limit_at b) (words_at b) (cells_at b) in
    let front = first_of-none (front_fault b) (option_map Count counts) header in
    let long = guard-none (nat_lt (length b) 26) Short _ front.0 in
    let starts = guard-none (not (number_of_bytes 4 b == magic)) Magic _ long.1 in
    let entries = entry_fault (words_at b) (entries_from (processors_at b) (drop (entries_place b) b)) in
    let tags = tag_fault (tags_from (cells_at b) (drop (cells_place b) b)) in
    let asked = guard-none (nat_lt (length b) (asked_length b)) Short _ body in
    let parts = first_of-none (option_map Entry entries) _ asked.1 in
    let rest = first_of-none (option_map TagByte tags) _ parts.1 in
    let ended = guard-none (nat_lt (asked_length b) (length b)) Trailing None rest.1 in
    record {
      versioned = versioned b starts.1;
      magic_stands = let e = starts.0 in grind (arith, nat_tests);
      counts = option_map-none Count counts front.1;
      entries = option_map-none Entry entries parts.0;
      tags = option_map-none TagByte tags rest.0;
      whole = let e = asked.0 in let f = ended.0 in grind (arith, nat_tests);
    }

-- and the other way round
pub no_fault : (b : List ℕ) → IsSound b → image_fault b ≡ None
unfolding front_fault body_fault
no_fault b s =
    let long : nat_lt (length b) (header_length (profile_at b)) ≡ false =
    let h = s.versioned.long in grind (arith, nat_tests) in
    let begun : nat_lt (length b) 26 ≡ false = let h = s.versioned.long in grind (arith, nat_tests) in
    let starts : (number_of_bytes 4 b == magic) ≡ true = let h = s.magic_stands in grind (arith, nat_tests) in
    let asked : nat_lt (length b) (asked_length b) ≡ false = let h = s.whole in grind (arith, nat_tests) in
    let ended : nat_lt (asked_length b) (length b) ≡ false = let h = s.whole in grind (arith, nat_tests) in
    rw (begun, starts, s.versioned.known, long, s.counts, asked, s.entries, s.tags, ended) refl

pub sound_from : (b : List ℕ) → image_fault b ≡ None → IsSound b
sound_from b none =
    let parts = first_of-none (header_fault b) (body_fault b) none in sound b parts.0 parts.1

-- what the header asks for is there
pub record HasRoom (b : List ℕ) : Type 0 where
  pub program : program_place b ≤ length b
  pub cells : cells_place b ≤ length b
  pub for_entries : 4 * processors_at b ≤ length (drop (entries_place b) b)
  pub for_program : 8 * words_at b ≤ length (drop (program_place b) b)
  pub for_cells : 9 * cells_at b ≤ length (drop (cells_place b) b)

pub room : (b : List ℕ) → IsSound b → HasRoom b
room b s =
    let whole = s.whole in
    record {
      program = omega arith;
      cells = omega arith;
      for_entries = omega (arith, length-drop (entries_place b) b);
      for_program = omega (arith, length-drop (program_place b) b);
      for_cells = omega (arith, length-drop (cells_place b) b);
    }
