-- Parts have no fault exactly within the limits.
use Rattle.std.proofs.Common.{◌≡◌, ℕ, ◌<◌, ◌≤◌, List, length, Option, Some, None, arith}
use Rattle.std.proofs.Common.{refl, sym}
use Rattle.std.specs.Prelude.{nat_le}
use Rattle.std.specs.List.{All}
use Rattle.std.proofs.lemmas.Bool.Decides.{nat_tests}
use Rattle.std.proofs.lemmas.List.Quantifiers.{position-Some}
use Rattle.insn_word.specs.declared.profiles.Profile.TheVariants.{One}
use Rattle.tag_memory.specs.Storage.{default_chain_limit, most_chain_limit, most_memory_words}
use Rattle.image_file.specs.ImageValue.{ImageValue, IsWithin, most_processors, most_program_words}
use Rattle.image_file.proofs.Searches.{none_fails}
use Rattle.image_file.specs.Parts.{count_fault, entry_fault}
use Rattle.image_file.specs.declared.fault.CountField.{CountField}

pub record AreCounts (processors slim limit words cells : ℕ) : Type 0 where
  pub some_processors : 1 ≤ processors
  pub few_processors : processors ≤ most_processors
  pub some_slim : 1 ≤ slim
  pub few_slim : slim ≤ 128
  pub chain : limit ≤ most_chain_limit
  pub some_words : 1 ≤ words
  pub few_words : words ≤ most_program_words
  pub some_cells : 1 ≤ cells
  pub few_cells : cells ≤ most_memory_words

pub counts_stand : (p s l w c : ℕ) → count_fault p s l w c ≡ None → AreCounts p s l w c
counts_stand p s l w c e = record {
  some_processors = grind (arith, nat_tests);
  few_processors = grind (arith, nat_tests);
  some_slim = grind (arith, nat_tests);
  few_slim = grind (arith, nat_tests);
  chain = grind (arith, nat_tests);
  some_words = grind (arith, nat_tests);
  few_words = grind (arith, nat_tests);
  some_cells = grind (arith, nat_tests);
  few_cells = grind (arith, nat_tests);
}

pub no_count_fault : (p s l w c : ℕ) → AreCounts p s l w c → count_fault p s l w c ≡ None
no_count_fault p s l w c h = grind (arith, nat_tests)

pub entries_stand : (words : ℕ) (entries : List ℕ) → entry_fault words entries ≡ None → All (λ e. e < words) entries
entries_stand words entries none k d here =
    let below = none_fails (λ e. nat_le words e) entries none k d here in grind (arith, nat_tests)

pub an_entry_fails : (words : ℕ) (entries : List ℕ) (p : ℕ)
    → entry_fault words entries ≡ Some p → All (λ e. e < words) entries → ⊥
an_entry_fails words entries p e stand =
    let at = position-Some (λ e. nat_le words e) entries p 0 e in
    let below = stand p 0 at.0 in
    grind (arith, nat_tests)

pub within : (i : ImageValue) → (i.profile ≡ One → i.chain_limit ≡ default_chain_limit)
    → count_fault (length i.entries) i.slim i.chain_limit (length i.program) (length i.cells) ≡ None
    → entry_fault (length i.program) i.entries ≡ None → IsWithin i
within i of_one counts entries =
    let h = counts_stand (length i.entries) i.slim i.chain_limit (length i.program) (length i.cells) counts in
    record {
      some_processors = h.some_processors;
      few_processors = h.few_processors;
      some_slim = h.some_slim;
      few_slim = h.few_slim;
      chain = h.chain;
      chain_of_one = of_one;
      some_words = h.some_words;
      few_words = h.few_words;
      some_cells = h.some_cells;
      few_cells = h.few_cells;
      entries_stand = entries_stand (length i.program) i.entries entries;
    }

-- no fault of the counts, and none of the entries
pub within_none : (i : ImageValue) (counts : Option CountField) (words : ℕ) (entries : Option ℕ)
    → (i.profile ≡ One → i.chain_limit ≡ default_chain_limit)
    → counts ≡ count_fault (length i.entries) i.slim i.chain_limit (length i.program) (length i.cells)
    → ((field : CountField) → counts ≡ Some field → ⊥)
    → entries ≡ entry_fault words i.entries → words ≡ length i.program
    → ((p : ℕ) → entries ≡ Some p → ⊥) → IsWithin i
within_none i None words None of_one counts-is counts entries-is words-is entries =
    let none : entry_fault (length i.program) i.entries ≡ None = rw (← words-is) (sym entries-is) in
    within i of_one (sym counts-is) none
within_none i (Some field) words entries of_one counts-is counts entries-is words-is entry = absurd (counts field refl)
within_none i None words (Some p) of_one counts-is counts entries-is words-is entries = absurd (entries p refl)
