-- A draft keeps its limits, and a whole one is an image.
use Rattle.std.proofs.Common.{◌≡◌, ℕ, ◌+◌, ◌<◌, ◌≤◌, Bool, true, false, cond, ltb, leb, [], ◌∷◌, ◌++◌, length}
use Rattle.std.proofs.Common.{replicate}
use Rattle.std.proofs.Common.{Option, Some, None, Result, Ok, Err, refl, sym, subst, arith, length-append, ◌∙◌, ap}
use Rattle.std.proofs.Common.{true≢false}
use Rattle.std.specs.Prelude.{IfSome, MatchResult, OnOk, ◌&&◌}
use Rattle.std.specs.List.{All}
use Rattle.std.specs.Option.{unwrap_or}
use Rattle.std.proofs.lemmas.Bool.{ltb-true, leb-true, and_parts}
use Rattle.std.proofs.lemmas.List.{length-replicate}
use Rattle.std.proofs.lemmas.List.Elements.{All-push, All-nil}
use Rattle.tag_memory.specs.Cell.{Cell, cell_of}
use Rattle.tag_memory.specs.Storage.{default_chain_limit, most_chain_limit}
use Rattle.insn_word.specs.Fields.{number_of_fields}
use Rattle.insn_word.specs.Words.{fields}
use Rattle.insn_word.specs.declared.profiles.Profile.{Profile}
use Rattle.insn_word.specs.declared.profiles.Profile.TheVariants.{One}
use Rattle.image_file.specs.ImageValue.{IsWithin}
use Rattle.asm_line.specs.Names.{has_chain}
use Rattle.asm_line.specs.Faults.{map_ok}
use Rattle.asm_line.specs.declared.fault.Fault.{Fault}
use Rattle.asm_line.specs.declared.fault.Fault.TheVariants as fault
use Rattle.asm_line.specs.declared.item.Item.{Item}
use Rattle.asm_line.specs.declared.item.Item.TheVariants as item
use Rattle.asm_text.specs.declared.settings.Settings.{Settings}
use Rattle.asm_text.specs.Settings.{set_once, profile_set, slim_set, chain_set, retry_set, trap_set}
use Rattle.asm_line.specs.Ranges.{IsItemInRange}
use Rattle.asm_text.specs.Drafts.{DraftValue, empty, add, with_settings, with_entry, with_word, with_cells, has_all}
use Rattle.asm_text.specs.Drafts.{image_of_draft}
use Rattle.asm_text.specs.Limits.{KeepsLimits, IsReady}

pub ready : (p : Profile) (words : ℕ) (i : Item) → IsItemInRange p words i → IsReady i
ready p words item.Nothing h = tt
ready p words (item.Profile q) h = tt
ready p words (item.Chain n) h = tt
ready p words (item.Slim n) h = tt
ready p words (item.Retry n) h = tt
ready p words (item.Trap n) h = tt
ready p words (item.Entry n) h = tt
ready p words (item.Instruction i) h = (p, h)
ready p words (item.Word w) h = tt
ready p words (item.Cells count value tags) h = h.3

record HasRanges (p : Profile) (s : Settings) : Type 0 where
  slim : IfSome s.slim (λ n. (1 ≤ n) × (n ≤ 128))
  chain : IfSome s.chain (λ n. (has_chain p ≡ true) × (n ≤ 64))

ranges : (p : Profile) (words : ℕ) (d : DraftValue) → KeepsLimits p words d → HasRanges p d.settings
ranges p words d k = record { slim = k.slim; chain = k.chain }

settings_kept : (p : Profile) (words : ℕ) (d e : DraftValue) (r : Result Settings Fault) → KeepsLimits p words d
    → ((s : Settings) → r ≡ Ok s → HasRanges p s) → with_settings d r ≡ Ok e → KeepsLimits p words e
settings_kept p words d e (Ok s) k h is =
    let at : record d { settings = s } ≡ e = cc in
    let g = h s refl in
    subst (KeepsLimits p words) at (record {
      slim = g.slim;
      chain = g.chain;
      few_entries = k.few_entries;
      entries_stand = k.entries_stand;
      few_words = k.few_words;
      few_cells = k.few_cells;
    })
settings_kept p words d e (Err f) k h is = absurd cc

-- what a test lets through
pub passed : {A : Type 0} (b : Bool) (x y : A) (f : Fault) → cond b (Ok x) (Err f) ≡ Ok y → (b ≡ true) × (x ≡ y)
passed true x y f e = (refl, cc)
passed false x y f e = absurd cc

pub mapped : {A B : Type 0} (f : A → B) (r : Result A Fault) (y : B) → map_ok f r ≡ Ok y
    → (x : A) × (r ≡ Ok x) × (f x ≡ y)
mapped f (Ok x) y e = (x, refl, cc)
mapped f (Err k) y e = absurd cc

profile_set-is : (b : Bool) (s t : Settings) → cond b (Err fault.Directive) (Ok s) ≡ Ok t → s ≡ t
profile_set-is true s t e = absurd cc
profile_set-is false s t e = cc

profile_kept : (p : Profile) (s t : Settings) → HasRanges p s → profile_set s ≡ Ok t → HasRanges p t
profile_kept p s t h is =
    subst (HasRanges p) (profile_set-is s.profile (record s { profile = true }) t is)
    (record { slim = h.slim; chain = h.chain })

set_once-is : (o p : Option ℕ) (n : ℕ) → set_once o n ≡ Ok p → Some n ≡ p
set_once-is None p n e = cc
set_once-is (Some m) p n e = absurd cc

slim_kept : (p : Profile) (s t : Settings) (n : ℕ) → HasRanges p s → (1 ≤ n) × (n ≤ 128) → slim_set s n ≡ Ok t
    → HasRanges p t
slim_kept p s t n g h is =
    let m = mapped (λ o. record s { slim = o }) (set_once s.slim n) t is in
    subst (HasRanges p) m.2 (record {
      slim = subst (λ o. IfSome o (λ k. (1 ≤ k) × (k ≤ 128))) (set_once-is s.slim m.0 n m.1) h;
      chain = g.chain;
    })

chain_kept : (p : Profile) (s t : Settings) (n : ℕ) → HasRanges p s → (has_chain p ≡ true) × (n ≤ 64)
    → chain_set s n ≡ Ok t → HasRanges p t
chain_kept p s t n g h is =
    let m = mapped (λ o. record s { chain = o }) (set_once s.chain n) t is in
    subst (HasRanges p) m.2 (record {
      slim = g.slim;
      chain = subst (λ o. IfSome o (λ k. (has_chain p ≡ true) × (k ≤ 64))) (set_once-is s.chain m.0 n m.1) h;
    })

retry_kept : (p : Profile) (s t : Settings) (n : ℕ) → HasRanges p s → retry_set s n ≡ Ok t → HasRanges p t
retry_kept p s t n h is =
    subst (HasRanges p) (mapped (λ o. record s { retry = o }) (set_once s.retry n) t is).2
    (record { slim = h.slim; chain = h.chain })

trap_kept : (p : Profile) (s t : Settings) (n : ℕ) → HasRanges p s → trap_set s n ≡ Ok t → HasRanges p t
trap_kept p s t n h is =
    subst (HasRanges p) (mapped (λ o. record s { trap = o }) (set_once s.trap n) t is).2
    (record { slim = h.slim; chain = h.chain })

entry_kept : (p : Profile) (words : ℕ) (d e : DraftValue) (n : ℕ) → KeepsLimits p words d → n < words
    → with_entry d n ≡ Ok e
    → KeepsLimits p words e
entry_kept p words d e n k h is =
    let b = passed (ltb (length d.entries) 16) (record d { entries = d.entries ++ n ∷ [] }) e fault.Limit is in
    let room = ltb-true (length d.entries) 16 b.0 in
    subst (KeepsLimits p words) b.1 (record {
      slim = k.slim;
      chain = k.chain;
      few_entries = omega (arith, length-append d.entries (n ∷ []));
      entries_stand = All-push (λ m. m < words) d.entries n k.entries_stand h;
      few_words = k.few_words;
      few_cells = k.few_cells;
    })

word_kept : (p : Profile) (words : ℕ) (d e : DraftValue) (w : ℕ) → KeepsLimits p words d → with_word d w ≡ Ok e
    → KeepsLimits p words e
word_kept p words d e w k is =
    let b = passed (ltb (length d.words) 65536) (record d { words = d.words ++ w ∷ [] }) e fault.Limit is in
    let room = ltb-true (length d.words) 65536 b.0 in
    subst (KeepsLimits p words) b.1 (record {
      slim = k.slim;
      chain = k.chain;
      few_entries = k.few_entries;
      entries_stand = k.entries_stand;
      few_words = omega (arith, length-append d.words (w ∷ []));
      few_cells = k.few_cells;
    })

cells_kept : (p : Profile) (words : ℕ) (d e : DraftValue) (n : ℕ) (c : Cell) → KeepsLimits p words d
    → with_cells d n c ≡ Ok e
    → KeepsLimits p words e
cells_kept p words d e n c k is =
    let b = passed (leb (length d.cells + n) 262144) (record d { cells = d.cells ++ replicate n c }) e
    fault.Limit is in
    let room = leb-true (length d.cells + n) 262144 b.0 in
    subst (KeepsLimits p words) b.1 (record {
      slim = k.slim;
      chain = k.chain;
      few_entries = k.few_entries;
      entries_stand = k.entries_stand;
      few_words = k.few_words;
      few_cells = omega (arith, length-append d.cells (replicate n c), length-replicate n c);
    })

-- what a line adds keeps the limits
pub add_kept : (p : Profile) (words : ℕ) (d e : DraftValue) (i : Item) → KeepsLimits p words d → IsItemInRange p words i
    → add d i ≡ Ok e → KeepsLimits p words e
unfolding add
add_kept p words d e item.Nothing k h is = let at : d ≡ e = cc in subst (KeepsLimits p words) at k
add_kept p words d e (item.Profile q) k h is =
    settings_kept p words d e (profile_set d.settings) k (λ s. profile_kept p d.settings s (ranges p words d k)) is
add_kept p words d e (item.Slim n) k h is =
    settings_kept p words d e (slim_set d.settings n) k (λ s. slim_kept p d.settings s n (ranges p words d k) h) is
add_kept p words d e (item.Chain n) k h is =
    settings_kept p words d e (chain_set d.settings n) k (λ s. chain_kept p d.settings s n (ranges p words d k) h) is
add_kept p words d e (item.Retry n) k h is =
    settings_kept p words d e (retry_set d.settings n) k (λ s. retry_kept p d.settings s n (ranges p words d k)) is
add_kept p words d e (item.Trap n) k h is =
    settings_kept p words d e (trap_set d.settings n) k (λ s. trap_kept p d.settings s n (ranges p words d k)) is
add_kept p words d e (item.Entry n) k h is = entry_kept p words d e n k h is
add_kept p words d e (item.Instruction i) k h is = word_kept p words d e (number_of_fields (fields i)) k is
add_kept p words d e (item.Word w) k h is = word_kept p words d e w k is
add_kept p words d e (item.Cells count value tags) k h is = cells_kept p words d e count (cell_of value tags) k is

pub empty_kept : (p : Profile) (words : ℕ) → KeepsLimits p words empty
empty_kept p words = record {
  slim = tt;
  chain = tt;
  few_entries = omega arith;
  entries_stand = All-nil (λ e. e < words);
  few_words = omega arith;
  few_cells = omega arith;
}

some_slim : (o : Option ℕ) → IfSome o (λ n. (1 ≤ n) × (n ≤ 128)) → (1 ≤ unwrap_or o 8) × (unwrap_or o 8 ≤ 128)
some_slim None h = (omega arith, omega arith)
some_slim (Some n) h = h

few_chain : (p : Profile) (o : Option ℕ) → IfSome o (λ n. (has_chain p ≡ true) × (n ≤ 64))
    → unwrap_or o default_chain_limit ≤ most_chain_limit
few_chain p None h = omega arith
few_chain p (Some n) h = h.1

-- Profile 1 sets no chain limit
one_chain : (p : Profile) (o : Option ℕ) → IfSome o (λ n. (has_chain p ≡ true) × (n ≤ 64)) → p ≡ One
    → unwrap_or o default_chain_limit ≡ default_chain_limit
one_chain p None h one = refl
one_chain p (Some n) h one =
    let no : false ≡ true = sym (ap has_chain one) ∙ h.0 in absurd (true≢false (sym no))

-- a whole draft is an image
pub within : (p : Profile) (words : ℕ) (d : DraftValue) → KeepsLimits p words d → length d.words ≡ words
    → has_all d ≡ true
    → IsWithin (image_of_draft p d)
unfolding image_of_draft
within p words d k count all =
    let a = and_parts (ltb 0 (length d.entries)) (ltb 0 (length d.words) && ltb 0 (length d.cells)) all in
    let q = and_parts (ltb 0 (length d.words)) (ltb 0 (length d.cells)) a.1 in
    record {
      some_processors = ltb-true 0 (length d.entries) a.0;
      few_processors = k.few_entries;
      some_slim = (some_slim d.settings.slim k.slim).0;
      few_slim = (some_slim d.settings.slim k.slim).1;
      chain = few_chain p d.settings.chain k.chain;
      chain_of_one = one_chain p d.settings.chain k.chain;
      some_words = ltb-true 0 (length d.words) q.0;
      few_words = k.few_words;
      some_cells = ltb-true 0 (length d.cells) q.1;
      few_cells = k.few_cells;
      entries_stand = subst (λ n. All (λ e. e < n) d.entries) (sym count) k.entries_stand;
    }

pub add_keeps : (p : Profile) (words : ℕ) (d e : DraftValue) (i : Item) (r : Result (Unit {0}) Fault)
    (Refused : Fault → Type 0)
    → IsItemInRange p words i → MatchResult r (λ _. add d i ≡ Ok e) Refused → KeepsLimits p words d
    → OnOk r (KeepsLimits p words e)
add_keeps p words d e i (Ok x) refused h is k = add_kept p words d e i k h is
add_keeps p words d e i (Err f) refused h is k = tt
