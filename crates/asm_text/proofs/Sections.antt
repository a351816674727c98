-- The sections of a listing: what each adds.
use Rattle.std.proofs.Common.{◌≡◌, ℕ, ◌+◌, ◌<◌, ◌≤◌, Bool, true, false, cond, eqb, List, [], ◌∷◌}
use Rattle.std.proofs.Common.{◌++◌, map, length}
use Rattle.std.proofs.Common.{Option, Some, None, Result, Ok, Err, refl, sym, ◌∙◌, ap, subst, arith, append_assoc}
use Rattle.std.proofs.Common.{append-nil, length-append, lt-ltb}
use Rattle.std.specs.Prelude.{◌^◌}
use Rattle.std.specs.List.{flat_map, All, AllByRecursion}
use Rattle.std.proofs.lemmas.Bool.{le-leb}
use Rattle.std.proofs.lemmas.List.{length-replicate}
use Rattle.std.proofs.lemmas.List.Elements.{All-head, All-tail}
use Rattle.tag_memory.specs.Cell.{Cell, tag_number}
use Rattle.insn_word.specs.Reading.{instruction_in}
use Rattle.insn_word.specs.declared.profiles.Profile.{Profile}
use Rattle.insn_word.specs.declared.profiles.Profile.TheVariants.{One, Two}
use Rattle.insn_word.specs.declared.insn.Insn.{Insn}
use Rattle.image_file.specs.ImageValue.{ImageValue}
use Rattle.image_file.specs.SameLaws.{cell_of-tag_number}
use Rattle.asm_line.specs.Faults.{◌>>=◌}
use Rattle.asm_line.specs.declared.fault.Fault.{Fault}
use Rattle.asm_line.specs.declared.fault.Fault.TheVariants as fault
use Rattle.asm_line.specs.declared.item.Item.{Item}
use Rattle.asm_line.specs.declared.item.Item.TheVariants as item
use Rattle.listing_line.specs.WordText.{word_line}
use Rattle.listing_line.specs.DirectiveLines.{retry_line, trap_line, entry_line}
use Rattle.listing_line.specs.Laws.{IsReadAs, word_item, item_of}
use Rattle.listing_line.specs.Laws.{WordLinesReadBack, ProfileLinesReadBack, ProfileLinesTell, SlimLinesReadBack}
use Rattle.listing_line.specs.Laws.{ChainLinesReadBack, RetryLinesReadBack}
use Rattle.listing_line.specs.Laws.{TrapLinesReadBack, EntryLinesReadBack, FillLinesReadBack}
use Rattle.asm_text.specs.Drafts.{DraftValue, empty, add, with_word, with_cells}
use Rattle.text_parts.specs.Runs.{Run, run_things}
use Rattle.asm_text.specs.Listing.{setting_lines, chain_lines, trap_lines, word_lines, cell_run_line}
use Rattle.asm_text.proofs.WordOfFields.{number_of_spelt}
use Rattle.asm_text.proofs.Counted.{bound}
use Rattle.asm_text.proofs.ReadLines.{counts, AreRead, read_both, add_all, count_items}

-- the laws of lines
pub record Laws : Type 0 where
  pub word : WordLinesReadBack
  pub profile : ProfileLinesReadBack
  pub tells : ProfileLinesTell
  pub slim : SlimLinesReadBack
  pub chain : ChainLinesReadBack
  pub retry : RetryLinesReadBack
  pub trap : TrapLinesReadBack
  pub entry : EntryLinesReadBack
  pub fill : FillLinesReadBack

pub add_both : (d e : DraftValue) (is js : List Item) → add_all d is ≡ Ok e → add_all d (is ++ js) ≡ add_all e js
add_both d e [] js h = let at : d ≡ e = cc in ap (λ f. add_all f js) at
add_both d e (i ∷ is) js h =
    let b = bound (add d i) (λ f. add_all f is) e h in
    ap (λ r. r >>= λ f. add_all f (is ++ js)) b.1 ∙ add_both b.0 e is js b.2

pub count_both : (is js : List Item) → count_items (is ++ js) ≡ count_items is + count_items js
count_both [] js = omega arith
count_both (i ∷ is) js = let rest = count_both is js in omega arith

-- Settings.

abbrev pub chain_items : Profile → ℕ → List Item
chain_items One limit = []
chain_items Two limit = item.Chain limit ∷ []

abbrev pub trap_items : ℕ → List Item
trap_items trap = cond (eqb trap 4294967295) [] (item.Trap trap ∷ [])

abbrev last_items : ImageValue → List Item
last_items i = item.Retry i.retry_limit ∷ trap_items i.trap_entry

abbrev pub setting_items : ImageValue → List Item
setting_items i = item.Profile i.profile ∷ item.Slim i.slim ∷ (chain_items i.profile i.chain_limit ++ last_items i)

abbrev pub chain_set_to : Profile → ℕ → Option ℕ
chain_set_to One limit = None
chain_set_to Two limit = Some limit

abbrev pub trap_set_to : ℕ → Option ℕ
trap_set_to trap = cond (eqb trap 4294967295) None (Some trap)

abbrev pub with_settings_of : ImageValue → DraftValue
with_settings_of i = record empty {
  settings = record {
    profile = true;
    slim = Some i.slim;
    chain = chain_set_to i.profile i.chain_limit;
    retry = Some i.retry_limit;
    trap = trap_set_to i.trap_entry;
  };
}

trap_read : (laws : Laws) (p : Profile) (words trap : ℕ) (none : Bool) → trap < 2 ^ 32
    → AreRead p words (cond none [] (trap_line trap ∷ [])) (cond none [] (item.Trap trap ∷ []))
trap_read laws p words trap true h = tt
trap_read laws p words trap false h = (laws.trap p trap words h, tt)

chain_read : (laws : Laws) (p : Profile) (words limit : ℕ) → limit ≤ 64
    → AreRead p words (chain_lines p limit) (chain_items p limit)
chain_read laws One words limit h = tt
chain_read laws Two words limit h = (laws.chain limit words h, tt)

pub settings_read : (laws : Laws) (words : ℕ) (i : ImageValue) → 1 ≤ i.slim → i.slim ≤ 128 → i.chain_limit ≤ 64
    → i.retry_limit < 2 ^ 32 → i.trap_entry < 2 ^ 32 → AreRead i.profile words (setting_lines i) (setting_items i)
settings_read laws words i some few chain retry trap = (
  laws.profile i.profile i.profile words,
  (
    laws.slim i.profile i.slim words some few,
    read_both i.profile words (chain_lines i.profile i.chain_limit)
        (retry_line i.retry_limit ∷ trap_lines i.trap_entry) (chain_items i.profile i.chain_limit) (last_items i)
        (chain_read laws i.profile words i.chain_limit chain) (
          laws.retry i.profile i.retry_limit words retry,
          trap_read laws i.profile words i.trap_entry (eqb i.trap_entry 4294967295) trap,
        ),
  ),
)

abbrev with_last : ℕ → Option ℕ → ℕ → Option ℕ → DraftValue
with_last slim chain retry trap = record empty {
  settings = record { profile = true; slim = Some slim; chain = chain; retry = Some retry; trap = trap };
}

trap_added : (slim retry trap : ℕ) (chain : Option ℕ) (none : Bool)
    → add_all (with_last slim chain retry None) (cond none [] (item.Trap trap ∷ []))
    ≡ Ok (with_last slim chain retry (cond none None (Some trap)))
unfolding add
trap_added slim retry trap chain true = refl
trap_added slim retry trap chain false = refl

added : (p : Profile) (slim limit retry trap : ℕ)
    → add_all empty
    (item.Profile p ∷ item.Slim slim ∷ (chain_items p limit ++ item.Retry retry ∷ trap_items trap))
    ≡ Ok (with_last slim (chain_set_to p limit) retry (trap_set_to trap))
unfolding add
added One slim limit retry trap = trap_added slim retry trap None (eqb trap 4294967295)
added Two slim limit retry trap = trap_added slim retry trap (Some limit) (eqb trap 4294967295)

pub settings_added : (i : ImageValue) → add_all empty (setting_items i) ≡ Ok (with_settings_of i)
settings_added i = added i.profile i.slim i.chain_limit i.retry_limit i.trap_entry

trap_counts : (trap : ℕ) (none : Bool) → count_items (cond none [] (item.Trap trap ∷ [])) ≡ 0
trap_counts trap true = refl
trap_counts trap false = refl

chain_counts : (p : Profile) (limit : ℕ) → count_items (chain_items p limit) ≡ 0
chain_counts One limit = refl
chain_counts Two limit = refl

pub settings_count : (i : ImageValue) → count_items (setting_items i) ≡ 0
settings_count i =
    let t = trap_counts i.trap_entry (eqb i.trap_entry 4294967295) in
    let c = chain_counts i.profile i.chain_limit in
    let both = count_both (chain_items i.profile i.chain_limit) (last_items i) in
    omega arith

-- Entries.

abbrev with_entries : DraftValue → List ℕ → Result DraftValue Fault
with_entries d entries = Ok (record d { entries = entries })

abbrev pub entry_items : List ℕ → List Item
entry_items entries = map (λ (n : ℕ). item.Entry n) entries

pub entries_read : (laws : Laws) (p : Profile) (words : ℕ) (entries : List ℕ) → words ≤ 65536
    → All (λ e. e < words) entries
    → AreRead p words (map entry_line entries) (entry_items entries)
entries_read laws p words [] few h = tt
entries_read laws p words (e ∷ es) few h =
    let here = All-head (λ n. n < words) e es h in
    (laws.entry p e words here (omega arith), entries_read laws p words es few (All-tail (λ n. n < words) e es h))

entry_added : (d : DraftValue) (e : ℕ) → length d.entries < 16
    → add d (item.Entry e) ≡ Ok (record d { entries = d.entries ++ e ∷ [] })
unfolding add
entry_added d e room =
    ap (λ b. cond b (Ok (record d { entries = d.entries ++ e ∷ [] })) (Err fault.Limit))
    (lt-ltb (length d.entries) 16 room)

pub entries_added : (d : DraftValue) (es : List ℕ) → length d.entries + length es ≤ 16
    → add_all d (entry_items es) ≡ Ok (record d { entries = d.entries ++ es })
entries_added d [] room = ap (with_entries d) (sym (append-nil d.entries))
entries_added d (e ∷ es) room =
    let f : DraftValue = record d { entries = d.entries ++ e ∷ [] } in
    ap (λ r. r >>= λ g. add_all g (entry_items es)) (entry_added d e (omega arith))
    ∙ entries_added f es (omega (arith, length-append d.entries (e ∷ [])))
    ∙ ap (with_entries d) (append_assoc d.entries (e ∷ []) es)

pub entries_count : (es : List ℕ) → count_items (entry_items es) ≡ 0
entries_count [] = refl
entries_count (e ∷ es) = let rest = entries_count es in omega arith

-- Program words.

abbrev with_words : DraftValue → List ℕ → Result DraftValue Fault
with_words d words = Ok (record d { words = words })

counts_word : (w : ℕ) (o : Option Insn) → counts (item_of w o) ≡ true
counts_word w None = refl
counts_word w (Some i) = refl

word_item_counts : (p : Profile) (w : ℕ) → counts (word_item p w) ≡ true
unfolding word_item
word_item_counts p w = counts_word w (instruction_in p w)

pub words_read : (laws : Laws) (p : Profile) (words place : ℕ) (ws : List ℕ) → place + length ws ≤ 65536
    → All (λ w. w < 2 ^ 64) ws
    → AreRead p words (word_lines p place ws) (map (word_item p) ws)
words_read laws p words place [] few h = tt
words_read laws p words place (w ∷ ws) few h =
    let here = All-head (λ n. n < 2 ^ 64) w ws h in (
      subst (λ c. IsReadAs p (word_line p place w) c words (word_item p w)) (sym (word_item_counts p w))
          (laws.word p place w words (omega arith) here),
      words_read laws p words (place + 1) ws (omega arith) (All-tail (λ n. n < 2 ^ 64) w ws h),
    )

added_as : (p : Profile) (d : DraftValue) (w : ℕ) (o : Option Insn) → instruction_in p w ≡ o
    → add d (item_of w o) ≡ with_word d w
unfolding add
added_as p d w None e = refl
added_as p d w (Some i) e = ap (with_word d) (number_of_spelt p w i e)

word_added : (p : Profile) (d : DraftValue) (w : ℕ) → length d.words < 65536
    → add d (word_item p w) ≡ Ok (record d { words = d.words ++ w ∷ [] })
unfolding word_item
word_added p d w room =
    added_as p d w (instruction_in p w) refl
    ∙ ap (λ b. cond b (Ok (record d { words = d.words ++ w ∷ [] })) (Err fault.Limit))
    (lt-ltb (length d.words) 65536 room)

pub words_added : (p : Profile) (d : DraftValue) (ws : List ℕ) → length d.words + length ws ≤ 65536
    → add_all d (map (word_item p) ws) ≡ Ok (record d { words = d.words ++ ws })
words_added p d [] room = ap (with_words d) (sym (append-nil d.words))
words_added p d (w ∷ ws) room =
    let f : DraftValue = record d { words = d.words ++ w ∷ [] } in
    ap (λ r. r >>= λ g. add_all g (map (word_item p) ws)) (word_added p d w (omega arith))
    ∙ words_added p f ws (omega (arith, length-append d.words (w ∷ [])))
    ∙ ap (with_words d) (append_assoc d.words (w ∷ []) ws)

one_word : (p : Profile) (w : ℕ) → ◌≡◌ {A = ℕ} (cond (counts (word_item p w)) 1 0) 1
one_word p w = ap (λ b. cond b 1 0) (word_item_counts p w)

pub words_count : (p : Profile) (ws : List ℕ) → count_items (map (word_item p) ws) ≡ length ws
words_count p [] = refl
words_count p (w ∷ ws) = omega (arith, one_word p w, words_count p ws)

-- Data cells.

abbrev with_data : DraftValue → List Cell → Result DraftValue Fault
with_data d cells = Ok (record d { cells = cells })

abbrev pub run_item : Run Cell → Item
run_item r = item.Cells r.times r.thing.value (tag_number r.thing)

four : (full forward trap0 trap1 : Bool)
    → cond full 1 0 + cond forward 2 0 + cond trap0 4 0 + cond trap1 8 0 < 16
four true true true true = omega arith
four true true true false = omega arith
four true true false true = omega arith
four true true false false = omega arith
four true false true true = omega arith
four true false true false = omega arith
four true false false true = omega arith
four true false false false = omega arith
four false true true true = omega arith
four false true true false = omega arith
four false true false true = omega arith
four false true false false = omega arith
four false false true true = omega arith
four false false true false = omega arith
four false false false true = omega arith
four false false false false = omega arith

few_tags : (c : Cell) → tag_number c < 16
few_tags c = four c.full c.forward c.trap0 c.trap1

pub runs_read : (laws : Laws) (p : Profile) (words n : ℕ) (rs : List (Run Cell)) → n ≤ 262144
    → AllByRecursion (λ (r : Run Cell). (1 ≤ r.times) × (r.times ≤ n) × (r.thing.value < 2 ^ 64)) rs
    → AreRead p words (map cell_run_line rs) (map run_item rs)
runs_read laws p words n [] few h = tt
runs_read laws p words n (r ∷ rs) few h = (
  laws.fill p r.times r.thing.value (tag_number r.thing) words h.0.0 (omega arith) h.0.2 (few_tags r.thing),
  runs_read laws p words n rs few h.1,
)

run_added : (d : DraftValue) (r : Run Cell) → length d.cells + r.times ≤ 262144
    → add d (run_item r) ≡ Ok (record d { cells = d.cells ++ run_things r })
unfolding add
run_added d r room =
    ap (λ c. with_cells d r.times c) (cell_of-tag_number r.thing)
    ∙ ap (λ b. cond b (Ok (record d { cells = d.cells ++ run_things r })) (Err fault.Limit))
    (le-leb (length d.cells + r.times) 262144 room)

pub runs_added : (d : DraftValue) (rs : List (Run Cell)) → length d.cells + length (flat_map run_things rs) ≤ 262144
    → add_all d (map run_item rs) ≡ Ok (record d { cells = d.cells ++ flat_map run_things rs })
runs_added d [] room = ap (with_data d) (sym (append-nil d.cells))
runs_added d (r ∷ rs) room =
    let f : DraftValue = record d { cells = d.cells ++ run_things r } in
    let one = length-replicate r.times r.thing in
    let both = length-append (run_things r) (flat_map run_things rs) in
    let now = length-append d.cells (run_things r) in
    ap (λ x. x >>= λ g. add_all g (map run_item rs)) (run_added d r (omega arith))
    ∙ runs_added f rs (omega arith)
    ∙ ap (with_data d) (append_assoc d.cells (run_things r) (flat_map run_things rs))

pub runs_count : (rs : List (Run Cell)) → count_items (map run_item rs) ≡ 0
runs_count [] = refl
runs_count (r ∷ rs) = let rest = runs_count rs in omega arith
