-- A listing means its image.
use Rattle.std.proofs.Common.{◌≡◌, ℕ, ◌<◌, Bool, true, false, cond, eqb, ltb, List, [], ◌∷◌, ◌++◌, map}
use Rattle.std.proofs.Common.{length}
use Rattle.std.proofs.Common.{Some, None, Result, Ok, Err, refl, sym, ◌∙◌, ap, arith, lt-ltb}
use Rattle.std.specs.Prelude.{unwrap_or, ◌&&◌, ◌^◌}
use Rattle.std.specs.List.{flat_map}
use Rattle.std.proofs.lemmas.List.Elements.{All-from_recursion}
use Rattle.std.proofs.lemmas.Bool.{eqb-true, and_from, false≢true}
use Rattle.tag_memory.specs.Cell.{Cell}
use Rattle.image_file.specs.ImageValue.{ImageValue, IsWithin}
use Rattle.image_file.specs.Spelling.{Fits}
use Rattle.insn_word.specs.declared.profiles.Profile.{Profile}
use Rattle.insn_word.specs.declared.profiles.Profile.TheVariants.{One, Two}
use Rattle.asm_line.specs.Profiles.{profile_of}
use Rattle.tag_memory.specs.Storage.{default_chain_limit}
use Rattle.asm_line.specs.Lines.{line, lines, place, count_words}
use Rattle.asm_line.specs.declared.fault.Fault.TheVariants as fault
use Rattle.asm_line.specs.declared.item.Item.{Item}
use Rattle.listing_line.specs.Laws.{word_item}
use Rattle.listing_line.specs.DirectiveLines.{slim_line, retry_line, entry_line}
use Rattle.asm_text.specs.declared.fault.AsmFault.{AsmFault}
use Rattle.asm_text.specs.Drafts.{DraftValue, empty, has_all, image_of_draft}
use Rattle.asm_text.specs.Sources.{with_lines, image_or_incomplete}
use Rattle.text_parts.specs.Runs.{run_things}
use Rattle.asm_text.specs.Runs.{cell_runs}
use Rattle.asm_text.specs.Listing.{setting_lines, chain_lines, trap_lines, word_lines, cell_run_line, listing_lines}
use Rattle.asm_text.specs.Listing.{text_of_lines, listing}
use Rattle.asm_text.specs.Laws.{OneMeaning, ListingsReadBack}
use Rattle.asm_text.proofs.Assembly.{IsFound, draft_whole}
use Rattle.asm_text.proofs.RunCells.{runs_are_cells, runs_fit}
use Rattle.asm_text.proofs.ReadLines.{AreRead, read_both, add_all, lines_added, last_line, count_items, lines_counted}
use Rattle.asm_text.proofs.ReadLines.{text_cut, text_is_ascii}
use Rattle.asm_text.proofs.Sections.{Laws, add_both, count_both, with_settings_of, chain_set_to}
use Rattle.asm_text.proofs.Sections.{setting_items, settings_read, settings_added, settings_count}
use Rattle.asm_text.proofs.Sections.{entry_items, entries_read, entries_added, entries_count}
use Rattle.asm_text.proofs.Sections.{words_read, words_added, words_count}
use Rattle.asm_text.proofs.Sections.{run_item, runs_read, runs_added, runs_count}

abbrev items : ImageValue → List Item
items i =
    setting_items i ++
    (entry_items i.entries ++ (map (word_item i.profile) i.program ++ map run_item (cell_runs i.cells)))

lines_read : (laws : Laws) (i : ImageValue) → IsWithin i → Fits i
    → AreRead i.profile (length i.program) (listing_lines i) (items i)
unfolding listing_lines
lines_read laws i w f =
    let words = length i.program in
    read_both i.profile words (setting_lines i)
    (map entry_line i.entries ++ (word_lines i.profile 0 i.program ++ map cell_run_line (cell_runs i.cells)))
    (setting_items i)
    (entry_items i.entries ++ (map (word_item i.profile) i.program ++ map run_item (cell_runs i.cells)))
    (settings_read laws words i w.some_slim w.few_slim w.chain f.retry_limit f.trap_entry)
    (read_both i.profile words (map entry_line i.entries)
    (word_lines i.profile 0 i.program ++ map cell_run_line (cell_runs i.cells))
    (entry_items i.entries) (map (word_item i.profile) i.program ++ map run_item (cell_runs i.cells))
    (entries_read laws i.profile words i.entries w.few_words w.entries_stand)
    (read_both i.profile words (word_lines i.profile 0 i.program) (map cell_run_line (cell_runs i.cells))
    (map (word_item i.profile) i.program)
    (map run_item (cell_runs i.cells))
    (words_read laws i.profile words 0 i.program (omega (arith, w.few_words))
    (All-from_recursion (λ n. n < 2 ^ 64) i.program f.program))
    (runs_read laws i.profile words (length i.cells) (cell_runs i.cells) w.few_cells
    (runs_fit i.cells (All-from_recursion (λ (c : Cell). c.value < 2 ^ 64) i.cells f.cells)))))

items_count : (i : ImageValue) → count_items (items i) ≡ length i.program
items_count i =
    let all = count_both (setting_items i)
    (entry_items i.entries ++ (map (word_item i.profile) i.program ++ map run_item (cell_runs i.cells))) in
    let behind = count_both (entry_items i.entries)
    (map (word_item i.profile) i.program ++ map run_item (cell_runs i.cells)) in
    let last = count_both (map (word_item i.profile) i.program) (map run_item (cell_runs i.cells)) in
    let s = settings_count i in
    let e = entries_count i.entries in
    let w = words_count i.profile i.program in
    let r = runs_count (cell_runs i.cells) in
    omega arith

abbrev draft_of : ImageValue → DraftValue
draft_of i = record {
  settings = (with_settings_of i).settings;
  entries = i.entries;
  words = i.program;
  cells = flat_map run_things (cell_runs i.cells);
}

items_added : (i : ImageValue) → IsWithin i → add_all empty (items i) ≡ Ok (draft_of i)
items_added i w =
    let s = with_settings_of i in
    let e : DraftValue = record s { entries = i.entries } in
    let p : DraftValue = record e { words = i.program } in
    let cells = ap length (runs_are_cells i.cells) in
    add_both empty s (setting_items i)
    (entry_items i.entries ++ (map (word_item i.profile) i.program ++ map run_item (cell_runs i.cells)))
    (settings_added i)
    ∙ add_both s e (entry_items i.entries) (map (word_item i.profile) i.program ++ map run_item (cell_runs i.cells))
    (entries_added s i.entries (omega (arith, w.few_processors)))
    ∙ add_both e p (map (word_item i.profile) i.program) (map run_item (cell_runs i.cells))
    (words_added i.profile e i.program (omega (arith, w.few_words)))
    ∙ runs_added p (cell_runs i.cells) (omega (arith, cells, w.few_cells))

trap_kept : (trap : ℕ) (none : Bool) → eqb trap 4294967295 ≡ none
    → unwrap_or (cond none None (Some trap)) 4294967295 ≡ trap
trap_kept trap true e = sym (eqb-true trap 4294967295 e)
trap_kept trap false e = refl

chain_kept : (p : Profile) (limit : ℕ) → (p ≡ One → limit ≡ default_chain_limit)
    → unwrap_or (chain_set_to p limit) default_chain_limit ≡ limit
chain_kept One limit h = sym (h refl)
chain_kept Two limit h = refl

image_is : (i : ImageValue) → IsWithin i → image_of_draft i.profile (draft_of i) ≡ i
unfolding image_of_draft
image_is i w =
    let chain = chain_kept i.profile i.chain_limit w.chain_of_one in
    let trap = trap_kept i.trap_entry (eqb i.trap_entry 4294967295) refl in
    let cells = runs_are_cells i.cells in
    λ j. record {
      profile = i.profile;
      slim = i.slim;
      chain_limit = chain j;
      retry_limit = i.retry_limit;
      trap_entry = trap j;
      entries = i.entries;
      program = i.program;
      cells = cells j;
    }

all_there : (i : ImageValue) → IsWithin i → has_all (draft_of i) ≡ true
all_there i w =
    let cells = ap length (runs_are_cells i.cells) in
    let entries : 0 < length i.entries = omega (arith, w.some_processors) in
    let words : 0 < length i.program = omega (arith, w.some_words) in
    let some : 0 < length (flat_map run_things (cell_runs i.cells)) = omega (arith, cells, w.some_cells) in
    and_from (ltb 0 (length i.entries))
    (ltb 0 (length i.program) && ltb 0 (length (flat_map run_things (cell_runs i.cells))))
    (lt-ltb 0 (length i.entries) entries)
    (and_from (ltb 0 (length i.program)) (ltb 0 (length (flat_map run_things (cell_runs i.cells))))
    (lt-ltb 0 (length i.program) words) (lt-ltb 0 (length (flat_map run_things (cell_runs i.cells))) some))

passes : (b : Bool) (x y : ImageValue) (e : AsmFault) → b ≡ true → x ≡ y
    → ◌≡◌ {A = Result ImageValue AsmFault} (cond b (Ok x) (Err e)) (Ok y)
passes true x y e p q = ap (λ (j : ImageValue). Ok j) q
passes false x y e p q = absurd (false≢true p)

completes : (i : ImageValue) → IsWithin i → image_or_incomplete i.profile (draft_of i) ≡ Ok i
completes i w =
    passes (has_all (draft_of i)) (image_of_draft i.profile (draft_of i)) i
    (record { line = 0; kind = fault.Directive })
    (all_there i w) (image_is i w)

-- the first line says the profile
first_profile : (laws : Laws) (i : ImageValue)
    → profile_of (map line (listing_lines i) ++ line [] ∷ []) ≡ i.profile
unfolding listing_lines
first_profile laws i =
    let rest = slim_line i.slim ∷
    (chain_lines i.profile i.chain_limit ++ retry_line i.retry_limit ∷ trap_lines i.trap_entry) in
    ap (λ o. unwrap_or o (profile_of (map line
    (rest ++ (map entry_line i.entries ++ (word_lines i.profile 0 i.program ++ map cell_run_line (cell_runs i.cells))))
    ++ line [] ∷ [])))
    (laws.tells i.profile)

pub reads_back : Laws → ListingsReadBack
unfolding listing
reads_back laws i w f =
    let words = length i.program in
    let ls = listing_lines i in
    let read = lines_read laws i w f in
    let cut = text_cut i.profile words ls (items i) read in
    let places = place (lines (text_of_lines ls)) in
    let found : IsFound (text_of_lines ls) i.profile places words = record {
      ascii = text_is_ascii i.profile words ls (items i) read;
      profile_is = sym (ap profile_of cut ∙ first_profile laws i);
      places_are = refl;
      words_are = sym (ap count_words cut ∙ lines_counted i.profile words ls (items i) read ∙ items_count i);
    } in
    draft_whole (text_of_lines ls) i.profile places words (draft_of i) (Ok i) found
    (ap (with_lines i.profile places words 0 empty) cut
    ∙ lines_added i.profile places words 0 empty (draft_of i) ls (items i) (line [] ∷ []) (Ok (draft_of i)) read
    (items_added i w)
    (last_line i.profile places words (draft_of i)))
    (completes i w)

same_image : (i j : ImageValue) → ◌≡◌ {A = Result ImageValue AsmFault} (Ok i) (Ok j) → i ≡ j
same_image i j e = cc

pub one_meaning : OneMeaning
one_meaning text i j means other = same_image i j (sym means ∙ other)
