-- The text of a listing, line by line.
use Rattle.std.proofs.Common.{◌≡◌, ℕ, suc, ◌+◌, ◌<◌, ◌≤◌, List, [], ◌∷◌, ◌++◌, map}
use Rattle.std.proofs.Common.{length, drop, get_or}
use Rattle.std.proofs.Common.{Some, sym, ◌∙◌, ap, append_assoc, append-nil, add-one}
use Rattle.std.proofs.Common.{drop-cons}
use Rattle.std.specs.Prelude.{slice_get}
use Rattle.std.proofs.lemmas.List.{drop_all}
use Rattle.std.proofs.lemmas.List.Concat.{flat_map-append}
use Rattle.std.proofs.lemmas.Option.{get_or_from_slice_get}
use Rattle.tag_memory.specs.Cell.{Cell}
use Rattle.image_file.specs.ImageValue.{ImageValue}
use Rattle.insn_word.specs.declared.profiles.Profile.{Profile}
use Rattle.listing_line.specs.WordText.{word_line}
use Rattle.listing_line.specs.DirectiveLines.{entry_line}
use Rattle.text_parts.specs.Runs.{Run}
use Rattle.asm_text.specs.Runs.{cell_runs}
use Rattle.asm_text.specs.Listing.{setting_lines, word_lines, cell_run_line, listing_lines, with_line_end}
use Rattle.asm_text.specs.Listing.{text_of_lines, listing}

-- one line more in the text is one less to come
pushed : (before line rest whole now : List ℕ) → now ≡ before ++ line → before ++ (line ++ rest) ≡ whole
    → now ++ rest ≡ whole
pushed before line rest whole now is h = ap (λ t. t ++ rest) is ∙ append_assoc before line rest ∙ h

entries_at : (entries : List ℕ) (k entry : ℕ) → k < length entries → slice_get entries k ≡ Some entry
    → drop k entries ≡ entry ∷ drop (k + 1) entries
entries_at entries k entry here is =
    drop-cons entries k 0 here
    ∙ ap (λ e. e ∷ drop (suc k) entries) (get_or_from_slice_get entries k entry 0 is)
    ∙ ap (λ n. entry ∷ drop n entries) (sym (add-one k))

pub entry_pushed : (entries : List ℕ) (k entry : ℕ) (before whole now : List ℕ) → k < length entries
    → slice_get entries k ≡ Some entry → now ≡ before ++ with_line_end (entry_line entry)
    → before ++ text_of_lines (map entry_line (drop k entries)) ≡ whole
    → now ++ text_of_lines (map entry_line (drop (k + 1) entries)) ≡ whole
entry_pushed entries k entry before whole now here at is h =
    pushed before (with_line_end (entry_line entry)) (text_of_lines (map entry_line (drop (k + 1) entries))) whole now
    is
    (sym (ap (λ es. before ++ text_of_lines (map entry_line es)) (entries_at entries k entry here at)) ∙ h)

pub entries_end : (entries : List ℕ) (k : ℕ) (now whole : List ℕ) → length entries ≤ k
    → now ++ text_of_lines (map entry_line (drop k entries)) ≡ whole → now ≡ whole
entries_end entries k now whole past h =
    sym (append-nil now) ∙ sym (ap (λ es. now ++ text_of_lines (map entry_line es)) (drop_all k entries past)) ∙ h

words_at : (program : List ℕ) (k word : ℕ) → k < length program → word ≡ get_or program k word
    → drop k program ≡ word ∷ drop (k + 1) program
words_at program k word here is =
    drop-cons program k word here
    ∙ ap (λ w. w ∷ drop (suc k) program) (sym is)
    ∙ ap (λ n. word ∷ drop n program) (sym (add-one k))

pub word_pushed : (p : Profile) (program : List ℕ) (k word : ℕ) (before whole now : List ℕ) → k < length program
    → word ≡ get_or program k word → now ≡ before ++ with_line_end (word_line p k word)
    → before ++ text_of_lines (word_lines p k (drop k program)) ≡ whole
    → now ++ text_of_lines (word_lines p (k + 1) (drop (k + 1) program)) ≡ whole
word_pushed p program k word before whole now here at is h =
    pushed before (with_line_end (word_line p k word))
    (text_of_lines (word_lines p (k + 1) (drop (k + 1) program))) whole
    now is
    (sym (ap (λ ws. before ++ text_of_lines (word_lines p k ws)) (words_at program k word here at)) ∙ h)

pub words_end : (p : Profile) (program : List ℕ) (k : ℕ) (now whole : List ℕ) → length program ≤ k
    → now ++ text_of_lines (word_lines p k (drop k program)) ≡ whole → now ≡ whole
words_end p program k now whole past h =
    sym (append-nil now) ∙ sym (ap (λ ws. now ++ text_of_lines (word_lines p k ws)) (drop_all k program past)) ∙ h

-- the four parts of a listing, one after another
pub parts_joined : (i : ImageValue)
    → ((text_of_lines (setting_lines i) ++ text_of_lines (map entry_line i.entries))
    ++ text_of_lines (word_lines i.profile 0 i.program))
    ++ text_of_lines (map cell_run_line (cell_runs i.cells)) ≡ listing i
unfolding listing listing_lines
parts_joined i =
    let s = setting_lines i in
    let e = map entry_line i.entries in
    let w = word_lines i.profile 0 i.program in
    let c = map cell_run_line (cell_runs i.cells) in
    append_assoc (text_of_lines s ++ text_of_lines e) (text_of_lines w) (text_of_lines c)
    ∙ append_assoc (text_of_lines s) (text_of_lines e) (text_of_lines w ++ text_of_lines c)
    ∙ sym (flat_map-append with_line_end s (e ++ (w ++ c))
    ∙ ap (λ t. text_of_lines s ++ t) (flat_map-append with_line_end e (w ++ c)
    ∙ ap (λ t. text_of_lines e ++ t) (flat_map-append with_line_end w c)))

pub all_parts : (i : ImageValue) (t0 t1 t2 t3 t4 : List ℕ) (cells : List Cell) → t0 ≡ []
    → t1 ≡ t0 ++ text_of_lines (setting_lines i) → t2 ≡ t1 ++ text_of_lines (map entry_line i.entries)
    → t3 ≡ t2 ++ text_of_lines (word_lines i.profile 0 i.program) → cells ≡ i.cells
    → t4 ≡ t3 ++ text_of_lines (map cell_run_line (cell_runs cells)) → t4 ≡ listing i
all_parts i t0 t1 t2 t3 t4 cells e0 e1 e2 e3 ec e4 =
    let s = text_of_lines (setting_lines i) in
    let e = text_of_lines (map entry_line i.entries) in
    let w = text_of_lines (word_lines i.profile 0 i.program) in
    let c = text_of_lines (map cell_run_line (cell_runs i.cells)) in
    e4 ∙ ap (λ cs. t3 ++ text_of_lines (map cell_run_line (cell_runs cs))) ec
    ∙ ap (λ t. t ++ c) (e3 ∙ ap (λ t. t ++ w) (e2 ∙ ap (λ t. t ++ e) (e1 ∙ ap (λ t. t ++ s) e0)))
    ∙ parts_joined i

pub run_pushed : (rs following : List (Run Cell)) (count : ℕ) (cell : Cell) (before whole now : List ℕ)
    → rs ≡ record { thing = cell; times = count } ∷ following
    → now ≡ before ++ with_line_end (cell_run_line (record { thing = cell; times = count }))
    → before ++ text_of_lines (map cell_run_line rs) ≡ whole
    → now ++ text_of_lines (map cell_run_line following) ≡ whole
run_pushed rs following count cell before whole now first is h =
    pushed before (with_line_end (cell_run_line (record { thing = cell; times = count })))
    (text_of_lines (map cell_run_line following))
    whole now is
    (sym (ap (λ xs. before ++ text_of_lines (map cell_run_line xs)) first) ∙ h)

pub runs_end : (rs : List (Run Cell)) (now whole : List ℕ) → rs ≡ []
    → now ++ text_of_lines (map cell_run_line rs) ≡ whole → now ≡ whole
runs_end rs now whole none h =
    sym (append-nil now) ∙ sym (ap (λ xs. now ++ text_of_lines (map cell_run_line xs)) none) ∙ h
