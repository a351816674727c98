-- Data lines give the cells of the image.
use Rattle.std.proofs.Common.{◌≡◌, ℕ, zero, suc, ◌+◌, Bool, true, false, cond, ltb, leb, List, [], ◌∷◌, ◌++◌, length}
use Rattle.std.proofs.Common.{take, drop, map, replicate, slice_get, sum_by, Option, Some, None, Result, Ok, Err}
use Rattle.std.proofs.Common.{refl, sym, ◌∙◌, ap, subst, arith, ◌⊎◌, inl, inr, append_assoc, append-nil, length-append}
use Rattle.std.proofs.Common.{⊎_elim, add-zero, ◌-◌, ltb-false}
use Rattle.std.proofs.lemmas.Bool.{ltb-true}
use Rattle.std.proofs.lemmas.List.Sums.{sum_by-cons}
use Rattle.std.proofs.lemmas.List.{length-replicate}
use Rattle.std.proofs.Math.Seq.{drop-append_seam, take-append_seam}
use Rattle.tag_memory.specs.Cell.{Cell, cell_of}
use Rattle.insn_word.specs.Fields.{number_of_fields}
use Rattle.insn_word.specs.Words.{fields}
use Rattle.insn_word.specs.declared.profiles.Profile.{Profile}
use Rattle.image_file.specs.ImageValue.{ImageValue}
use Rattle.text_parts.specs.Pieces.{pieces}
use Rattle.asm_line.specs.Operands.{Places}
use Rattle.asm_line.specs.Lines.{Line, line, lines, line_item, place, count_words, word_count}
use Rattle.asm_line.specs.Profiles.{profile_of}
use Rattle.asm_line.specs.Faults.{map_ok}
use Rattle.asm_line.specs.declared.fault.Fault.{Fault}
use Rattle.asm_line.specs.declared.item.Item.{Item}
use Rattle.asm_line.specs.declared.item.Item.TheVariants as item
use Rattle.asm_text.specs.declared.fault.AsmFault.{AsmFault}
use Rattle.asm_text.specs.Settings.{profile_set, slim_set, chain_set, retry_set, trap_set}
use Rattle.asm_text.specs.Drafts.{DraftValue, empty, add, with_entry, with_word, with_cells, has_all}
use Rattle.asm_text.specs.Drafts.{image_of_draft}
use Rattle.asm_text.specs.Sources.{with_line, with_lines, after_line, meaning_of, meaning_of_lines, meaning_unless}
use Rattle.asm_text.specs.Sources.{not_ascii, complete, Means}
use Rattle.asm_text.proofs.Counted.{bound, counted}
use Rattle.asm_text.proofs.Kept.{mapped, passed}
use Rattle.source_places.specs.DataLines.{DataLineValue, item_cells, cells_added, data_line, line_cells}
use Rattle.source_places.specs.DataLines.{data_lines_from}
use Rattle.source_places.specs.DataCells.{DataLinesGiveTheCells}

-- the cells of an item
abbrev item_adds : Item → List Cell
item_adds (item.Cells count value tags) = replicate count (cell_of value tags)
item_adds _ = []

-- an item adds its cells to a draft, which has room for them
record Added (d e : DraftValue) (i : Item) : Type 0 where
  cells : e.cells ≡ d.cells ++ item_adds i
  count : cells_added (length d.cells) (Ok i) ≡ item_cells i
  size : length (item_adds i) ≡ item_cells i

none_either_way : (b : Bool) → ◌≡◌ {A = ℕ} (cond b 0 0) 0
none_either_way true = refl
none_either_way false = refl

adds_none : (d e : DraftValue) (i : Item) → item_adds i ≡ [] → item_cells i ≡ 0 → d.cells ≡ e.cells → Added d e i
unfolding cells_added
adds_none d e i none count same = record {
  cells = sym same ∙ sym (append-nil d.cells) ∙ ap (λ xs. d.cells ++ xs) (sym none);
  count =
      ap (λ n. cond (leb (length d.cells + n) 262144) n 0) count
      ∙ none_either_way (leb (length d.cells + 0) 262144) ∙ sym count;
  size = ap (λ (xs : List Cell). length xs) none ∙ sym count;
}

settings_same : {S : Type 0} (d e : DraftValue) (f : S → DraftValue) (r : Result S Fault)
    → ((s : S) → d.cells ≡ (f s).cells) → map_ok f r ≡ Ok e → d.cells ≡ e.cells
settings_same d e f r same is =
    let m = mapped f r e is in
    same m.0 ∙ ap (λ (g : DraftValue). g.cells) m.2

entry_same : (d e : DraftValue) (n : ℕ) → with_entry d n ≡ Ok e → d.cells ≡ e.cells
entry_same d e n is =
    ap (λ (f : DraftValue). f.cells)
    (passed (ltb (length d.entries) 16) (record d { entries = d.entries ++ n ∷ [] }) e _ is).1

word_same : (d e : DraftValue) (w : ℕ) → with_word d w ≡ Ok e → d.cells ≡ e.cells
word_same d e w is =
    ap (λ (f : DraftValue). f.cells)
    (passed (ltb (length d.words) 65536) (record d { words = d.words ++ w ∷ [] }) e _ is).1

cells_more : (d e : DraftValue) (count value tags : ℕ) → with_cells d count (cell_of value tags) ≡ Ok e
    → Added d e (item.Cells count value tags)
unfolding cells_added
cells_more d e count value tags is =
    let c = cell_of value tags in
    let p = passed (leb (length d.cells + count) 262144) (record d { cells = d.cells ++ replicate count c }) e _ is in
    record {
      cells = sym (ap (λ (f : DraftValue). f.cells) p.1);
      count = ap (λ b. cond b count 0) p.0;
      size = length-replicate count c;
    }

added : (d e : DraftValue) (i : Item) → add d i ≡ Ok e → Added d e i
unfolding add
added d e item.Nothing is =
    let same : d ≡ e = cc in adds_none d e item.Nothing refl refl (ap (λ (f : DraftValue). f.cells) same)
added d e (item.Profile p) is =
    adds_none d e (item.Profile p) refl refl (settings_same d e (λ s. record d { settings = s }) (profile_set d.settings) (λ s. refl) is)
added d e (item.Slim n) is = adds_none d e (item.Slim n) refl refl (settings_same d e (λ s. record d { settings = s }) (slim_set d.settings n) (λ s. refl) is)
added d e (item.Chain n) is = adds_none d e (item.Chain n) refl refl (settings_same d e (λ s. record d { settings = s }) (chain_set d.settings n) (λ s. refl) is)
added d e (item.Retry n) is = adds_none d e (item.Retry n) refl refl (settings_same d e (λ s. record d { settings = s }) (retry_set d.settings n) (λ s. refl) is)
added d e (item.Trap n) is = adds_none d e (item.Trap n) refl refl (settings_same d e (λ s. record d { settings = s }) (trap_set d.settings n) (λ s. refl) is)
added d e (item.Entry n) is = adds_none d e (item.Entry n) refl refl (entry_same d e n is)
added d e (item.Instruction i) is =
    adds_none d e (item.Instruction i) refl refl (word_same d e (number_of_fields (fields i)) is)
added d e (item.Word w) is = adds_none d e (item.Word w) refl refl (word_same d e w is)
added d e (item.Cells count value tags) is = cells_more d e count value tags is

-- a line adds its item
record Steps (p : Profile) (places : Places) (words k : ℕ) (d e : DraftValue) (l : Line) : Type 0 where
  i : Item
  reads : line_item p places words k (length d.words) l ≡ Ok i
  takes : Added d e i
  here : length e.words ≡ length d.words + word_count l

one_counted : (p : Profile) (places : Places) (words k : ℕ) (d e : DraftValue) (l : Line)
    → with_line p places words k d l ≡ Ok e → length e.words ≡ length d.words + word_count l
one_counted p places words k d e l is =
    let one : with_lines p places words k d (l ∷ []) ≡ Ok e = ap (λ (r : Result DraftValue Fault). after_line r k (λ (f : DraftValue). Ok f)) is in
    let n = counted p places words k d e (l ∷ []) one in
    omega arith

steps : (p : Profile) (places : Places) (words k : ℕ) (d e : DraftValue) (l : Line)
    → with_line p places words k d l ≡ Ok e → Steps p places words k d e l
unfolding with_line
steps p places words k d e l is =
    let b = bound (line_item p places words k (length d.words) l) (add d) e is in
    record { i = b.0; reads = b.1; takes = added d e b.0 b.2; here = one_counted p places words k d e l is }

gone : (r : Result DraftValue Fault) (k : ℕ) (f : DraftValue → Result DraftValue AsmFault) (e : DraftValue)
    → after_line r k f ≡ Ok e → (d : DraftValue) × (r ≡ Ok d) × (f d ≡ Ok e)
gone (Ok d) k f e is = (d, refl, is)
gone (Err x) k f e is = absurd cc

-- the cells of a draft stay in front of those of later lines
stay : (p : Profile) (places : Places) (words k : ℕ) (d e : DraftValue) (ls : List Line)
    → with_lines p places words k d ls ≡ Ok e → (more : List Cell) × (e.cells ≡ d.cells ++ more)
stay p places words k d e [] is =
    let same : d ≡ e = cc in
    ([], sym (ap (λ (f : DraftValue). f.cells) same) ∙ sym (append-nil d.cells))
stay p places words k d e (l ∷ ls) is =
    let g = gone (with_line p places words k d l) k (λ f. with_lines p places words (k + 1) f ls) e is in
    let s = steps p places words k d g.0 l g.1 in
    let r = stay p places words (k + 1) g.0 e ls g.2 in
    (item_adds s.i ++ r.0, r.1 ∙ ap (λ xs. xs ++ r.0) s.takes.cells ∙ append_assoc d.cells (item_adds s.i) r.0)

-- what a line of these, of which the first is line k behind so many words, says of these cells
record IsSaid (p : Profile) (places : Places) (words k here : ℕ) (bs : List (List ℕ)) (cells : List Cell)
    (l : DataLineValue) : Type 0 where
  m : ℕ
  number : k + m ≡ l.number
  stands : slice_get bs m ≡ Some l.bytes
  value : ℕ
  tags : ℕ
  reads : line_item p places words l.number (here + count_words (map line (take m bs))) (line l.bytes)
      ≡ Ok (item.Cells l.count value tags)
  are : take l.count (drop l.first cells) ≡ replicate l.count (cell_of value tags)

abbrev line_value : ℕ → List ℕ → ℕ → ℕ → DataLineValue
line_value k b first count = record { number = k; bytes = b; first = first; count = count }

-- a line of the first, which adds so many, or one of the others
abbrev Either : ℕ → List ℕ → ℕ → ℕ → List DataLineValue → DataLineValue → Type 0
Either k b first count rest l =
    ((c : ℕ) × (count ≡ suc c) × (line_value k b first count ≡ l)) ⊎ ((j : ℕ) × (slice_get rest j ≡ Some l))

either_by : (k : ℕ) (b : List ℕ) (first count : ℕ) (rest : List DataLineValue) (n : ℕ) (l : DataLineValue) (some : Bool)
    → ltb 0 count ≡ some → slice_get (cond some (line_value k b first count ∷ []) [] ++ rest) n ≡ Some l
    → Either k b first count rest l
either_by k b first count rest zero l true some is =
    let above = ltb-true 0 count some in
    let next : count ≡ suc (count - 1) = omega arith in
    inl (count - 1, next, cc)
either_by k b first count rest (suc n) l true some is = inr (n, is)
either_by k b first count rest n l false some is = inr (n, is)

either : (k : ℕ) (b : List ℕ) (first count : ℕ) (rest : List DataLineValue) (n : ℕ) (l : DataLineValue)
    → slice_get (data_line k b first count ++ rest) n ≡ Some l → Either k b first count rest l
either k b first count rest n l is = either_by k b first count rest n l (ltb 0 count) refl is

-- the item of a line that adds cells
record IsCells (i : Item) (count : ℕ) : Type 0 where
  value : ℕ
  tags : ℕ
  is : i ≡ item.Cells count value tags

no_cells : (i : Item) (count c : ℕ) → item_cells i ≡ count → count ≡ suc c → item_cells i ≡ 0 → IsCells i count
no_cells i count c is some none = absurd (omega arith)

cells_item : (i : Item) (count c : ℕ) → item_cells i ≡ count → count ≡ suc c → IsCells i count
cells_item item.Nothing count c is some = no_cells item.Nothing count c is some refl
cells_item (item.Profile p) count c is some = no_cells (item.Profile p) count c is some refl
cells_item (item.Slim n) count c is some = no_cells (item.Slim n) count c is some refl
cells_item (item.Chain n) count c is some = no_cells (item.Chain n) count c is some refl
cells_item (item.Retry n) count c is some = no_cells (item.Retry n) count c is some refl
cells_item (item.Trap n) count c is some = no_cells (item.Trap n) count c is some refl
cells_item (item.Entry n) count c is some = no_cells (item.Entry n) count c is some refl
cells_item (item.Instruction i) count c is some = no_cells (item.Instruction i) count c is some refl
cells_item (item.Word w) count c is some = no_cells (item.Word w) count c is some refl
cells_item (item.Cells n value tags) count c is some = record {
  value = value;
  tags = tags;
  is = ap (λ m. item.Cells m value tags) is;
}

-- what stands between two parts
between : (n : ℕ) (c : Cell) (xs zs : List Cell) → take n (drop (length xs) ((xs ++ replicate n c) ++ zs)) ≡ replicate n c
between n c xs zs =
    ap (λ ys. take n (drop (length xs) ys)) (append_assoc xs (replicate n c) zs)
    ∙ ap (λ ys. take n ys) (drop-append_seam xs (replicate n c ++ zs))
    ∙ ap (λ m. take m (replicate n c ++ zs)) (sym (length-replicate n c))
    ∙ take-append_seam (replicate n c) zs

first_said : (p : Profile) (places : Places) (words k : ℕ) (d f e : DraftValue) (b : List ℕ) (bs : List (List ℕ))
    (count c : ℕ) → (s : Steps p places words k d f (line b)) → item_cells s.i ≡ count → count ≡ suc c
    → with_lines p places words (k + 1) f (map line bs) ≡ Ok e
    → IsSaid p places words k (length d.words) (b ∷ bs) e.cells (line_value k b (length d.cells) count)
first_said p places words k d f e b bs count c s cells some is =
    let ci = cells_item s.i count c cells some in
    let more = stay p places words (k + 1) f e (map line bs) is in
    let them : item_adds s.i ≡ replicate count (cell_of ci.value ci.tags) = ap item_adds ci.is in
    let all : e.cells ≡ (d.cells ++ replicate count (cell_of ci.value ci.tags)) ++ more.0 =
    more.1 ∙ ap (λ xs. xs ++ more.0) (s.takes.cells ∙ ap (λ xs. d.cells ++ xs) them) in
    record {
      m = 0;
      number = omega arith;
      stands = refl;
      value = ci.value;
      tags = ci.tags;
      reads =
          ap (λ n. line_item p places words k n (line b)) (add-zero (length d.words)) ∙ s.reads
          ∙ ap (λ (i : Item). Ok i) ci.is;
      are =
          ap (λ xs. take count (drop (length d.cells) xs)) all
          ∙ between count (cell_of ci.value ci.tags) d.cells more.0;
    }

later_said : (p : Profile) (places : Places) (words k here next : ℕ) (b : List ℕ) (bs : List (List ℕ))
    (cells : List Cell) (l : DataLineValue) → next ≡ here + word_count (line b)
    → IsSaid p places words (k + 1) next bs cells l → IsSaid p places words k here (b ∷ bs) cells l
later_said p places words k here next b bs cells l more f =
    let n = f.number in
    let before : here + (word_count (line b) + count_words (map line (take f.m bs)))
    ≡ next + count_words (map line (take f.m bs)) = omega arith in
    record {
      m = suc f.m;
      number = omega arith;
      stands = f.stands;
      value = f.value;
      tags = f.tags;
      reads = ap (λ h. line_item p places words l.number h (line l.bytes)) before ∙ f.reads;
      are = f.are;
    }

said : (p : Profile) (places : Places) (words k : ℕ) (d e : DraftValue) (bs : List (List ℕ))
    → with_lines p places words k d (map line bs) ≡ Ok e → (n : ℕ) (l : DataLineValue)
    → slice_get (data_lines_from p places words k (length d.words) (length d.cells) bs) n ≡ Some l
    → IsSaid p places words k (length d.words) bs e.cells l
said p places words k d e [] is n l at = absurd cc
said p places words k d e (b ∷ bs) is n l at =
    let g = gone (with_line p places words k d (line b)) k
    (λ f. with_lines p places words (k + 1) f (map line bs)) e is in
    let s = steps p places words k d g.0 (line b) g.1 in
    let count = line_cells p places words k (length d.words) (length d.cells) b in
    let cells : count ≡ item_cells s.i = ap (λ r. cells_added (length d.cells) r) s.reads ∙ s.takes.count in
    let further : length g.0.cells ≡ length d.cells + count =
    ap (λ (xs : List Cell). length xs) s.takes.cells ∙ length-append d.cells (item_adds s.i)
    ∙ ap (λ m. length d.cells + m) (s.takes.size ∙ sym cells) in
    let rest = data_lines_from p places words (k + 1) (length d.words + word_count (line b)) (length d.cells + count) bs in
    let same : rest ≡ data_lines_from p places words (k + 1) (length g.0.words) (length g.0.cells) bs =
    λ i. data_lines_from p places words (k + 1) (sym s.here i) (sym further i) bs in
    ⊎_elim
    (λ h.
    subst (IsSaid p places words k (length d.words) (b ∷ bs) e.cells) h.2
    (first_said p places words k d g.0 e b bs count h.0 s (sym cells) h.1 g.2))
    (λ j.
    later_said p places words k (length d.words) (length g.0.words) b bs e.cells l s.here
    (said p places words (k + 1) g.0 e bs g.2 j.0 l (sym (ap (λ xs. slice_get xs j.0) same) ∙ j.1)))
    (either k b (length d.cells) count rest n l at)

abbrev counts : List DataLineValue → ℕ
counts ls = sum_by (λ (l : DataLineValue). l.count) ls

sum_by_test : (k : ℕ) (b : List ℕ) (first count : ℕ) (rest : List DataLineValue) (some : Bool) → ltb 0 count ≡ some
    → counts (cond some (line_value k b first count ∷ []) [] ++ rest) ≡ count + counts rest
sum_by_test k b first count rest true some =
    sum_by-cons (λ (l : DataLineValue). l.count) (line_value k b first count) rest
sum_by_test k b first count rest false some = let none = ltb-false 0 count some in omega arith

one_sum : (k : ℕ) (b : List ℕ) (first count : ℕ) (rest : List DataLineValue)
    → counts (data_line k b first count ++ rest) ≡ count + counts rest
one_sum k b first count rest = sum_by_test k b first count rest (ltb 0 count) refl

summed : (p : Profile) (places : Places) (words k : ℕ) (d e : DraftValue) (bs : List (List ℕ))
    → with_lines p places words k d (map line bs) ≡ Ok e
    → length d.cells + counts (data_lines_from p places words k (length d.words) (length d.cells) bs) ≡ length e.cells
summed p places words k d e [] is =
    let at : d ≡ e = cc in
    add-zero (length d.cells) ∙ ap (λ (f : DraftValue). length f.cells) at
summed p places words k d e (b ∷ bs) is =
    let g = gone (with_line p places words k d (line b)) k
    (λ f. with_lines p places words (k + 1) f (map line bs)) e is in
    let s = steps p places words k d g.0 (line b) g.1 in
    let count = line_cells p places words k (length d.words) (length d.cells) b in
    let cells : count ≡ item_cells s.i = ap (λ r. cells_added (length d.cells) r) s.reads ∙ s.takes.count in
    let further : length g.0.cells ≡ length d.cells + count =
    ap (λ (xs : List Cell). length xs) s.takes.cells ∙ length-append d.cells (item_adds s.i)
    ∙ ap (λ m. length d.cells + m) (s.takes.size ∙ sym cells) in
    let rest = data_lines_from p places words (k + 1) (length d.words + word_count (line b)) (length d.cells + count) bs in
    let same : rest ≡ data_lines_from p places words (k + 1) (length g.0.words) (length g.0.cells) bs =
    λ i. data_lines_from p places words (k + 1) (sym s.here i) (sym further i) bs in
    let one = one_sum k b (length d.cells) count rest in
    let them : counts rest ≡ counts (data_lines_from p places words (k + 1) (length g.0.words) (length g.0.cells) bs) =
    ap counts same in
    let others = summed p places words (k + 1) g.0 e bs g.2 in
    omega arith

of_lines : (o : Option ℕ) (ls : List Line) (i : ImageValue) → meaning_unless o ls ≡ Ok i → meaning_of_lines ls ≡ Ok i
of_lines None ls i e = e
of_lines (Some k) ls i e = absurd cc

whole : (b : Bool) (x i : ImageValue) (f : AsmFault) → cond b (Ok x) (Err f) ≡ Ok i → x ≡ i
whole true x i f e = cc
whole false x i f e = absurd cc

completed : (p : Profile) (r : Result DraftValue AsmFault) (i : ImageValue) → complete p r ≡ Ok i
    → (e : DraftValue) × (r ≡ Ok e) × (image_of_draft p e ≡ i)
completed p (Ok e) i is = (e, refl, whole (has_all e) (image_of_draft p e) i _ is)
completed p (Err f) i is = absurd cc

-- the draft of all lines of a text that means an image
record DraftOf (text : List ℕ) (image : ImageValue) : Type 0 where
  e : DraftValue
  lines_give : with_lines (profile_of (lines text)) (place (lines text)) (count_words (lines text)) 0 empty (lines text)
      ≡ Ok e
  cells : image.cells ≡ e.cells

draft_of : (text : List ℕ) (image : ImageValue) → Means text image → DraftOf text image
unfolding meaning_of meaning_of_lines image_of_draft
draft_of text image means =
    let ls = lines text in
    let c = completed (profile_of ls) (with_lines (profile_of ls) (place ls) (count_words ls) 0 empty ls) image
    (of_lines (not_ascii text) ls image means) in
    record { e = c.0; lines_give = c.1; cells = sym (ap (λ (i : ImageValue). i.cells) c.2) }

pub give_the_cells : DataLinesGiveTheCells
give_the_cells text image means =
    let d = draft_of text image means in
    let ls = lines text in
    record {
      each = λ n l at.
          let f = said (profile_of ls) (place ls) (count_words ls) 0 empty d.e (pieces 10 text) d.lines_give n l at in
          let number : f.m ≡ l.number = omega (arith, f.number) in
          record {
            value = f.value;
            tags = f.tags;
            stands = subst (λ m. slice_get (pieces 10 text) m ≡ Some l.bytes) number f.stands;
            reads =
                subst
                (λ m. line_item (profile_of ls) (place ls) (count_words ls) l.number
                (count_words (map line (take m (pieces 10 text)))) (line l.bytes) ≡ Ok (item.Cells l.count f.value f.tags))
                number
                (ap (λ h. line_item (profile_of ls) (place ls) (count_words ls) l.number h (line l.bytes))
                (let n : count_words (map line (take f.m (pieces 10 text))) ≡ 0 + count_words (map line (take f.m (pieces 10 text))) = omega arith in n)
                ∙ f.reads);
            cells = ap (λ xs. take l.count (drop l.first xs)) d.cells ∙ f.are;
          };
      all =
          let n = summed (profile_of ls) (place ls) (count_words ls) 0 empty d.e (pieces 10 text) d.lines_give in
          omega (arith, n, ap (λ (xs : List Cell). length xs) d.cells);
    }
