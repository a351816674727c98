-- The words of a draft are as many as the lines that count as words.
use Rattle.std.proofs.Common.{◌≡◌, ℕ, ◌+◌, Bool, true, false, not, cond, eqb, ltb, leb, List, [], ◌∷◌, ◌++◌, length}
use Rattle.std.proofs.Common.{replicate}
use Rattle.std.proofs.Common.{Some, None, Result, Ok, Err, refl, sym, ◌∙◌, ap, arith, length-append}
use Rattle.std.proofs.Common.{⊎_elim}
use Rattle.std.specs.Prelude.{⊤, codes, slice_index, ◌&&◌, ◌||◌}
use Rattle.std.specs.Str.{bytes_eq}
use Rattle.std.proofs.lemmas.Bool.{cases_Bool}
use Rattle.std.proofs.lemmas.Bool.Decides.{nat_tests}
use Rattle.std.proofs.lemmas.Slice.Eq.{bytes_eq-Decides}
use Rattle.tag_memory.specs.Cell.{Cell, cell_of}
use Rattle.insn_word.specs.Fields.{number_of_fields}
use Rattle.insn_word.specs.Words.{fields}
use Rattle.insn_word.specs.declared.insn.Insn.{Insn}
use Rattle.insn_word.specs.declared.profiles.Profile.{Profile}
use Rattle.asm_line.specs.Text.{head, operands}
use Rattle.asm_line.specs.Faults.{map_ok, ◌>>=◌, both, unless_unknown}
use Rattle.asm_line.specs.Heads.{directive_of, directive_named}
use Rattle.asm_line.specs.Names.{directive_name, has_directive}
use Rattle.asm_line.specs.Operands.{Places}
use Rattle.asm_line.specs.Instructions.{instruction_of_text}
use Rattle.asm_line.specs.Numbers.{count_within}
use Rattle.asm_line.specs.Directives.{profile_read, item_of_directive, cells, word_number, tags_number}
use Rattle.asm_line.specs.Lines.{Line, line_item, statement_item, directive_item, label_fault, is_word, word_count}
use Rattle.asm_line.specs.Lines.{count_words}
use Rattle.asm_line.specs.declared.fault.Fault.{Fault}
use Rattle.asm_line.specs.declared.fault.Fault.TheVariants as fault
use Rattle.asm_line.specs.declared.item.Item.{Item}
use Rattle.asm_line.specs.declared.item.Item.TheVariants as item
use Rattle.asm_line.specs.declared.operation.Directive.{Directive}
use Rattle.asm_line.specs.declared.operation.Directive.TheVariants as directive
use Rattle.asm_text.specs.declared.fault.AsmFault.{AsmFault}
use Rattle.asm_text.specs.declared.settings.Settings.{Settings}
use Rattle.asm_text.specs.Settings.{profile_set, slim_set, chain_set, retry_set, trap_set}
use Rattle.asm_text.specs.Drafts.{DraftValue, add, with_settings, with_entry, with_word, with_cells}
use Rattle.asm_text.specs.Sources.{with_line, with_lines, after_line}
use Rattle.asm_text.proofs.Kept.{mapped, passed}

-- how many words an item is
abbrev item_words : Item → ℕ
item_words (item.Instruction i) = 1
item_words (item.Word w) = 1
item_words _ = 0

abbrev is_word_directive : Directive → Bool
is_word_directive directive.Word = true
is_word_directive _ = false

pub bound : {A B : Type 0} (r : Result A Fault) (f : A → Result B Fault) (y : B) → (r >>= f) ≡ Ok y
    → (x : A) × (r ≡ Ok x) × (f x ≡ Ok y)
bound (Ok x) f y e = (x, refl, e)
bound (Err k) f y e = absurd cc

second : {A B : Type 0} (r : Result A Fault) (s : Result B Fault) (v : A × B) → both r s ≡ Ok v → s ≡ Ok v.1
second {A = A} {B = B} (Ok x) (Ok y) v e = let pair : (x, y) ≡ v = cc in ap (λ (p : A × B). Ok p.1) pair
second (Ok x) (Err f) v e = absurd cc
second (Err d) (Ok y) v e = absurd cc
second (Err d) (Err f) v e = absurd cc

named_other : (named is : Directive) → is_word_directive named ≡ false → named ≡ is → is_word_directive is ≡ false
named_other named is other at = sym (ap is_word_directive at) ∙ other

not_word : (b c d e f g h k : Bool) (is : Directive)
    → unless_unknown
    (cond b (Some directive.Profile) (cond c (Some directive.Slim) (cond d (Some directive.Chain)
    (cond e (Some directive.Retry) (cond f (Some directive.Trap) (cond g (Some directive.Entry)
    (cond false (Some directive.Word) (cond h (Some directive.Data) (cond k (Some directive.Fill) None))))))))) ≡ Ok is
    → is_word_directive is ≡ false
not_word true c d e f g h k is at = named_other directive.Profile is refl cc
not_word false true d e f g h k is at = named_other directive.Slim is refl cc
not_word false false true e f g h k is at = named_other directive.Chain is refl cc
not_word false false false true f g h k is at = named_other directive.Retry is refl cc
not_word false false false false true g h k is at = named_other directive.Trap is refl cc
not_word false false false false false true h k is at = named_other directive.Entry is refl cc
not_word false false false false false false true k is at = named_other directive.Data is refl cc
not_word false false false false false false false true is at = named_other directive.Fill is refl cc
not_word false false false false false false false false is at = absurd cc

word_named : (profile : Profile) → directive_of profile (codes ".word") ≡ Ok directive.Word
unfolding directive_of directive_named
word_named profile = refl

-- whether the name is the directive's, in a profile that has it
abbrev is_named : Profile → List ℕ → Directive → Bool
is_named profile name d = bytes_eq name (directive_name d) && has_directive profile d

unnamed : (profile : Profile) (name : List ℕ) (d : Directive) → bytes_eq name (codes ".word") ≡ false
    → directive_of profile name ≡ Ok d → is_word_directive d ≡ false
unfolding directive_of directive_named
unnamed profile name d other is =
    not_word (is_named profile name directive.Profile) (is_named profile name directive.Slim)
    (is_named profile name directive.Chain) (is_named profile name directive.Retry)
    (is_named profile name directive.Trap) (is_named profile name directive.Entry)
    (is_named profile name directive.Data) (is_named profile name directive.Fill) d (rw other at is)

-- a head names .word exactly where it is so spelt
named : (profile : Profile) (name : List ℕ) (d : Directive) → directive_of profile name ≡ Ok d
    → is_word_directive d ≡ bytes_eq name (codes ".word")
named profile name d is = ⊎_elim
    (λ yes. let at : directive.Word ≡ d =
    cc (word_named profile, ap (directive_of profile) ((bytes_eq-Decides name (codes ".word")).0 yes)) in
    sym (ap is_word_directive at) ∙ sym yes)
    (λ no. unnamed profile name d no is ∙ sym no)
    (cases_Bool (bytes_eq name (codes ".word")))

no_words : {A : Type 0} (f : A → Item) (r : Result A Fault) (i : Item) (n : ℕ) → ((x : A) → item_words (f x) ≡ n)
    → map_ok f r ≡ Ok i → item_words i ≡ n
no_words f r i n h is = let m = mapped f r i is in sym (ap item_words m.2) ∙ h m.0

abbrev Counts : Places → ℕ → Directive → List (List ℕ) → Type 0
Counts places words d ops = (i : Item) → item_of_directive places words d ops ≡ Ok i
    → item_words i ≡ cond (is_word_directive d) 1 0

cells_count : (a b t : Result ℕ Fault) (i : Item) → cells a b t ≡ Ok i → item_words i ≡ 0
cells_count a b t i is =
    no_words (λ (v : (ℕ × ℕ) × ℕ). item.Cells v.0.0 v.0.1 v.1) (both (both a b) t) i 0 (λ v. refl) is

directed_counts : (places : Places) (words : ℕ) (d : Directive) (o : List (List ℕ)) → Counts places words d o
unfolding item_of_directive profile_read
directed_counts places words directive.Profile [] i is = absurd cc
directed_counts places words directive.Profile (x ∷ []) i is =
    no_words (λ (p : Profile). item.Profile p) _ i 0 (λ p. refl) is
directed_counts places words directive.Profile (x ∷ y ∷ zs) i is = absurd cc
directed_counts places words directive.Slim [] i is = absurd cc
directed_counts places words directive.Slim (x ∷ []) i is = no_words (λ (n : ℕ). item.Slim n) _ i 0 (λ n. refl) is
directed_counts places words directive.Slim (x ∷ y ∷ zs) i is = absurd cc
directed_counts places words directive.Chain [] i is = absurd cc
directed_counts places words directive.Chain (x ∷ []) i is = no_words (λ (n : ℕ). item.Chain n) _ i 0 (λ n. refl) is
directed_counts places words directive.Chain (x ∷ y ∷ zs) i is = absurd cc
directed_counts places words directive.Retry [] i is = absurd cc
directed_counts places words directive.Retry (x ∷ []) i is = no_words (λ (n : ℕ). item.Retry n) _ i 0 (λ n. refl) is
directed_counts places words directive.Retry (x ∷ y ∷ zs) i is = absurd cc
directed_counts places words directive.Trap [] i is = absurd cc
directed_counts places words directive.Trap (x ∷ []) i is = no_words (λ (n : ℕ). item.Trap n) _ i 0 (λ n. refl) is
directed_counts places words directive.Trap (x ∷ y ∷ zs) i is = absurd cc
directed_counts places words directive.Entry [] i is = absurd cc
directed_counts places words directive.Entry (x ∷ []) i is = no_words (λ (n : ℕ). item.Entry n) _ i 0 (λ n. refl) is
directed_counts places words directive.Entry (x ∷ y ∷ zs) i is = absurd cc
directed_counts places words directive.Word [] i is = absurd cc
directed_counts places words directive.Word (x ∷ []) i is = no_words (λ (n : ℕ). item.Word n) _ i 1 (λ n. refl) is
directed_counts places words directive.Word (x ∷ y ∷ zs) i is = absurd cc
directed_counts places words directive.Data [] i is = absurd cc
directed_counts places words directive.Data (x ∷ []) i is = cells_count (Ok 1) (word_number x) (Ok 1) i is
directed_counts places words directive.Data (x ∷ y ∷ []) i is =
    cells_count (Ok 1) (word_number x) (tags_number y) i is
directed_counts places words directive.Data (x ∷ y ∷ z ∷ zs) i is = absurd cc
directed_counts places words directive.Fill [] i is = absurd cc
directed_counts places words directive.Fill (x ∷ []) i is = absurd cc
directed_counts places words directive.Fill (x ∷ y ∷ []) i is = absurd cc
directed_counts places words directive.Fill (x ∷ y ∷ z ∷ []) i is =
    cells_count (count_within 262144 x) (word_number y) (tags_number z) i is
directed_counts places words directive.Fill (x ∷ y ∷ z ∷ a ∷ zs) i is = absurd cc

directive_counts : (profile : Profile) (places : Places) (words : ℕ) (t : List ℕ) (i : Item)
    → directive_item profile places words t ≡ Ok i
    → item_words i ≡ cond (bytes_eq (head t) (codes ".word")) 1 0
directive_counts profile places words t i is =
    let b = bound (directive_of profile (head t)) (λ d. item_of_directive places words d (operands t)) i is in
    directed_counts places words b.0 (operands t) i b.2 ∙ ap (λ w. cond w 1 0) (named profile (head t) b.0 b.1)

by_form : (none some dot word : Bool) (item_of_directive : Result Item Fault) (insn : Result Insn Fault) (i : Item)
    → some ≡ not none
    → (item_of_directive ≡ Ok i → item_words i ≡ cond word 1 0)
    → cond none (Ok item.Nothing) (cond dot item_of_directive (map_ok (λ (j : Insn). item.Instruction j) insn)) ≡ Ok i
    → item_words i ≡ cond (some && (not dot || word)) 1 0
by_form true some dot word r insn i e h is =
    let at : item.Nothing ≡ i = cc in
    sym (ap item_words at) ∙ ap (λ b. cond (b && (not dot || word)) 1 0) (sym e)
by_form false some true word r insn i e h is = h is ∙ ap (λ b. cond (b && word) 1 0) (sym e)
by_form false some false word r insn i e h is =
    no_words (λ (j : Insn). item.Instruction j) insn i 1 (λ j. refl) is ∙ ap (λ b. cond (b && true) 1 0) (sym e)

some_bytes : (n : ℕ) → ltb 0 n ≡ not (eqb n 0)
some_bytes n = grind (arith, nat_tests)

statement_counts : (profile : Profile) (places : Places) (words here : ℕ) (t : List ℕ) (i : Item)
    → statement_item profile places words here t ≡ Ok i
    → item_words i ≡ cond (is_word t) 1 0
unfolding statement_item is_word
statement_counts profile places words here t i is =
    by_form (eqb (length t) 0) (ltb 0 (length t)) (eqb (slice_index t 0) 46) (bytes_eq (head t) (codes ".word"))
    (directive_item profile places words t) (instruction_of_text profile places here t) i (some_bytes (length t))
    (directive_counts profile places words t i) is

line_counts : (profile : Profile) (places : Places) (words k here : ℕ) (l : Line) (i : Item)
    → line_item profile places words k here l ≡ Ok i
    → item_words i ≡ word_count l
unfolding line_item
line_counts profile places words k here l i is =
    let m = mapped (λ (v : ⊤ × Item). v.1)
    (both (label_fault places k l.label l.statement) (statement_item profile places words here l.statement)) i is in
    statement_counts profile places words here l.statement i
    (second (label_fault places k l.label l.statement) (statement_item profile places words here l.statement) m.0 m.1
    ∙ ap (λ (j : Item). Ok j) m.2)

settings_count : (d e : DraftValue) (r : Result Settings Fault) → with_settings d r ≡ Ok e
    → length e.words ≡ length d.words + 0
settings_count d e r is =
    let m = mapped (λ s. record d { settings = s }) r e is in
    let same : length d.words ≡ length e.words = ap (λ (f : DraftValue). length f.words) m.2 in omega arith

entry_count : (d e : DraftValue) (n : ℕ) → with_entry d n ≡ Ok e → length e.words ≡ length d.words + 0
entry_count d e n is =
    let p = passed (ltb (length d.entries) 16) (record d { entries = d.entries ++ n ∷ [] }) e fault.Limit is in
    let same : length d.words ≡ length e.words = ap (λ (f : DraftValue). length f.words) p.1 in omega arith

word_added : (d e : DraftValue) (w : ℕ) → with_word d w ≡ Ok e → length e.words ≡ length d.words + 1
word_added d e w is =
    let p = passed (ltb (length d.words) 65536) (record d { words = d.words ++ w ∷ [] }) e fault.Limit is in
    let same : length (d.words ++ w ∷ []) ≡ length e.words = ap (λ (f : DraftValue). length f.words) p.1 in
    omega (arith, length-append d.words (w ∷ []))

cells_kept : (d e : DraftValue) (n : ℕ) (c : Cell) → with_cells d n c ≡ Ok e → length e.words ≡ length d.words + 0
cells_kept d e n c is =
    let p = passed (leb (length d.cells + n) 262144) (record d { cells = d.cells ++ replicate n c }) e
    fault.Limit is in
    let same : length d.words ≡ length e.words = ap (λ (f : DraftValue). length f.words) p.1 in omega arith

add_counts : (d e : DraftValue) (i : Item) → add d i ≡ Ok e → length e.words ≡ length d.words + item_words i
unfolding add
add_counts d e item.Nothing is =
    let at : d ≡ e = cc in
    let same : length d.words ≡ length e.words = ap (λ (f : DraftValue). length f.words) at in omega arith
add_counts d e (item.Chain n) is = settings_count d e (chain_set d.settings n) is
add_counts d e (item.Profile p) is = settings_count d e (profile_set d.settings) is
add_counts d e (item.Slim n) is = settings_count d e (slim_set d.settings n) is
add_counts d e (item.Retry n) is = settings_count d e (retry_set d.settings n) is
add_counts d e (item.Trap n) is = settings_count d e (trap_set d.settings n) is
add_counts d e (item.Entry n) is = entry_count d e n is
add_counts d e (item.Instruction i) is = word_added d e (number_of_fields (fields i)) is
add_counts d e (item.Word w) is = word_added d e w is
add_counts d e (item.Cells count value tags) is = cells_kept d e count (cell_of value tags) is

with_line_counts : (profile : Profile) (places : Places) (words k : ℕ) (d e : DraftValue) (l : Line)
    → with_line profile places words k d l ≡ Ok e
    → length e.words ≡ length d.words + word_count l
unfolding with_line
with_line_counts profile places words k d e l is =
    let b = bound (line_item profile places words k (length d.words) l) (add d) e is in
    add_counts d e b.0 b.2 ∙ ap (λ n. length d.words + n)
    (line_counts profile places words k (length d.words) l b.0 b.1)

gone : (r : Result DraftValue Fault) (k : ℕ) (f : DraftValue → Result DraftValue AsmFault) (e : DraftValue)
    → after_line r k f ≡ Ok e → (d : DraftValue) × (r ≡ Ok d) × (f d ≡ Ok e)
gone (Ok d) k f e is = (d, refl, is)
gone (Err x) k f e is = absurd cc

-- each word is a line that counts
pub counted : (profile : Profile) (places : Places) (words k : ℕ) (d e : DraftValue) (ls : List Line)
    → with_lines profile places words k d ls ≡ Ok e
    → length e.words ≡ length d.words + count_words ls
counted profile places words k d e [] is =
    let at : d ≡ e = cc in
    let same : length d.words ≡ length e.words = ap (λ (f : DraftValue). length f.words) at in omega arith
counted profile places words k d e (l ∷ ls) is =
    let g = gone (with_line profile places words k d l) k (λ f. with_lines profile places words (k + 1) f ls) e is in
    let first = with_line_counts profile places words k d g.0 l g.1 in
    let rest = counted profile places words (k + 1) g.0 e ls g.2 in
    omega arith
