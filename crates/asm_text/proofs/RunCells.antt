-- Runs are the cells, as long as they can be; the first one, as it is cut off.
use Rattle.std.proofs.Common.{◌≡◌, ℕ, ◌-◌, ◌<◌, ◌≤◌, true, eqb, List, [], ◌∷◌, ◌++◌, length, take, drop, replicate}
use Rattle.std.proofs.Common.{get_or, Option, Some, None, refl, sym, ◌∙◌, ap, subst, arith}
use Rattle.std.specs.Prelude.{MatchOption, ◌^◌}
use Rattle.std.specs.List.{flat_map, slice_get, All, AllByRecursion}
use Rattle.std.proofs.lemmas.Bool.{and_parts, and_from, eqb-true, eq-eqb}
use Rattle.std.proofs.lemmas.List.{nil_from_length}
use Rattle.std.proofs.lemmas.List.Elements.{All-append, All-nil, All-replicate}
use Rattle.std.proofs.lemmas.Slice.{between_to_end}
use Rattle.text_parts.specs.Runs.{runs_of, run_length, run_things}
use Rattle.text_parts.proofs.RunLaws.{IsEquality, IsRunOf, first_run, some_first, runs_whole, each_run, some_run}
use Rattle.text_parts.proofs.RunLaws.{neighbours_differ}
use Rattle.tag_memory.specs.Cell.{Cell, cell_of, tag_number}
use Rattle.image_file.specs.Same.{same_cell}
use Rattle.image_file.specs.SameLaws.{cell_of-tag_number}
use Rattle.asm_text.specs.Runs.{cell_runs}
use Rattle.asm_text.specs.Laws.{RunsAreCells, RunsHaveCells, RunsAreMaximal}

same_is : (c d : Cell) → same_cell c d ≡ true → c ≡ d
same_is c d e =
    let p = and_parts (eqb c.value d.value) (eqb (tag_number c) (tag_number d)) e in
    let v = eqb-true c.value d.value p.0 in
    let t = eqb-true (tag_number c) (tag_number d) p.1 in
    sym (cell_of-tag_number c) ∙ (λ i. cell_of (v i) (t i)) ∙ cell_of-tag_number d

same_self : (c : Cell) → same_cell c c ≡ true
same_self c =
    and_from (eqb c.value c.value) (eqb (tag_number c) (tag_number c))
    (eq-eqb c.value c.value refl) (eq-eqb (tag_number c) (tag_number c) refl)

cells_equal : IsEquality Cell same_cell
cells_equal = record { is = same_is; self = same_self }

pub runs_are_cells : RunsAreCells
runs_are_cells cells = runs_whole same_cell cells_equal cells

pub runs_have_cells : RunsHaveCells
runs_have_cells cells = some_run same_cell cells_equal cells

pub runs_are_maximal : RunsAreMaximal
runs_are_maximal cells = neighbours_differ same_cell cells_equal cells

-- of what the runs of cells are made
pub runs_fit : (cells : List Cell) → All (λ (c : Cell). c.value < 2 ^ 64) cells
    → AllByRecursion (IsRunOf (λ (c : Cell). c.value < 2 ^ 64) (length cells)) (cell_runs cells)
runs_fit cells h = each_run same_cell cells_equal (λ (c : Cell). c.value < 2 ^ 64) cells h

-- The first run, as it is cut off.

pub no_cells : (cells : List Cell) → length cells ≤ 0 → cell_runs cells ≡ []
unfolding runs_of
no_cells cells none = ap cell_runs (nil_from_length cells (omega arith))

at_get : (cells : List Cell) (c : Cell) → 0 < length cells → c ≡ get_or cells 0 c → slice_get cells 0 ≡ Some c
at_get [] c some first = absurd (omega arith)
at_get (d ∷ ds) c some first = ap Some (sym first)

pub run_cut : (cells : List Cell) (c : Cell) (n : ℕ) → 0 < length cells → c ≡ get_or cells 0 c
    → n ≡ run_length same_cell c cells
    → cell_runs cells ≡ record { thing = c; times = n } ∷ cell_runs (take (length cells - n) (drop n cells))
run_cut cells c n some first e =
    first_run same_cell cells_equal c cells (at_get cells c some first)
    ∙ ap (λ m. record { thing = c; times = m } ∷ cell_runs (drop m cells)) (sym e)
    ∙ ap (λ xs. record { thing = c; times = n } ∷ cell_runs xs)
    (sym (between_to_end cells n (length cells) (omega arith)))

pub run_some : (cells : List Cell) (c : Cell) → 0 < length cells → c ≡ get_or cells 0 c
    → 0 < run_length same_cell c cells
run_some cells c some first = (some_first same_cell cells_equal c cells (at_get cells c some first)).0

pub at_none : {T : Type 0} (r : Option T) (P : Type 0) (Q : T → Type 0) → r ≡ None → MatchOption r P Q → P
at_none None P Q e h = h
at_none (Some x) P Q e h = absurd cc

-- A run and what is behind it, and all cells that they are.

pub run_fits : (cells following : List Cell) (times : ℕ) (cell : Cell)
    → cell_runs cells ≡ record { thing = cell; times = times } ∷ cell_runs following → cell.value < 2 ^ 64
    → All (λ (c : Cell). c.value < 2 ^ 64) following → All (λ (c : Cell). c.value < 2 ^ 64) cells
run_fits cells following times cell first v more =
    let Fit : Cell → Type 0 = λ c. c.value < 2 ^ 64 in
    let split : replicate times cell ++ following ≡ cells =
    ap (λ cs. replicate times cell ++ cs) (sym (runs_are_cells following))
    ∙ sym (ap (λ rs. flat_map run_things rs) first) ∙ runs_are_cells cells in
    subst (All Fit) split
    (All-append Fit (replicate times cell) following (All-replicate Fit times cell v) more)

pub no_runs_fit : (cells : List Cell) → cell_runs cells ≡ [] → All (λ (c : Cell). c.value < 2 ^ 64) cells
no_runs_fit cells none =
    let Fit : Cell → Type 0 = λ c. c.value < 2 ^ 64 in
    subst (All Fit) (sym (ap (λ rs. flat_map run_things rs) none) ∙ runs_are_cells cells) (All-nil Fit)
