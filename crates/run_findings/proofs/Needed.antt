-- Which registers a value is computed from.
use Rattle.std.proofs.Common.{◌≡◌, ℕ, zero, suc, ◌<◌, ◌≤◌, ◌==◌, Bool, true, false, not, cond, List, [], ◌∷◌, length, get_or, set, drop}
use Rattle.std.proofs.Common.{refl, sym, ap, ◌∙◌, arith, ◌&&◌, ◌||◌}
use Rattle.std.proofs.lemmas.Bool.{or_parts}
use Rattle.std.proofs.lemmas.List.{length-set}
use Rattle.insn_word.specs.Words.{memory_destination, arithmetic_destination, control_destination}
use Rattle.insn_word.specs.declared.insn.MPart.{MPart}
use Rattle.insn_word.specs.declared.insn.APart.{APart}
use Rattle.insn_word.specs.declared.insn.CPart.{CPart}
use Rattle.insn_word.specs.declared.operations.WideOp.{WideOp}
use Rattle.insn_word.specs.declared.operations.WideOp.TheVariants as wide
use Rattle.run_findings.specs.Marks.{no_marks, mark_at, with_mark, arithmetic_mark, control_mark, target_marks}
use Rattle.run_findings.specs.Marks.{marks_after_parts, marks_after_wide}
use Rattle.run_findings.specs.Needs.{is_any, are_any, any_both, are_shared, is_needed, is_control_needed, is_arithmetic_needed}
use Rattle.run_findings.specs.Needs.{without_written, without_target, with_targets}
use Rattle.run_findings.specs.declared.marks.Marks.{Marks}

-- No marks.

pub none_right : (xs ys : List Bool) → is_any ys ≡ false → any_both xs ys ≡ false
none_right [] ys none = refl
none_right (x ∷ xs) [] none = refl
none_right (x ∷ xs) (true ∷ ys) none = absurd cc
none_right (true ∷ xs) (false ∷ ys) none = none_right xs ys none
none_right (false ∷ xs) (false ∷ ys) none = none_right xs ys none

none_left : (xs ys : List Bool) → is_any xs ≡ false → any_both xs ys ≡ false
none_left [] ys none = refl
none_left (x ∷ xs) [] none = refl
none_left (true ∷ xs) (y ∷ ys) none = absurd cc
none_left (false ∷ xs) (y ∷ ys) none = none_left xs ys none

either : (a b : Bool) → a ≡ false → b ≡ false → (a || b) ≡ false
either true b first second = absurd cc
either false b first second = second

pub none_shared : (m : Marks) → are_shared m no_marks ≡ false
none_shared m =
    either (any_both m.registers no_marks.registers) (any_both m.targets no_marks.targets)
    (none_right m.registers no_marks.registers refl) (none_right m.targets no_marks.targets refl)

pub shared_none : (m : Marks) → are_shared no_marks m ≡ false
shared_none m =
    either (any_both no_marks.registers m.registers) (any_both no_marks.targets m.targets)
    (none_left no_marks.registers m.registers refl) (none_left no_marks.targets m.targets refl)

pub none_needed : (m n : Marks) → are_any n ≡ false → are_shared m n ≡ false
none_needed m n none =
    let both = or_parts (is_any n.registers) (is_any n.targets) none in
    either (any_both m.registers n.registers) (any_both m.targets n.targets)
    (none_right m.registers n.registers both.0) (none_right m.targets n.targets both.1)

-- One mark more or less.

swapped : (a b c : Bool) → (a || (b || c)) ≡ (b || (a || c))
swapped true true c = refl
swapped true false c = refl
swapped false b c = refl

joined : (a b c : Bool) → ((a || b) || c) ≡ (a || (b || c))
joined true b c = refl
joined false b c = refl

off_first : (x y h : Bool) → ((false && y) || h) ≡ ((x && false) || h)
off_first true y h = refl
off_first false y h = refl

both_off : (xs ys : List Bool) (r : ℕ) → any_both (set xs r false) ys ≡ any_both xs (set ys r false)
both_off [] ys r = refl
both_off (x ∷ xs) [] zero = refl
both_off (x ∷ xs) [] (suc r) = refl
both_off (x ∷ xs) (y ∷ ys) zero = off_first x y (any_both xs ys)
both_off (x ∷ xs) (y ∷ ys) (suc r) = ap (λ t. (x && y) || t) (both_off xs ys r)

on_first : (x y h : Bool) → ((true && y) || h) ≡ (y || ((x && false) || h))
on_first true y h = refl
on_first false y h = refl

both_on : (xs ys : List Bool) (r : ℕ) → length xs ≡ length ys
    → any_both (set xs r true) ys ≡ (get_or ys r false || any_both xs (set ys r false))
both_on [] [] r same = refl
both_on [] (y ∷ ys) r same = absurd (omega arith)
both_on (x ∷ xs) [] r same = absurd (omega arith)
both_on (x ∷ xs) (y ∷ ys) zero same = on_first x y (any_both xs ys)
both_on (x ∷ xs) (y ∷ ys) (suc r) same =
    ap (λ t. (x && y) || t) (both_on xs ys r (omega arith))
    ∙ swapped (x && y) (get_or ys r false) (any_both xs (set ys r false))

both_set : (xs ys : List Bool) (r : ℕ) (b : Bool) → length xs ≡ length ys
    → any_both (set xs r b) ys ≡ ((b && get_or ys r false) || any_both xs (set ys r false))
both_set xs ys r true same = both_on xs ys r same
both_set xs ys r false same = both_off xs ys r

add_first : (x y h : Bool) → ((x && true) || h) ≡ (x || ((x && y) || h))
add_first true y h = refl
add_first false y h = refl

both_add : (xs ys : List Bool) (r : ℕ) → length xs ≡ length ys
    → any_both xs (set ys r true) ≡ (get_or xs r false || any_both xs ys)
both_add [] [] r same = refl
both_add [] (y ∷ ys) r same = absurd (omega arith)
both_add (x ∷ xs) [] r same = absurd (omega arith)
both_add (x ∷ xs) (y ∷ ys) zero same = add_first x y (any_both xs ys)
both_add (x ∷ xs) (y ∷ ys) (suc r) same =
    ap (λ t. (x && y) || t) (both_add xs ys r (omega arith))
    ∙ swapped (x && y) (get_or xs r false) (any_both xs ys)

unwritten : (b t h : Bool) → h ≡ ((b && (false && t)) || h)
unwritten true t h = refl
unwritten false t h = refl

with_by : (t : Bool) (xs ys : List Bool) (r : ℕ) (b : Bool) → length xs ≡ length ys
    → any_both (cond t xs (set xs r b)) ys
    ≡ ((b && (not t && get_or ys r false)) || any_both xs (cond t ys (set ys r false)))
with_by true xs ys r b same = unwritten b (get_or ys r false) (any_both xs ys)
with_by false xs ys r b same = both_set xs ys r b same

both_with : (xs ys : List Bool) (r : ℕ) (b : Bool) → length xs ≡ length ys
    → any_both (with_mark xs r b) ys ≡ ((b && is_needed ys r) || any_both xs (with_mark ys r false))
both_with xs ys r b same = with_by (r == 0) xs ys r b same

length_by : (t : Bool) (xs : List Bool) (r : ℕ) (b : Bool) → length (cond t xs (set xs r b)) ≡ length xs
length_by true xs r b = refl
length_by false xs r b = length-set xs r b

pub length_with : (xs : List Bool) (r : ℕ) (b : Bool) → length (with_mark xs r b) ≡ length xs
length_with xs r b = length_by (r == 0) xs r b

-- What an instruction writes.

written : (xs ys : List Bool) (c a m : ℕ) (got made : Bool) → length xs ≡ length ys
    → any_both (with_mark (with_mark (with_mark xs m false) a made) c got) ys
    ≡ ((got && is_needed ys c) || ((made && is_needed (with_mark ys c false) a)
    || any_both xs (with_mark (with_mark (with_mark ys c false) a false) m false)))
written xs ys c a m got made same =
    let us = with_mark xs m false in
    let vs = with_mark us a made in
    let zs = with_mark ys c false in
    let ws = with_mark zs a false in
    let first : length vs ≡ length ys = length_with us a made ∙ length_with xs m false ∙ same in
    let second : length us ≡ length zs = length_with xs m false ∙ same ∙ sym (length_with ys c false) in
    let third : length xs ≡ length ws = same ∙ sym (length_with zs a false ∙ length_with ys c false) in
    both_with vs ys c got first
    ∙ ap (λ t. (got && is_needed ys c) || t) (
    both_with us zs a made second
    ∙ ap (λ t. (made && is_needed zs a) || t) (both_with xs ws m false third)
    )

gathered : (p q y x : Bool) → ((p || (q || y)) || x) ≡ (q || (p || (y || x)))
gathered true true y x = refl
gathered true false y x = refl
gathered false true y x = refl
gathered false false y x = refl

pub parts_needed : (n self rest one two : Marks) (m : MPart) (a : APart) (c : CPart) (got made : Bool)
    → length n.registers ≡ length self.registers → got ≡ is_control_needed self c → made ≡ is_arithmetic_needed self a c
    → are_shared (with_targets n c) (without_written self m a c) ≡ are_shared n rest
    → are_shared n one ≡ ((control_mark n c c.op && got) || are_shared n rest)
    → are_shared n two ≡ ((arithmetic_mark n a && made) || are_shared n one)
    → are_shared (marks_after_parts n m a c false) self ≡ are_shared n two
parts_needed n self rest one two m a c got made same got_is made_is rest_is one_is two_is =
    let p = control_mark n c c.op && is_control_needed self c in
    let q = arithmetic_mark n a && is_arithmetic_needed self a c in
    let y = any_both n.registers (without_written self m a c).registers in
    let x = any_both (target_marks n c c.op) self.targets in
    ap (λ t. t || x) (written n.registers self.registers (control_destination c.op c.rd)
    (arithmetic_destination a.op a.rd) (memory_destination m.op m.rd) (control_mark n c c.op) (arithmetic_mark n a) same)
    ∙ gathered p q y x
    ∙ ap (λ t. q || (p || t)) rest_is
    ∙ ap (λ t. q || ((control_mark n c c.op && t) || are_shared n rest)) (sym got_is)
    ∙ ap (λ t. q || t) (sym one_is)
    ∙ ap (λ t. (arithmetic_mark n a && t) || are_shared n one) (sym made_is)
    ∙ sym two_is

-- Target registers.

pub target_off : (m n : Marks) (t : ℕ)
    → (any_both m.registers n.registers || any_both (set m.targets t false) n.targets) ≡ are_shared m (without_target n t)
target_off m n t = ap (λ b. any_both m.registers n.registers || b) (both_off m.targets n.targets t)

moved : (a b p : Bool) → (a || ((p && true) || b)) ≡ (p || (a || b))
moved true b true = refl
moved true b false = refl
moved false b true = refl
moved false b false = refl

unmoved : (a b p : Bool) → (a || ((p && false) || b)) ≡ (a || b)
unmoved a b true = refl
unmoved a b false = refl

-- a target register gets a register's value, and is needed
pub target_set : (m n : Marks) (t : ℕ) (mark : Bool) → length m.targets ≡ length n.targets → mark_at n.targets t ≡ true
    → (any_both m.registers n.registers || any_both (set m.targets t mark) n.targets)
    ≡ (mark || are_shared m (without_target n t))
target_set m n t mark same is =
    let a = any_both m.registers n.registers in
    let b = any_both m.targets (set n.targets t false) in
    ap (λ s. a || s) (both_set m.targets n.targets t mark same)
    ∙ ap (λ s. a || ((mark && s) || b)) is ∙ moved a b mark

-- or is not
pub target_unset : (m n : Marks) (t : ℕ) (mark : Bool) → length m.targets ≡ length n.targets → mark_at n.targets t ≡ false
    → (any_both m.registers n.registers || any_both (set m.targets t mark) n.targets)
    ≡ are_shared m (without_target n t)
target_unset m n t mark same is =
    let a = any_both m.registers n.registers in
    let b = any_both m.targets (set n.targets t false) in
    ap (λ s. a || s) (both_set m.targets n.targets t mark same)
    ∙ ap (λ s. a || ((mark && s) || b)) is ∙ unmoved a b mark

-- More needs.

pub register_more : (m n : Marks) (r : ℕ) → length m.registers ≡ length n.registers
    → are_shared m (record n { registers = set n.registers r true }) ≡ (mark_at m.registers r || are_shared m n)
register_more m n r same =
    ap (λ t. t || any_both m.targets n.targets) (both_add m.registers n.registers r same)
    ∙ joined (mark_at m.registers r) (any_both m.registers n.registers) (any_both m.targets n.targets)

pub target_more : (m n : Marks) (t : ℕ) → length m.targets ≡ length n.targets
    → are_shared m (record n { targets = set n.targets t true }) ≡ (mark_at m.targets t || are_shared m n)
target_more m n t same =
    ap (λ s. any_both m.registers n.registers || s) (both_add m.targets n.targets t same)
    ∙ swapped (any_both m.registers n.registers) (mark_at m.targets t) (any_both m.targets n.targets)

-- One place after the other.

pub both_from : (xs ys : List Bool) (k : ℕ) → k < length xs → length xs ≡ length ys
    → any_both (drop k xs) (drop k ys)
    ≡ ((get_or xs k false && get_or ys k false) || any_both (drop (suc k) xs) (drop (suc k) ys))
both_from [] ys k within same = absurd (omega arith)
both_from (x ∷ xs) [] k within same = absurd (omega arith)
both_from (x ∷ xs) (y ∷ ys) zero within same = refl
both_from (x ∷ xs) (y ∷ ys) (suc k) within same = both_from xs ys k (omega arith) (omega arith)

pub both_past : (xs ys : List Bool) (k next : ℕ) → suc k ≡ next → k < length xs → length xs ≡ length ys
    → (get_or xs k false && get_or ys k false) ≡ false → any_both (drop k xs) (drop k ys) ≡ any_both xs ys
    → any_both (drop next xs) (drop next ys) ≡ any_both xs ys
both_past xs ys k next is within same none so_far =
    ap (λ j. any_both (drop j xs) (drop j ys)) (sym is)
    ∙ sym (both_from xs ys k within same ∙ ap (λ t. t || any_both (drop (suc k) xs) (drop (suc k) ys)) none)
    ∙ so_far

pub both_found : (xs ys : List Bool) (k : ℕ) → k < length xs → length xs ≡ length ys
    → (get_or xs k false && get_or ys k false) ≡ true → any_both (drop k xs) (drop k ys) ≡ any_both xs ys
    → true ≡ any_both xs ys
both_found xs ys k within same here so_far =
    sym (both_from xs ys k within same ∙ ap (λ t. t || any_both (drop (suc k) xs) (drop (suc k) ys)) here)
    ∙ so_far

both_nothing : (xs : List Bool) → any_both xs [] ≡ false
both_nothing [] = refl
both_nothing (x ∷ xs) = refl

pub both_end : (xs ys : List Bool) (k : ℕ) → length xs ≤ k → any_both (drop k xs) (drop k ys) ≡ false
both_end [] ys zero past = refl
both_end [] ys (suc k) past = refl
both_end (x ∷ xs) ys zero past = absurd (omega arith)
both_end (x ∷ xs) [] (suc k) past = both_nothing (drop k xs)
both_end (x ∷ xs) (y ∷ ys) (suc k) past = both_end xs ys k (omega arith)

pub or_none : (b : Bool) → (b || false) ≡ b
or_none true = refl
or_none false = refl

-- Wide words.

off_by : (t : Bool) (xs ys : List Bool) (r : ℕ)
    → any_both (cond t xs (set xs r false)) ys ≡ any_both xs (cond t ys (set ys r false))
off_by true xs ys r = refl
off_by false xs ys r = both_off xs ys r

pub wide_needed : (m n : Marks) (op : WideOp) (r : ℕ)
    → are_shared (marks_after_wide m op r) n ≡ are_shared m (marks_after_wide n op r)
wide_needed m n wide.Literal r = ap (λ t. t || any_both m.targets n.targets) (off_by (r == 0) m.registers n.registers r)
wide_needed m n wide.LiteralHigh r = refl
wide_needed m n wide.TargetLiteral r = target_off m n r
