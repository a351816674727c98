-- What a line adds has its numbers in range.
use Rattle.std.proofs.Common.{◌≡◌, Bool, true, ◌&&◌, ℕ, ◌-◌, ◌<◌, ◌≤◌, ◌^◌, ◌==◌, List, [], ◌∷◌, drop, map, length}
use Rattle.std.proofs.Common.{Result, Ok, Err, arith}
use Rattle.std.specs.Prelude.{IfOk, ⊤, slice_index, nat_lt}
use Rattle.std.specs.List.{list_all}
use Rattle.std.specs.Str.{bytes_eq}
use Rattle.insn_word.specs.Laws.{IsValidByFields}
use Rattle.insn_word.specs.declared.profiles.Profile.{Profile}
use Rattle.insn_word.specs.declared.insn.Insn.{Insn}
use Rattle.insn_word.specs.declared.insn.Insn.TheVariants as insn
use Rattle.asm_line.specs.Text.{head, behind_head, operands, trim}
use Rattle.text_parts.specs.Pieces.{pieces}
use Rattle.asm_line.specs.Faults.{both}
use Rattle.asm_line.specs.Numbers.{number_within, count_within}
use Rattle.asm_line.specs.Operands.{Places}
use Rattle.asm_line.specs.Heads.{operation_of, directive_of, directive_named}
use Rattle.asm_line.specs.Names.{directive_name, directives, has_directive}
use Rattle.asm_line.specs.Parts.{immediate}
use Rattle.asm_line.specs.Instructions.{double, triple, is_ok, too_many, single}
use Rattle.asm_line.specs.Instructions.{one_part, two_parts, three_parts, instruction_of, operations, with_lookahead}
use Rattle.asm_line.specs.Instructions.{instruction_of_text}
use Rattle.asm_line.specs.Directives.{word_number, tags_number, cells, data_cell, fill, below, entry_number}
use Rattle.asm_line.specs.Directives.{profile_read, item_of_directive}
use Rattle.asm_line.specs.Lines.{Line, label_fault, directive_item, statement_item, line_item}
use Rattle.asm_line.specs.Ranges.{IsItemInRange}
use Rattle.asm_line.specs.declared.fault.Fault.{Fault}
use Rattle.asm_line.specs.declared.fault.Fault.TheVariants as fault
use Rattle.asm_line.specs.declared.item.Item.TheVariants as item
use Rattle.asm_line.specs.declared.operation.Operation.{Operation}
use Rattle.asm_line.specs.declared.operation.Operation.TheVariants as operation
use Rattle.asm_line.specs.declared.operation.Directive.{Directive}
use Rattle.asm_line.specs.declared.operation.Directive.TheVariants as directive
use Rattle.asm_line.proofs.OkRules.{ok_both, ok_map, ok_then, ok_any, ok_if, ok_either, ok_known, found_passes}
use Rattle.asm_line.proofs.OkRules.{some_and, some_any, and_right}
use Rattle.asm_line.proofs.NumberRanges.{below_bound, number_within_range, count_within_range, immediate_range}
use Rattle.asm_line.proofs.NamedRanges.{IsNamed, operation_range}
use Rattle.asm_line.proofs.PartRanges.{memory_part_range, arithmetic_part_range}
use Rattle.asm_line.proofs.ControlRanges.{control_part_range}
use Rattle.asm_line.proofs.WordRanges.{IsGood, valid, single_range, memory_arithmetic_word_range}
use Rattle.asm_line.proofs.WordRanges.{memory_control_word_range}
use Rattle.asm_line.proofs.WordRanges.{arithmetic_control_word_range, full_word_range}

double_range : (profile : Profile) (places : Places) (here : ℕ) (o p : Operation) (xs ys : List (List ℕ))
    → IsNamed profile o → IsNamed profile p
    → IfOk (double places here o p xs ys) (IsGood profile)
unfolding double
double_range profile places here (operation.Memory o acc) (operation.Arithmetic p test) xs ys h k =
    memory_arithmetic_word_range profile _ _ (memory_part_range profile o acc xs h) (arithmetic_part_range p test ys k)
double_range profile places here (operation.Memory o acc) (operation.Control q) xs ys h k =
    memory_control_word_range profile _ _ (memory_part_range profile o acc xs h) (control_part_range places here q ys)
double_range profile places here (operation.Arithmetic p test) (operation.Control q) xs ys h k =
    arithmetic_control_word_range profile _ _ (arithmetic_part_range p test xs h) (control_part_range places here q ys)
double_range profile places here _ _ xs ys h k = tt

triple_range : (profile : Profile) (places : Places) (here : ℕ) (o p q : Operation) (xs ys zs : List (List ℕ))
    → IsNamed profile o
    → IsNamed profile p → IsNamed profile q
    → IfOk (triple places here o p q xs ys zs) (IsGood profile)
unfolding triple
triple_range profile places here (operation.Memory o acc) (operation.Arithmetic p test)
    (operation.Control q) xs ys zs h k l =
    full_word_range profile _ _ _ (memory_part_range profile o acc xs h) (arithmetic_part_range p test ys k)
    (control_part_range places here q zs)
triple_range profile places here _ _ _ xs ys zs h k l = tt

too_many_range : (profile : Profile) (texts : List (List ℕ)) → IfOk (too_many profile texts) (IsGood profile)
unfolding too_many
too_many_range profile texts =
    ok_either (list_all (λ text. is_ok (operation_of profile (head text))) texts) (Err fault.Operand)
    (Err fault.Unknown)
    (IsGood profile) tt tt

one_part_range : (profile : Profile) (places : Places) (here : ℕ) (x : List ℕ)
    → IfOk (one_part profile places here x) (IsGood profile)
one_part_range profile places here x =
    ok_then (λ o. single places here o (operands x)) (IsNamed profile) (IsGood profile) (operation_of profile (head x))
    (λ o h. single_range profile places here o (operands x) h) (operation_range profile (head x))

two_parts_range : (profile : Profile) (places : Places) (here : ℕ) (x y : List ℕ)
    → IfOk (two_parts profile places here x y) (IsGood profile)
two_parts_range profile places here x y =
    ok_then (λ o. double places here o.0 o.1 (operands x) (operands y))
    (λ o. IsNamed profile o.0 × IsNamed profile o.1) (IsGood profile)
    (both (operation_of profile (head x)) (operation_of profile (head y)))
    (λ o h. double_range profile places here o.0 o.1 (operands x) (operands y) h.0 h.1)
    (ok_both (IsNamed profile) (IsNamed profile) (operation_of profile (head x)) (operation_of profile (head y))
    (operation_range profile (head x))
    (operation_range profile (head y)))

three_parts_range : (profile : Profile) (places : Places) (here : ℕ) (x y z : List ℕ)
    → IfOk (three_parts profile places here x y z) (IsGood profile)
three_parts_range profile places here x y z =
    ok_then (λ o. triple places here o.0.0 o.0.1 o.1 (operands x) (operands y) (operands z))
    (λ o. (IsNamed profile o.0.0 × IsNamed profile o.0.1) × IsNamed profile o.1) (IsGood profile)
    (both (both (operation_of profile (head x)) (operation_of profile (head y))) (operation_of profile (head z)))
    (λ o h. triple_range profile places here o.0.0 o.0.1 o.1 (operands x) (operands y) (operands z) h.0.0 h.0.1 h.1)
    (ok_both (λ o. IsNamed profile o.0 × IsNamed profile o.1) (IsNamed profile)
    (both (operation_of profile (head x)) (operation_of profile (head y)))
    (operation_of profile (head z))
    (ok_both (IsNamed profile) (IsNamed profile) (operation_of profile (head x)) (operation_of profile (head y))
    (operation_range profile (head x))
    (operation_range profile (head y)))
    (operation_range profile (head z)))

instruction_of_range : (profile : Profile) (places : Places) (here : ℕ) (texts : List (List ℕ))
    → IfOk (instruction_of profile places here texts) (IsGood profile)
instruction_of_range profile places here [] = too_many_range profile []
instruction_of_range profile places here (x ∷ []) = one_part_range profile places here x
instruction_of_range profile places here (x ∷ y ∷ []) = two_parts_range profile places here x y
instruction_of_range profile places here (x ∷ y ∷ z ∷ []) = three_parts_range profile places here x y z
instruction_of_range profile places here (x ∷ y ∷ z ∷ w ∷ rest) = too_many_range profile (x ∷ y ∷ z ∷ w ∷ rest)

operations_range : (profile : Profile) (places : Places) (here : ℕ) (text : List ℕ)
    → IfOk (operations profile places here text) (IsGood profile)
unfolding operations
operations_range profile places here text = instruction_of_range profile places here (map trim (pieces 124 text))

looking_range : (profile : Profile) (n : ℕ) (i : Insn) → n ≤ 7 → IsGood profile i → IsGood profile (with_lookahead n i)
looking_range profile n (insn.Wide look op reg imm) h g =
    record { look_range = omega (arith, h); reg_range = g.reg_range; imm_range = g.imm_range }
looking_range profile n (insn.Normal look m a c) h g =
    record {
      look_range = omega (arith, h);
      memory = g.memory;
      arithmetic = g.arithmetic;
      control =
          g.control;
      one_writer = g.one_writer;
    }

instruction_range : (profile : Profile) (places : Places) (here : ℕ) (text : List ℕ)
    → IfOk (instruction_of_text profile places here text) (IsGood profile)
unfolding instruction_of_text
instruction_range profile places here text =
    ok_either (slice_index text 0 == 64) _ (operations profile places here text) (IsGood profile)
    (ok_map (λ v. with_lookahead v.0 v.1) (λ v. (v.0 ≤ 7) × IsGood profile v.1) (IsGood profile)
    (both (number_within 7 (drop 1 (head text))) (operations profile places here (behind_head text)))
    (λ v h. looking_range profile v.0 v.1 h.0 h.1)
    (ok_both (λ n. n ≤ 7) (IsGood profile) (number_within 7 (drop 1 (head text)))
    (operations profile places here (behind_head text))
    (number_within_range 7 (drop 1 (head text))) (operations_range profile places here (behind_head text))))
    (operations_range profile places here text)

-- Directives.

word_number_range : (text : List ℕ) → IfOk (word_number text) (λ n. n < 2 ^ 64)
unfolding word_number
word_number_range text = less (number_within (2 ^ 64 - 1) text) (number_within_range (2 ^ 64 - 1) text)
  where
    less : (r : Result ℕ Fault) → IfOk r (λ n. n ≤ 2 ^ 64 - 1) → IfOk r (λ n. n < 2 ^ 64)
    less (Ok n) h = omega (arith, h)
    less (Err e) h = tt

tags_number_range : (text : List ℕ) → IfOk (tags_number text) (λ n. n < 16)
unfolding tags_number
tags_number_range text = less (number_within 15 text) (number_within_range 15 text)
  where
    less : (r : Result ℕ Fault) → IfOk r (λ n. n ≤ 15) → IfOk r (λ n. n < 16)
    less (Ok n) h = omega (arith, h)
    less (Err e) h = tt

cells_range : (profile : Profile) (words : ℕ) (count value tags : Result ℕ Fault)
    → IfOk count (λ n. (1 ≤ n) × (n ≤ 262144))
    → IfOk value (λ n. n < 2 ^ 64)
    → IfOk tags (λ n. n < 16) → IfOk (cells count value tags) (IsItemInRange profile words)
cells_range profile words count value tags h k l =
    ok_map (λ v. item.Cells v.0.0 v.0.1 v.1) (λ v. (((1 ≤ v.0.0) × (v.0.0 ≤ 262144)) × (v.0.1 < 2 ^ 64)) × (v.1 < 16))
    (IsItemInRange profile words)
    (both (both count value) tags) (λ v g. (g.0.0.0, g.0.0.1, g.0.1, g.1))
    (ok_both (λ w. ((1 ≤ w.0) × (w.0 ≤ 262144)) × (w.1 < 2 ^ 64)) (λ n. n < 16) (both count value) tags
    (ok_both (λ n. (1 ≤ n) × (n ≤ 262144)) (λ n. n < 2 ^ 64) count value h k) l)

one_cell : (1 ≤ 1) × (1 ≤ 262144)
one_cell = (omega arith, omega arith)

full_tags : 1 < 16
full_tags = omega arith

data_range : (profile : Profile) (words : ℕ) (os : List (List ℕ)) → IfOk (data_cell os) (IsItemInRange profile words)
data_range profile words (x ∷ []) =
    cells_range profile words (Ok 1) (word_number x) (Ok 1) one_cell (word_number_range x) full_tags
data_range profile words (x ∷ y ∷ []) =
    cells_range profile words (Ok 1) (word_number x) (tags_number y) one_cell (word_number_range x)
    (tags_number_range y)
data_range profile words [] = tt
data_range profile words (x ∷ y ∷ z ∷ os) = tt

fill_range : (profile : Profile) (words : ℕ) (os : List (List ℕ)) → IfOk (fill os) (IsItemInRange profile words)
fill_range profile words (x ∷ y ∷ z ∷ []) =
    cells_range profile words (count_within 262144 x) (word_number y) (tags_number z)
    (count_within_range 262144 x) (word_number_range y) (tags_number_range z)
fill_range profile words [] = tt
fill_range profile words (x ∷ []) = tt
fill_range profile words (x ∷ y ∷ []) = tt
fill_range profile words (x ∷ y ∷ z ∷ w ∷ os) = tt

entry_number_range : (places : Places) (words : ℕ) (text : List ℕ)
    → IfOk (entry_number places words text) (λ n. n < words)
unfolding entry_number
entry_number_range places words text =
    ok_then (below words) (λ _. ⊤) (λ n. n < words) (immediate places text)
    (λ n _. ok_if (nat_lt n words) n fault.Range (λ n. n < words) (below_bound n words))
    (ok_any (immediate places text))

directed_range : (profile : Profile) (places : Places) (words : ℕ) (d : Directive) (os : List (List ℕ))
    → has_directive profile d ≡ true → IfOk (item_of_directive places words d os) (IsItemInRange profile words)
unfolding item_of_directive profile_read
directed_range profile places words directive.Data os h = data_range profile words os
directed_range profile places words directive.Fill os h = fill_range profile words os
directed_range profile places words directive.Profile (x ∷ []) h =
    ok_map item.Profile (λ _. ⊤) (IsItemInRange profile words) (profile_read (x ∷ [])) (λ n h. tt)
    (ok_any (profile_read (x ∷ [])))
directed_range profile places words directive.Slim (x ∷ []) h =
    ok_map item.Slim (λ n. (1 ≤ n) × (n ≤ 128)) (IsItemInRange profile words) (count_within 128 x) (λ n h. h)
    (count_within_range 128 x)
directed_range profile places words directive.Chain (x ∷ []) h =
    ok_map item.Chain (λ n. n ≤ 64) (IsItemInRange profile words) (number_within 64 x) (λ n k. (h, k))
    (number_within_range 64 x)
directed_range profile places words directive.Retry (x ∷ []) h =
    ok_map item.Retry (λ n. n ≤ 2 ^ 32 - 1) (IsItemInRange profile words) (number_within (2 ^ 32 - 1) x)
    (λ n h. omega (arith, h))
    (number_within_range (2 ^ 32 - 1) x)
directed_range profile places words directive.Trap (x ∷ []) h =
    ok_map item.Trap (λ n. n < 2 ^ 32) (IsItemInRange profile words) (immediate places x) (λ n h. h)
    (immediate_range places x)
directed_range profile places words directive.Entry (x ∷ []) h =
    ok_map item.Entry (λ n. n < words) (IsItemInRange profile words) (entry_number places words x) (λ n h. h)
    (entry_number_range places words x)
directed_range profile places words directive.Word (x ∷ []) h =
    ok_map item.Word (λ n. n < 2 ^ 64) (IsItemInRange profile words) (word_number x) (λ n h. h) (word_number_range x)
directed_range profile places words directive.Profile [] h = tt
directed_range profile places words directive.Slim [] h = tt
directed_range profile places words directive.Chain [] h = tt
directed_range profile places words directive.Retry [] h = tt
directed_range profile places words directive.Trap [] h = tt
directed_range profile places words directive.Entry [] h = tt
directed_range profile places words directive.Word [] h = tt
directed_range profile places words directive.Profile (x ∷ y ∷ os) h = tt
directed_range profile places words directive.Slim (x ∷ y ∷ os) h = tt
directed_range profile places words directive.Chain (x ∷ y ∷ os) h = tt
directed_range profile places words directive.Retry (x ∷ y ∷ os) h = tt
directed_range profile places words directive.Trap (x ∷ y ∷ os) h = tt
directed_range profile places words directive.Entry (x ∷ y ∷ os) h = tt
directed_range profile places words directive.Word (x ∷ y ∷ os) h = tt

-- Lines.

directive_range : (profile : Profile) (head : List ℕ)
    → IfOk (directive_of profile head) (λ d. has_directive profile d ≡ true)
unfolding directive_of directive_named
directive_range profile head =
    let test : Directive → Bool = λ d. bytes_eq head (directive_name d) && has_directive profile d in
    ok_known (directive_named profile head) (λ d. has_directive profile d ≡ true)
    (some_and (λ _. ⊤) (λ d. test d ≡ true) (λ d. has_directive profile d ≡ true) (directive_named profile head)
    (λ d h e. and_right (bytes_eq head (directive_name d)) (has_directive profile d) e) (some_any _)
    (found_passes test directives))

statement_range : IsValidByFields → (profile : Profile) (places : Places) (words here : ℕ) (text : List ℕ)
    → IfOk (statement_item profile places words here text) (IsItemInRange profile words)
unfolding statement_item
statement_range law profile places words here text =
    ok_either (length text == 0) (Ok item.Nothing) _ (IsItemInRange profile words) tt
    (ok_either (slice_index text 0 == 46) (directive_item profile places words text) _ (IsItemInRange profile words)
    (ok_then (λ d. item_of_directive places words d (operands text)) (λ d. has_directive profile d ≡ true)
    (IsItemInRange profile words) (directive_of profile (head text))
    (λ d h. directed_range profile places words d (operands text) h) (directive_range profile (head text)))
    (ok_map item.Instruction (IsGood profile) (IsItemInRange profile words)
    (instruction_of_text profile places here text)
    (λ i h. valid law profile i h)
    (instruction_range profile places here text)))

pub item_range : IsValidByFields → (profile : Profile) (places : Places) (words k here : ℕ) (l : Line)
    → IfOk (line_item profile places words k here l) (IsItemInRange profile words)
unfolding line_item
item_range law profile places words k here l =
    ok_map (λ v. v.1) (λ v. ⊤ × IsItemInRange profile words v.1) (IsItemInRange profile words)
    (both (label_fault places k l.label l.statement) (statement_item profile places words here l.statement))
    (λ v h. h.1)
    (ok_both (λ _. ⊤) (IsItemInRange profile words) (label_fault places k l.label l.statement)
    (statement_item profile places words here l.statement)
    (ok_any (label_fault places k l.label l.statement)) (statement_range law profile places words here l.statement))
