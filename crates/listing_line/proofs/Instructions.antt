-- A printed instruction is read as it.
use Rattle.std.proofs.Common.{◌≡◌, ℕ, ◌<◌, ◌^◌, Bool, true, false, List, [], ◌∷◌, ◌++◌}
use Rattle.std.proofs.Common.{get_or, refl, sym, ap, ◌∙◌, arith, append_assoc, true≢false, ⊎_elim}
use Rattle.std.specs.Prelude.{◌==◌, codes, Ok}
use Rattle.std.specs.List.{list_all}
use Rattle.std.specs.Fmt.{decimal}
use Rattle.std.proofs.lemmas.Bool.{eq-eqb}
use Rattle.std.proofs.lemmas.Bool.Decides.{eqb_tells}
use Rattle.insn_word.specs.Fields.{AreInRange, unsigned, zeros}
use Rattle.insn_word.specs.Words.{memory_fields, arithmetic_fields, control_fields, WriteApart, AreApart, SpellsIn}
use Rattle.insn_word.specs.Operations.{has_operation}
use Rattle.insn_word.specs.Words.{register_fields}
use Rattle.insn_word.specs.Words.{used_memory, used_arithmetic, used_control, memory_nop, arithmetic_nop}
use Rattle.insn_word.specs.Words.{memory_destination, arithmetic_destination, control_destination}
use Rattle.insn_word.specs.Reading.{are_apart}
use Rattle.insn_word.specs.declared.operations.WideOp.{WideOp}
use Rattle.insn_word.specs.declared.operations.WideOp.TheVariants as wide
use Rattle.insn_word.specs.declared.operations.MemoryOp.{MemoryOp}
use Rattle.insn_word.specs.declared.operations.MemoryOp.TheVariants as memory
use Rattle.insn_word.specs.declared.operations.ArithmeticOp.{ArithmeticOp}
use Rattle.insn_word.specs.declared.operations.ArithmeticOp.TheVariants as arithmetic
use Rattle.insn_word.specs.declared.operations.ControlOp.{ControlOp}
use Rattle.insn_word.specs.declared.operations.ControlOp.TheVariants as control
use Rattle.insn_word.specs.declared.profiles.Profile.{Profile}
use Rattle.insn_word.specs.declared.insn.MPart.{MPart}
use Rattle.insn_word.specs.declared.insn.APart.{APart}
use Rattle.insn_word.specs.declared.insn.CPart.{CPart}
use Rattle.insn_word.specs.declared.insn.Insn.{Insn}
use Rattle.insn_word.specs.declared.insn.Insn.TheVariants as insn
use Rattle.asm_line.specs.Text.{trim, head, behind_head, operands_of, is_blank}
use Rattle.text_parts.specs.Pieces.{text_after}
use Rattle.asm_line.specs.Names.{wide_name}
use Rattle.asm_line.specs.Heads.{operation_of, operation_named, plain_named, wide_named, memory_named}
use Rattle.asm_line.specs.Heads.{arithmetic_named, control_named}
use Rattle.asm_line.specs.Operands.{Places}
use Rattle.asm_line.specs.Instructions.{instruction_of_text, operations, single, double, triple, with_lookahead}
use Rattle.asm_line.specs.Instructions.{no_operation}
use Rattle.asm_line.specs.Instructions.{memory_arithmetic_word, memory_control_word, arithmetic_control_word}
use Rattle.asm_line.specs.Instructions.{full_word}
use Rattle.asm_line.specs.declared.operation.Operation.TheVariants as operation
use Rattle.listing_line.specs.WordText.{statement_text, bar_separated, operation_texts, unless, lookahead_text}
use Rattle.listing_line.specs.WordText.{insn_text}
use Rattle.listing_line.specs.WordText.{wide_text, wide_operands}
use Rattle.listing_line.specs.WordText.{memory_text, arithmetic_text, control_text, is_no_memory, is_no_arithmetic}
use Rattle.listing_line.specs.WordText.{is_no_control}
use Rattle.listing_line.proofs.Bytes.{list_all-both, before-at, after-at, Ends-append, trim-trimmed, IsTrimmed-append}
use Rattle.listing_line.proofs.Statements.{is_atom, atoms-lack_blank, atoms-ink, term-atoms}
use Rattle.listing_line.proofs.Numbers.{decimal-term}
use Rattle.listing_line.proofs.Operands.{three_bits-text}
use Rattle.listing_line.proofs.Heads.{wide-head}
use Rattle.listing_line.proofs.Parts.{operation_text, wide-terms, wide-reads, register_limit, IsMemoryText}
use Rattle.listing_line.proofs.Parts.{memory-text}
use Rattle.listing_line.proofs.Parts.{IsArithmeticText, arithmetic-text}
use Rattle.listing_line.proofs.Controls.{IsControlText, control-text}
use Rattle.listing_line.proofs.Joined.{is_print, ink-prints, AreTexts, joined-parts, IsPrinted, IsPlain, joined-plain}

-- No two parts write one register.
apart : (x y : ℕ) → AreApart x y → are_apart x y ≡ true
apart x y h = ⊎_elim
    (λ e. let zero : (x == 0) ≡ true = eq-eqb x 0 (h e.1) in rw (e.0, zero))
    (λ e. rw e.0)
    (eqb_tells x y)

-- A part that is NOP.

nop_memory : (op : MemoryOp) (m : MPart) → is_no_memory op ≡ true → used_memory op m ≡ m → memory_nop ≡ m
nop_memory memory.Nop m h u = u
nop_memory _ m h u = absurd (true≢false (sym h))

nop_arithmetic : (op : ArithmeticOp) (a : APart) → is_no_arithmetic op ≡ true → used_arithmetic op a ≡ a
    → arithmetic_nop ≡ a
nop_arithmetic arithmetic.Nop a h u = u
nop_arithmetic _ a h u = absurd (true≢false (sym h))

nop_control : (op : ControlOp) (c : CPart) → is_no_control op ≡ true → used_control op c ≡ c → no_operation ≡ c
nop_control control.Nop c h u = u
nop_control _ c h u = absurd (true≢false (sym h))

-- What is known of the parts of a valid word.
pub record AreParts (profile : Profile) (m : MPart) (a : APart) (c : CPart) : Type 0 where
  pub memory : AreInRange (memory_fields m)
  pub arithmetic : AreInRange (arithmetic_fields a)
  pub control : AreInRange (control_fields c)
  pub bare_memory : used_memory m.op m ≡ m
  pub bare_arithmetic : used_arithmetic a.op a ≡ a
  pub bare_control : used_control c.op c ≡ c
  pub apart : WriteApart m a c
  pub in_profile : has_operation profile m.op ≡ true

-- the text is read as the instruction, without its lookahead
pub record IsOperations (profile : Profile) (places : Places) (here : ℕ) (text : List ℕ) (i : Insn) : Type 0 where
  pub plain : IsPlain text
  pub reads : operations profile places here text ≡ Ok i

no_operations : (profile : Profile) (places : Places) (here : ℕ)
    → IsOperations profile places here (codes "NOP") (insn.Normal 0 memory_nop arithmetic_nop no_operation)
unfolding operations trim head behind_head operands_of text_after operation_of operation_named plain_named wide_named
    memory_named arithmetic_named control_named single
no_operations profile places here = record {
  plain = record {
    printed =
        record { trimmed = record { front = refl; back = refl }; print = refl; no_dot = refl };
    no_at = refl;
  };
  reads = refl;
}

-- One operation.

memory_alone : (profile : Profile) (places : Places) (here : ℕ) (m : MPart) → IsMemoryText profile m
    → IsOperations profile places here (memory_text m) (insn.Normal 0 m arithmetic_nop no_operation)
unfolding operations single
memory_alone profile places here m t =
    let texts : AreTexts (memory_text m ∷ []) = (t.operation.is_text, tt) in record {
      plain = joined-plain (memory_text m) [] texts;
      reads = rw ((joined-parts (memory_text m) [] texts).0, t.operation.names, t.operation.operands_are, t.reads);
    }

arithmetic_alone : (profile : Profile) (places : Places) (here : ℕ) (a : APart) → IsArithmeticText profile a
    → IsOperations profile places here (arithmetic_text a) (insn.Normal 0 memory_nop a no_operation)
unfolding operations single
arithmetic_alone profile places here a t =
    let texts : AreTexts (arithmetic_text a ∷ []) = (t.operation.is_text, tt) in record {
      plain = joined-plain (arithmetic_text a) [] texts;
      reads = rw
          ((joined-parts (arithmetic_text a) [] texts).0, t.operation.names, t.operation.operands_are, t.reads);
    }

control_alone : (profile : Profile) (places : Places) (here : ℕ) (c : CPart) → IsControlText profile places here c
    → IsOperations profile places here (control_text c) (insn.Normal 0 memory_nop arithmetic_nop c)
unfolding operations single
control_alone profile places here c t =
    let texts : AreTexts (control_text c ∷ []) = (t.operation.is_text, tt) in record {
      plain = joined-plain (control_text c) [] texts;
      reads = rw ((joined-parts (control_text c) [] texts).0, t.operation.names, t.operation.operands_are, t.reads);
    }

-- Two operations.

memory_and_arithmetic : (profile : Profile) (places : Places) (here : ℕ) (m : MPart) (a : APart)
    → IsMemoryText profile m → IsArithmeticText profile a
    → AreApart (memory_destination m.op m.rd) (arithmetic_destination a.op a.rd)
    → IsOperations profile places here (bar_separated (memory_text m ∷ arithmetic_text a ∷ []))
    (insn.Normal 0 m a no_operation)
unfolding operations double memory_arithmetic_word
memory_and_arithmetic profile places here m a t v h =
    let texts : AreTexts (memory_text m ∷ arithmetic_text a ∷ []) =
    (t.operation.is_text, (v.operation.is_text, tt)) in
    let separate = apart (memory_destination m.op m.rd) (arithmetic_destination a.op a.rd) h in record {
      plain = joined-plain (memory_text m) (arithmetic_text a ∷ []) texts;
      reads = rw (
        (joined-parts (memory_text m) (arithmetic_text a ∷ []) texts).0,
        t.operation.names,
        v.operation.names,
        t.operation.operands_are,
        v.operation.operands_are,
        t.reads,
        v.reads,
        separate,
      );
    }

memory_and_control : (profile : Profile) (places : Places) (here : ℕ) (m : MPart) (c : CPart) → IsMemoryText profile m
    → IsControlText profile places here c
    → AreApart (memory_destination m.op m.rd) (control_destination c.op c.rd)
    → IsOperations profile places here (bar_separated (memory_text m ∷ control_text c ∷ []))
    (insn.Normal 0 m arithmetic_nop c)
unfolding operations double memory_control_word
memory_and_control profile places here m c t v h =
    let texts : AreTexts (memory_text m ∷ control_text c ∷ []) = (t.operation.is_text, (v.operation.is_text, tt)) in
    let separate = apart (memory_destination m.op m.rd) (control_destination c.op c.rd) h in record {
      plain = joined-plain (memory_text m) (control_text c ∷ []) texts;
      reads = rw (
        (joined-parts (memory_text m) (control_text c ∷ []) texts).0,
        t.operation.names,
        v.operation.names,
        t.operation.operands_are,
        v.operation.operands_are,
        t.reads,
        v.reads,
        separate,
      );
    }

arithmetic_and_control : (profile : Profile) (places : Places) (here : ℕ) (a : APart) (c : CPart)
    → IsArithmeticText profile a
    → IsControlText profile places here c
    → AreApart (arithmetic_destination a.op a.rd) (control_destination c.op c.rd)
    → IsOperations profile places here (bar_separated (arithmetic_text a ∷ control_text c ∷ []))
    (insn.Normal 0 memory_nop a c)
unfolding operations double arithmetic_control_word
arithmetic_and_control profile places here a c t v h =
    let texts : AreTexts (arithmetic_text a ∷ control_text c ∷ []) =
    (t.operation.is_text, (v.operation.is_text, tt)) in
    let separate = apart (arithmetic_destination a.op a.rd) (control_destination c.op c.rd) h in record {
      plain = joined-plain (arithmetic_text a) (control_text c ∷ []) texts;
      reads = rw (
        (joined-parts (arithmetic_text a) (control_text c ∷ []) texts).0,
        t.operation.names,
        v.operation.names,
        t.operation.operands_are,
        v.operation.operands_are,
        t.reads,
        v.reads,
        separate,
      );
    }

-- All three.

all_operations : (profile : Profile) (places : Places) (here : ℕ) (m : MPart) (a : APart) (c : CPart)
    → IsMemoryText profile m → IsArithmeticText profile a → IsControlText profile places here c → WriteApart m a c
    → IsOperations profile places here (bar_separated (memory_text m ∷ arithmetic_text a ∷ control_text c ∷ []))
    (insn.Normal 0 m a c)
unfolding operations triple full_word
all_operations profile places here m a c t v w h =
    let texts : AreTexts (memory_text m ∷ arithmetic_text a ∷ control_text c ∷ []) =
    (t.operation.is_text, (v.operation.is_text, (w.operation.is_text, tt))) in
    let one = apart (memory_destination m.op m.rd) (arithmetic_destination a.op a.rd) h.memory_arithmetic in
    let two = apart (memory_destination m.op m.rd) (control_destination c.op c.rd) h.memory_control in
    let three = apart (arithmetic_destination a.op a.rd) (control_destination c.op c.rd) h.arithmetic_control in
    record {
      plain = joined-plain (memory_text m) (arithmetic_text a ∷ control_text c ∷ []) texts;
      reads = rw (
        (joined-parts (memory_text m) (arithmetic_text a ∷ control_text c ∷ []) texts).0,
        t.operation.names,
        v.operation.names,
        w.operation.names,
        t.operation.operands_are,
        v.operation.operands_are,
        w.operation.operands_are,
        t.reads,
        v.reads,
        w.reads,
        one,
        two,
        three,
      );
    }

-- Any of them.

along : (profile : Profile) (places : Places) (here : ℕ) (text : List ℕ) (m n : MPart) (a b : APart) (c d : CPart)
    → m ≡ n → a ≡ b → c ≡ d
    → IsOperations profile places here text (insn.Normal 0 m a c)
    → IsOperations profile places here text (insn.Normal 0 n b d)
along profile places here text m n a b c d e f g o = record {
  plain = o.plain;
  reads = o.reads ∙ ap (λ (x : MPart). Ok (insn.Normal 0 x a c)) e ∙ ap (λ (y : APart). Ok (insn.Normal 0 n y c)) f
      ∙ ap (λ (z : CPart). Ok (insn.Normal 0 n b z)) g;
}

normal-operations : (profile : Profile) (places : Places) (here : ℕ) (m : MPart) (a : APart) (c : CPart)
    → AreParts profile m a c
    → IsOperations profile places here (bar_separated (operation_texts m a c)) (insn.Normal 0 m a c)
normal-operations profile places here m a c p =
    go (is_no_memory m.op) (is_no_arithmetic a.op) (is_no_control c.op) refl refl refl
  where
    mt : is_no_memory m.op ≡ false → IsMemoryText profile m
    mt h = memory-text profile m h p.in_profile p.memory p.bare_memory

    at : is_no_arithmetic a.op ≡ false → IsArithmeticText profile a
    at h = arithmetic-text profile a h p.arithmetic p.bare_arithmetic

    ct : is_no_control c.op ≡ false → IsControlText profile places here c
    ct h = control-text profile places here c h p.control p.bare_control

    mn : is_no_memory m.op ≡ true → memory_nop ≡ m
    mn h = nop_memory m.op m h p.bare_memory

    an : is_no_arithmetic a.op ≡ true → arithmetic_nop ≡ a
    an h = nop_arithmetic a.op a h p.bare_arithmetic

    cn : is_no_control c.op ≡ true → no_operation ≡ c
    cn h = nop_control c.op c h p.bare_control

    go : (x y z : Bool) → is_no_memory m.op ≡ x → is_no_arithmetic a.op ≡ y → is_no_control c.op ≡ z
        → IsOperations profile places here
        (bar_separated (unless x (memory_text m) ++ (unless y (arithmetic_text a) ++ unless z (control_text c))))
        (insn.Normal 0 m a c)
    go true true true e f g =
        along profile places here (codes "NOP") memory_nop m arithmetic_nop a no_operation c (mn e) (an f) (cn g)
        (no_operations profile places here)
    go true true false e f g =
        along profile places here (control_text c) memory_nop m arithmetic_nop a c c (mn e) (an f) refl
        (control_alone profile places here c (ct g))
    go true false true e f g =
        along profile places here (arithmetic_text a) memory_nop m a a no_operation c (mn e) refl (cn g)
        (arithmetic_alone profile places here a (at f))
    go true false false e f g =
        along profile places here (bar_separated (arithmetic_text a ∷ control_text c ∷ [])) memory_nop m a a c c
        (mn e) refl
        refl
        (arithmetic_and_control profile places here a c (at f) (ct g) p.apart.arithmetic_control)
    go false true true e f g =
        along profile places here (memory_text m) m m arithmetic_nop a no_operation c refl (an f) (cn g)
        (memory_alone profile places here m (mt e))
    go false true false e f g =
        along profile places here (bar_separated (memory_text m ∷ control_text c ∷ [])) m m arithmetic_nop a c c refl
        (an f)
        refl
        (memory_and_control profile places here m c (mt e) (ct g) p.apart.memory_control)
    go false false true e f g =
        along profile places here
        (bar_separated (memory_text m ∷ arithmetic_text a ∷ [])) m m a a no_operation c refl refl
        (cn g)
        (memory_and_arithmetic profile places here m a (mt e) (at f) p.apart.memory_arithmetic)
    go false false false e f g = all_operations profile places here m a c (mt e) (at f) (ct g) p.apart

-- A wide operation.

wide-operations : (profile : Profile) (places : Places) (here : ℕ) (op : WideOp) (reg imm : ℕ)
    → reg < register_limit op → reg < 32
    → imm < 2 ^ 32
    → IsOperations profile places here (wide_text op reg imm) (insn.Wide 0 op reg imm)
unfolding operations single wide_text
wide-operations profile places here op reg imm h low k =
    let t = operation_text profile (operation.Wide op) (wide_operands op reg imm) (wide-head profile op)
    (wide-terms op reg imm low k) in
    let text = statement_text (wide_name op) (wide_operands op reg imm) in
    let texts : AreTexts (text ∷ []) = (t.is_text, tt) in record {
      plain = joined-plain text [] texts;
      reads = rw ((joined-parts text [] texts).0, t.names, t.operands_are, wide-reads places op reg imm h k);
    }

-- With a lookahead.

pub record IsInstruction (profile : Profile) (places : Places) (here : ℕ) (text : List ℕ) (i : Insn) : Type 0 where
  pub printed : IsPrinted text
  pub reads : instruction_of_text profile places here text ≡ Ok i

looked : (profile : Profile) (places : Places) (here look : ℕ) (text : List ℕ) (i : Insn) → look < 8
    → with_lookahead 0 i ≡ i
    → IsOperations profile places here text i
    → IsInstruction profile places here (lookahead_text look ++ text) (with_lookahead look i)
unfolding instruction_of_text head behind_head
looked profile places here look text i h none o = ⊎_elim
    (λ e.
    let same : i ≡ with_lookahead look i = sym none ∙ ap (λ (n : ℕ). with_lookahead n i) (sym e.1) in
    let at : (get_or text 0 0 == 64) ≡ false = o.plain.no_at in
    rw e.0 (record { printed = o.plain.printed; reads = rw at (o.reads ∙ ap Ok same) }))
    (λ e. rw e.0 (rw (append_assoc (64 ∷ decimal look) (32 ∷ []) text) behind))
    (eqb_tells look 0)
  where
    behind : IsInstruction profile places here ((64 ∷ decimal look) ++ (32 ∷ text)) (with_lookahead look i)
    behind =
        let mark = 64 ∷ decimal look in
        let atoms : list_all is_atom mark ≡ true = term-atoms (decimal look) (decimal-term look (omega arith)) in
        let lack = atoms-lack_blank mark atoms in record {
          printed = record {
            trimmed = IsTrimmed-append mark (32 ∷ text) refl
                (Ends-append (32 ∷ []) text o.plain.printed.trimmed.back);
            print = list_all-both is_print mark (32 ∷ text) (ink-prints mark (atoms-ink mark atoms))
                o.plain.printed.print;
            no_dot = refl;
          };
          reads = rw (
            before-at is_blank mark 32 text lack refl,
            after-at is_blank mark 32 text lack refl,
            trim-trimmed text o.plain.printed.trimmed,
            three_bits-text look h,
            o.reads,
          );
        }

-- Instructions that a word spells.

pub record AreWideFields (op : WideOp) (reg imm : ℕ) : Type 0 where
  pub register : reg < register_limit op
  pub five_bits : reg < 32
  pub immediate : imm < 2 ^ 32

wide-fields : (op : WideOp) (reg imm : ℕ) → AreInRange (register_fields op reg ++ zeros 20 ∷ unsigned 32 imm ∷ [])
    → AreWideFields op reg imm
wide-fields wide.TargetLiteral reg imm r =
    record { register = r.1.0; five_bits = omega (arith, r.1.0); immediate = r.1.1.1.0 }
wide-fields _ reg imm r = record { register = r.0; five_bits = r.0; immediate = r.1.1.0 }

pub spelt-instruction : (profile : Profile) (places : Places) (here word : ℕ) (i : Insn) → SpellsIn profile word i
    → IsInstruction profile places here (insn_text i) i
unfolding insn_text
spelt-instruction profile places here word (insn.Wide look op reg imm) s =
    let w = wide-fields op reg imm s.in_range.1.1.1 in
    looked profile places here look (wide_text op reg imm) (insn.Wide 0 op reg imm) s.in_range.1.0 refl
    (wide-operations profile places here op reg imm w.register w.five_bits w.immediate)
spelt-instruction profile places here word (insn.Normal look m a c) s =
    let p = s.in_range.1.1 in
    let q = p.1.1.1.1.1 in
    let parts : AreParts profile m a c = record {
      memory = (p.0, (p.1.0, (p.1.1.0, (p.1.1.1.0, (p.1.1.1.1.0, tt)))));
      arithmetic = (q.0, (q.1.0, (q.1.1.0, (q.1.1.1.0, (q.1.1.1.1.0, (q.1.1.1.1.1.0, tt))))));
      control = q.1.1.1.1.1.1;
      bare_memory = s.rest.0;
      bare_arithmetic = s.rest.1;
      bare_control = s.rest.2;
      apart = s.one_writer;
      in_profile = s.in_profile;
    } in
    looked profile places here look (bar_separated (operation_texts m a c)) (insn.Normal 0 m a c) s.in_range.1.0 refl
    (normal-operations profile places here m a c parts)
