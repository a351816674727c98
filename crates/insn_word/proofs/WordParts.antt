-- A word's instruction a part at a time: the 64 digits against the numbers that the code reads.
use Rattle.std.proofs.Common.{◌≡◌, ℕ, ◌+◌, ◌*◌, ◌/◌, ◌%◌, ◌^◌, ◌<◌, ◌↔◌, List, ◌∷◌, ◌++◌, Option, Some, None, IfSome}
use Rattle.std.proofs.Common.{IsNone, true, refl, sym, ◌∙◌, subst, arith}
use Rattle.insn_word.specs.Operations.{control_number, has_operation}
use Rattle.insn_word.specs.Fields.{Field, unsigned, digits, spelling, AreInRange, number_of_fields, total_width}
use Rattle.insn_word.specs.Words.{memory_fields, arithmetic_fields, argument_fields, control_fields, fields, is_in}
use Rattle.insn_word.specs.Words.{SpellsIn, IsValidIn, RestIsZero, HasOneWriter}
use Rattle.insn_word.specs.Parts.{IsControlPart, Holds}
use Rattle.insn_word.proofs.Numbers.{digits-number, number-from_digits, number-lt, number-append, total_width-append}
use Rattle.insn_word.proofs.Numbers.{AreInRange-append, AreInRange-parts}
use Rattle.insn_word.specs.declared.operations.WideOp.TheVariants as wide
use Rattle.insn_word.specs.declared.operations.MemoryOp.{MemoryOp}
use Rattle.insn_word.specs.declared.operations.MemoryOp.TheVariants as memory
use Rattle.insn_word.specs.declared.operations.ControlOp.{ControlOp}
use Rattle.insn_word.specs.declared.operations.ControlOp.TheVariants as control
use Rattle.insn_word.specs.declared.profiles.Profile.{Profile}
use Rattle.insn_word.specs.declared.profiles.Profile.TheVariants as profile
use Rattle.insn_word.specs.declared.insn.MPart.{MPart}
use Rattle.insn_word.specs.declared.insn.APart.{APart}
use Rattle.insn_word.specs.declared.insn.CPart.{CPart}
use Rattle.insn_word.specs.declared.insn.Insn.{Insn}
use Rattle.insn_word.specs.declared.insn.Insn.TheVariants as insn

-- Each row of a table is as wide as the others.

pub argument_width : (op : ControlOp) (c : CPart) → total_width (argument_fields op c) ≡ 14
argument_width control.Nop c = refl
argument_width control.Jump c = refl
argument_width control.Skip c = refl
argument_width control.Call c = refl
argument_width control.Exchange c = refl
argument_width control.TargetSet c = refl
argument_width control.TargetGet c = refl
argument_width control.TrapGet c = refl
argument_width control.Reserve c = refl
argument_width control.Create c = refl
argument_width control.Quit c = refl
argument_width control.QuitKeep c = refl
argument_width control.Mask c = refl

pub control_width : (c : CPart) → total_width (control_fields c) ≡ 18
control_width c = omega (arith, argument_width c.op c)

pub control_number-lt : (c : CPart) → AreInRange (control_fields c) → number_of_fields (control_fields c) < 2 ^ 18
control_number-lt c h =
    subst (λ k. number_of_fields (control_fields c) < 2 ^ k) (control_width c) (number-lt (control_fields c) h)

-- the fields of a normal word but those of the control part
abbrev front : ℕ → MPart → APart → List Field
front look m a = unsigned 1 0 ∷ unsigned 3 look ∷ memory_fields m ++ arithmetic_fields a

pub fields_width : (i : Insn) → total_width (fields i) ≡ 64
fields_width (insn.Wide look wide.Literal reg imm) = refl
fields_width (insn.Wide look wide.LiteralHigh reg imm) = refl
fields_width (insn.Wide look wide.TargetLiteral reg imm) = refl
fields_width (insn.Normal look m a c) =
    omega (arith, total_width-append (front look m a) (control_fields c), control_width c)

pub number-normal : (look : ℕ) (m : MPart) (a : APart) (c : CPart)
    → number_of_fields (fields (insn.Normal look m a c))
    ≡ look * 2 ^ 60 + number_of_fields (memory_fields m) * 2 ^ 39 + number_of_fields (arithmetic_fields a) * 2 ^ 18
    + number_of_fields (control_fields c)
number-normal look m a c =
    number-append (front look m a) (control_fields c) ∙ rw (control_width c) (grind arith)

-- a normal word's fields are in their ranges part by part
pub normal_in_range : (look : ℕ) (m : MPart) (a : APart) (c : CPart) → look < 8 → AreInRange (memory_fields m)
    → AreInRange (arithmetic_fields a) → AreInRange (control_fields c)
    → AreInRange (fields (insn.Normal look m a c))
normal_in_range look m a c l x y z =
    let some : 0 < 2 = omega arith in
    AreInRange-append (front look m a) (control_fields c)
    (AreInRange-append (unsigned 1 0 ∷ unsigned 3 look ∷ memory_fields m) (arithmetic_fields a) (some, (l, x)) y) z

pub normal_parts : (look : ℕ) (m : MPart) (a : APart) (c : CPart) → AreInRange (fields (insn.Normal look m a c))
    → (look < 8) × AreInRange (memory_fields m) × AreInRange (arithmetic_fields a) × AreInRange (control_fields c)
normal_parts look m a c h =
    let last = AreInRange-parts (front look m a) (control_fields c) h in
    let first = AreInRange-parts (unsigned 1 0 ∷ unsigned 3 look ∷ memory_fields m) (arithmetic_fields a) last.0 in
    (first.0.1.0, first.0.1.1, first.1, last.1)

-- the numbers that are cut from a word, from the numbers that it is joined of
cut_word : (word look m a c : ℕ) → look < 8 → m < 2 ^ 21 → a < 2 ^ 21 → c < 2 ^ 18
    → look * 2 ^ 60 + m * 2 ^ 39 + a * 2 ^ 18 + c ≡ word
    → (word < 2 ^ 63) × (word / 2 ^ 60 ≡ look) × (word / 2 ^ 39 % 2 ^ 21 ≡ m) × (word / 2 ^ 18 % 2 ^ 21 ≡ a)
    × (word % 2 ^ 18 ≡ c)
cut_word word look m a c hl hm ha hc e = (omega arith, omega arith, omega arith, omega arith, omega arith)

joined_word : (word look m a c : ℕ) → word < 2 ^ 63 → word / 2 ^ 60 ≡ look → word / 2 ^ 39 % 2 ^ 21 ≡ m
    → word / 2 ^ 18 % 2 ^ 21 ≡ a → word % 2 ^ 18 ≡ c
    → look * 2 ^ 60 + m * 2 ^ 39 + a * 2 ^ 18 + c ≡ word
joined_word word look m a c h hl hm ha hc = omega arith

-- the number of a spelt instruction is its word
pub Spells-number : (p : Profile) (word : ℕ) (i : Insn) → SpellsIn p word i → number_of_fields (fields i) ≡ word
Spells-number p word i s =
    number-from_digits (fields i) word s.in_range (rw (fields_width i) s.in_word) (rw (fields_width i) s.digits_are)

-- and an instruction in its ranges is spelt by its number
pub Spells-from_number : (p : Profile) (word : ℕ) (i : Insn) → AreInRange (fields i) → number_of_fields (fields i) ≡ word
    → RestIsZero i → HasOneWriter i → is_in p i ≡ true → SpellsIn p word i
Spells-from_number p word i h e rest one has = record {
  in_word =
      let below = number-lt (fields i) h in
      let same = fields_width i in
      subst (λ n. n < 2 ^ 64) e (subst (λ k. number_of_fields (fields i) < 2 ^ k) same below);
  digits_are =
      let made = digits-number (fields i) h in
      let same = subst (λ k. digits k (number_of_fields (fields i)) ≡ spelling (fields i)) (fields_width i) made in
      subst (λ n. digits 64 n ≡ spelling (fields i)) e same;
  in_range = h;
  rest = rest;
  one_writer = one;
  in_profile = has;
}

pub Holds-from_spells : (p : Profile) (word : ℕ) (i : Insn) → SpellsIn p word i → Holds p word i
Holds-from_spells p word (insn.Wide look op reg imm) s =
    record { in_range = s.in_range; number_is = Spells-number p word (insn.Wide look op reg imm) s }
Holds-from_spells p word (insn.Normal look m a c) s =
    let parts = normal_parts look m a c s.in_range in
    let joined = sym (number-normal look m a c) ∙ Spells-number p word (insn.Normal look m a c) s in
    let below = control_number-lt c parts.3 in
    let cut =
    cut_word word look (number_of_fields (memory_fields m)) (number_of_fields (arithmetic_fields a)) (number_of_fields (control_fields c)) parts.0
    (number-lt (memory_fields m) parts.1) (number-lt (arithmetic_fields a) parts.2) below joined in
    record {
      in_word = cut.0;
      look_is = cut.1;
      memory = record { in_range = parts.1; number_is = sym cut.2; rest = s.rest.0 };
      arithmetic = record { in_range = parts.2; number_is = sym cut.3; rest = s.rest.1 };
      control = record { in_range = parts.3; number_is = sym cut.4; rest = s.rest.2 };
      one_writer = s.one_writer;
      in_profile = s.in_profile;
    }

pub Spells-from_holds : (p : Profile) (word : ℕ) (i : Insn) → Holds p word i → SpellsIn p word i
Spells-from_holds p word (insn.Wide look op reg imm) h =
    Spells-from_number p word (insn.Wide look op reg imm) h.in_range h.number_is tt tt refl
Spells-from_holds p word (insn.Normal look m a c) h =
    let below : word / 2 ^ 60 < 8 = omega (arith, h.in_word) in
    Spells-from_number p word (insn.Normal look m a c)
    (normal_in_range look m a c (subst (λ n. n < 8) h.look_is below) h.memory.in_range h.arithmetic.in_range
    h.control.in_range)
    (number-normal look m a c
    ∙ joined_word word look _ _ _ h.in_word h.look_is (sym h.memory.number_is) (sym h.arithmetic.number_is)
    (sym h.control.number_is))
    (h.memory.rest, h.arithmetic.rest, h.control.rest)
    h.one_writer h.in_profile

-- the number of the control operation stands in its digits
same_control : (x y : ControlOp) → control_number x ≡ control_number y → x ≡ y
same_control x y e = grind arith

pub control_is : (bits : ℕ) (op : ControlOp) (c : CPart) → IsControlPart bits c
    → control_number op ≡ bits / 2 ^ 14 % 2 ^ 4 → c.op ≡ op
control_is bits op c p e =
    let below : number_of_fields (argument_fields c.op c) < 2 ^ 14 =
    subst (λ k. number_of_fields (argument_fields c.op c) < 2 ^ k) (argument_width c.op c)
    (number-lt (argument_fields c.op c) p.in_range.1) in
    let joined : control_number c.op * 2 ^ 14 + number_of_fields (argument_fields c.op c) ≡ bits =
    subst (λ k. control_number c.op * 2 ^ k + number_of_fields (argument_fields c.op c) ≡ bits) (argument_width c.op c)
    p.number_is in
    let small : control_number c.op < 2 ^ 4 = p.in_range.0 in
    same_control c.op op (omega arith)

-- What decode says, from what the reading of parts says.

pub some_iff : (p : Profile) (word : ℕ) (r : Option Insn) → ((i : Insn) → (r ≡ Some i) ↔ Holds p word i) → (i : Insn)
    → (r ≡ Some i) ↔ SpellsIn p word i
some_iff p word r h i = (λ e. Spells-from_holds p word i ((h i).0 e), λ s. (h i).1 (Holds-from_spells p word i s))

pub some_spelt : (p : Profile) (word : ℕ) (r : Option Insn) → ((i : Insn) → (r ≡ Some i) ↔ SpellsIn p word i)
    → IfSome r (SpellsIn p word)
some_spelt p word None h = tt
some_spelt p word (Some i) h = (h i).0 refl

pub some_valid : (p : Profile) (word : ℕ) (r : Option Insn) → ((i : Insn) → (r ≡ Some i) ↔ SpellsIn p word i)
    → IfSome r (IsValidIn p)
some_valid p word None h = tt
some_valid p word (Some i) h = (word, (h i).0 refl)

pub none_iff : (p : Profile) (word : ℕ) (r : Option Insn) → ((i : Insn) → (r ≡ Some i) ↔ SpellsIn p word i)
    → IsNone r ↔ ((i : Insn) → SpellsIn p word i → ⊥)
none_iff p word None h = (λ none i s. let e = (h i).1 s in cc, λ none. refl)
none_iff p word (Some i) h = (λ none. cc, λ none. absurd (none i ((h i).0 refl)))

-- a valid instruction is spelt by the number that its fields make
pub Spells-bits : (p : Profile) (bits : ℕ) (i : Insn) → (AreInRange (fields i) → bits ≡ number_of_fields (fields i))
    → IsValidIn p i → SpellsIn p bits i
Spells-bits p bits i made valid =
    let spelt = valid.1 in
    let same = sym (Spells-number p valid.0 i spelt) ∙ sym (made spelt.in_range) in
    subst (λ (word : ℕ). SpellsIn p word i) same spelt

-- Profile 2 has what Profile 1 has.

kept_operation : (op : MemoryOp) → has_operation profile.One op ≡ true → has_operation profile.Two op ≡ true
kept_operation memory.Nop e = refl
kept_operation memory.Load e = refl
kept_operation memory.Store e = refl
kept_operation memory.FetchAdd e = refl
kept_operation memory.TagGet e = refl
kept_operation memory.TagSet e = refl
kept_operation memory.Purge e = refl

is_kept : (i : Insn) → is_in profile.One i ≡ true → is_in profile.Two i ≡ true
is_kept (insn.Wide look op reg imm) e = refl
is_kept (insn.Normal look m a c) e = kept_operation m.op e

pub Spells-in_two : (word : ℕ) (i : Insn) → SpellsIn profile.One word i → SpellsIn profile.Two word i
Spells-in_two word i s = record {
  in_word = s.in_word;
  digits_are = s.digits_are;
  in_range = s.in_range;
  rest = s.rest;
  one_writer = s.one_writer;
  in_profile = is_kept i s.in_profile;
}
