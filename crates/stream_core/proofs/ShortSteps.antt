-- What instructions of the short forms are found by, do and ask.
use Rattle.std.proofs.Common.{◌≡◌, ℕ, Bool, true, false, List, Option, Some, None, IfSome, refl, sym, ap, ◌∙◌}
use Rattle.std.proofs.Common.{if◌then◌else◌}
use Rattle.insn_word.specs.Words.{memory_destination, arithmetic_destination}
use Rattle.insn_word.specs.ShortInsns.{short_control_part, reference_operation, reference_part}
use Rattle.insn_word.specs.ShortInsns.{short_instruction, reference_instruction}
use Rattle.insn_word.specs.Reading.{instruction_in}
use Rattle.insn_word.specs.declared.profiles.Profile.{Profile}
use Rattle.insn_word.specs.declared.insn.APart.{APart}
use Rattle.insn_word.specs.declared.short_insns.ShortControl.{ShortControl}
use Rattle.insn_word.specs.declared.short_insns.ShortControl.TheVariants as short
use Rattle.insn_word.specs.declared.short_insns.ShortInsn.{ShortInsn}
use Rattle.insn_word.specs.declared.short_insns.ReferenceOp.{ReferenceOp}
use Rattle.insn_word.specs.declared.short_insns.ReferenceOp.TheVariants as reference
use Rattle.insn_word.specs.declared.short_insns.ReferencePart.{ReferencePart}
use Rattle.insn_word.specs.declared.short_insns.ReferenceInsn.{ReferenceInsn}
use Rattle.tag_memory.specs.declared.requests.Acc.{Acc}
use Rattle.tag_memory.specs.declared.requests.MemOp.{MemOp}
use Rattle.tag_memory.specs.declared.requests.Request.{Request}
use Rattle.stream_core.specs.Conditions.{condition_holds}
use Rattle.stream_core.specs.Registers.{register_at, with_register}
use Rattle.stream_core.specs.Streams.{StreamValue}
use Rattle.stream_core.specs.Effects.{displaced_pointer, access_of, request_by, request_of, retries_after}
use Rattle.stream_core.specs.Effects.{arithmetic_value, ssw_before_control, code_at, next_pc, skip_pc}
use Rattle.stream_core.specs.Effects.{after_instruction}
use Rattle.stream_core.specs.StreamRow.{fetch_instruction, fetch_word, fetch_of, control_by, control_of}
use Rattle.stream_core.specs.declared.steps.Fetch.TheVariants as fetch
use Rattle.stream_core.specs.declared.steps.Control.TheVariants as asks
use Rattle.stream_core.specs.ShortEffects.{pc_after_control, asked_operation, asked_value}
use Rattle.stream_core.specs.declared.status_words.StatusWord.{StatusWord}
use Rattle.stream_core.specs.declared.status_words.Codes.{Codes}

-- What they are found by.

pub short_found : (program : List ℕ) (s : StreamValue) (word : ℕ) (found : Option ShortInsn)
    → ((p : Profile) → fetch_of p program s ≡ fetch_word p (Some word))
    → ((p : Profile) → IfSome found (λ i. instruction_in p word ≡ Some (short_instruction i)))
    → (p : Profile) → IfSome found (λ i. fetch_of p program s ≡ fetch.Instruction (short_instruction i))
short_found program s word None e h p = tt
short_found program s word (Some i) e h p = e p ∙ ap fetch_instruction (h p)

pub reference_found : (program : List ℕ) (s : StreamValue) (word : ℕ) (found : Option ReferenceInsn)
    → ((p : Profile) → fetch_of p program s ≡ fetch_word p (Some word))
    → ((p : Profile) → IfSome found (λ r. instruction_in p word ≡ Some (reference_instruction r)))
    → (p : Profile) → IfSome found (λ r. fetch_of p program s ≡ fetch.Instruction (reference_instruction r))
reference_found program s word None e h p = tt
reference_found program s word (Some r) e h p = e p ∙ ap fetch_instruction (h p)

-- What they do.

-- the status word of a stream with this pc and these codes
abbrev pub ssw_of : StreamValue → ℕ → Codes → StatusWord
ssw_of s pc codes = record s.ssw { pc = pc; codes = codes }

ssw_if : (s : StreamValue) (codes : Codes) (b : Bool) (pc other : ℕ)
    → (if b then ssw_of s pc codes else ssw_of s other codes) ≡ ssw_of s (if b then pc else other) codes
ssw_if s codes true pc other = refl
ssw_if s codes false pc other = refl

abbrev pub codes_after : StreamValue → APart → Codes
codes_after s a = (ssw_before_control s a).codes

-- with this pc, these codes and these registers
abbrev pub shortly : StreamValue → ℕ → Codes → List ℕ → StreamValue
shortly s pc codes registers = record s { registers = registers; ssw = ssw_of s pc codes }

short_by : (s : StreamValue) (look : ℕ) (a : APart) (c : ShortControl)
    → after_instruction s (short_instruction (record { look = look; a = a; c = c })) 0 0
    ≡ shortly s (pc_after_control s c) (codes_after s a)
    (with_register s.registers (arithmetic_destination a.op a.rd) (arithmetic_value s a))
unfolding after_instruction
short_by s look a short.Nop = refl
short_by s look a (short.Skip cond code n) =
    ap (λ (x : StatusWord). record s {
      registers = with_register s.registers (arithmetic_destination a.op a.rd) (arithmetic_value s a);
      ssw = x;
    })
    (ssw_if s (codes_after s a) (condition_holds cond (code_at s.ssw.codes code)) (skip_pc s.ssw.pc n)
    (next_pc s.ssw.pc))

pub short_made : (before made : StreamValue) (s : ShortInsn) (pc value rd : ℕ) (registers : List ℕ)
    → made ≡ record before { ssw = record before.ssw { codes = codes_after before s.a } }
    → pc ≡ pc_after_control before s.c → value ≡ arithmetic_value before s.a
    → rd ≡ arithmetic_destination s.a.op s.a.rd → registers ≡ with_register made.registers rd value
    → record made { registers = registers; ssw = record made.ssw { pc = pc } }
    ≡ after_instruction before (short_instruction s) 0 0
short_made before made s pc value rd registers e p v d r =
    let codes = codes_after before s.a in
    ap (λ x. record made { registers = x; ssw = record made.ssw { pc = pc } }) r
    ∙ ap (λ (x : StreamValue). record x {
      registers = with_register x.registers rd value;
      ssw = record x.ssw { pc = pc };
    }) e
    ∙ ap (λ x. shortly before pc codes (with_register before.registers x value)) d
    ∙ ap (λ x. shortly before pc codes (with_register before.registers (arithmetic_destination s.a.op s.a.rd) x)) v
    ∙ ap (λ x. shortly before x codes
    (with_register before.registers (arithmetic_destination s.a.op s.a.rd) (arithmetic_value before s.a))) p
    ∙ sym (short_by before s.look s.a s.c)

-- with this pc and these registers, and a reference that was not blocked
abbrev pub referred : StreamValue → ℕ → List ℕ → StreamValue
referred s pc registers = record s { registers = registers; ssw = record s.ssw { pc = pc }; retries = 0 }

no_retries : (op : ReferenceOp) (n : ℕ) → retries_after (reference_operation op) n ≡ 0
no_retries reference.Load n = refl
no_retries reference.Store n = refl
no_retries reference.FetchAdd n = refl
no_retries reference.TagGet n = refl
no_retries reference.TagSet n = refl

abbrev pub loaded : StreamValue → ReferencePart → ℕ → List ℕ
loaded s m value = with_register s.registers (memory_destination (reference_operation m.op) m.rd) value

reference_by : (s : StreamValue) (look : ℕ) (m : ReferencePart) (c : ShortControl) (value : ℕ)
    → after_instruction s (reference_instruction (record { look = look; m = m; c = c })) value 0
    ≡ referred s (pc_after_control s c) (loaded s m value)
unfolding after_instruction
reference_by s look m short.Nop value =
    ap (λ n. record s { registers = loaded s m value; ssw = ssw_of s (next_pc s.ssw.pc) s.ssw.codes; retries = n })
    (no_retries m.op s.retries)
reference_by s look m (short.Skip cond code n) value =
    let holds = condition_holds cond (code_at s.ssw.codes code) in
    let ssw = if holds then ssw_of s (skip_pc s.ssw.pc n) s.ssw.codes else ssw_of s (next_pc s.ssw.pc) s.ssw.codes in
    ap (λ k. record s { registers = loaded s m value; ssw = ssw; retries = k }) (no_retries m.op s.retries)
    ∙ ap (λ (x : StatusWord). record s { registers = loaded s m value; ssw = x; retries = 0 })
    (ssw_if s s.ssw.codes holds (skip_pc s.ssw.pc n) (next_pc s.ssw.pc))

pub reference_made : (before made : StreamValue) (r : ReferenceInsn) (pc value rd : ℕ) (registers : List ℕ)
    → made ≡ before → pc ≡ pc_after_control before r.c
    → rd ≡ memory_destination (reference_operation r.m.op) r.m.rd → registers ≡ with_register made.registers rd value
    → referred made pc registers ≡ after_instruction before (reference_instruction r) value 0
reference_made before made r pc value rd registers e p d w =
    ap (λ x. referred made pc x) w
    ∙ ap (λ (x : StreamValue). referred x pc (with_register x.registers rd value)) e
    ∙ ap (λ x. referred before pc (with_register before.registers x value)) d
    ∙ ap (λ x. referred before x (loaded before r.m value)) p
    ∙ sym (reference_by before r.look r.m r.c value)

-- What they ask.

abbrev pub asked_with : StreamValue → MemOp → ℕ → Acc → ℕ → Request
asked_with s op pointer acc value = record {
  op = op;
  pointer = pointer;
  acc = acc;
  value = value;
  masked = record { trap0 = s.ssw.mask.trap0; trap1 = s.ssw.mask.trap1 };
}

asked_by : (s : StreamValue) (m : ReferencePart) (op : ReferenceOp)
    → request_by s (reference_part m) (reference_operation op)
    ≡ Some (asked_with s (asked_operation op) (displaced_pointer (register_at s.registers m.base) m.disp)
    (access_of m.acc) (asked_value s m op))
asked_by s m reference.Load = refl
asked_by s m reference.Store = refl
asked_by s m reference.FetchAdd = refl
asked_by s m reference.TagGet = refl
asked_by s m reference.TagSet = refl

pub request_made : (before made : StreamValue) (r : ReferenceInsn) (op : MemOp) (base pointer : ℕ) (acc : Acc)
    (value : ℕ) → made ≡ before → op ≡ asked_operation r.m.op → base ≡ register_at before.registers r.m.base
    → pointer ≡ displaced_pointer base r.m.disp → acc ≡ access_of r.m.acc
    → value ≡ asked_value before r.m r.m.op
    → Some (asked_with made op pointer acc value) ≡ request_of before (reference_instruction r)
unfolding request_of
request_made before made r op base pointer acc value e o b p a v =
    let far = displaced_pointer (register_at before.registers r.m.base) r.m.disp in
    ap (λ (x : StreamValue). Some (asked_with x op pointer acc value)) e
    ∙ ap (λ x. Some (asked_with before x pointer acc value)) o
    ∙ ap (λ x. Some (asked_with before (asked_operation r.m.op) x acc value))
    (p ∙ ap (λ x. displaced_pointer x r.m.disp) b)
    ∙ ap (λ x. Some (asked_with before (asked_operation r.m.op) far x value)) a
    ∙ ap (λ x. Some (asked_with before (asked_operation r.m.op) far (access_of r.m.acc) x)) v
    ∙ sym (asked_by before r.m r.m.op)

-- a reference asks the memory
pub reference_asks : (s : StreamValue) (r : ReferenceInsn)
    → (q : Request) × (request_of s (reference_instruction r) ≡ Some q)
unfolding request_of
reference_asks s r = (_, asked_by s r.m r.m.op)

plain_by : (s : StreamValue) (c : ShortControl) → control_by s (short_control_part c) (short_control_part c).op ≡ asks.Plain
plain_by s short.Nop = refl
plain_by s (short.Skip cond code n) = refl

-- none asks its processor
pub short_plain : (s : StreamValue) (i : ShortInsn) → control_of s (short_instruction i) ≡ asks.Plain
unfolding control_of
short_plain s i = plain_by s i.c

pub reference_plain : (s : StreamValue) (r : ReferenceInsn) → control_of s (reference_instruction r) ≡ asks.Plain
unfolding control_of
reference_plain s r = plain_by s r.c
