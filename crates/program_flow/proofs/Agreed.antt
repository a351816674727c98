-- Two streams that agree in what matters do the same, and agree in what matters then.
use Rattle.std.proofs.Common.{◌≡◌, ℕ, ◌⊎◌, inl, inr, false, refl, sym, ap, ◌∙◌, subst, List, Option}
use Rattle.insn_word.specs.declared.insn.Insn.{Insn}
use Rattle.insn_word.specs.declared.profiles.Profile.{Profile}
use Rattle.tag_memory.specs.declared.requests.Reply.{Reply}
use Rattle.stream_core.specs.Streams.{StreamValue, cannot_trap}
use Rattle.stream_core.specs.Effects.{request_of}
use Rattle.stream_core.specs.StreamRow.{fetch_if, fetch_of, control_of, control_from, row_from, stream_row}
use Rattle.stream_core.specs.declared.steps.Status.TheVariants.{Running}
use Rattle.stream_core.specs.declared.steps.Outcome.{Outcome}
use Rattle.stream_core.specs.declared.steps.Outcome.TheVariants as outcome
use Rattle.stream_core.specs.declared.steps.Fetch.{Fetch}
use Rattle.stream_core.specs.declared.steps.Fetch.TheVariants as fetch
use Rattle.program_flow.specs.Agreement.{with_registers, AgreeOn, reads_at}
use Rattle.program_flow.specs.Flow.{EndsStream, IsClosedAt, Matters}
use Rattle.program_flow.specs.Codes.{with_codes, SameCodes, HasCodesAt}
use Rattle.program_flow.specs.Agreeing.{StreamsAgree, TellsFlow, KeepsAgreement}
use Rattle.program_flow.proofs.EqualRows.{same_request, same_control}
use Rattle.program_flow.proofs.Kept.{AgreeInRegisters, each_of, registers_kept}
use Rattle.program_flow.proofs.Writes.{Same}
use Rattle.program_flow.proofs.Asked.{same_itself, same_next, same_back, request_codes, control_codes, Left, codes_kept}

-- Agreement goes both ways, and on.
module _ (named : ℕ → Type 0) (live asked : ℕ → ℕ → Type 0) where
  pub agree_itself : (s : StreamValue) → StreamsAgree named live asked s s
  agree_itself s =
      record { rest = refl; sizes = refl; each = λ r l. refl; codes = same_itself (asked s.ssw.pc) s.ssw.codes }

  pub agree_next : (s t u : StreamValue) → StreamsAgree named live asked s t → StreamsAgree named live asked t u
      → StreamsAgree named live asked s u
  agree_next s t u g h = record {
    rest = h.rest ∙ ap (λ y. with_codes (with_registers y u.registers) u.ssw.codes) g.rest;
    sizes = h.sizes ∙ g.sizes;
    each = λ r l. h.each r (subst (λ y. Matters named live y r) (sym g.rest) l) ∙ g.each r l;
    codes = same_next (asked s.ssw.pc) s.ssw.codes t.ssw.codes u.ssw.codes g.codes
        (subst (λ (y : StreamValue). SameCodes (asked y.ssw.pc) t.ssw.codes u.ssw.codes) g.rest h.codes);
  }

  pub agree_back : (s t : StreamValue) → StreamsAgree named live asked s t → StreamsAgree named live asked t s
  agree_back s t g = record {
    rest = sym (ap (λ y. with_codes (with_registers y s.registers) s.ssw.codes) g.rest);
    sizes = sym g.sizes;
    each = λ r l. sym (g.each r (subst (λ y. Matters named live y r) g.rest l));
    codes = subst (λ (y : StreamValue). SameCodes (asked y.ssw.pc) t.ssw.codes s.ssw.codes) (sym g.rest)
        (same_back (asked s.ssw.pc) s.ssw.codes t.ssw.codes g.codes);
  }

-- One step of both.
module _ (handled : Type 0) (named : ℕ → Type 0) (live asked : ℕ → ℕ → Type 0) (s t : StreamValue)
    (agree : StreamsAgree named live asked s t) (runs : s.status ≡ Running) where
  -- the stream between them
  abbrev between : StreamValue
  between = with_registers s t.registers

  alive : (r : ℕ) → live s.ssw.pc r → Same t.registers s.registers r
  alive r l = agree.each r (inr (runs, l))

  read : (f : Fetch) → IsClosedAt handled live s.ssw.pc f → AgreeOn (reads_at f) t.registers s.registers
  read f here = each_of (live s.ssw.pc) (Same t.registers s.registers) alive (reads_at f) here.reads

  pub request_agrees : (i : Insn) → IsClosedAt handled live s.ssw.pc (fetch.Instruction i) → request_of t i ≡ request_of s i
  request_agrees i here =
      ap (λ x. request_of x i) agree.rest
      ∙ request_codes between t.ssw.codes i
      ∙ same_request s t.registers i (read (fetch.Instruction i) here)

  pub control_agrees : (i : Insn) → IsClosedAt handled live s.ssw.pc (fetch.Instruction i) → control_of t i ≡ control_of s i
  control_agrees i here =
      ap (λ x. control_of x i) agree.rest
      ∙ control_codes between t.ssw.codes i
      ∙ same_control s t.registers i (read (fetch.Instruction i) here)

  module _ (names : (r : ℕ) → named r → live s.ssw.pc r) (zero : live s.ssw.pc 0)
      (handler : cannot_trap s ≡ false → handled) (limit grant : ℕ) (r : Option Reply) (f : Fetch)
      (here : IsClosedAt handled live s.ssw.pc f) (has : HasCodesAt handled asked s.ssw.pc f) where
    abbrev e : StreamValue × Outcome
    e = row_from limit s grant r f

    abbrev x : StreamValue × Outcome
    x = row_from limit between grant r f

    abbrev z : StreamValue × Outcome
    z = row_from limit (with_codes between t.ssw.codes) grant r f

    abbrev Leaves : StreamValue × Outcome → Type 0
    Leaves u =
        (u.1 ≡ e.1)
        × (((e.1 ≡ outcome.Done) × EndsStream (control_from s f)) ⊎ StreamsAgree named live asked e.0 u.0)

    ends_too : (g : Fetch) → IsClosedAt handled live s.ssw.pc g → EndsStream (control_from between g)
        → EndsStream (control_from s g)
    ends_too fetch.Rest c h = h
    ends_too (fetch.Trap k) c h = h
    ends_too (fetch.Instruction i) c h =
        subst EndsStream (same_control s t.registers i (read (fetch.Instruction i) c)) h

    both : AgreeInRegisters (Matters named live e.0) e.0 x.0 → Left asked x.0 z.0 → StreamsAgree named live asked e.0 z.0
    both g h =
        subst (StreamsAgree named live asked e.0) (sym (h.1.0 ∙ ap (λ y. with_codes y h.0) g.rest))
        (record {
          rest = refl;
          sizes = g.sizes;
          each = g.each;
          codes = subst (λ (y : StreamValue). SameCodes (asked y.ssw.pc) y.ssw.codes h.0) g.rest h.1.1;
        })

    leaves : Leaves z
    leaves = (second.0 ∙ first.0, by first.1 second.1) where
      first : (x.1 ≡ e.1)
          × (((e.1 ≡ outcome.Done) × EndsStream (control_from s f)) ⊎ AgreeInRegisters (Matters named live e.0) e.0 x.0)
      first =
          registers_kept handled named live limit s between names zero handler grant r f here runs
          (record { rest = refl; sizes = agree.sizes; each = agree.each })

      second : (z.1 ≡ x.1) × (((x.1 ≡ outcome.Done) × EndsStream (control_from between f)) ⊎ Left asked x.0 z.0)
      second = codes_kept handled asked limit grant between t.ssw.codes handler agree.codes r f has

      by : ((e.1 ≡ outcome.Done) × EndsStream (control_from s f)) ⊎ AgreeInRegisters (Matters named live e.0) e.0 x.0
          → ((x.1 ≡ outcome.Done) × EndsStream (control_from between f)) ⊎ Left asked x.0 z.0
          → ((e.1 ≡ outcome.Done) × EndsStream (control_from s f)) ⊎ StreamsAgree named live asked e.0 z.0
      by (inl ends) h = inl ends
      by (inr g) (inl ends) = inl (sym first.0 ∙ ends.0, ends_too f here ends.1)
      by (inr g) (inr h) = inr (both g h)

    pub row_agrees : Leaves (row_from limit t grant r f)
    row_agrees = subst (λ y. Leaves (row_from limit y grant r f)) (sym agree.rest) leaves

pub agreement_is_kept : (profile : Profile) (program : List ℕ) (handled : Type 0) (named : ℕ → Type 0)
    (live asked : ℕ → ℕ → Type 0) → TellsFlow profile program handled named live asked
    → (limit : ℕ) (s t : StreamValue) (grant : ℕ) (r : Option Reply)
    → s.status ≡ Running → (cannot_trap s ≡ false → handled) → StreamsAgree named live asked s t
    → KeepsAgreement profile program handled named live asked limit s t grant r
unfolding stream_row fetch_of
agreement_is_kept profile program handled named live asked tells limit s t grant r runs handler agree =
    record {
      comes_out = ap (λ g. (row_from limit t grant r g).1) fetched ∙ leaves.0;
      after = subst (λ g. ((e.1 ≡ outcome.Done) × EndsStream (control_from s f))
          ⊎ StreamsAgree named live asked e.0 (row_from limit t grant r g).0) (sym fetched) leaves.1;
    }
  where
    f : Fetch
    f = fetch_of profile program s

    fetched : fetch_of profile program t ≡ f
    fetched = ap (fetch_of profile program) agree.rest

    runs_too : fetch_of profile program s ≡ fetch_if profile Running program s.ssw.pc
    runs_too = ap (λ st. fetch_if profile st program s.ssw.pc) runs

    here : IsClosedAt handled live s.ssw.pc f
    here = subst (IsClosedAt handled live s.ssw.pc) (sym runs_too) (tells.registers.each s.ssw.pc)

    has : HasCodesAt handled asked s.ssw.pc f
    has = subst (HasCodesAt handled asked s.ssw.pc) (sym runs_too) (tells.codes.each s.ssw.pc)

    e : StreamValue × Outcome
    e = row_from limit s grant r f

    leaves : ((row_from limit t grant r f).1 ≡ e.1)
        × (((e.1 ≡ outcome.Done) × EndsStream (control_from s f))
        ⊎ StreamsAgree named live asked e.0 (row_from limit t grant r f).0)
    leaves =
        row_agrees handled named live asked s t agree runs (λ q h. tells.registers.names s.ssw.pc q h)
        (tells.registers.zero s.ssw.pc) handler limit grant r f here has
