-- Two lists of registers under the same writes.
use Rattle.std.proofs.Common.{◌≡◌, ℕ, ◌<◌, ◌≤◌, ◌==◌, ◌⊎◌, inl, inr, Bool, true, false, refl, sym, ap, ◌∙◌, arith}
use Rattle.std.proofs.Common.{if◌then◌else◌, List, [], ◌∷◌, map, length, set}
use Rattle.std.proofs.lemmas.Bool.{cases_lt, eqb-true}
use Rattle.std.proofs.lemmas.List.{length-set, get_or-set_same, get_or-set_other, get_or_past}
use Rattle.insn_word.specs.declared.insn.Insn.{Insn}
use Rattle.insn_word.specs.declared.insn.Insn.TheVariants.{Wide, Normal}
use Rattle.stream_core.specs.Registers.{register_at, with_register}
use Rattle.stream_core.specs.Streams.{StreamValue}
use Rattle.program_flow.specs.Operands.{registers_written}
use Rattle.program_flow.specs.Agreement.{writes, after_writes, registers_over}
use Rattle.program_flow.specs.Flow.{IsOneOf}

-- the register holds the same in both
abbrev pub Same : List ℕ → List ℕ → ℕ → Type 0
Same rs qs r = register_at rs r ≡ register_at qs r

pub same_or_other : (j k : ℕ) → (j ≡ k) ⊎ (j ≡ k → ⊥)
same_or_other j k = elim (cases_lt j k) [
  | inl below ↦ inr (λ e. omega arith)
  | inr above ↦ elim (cases_lt k j) [ inl less ↦ inr (λ e. omega arith) | inr most ↦ inl (omega arith) ]
]

set_same : (rs qs : List ℕ) (d v : ℕ) → length rs ≡ length qs → Same (set rs d v) (set qs d v) d
set_same rs qs d v e = by_place (cases_lt d (length rs)) where
  by_place : (d < length rs) ⊎ (length rs ≤ d) → Same (set rs d v) (set qs d v) d
  by_place (inl within) =
      get_or-set_same rs d v 0 within ∙ sym (get_or-set_same qs d v 0 (omega (arith, within, e)))
  by_place (inr past) =
      get_or_past (set rs d v) d 0 (omega (arith, past, length-set rs d v))
      ∙ sym (get_or_past (set qs d v) d 0 (omega (arith, past, e, length-set qs d v)))

length_with : (rs : List ℕ) (d v : ℕ) → length (with_register rs d v) ≡ length rs
length_with rs d v = by (d == 0) where
  by : (b : Bool) → length (if b then rs else set rs d v) ≡ length rs
  by true = refl
  by false = length-set rs d v

module _ (rs qs : List ℕ) (sizes : length rs ≡ length qs) (d v : ℕ) where
  pub sizes_with : length (with_register rs d v) ≡ length (with_register qs d v)
  sizes_with = length_with rs d v ∙ sizes ∙ sym (length_with qs d v)

  pub kept_with : (r : ℕ) → Same rs qs r → Same (with_register rs d v) (with_register qs d v) r
  kept_with r h = by (d == 0) where
    by : (b : Bool) → Same (if b then rs else set rs d v) (if b then qs else set qs d v) r
    by true = h
    by false = elim (same_or_other r d) [
      | inl e ↦ ap (register_at (set rs d v)) e ∙ set_same rs qs d v sizes ∙ ap (register_at (set qs d v)) (sym e)
      | inr apart ↦ get_or-set_other rs d r v 0 apart ∙ h ∙ sym (get_or-set_other qs d r v 0 apart)
    ]

  pub made_with : Same rs qs 0 → (r : ℕ) → r ≡ d → Same (with_register rs d v) (with_register qs d v) r
  made_with zero r e = by (d == 0) refl where
    by : (b : Bool) → (d == 0) ≡ b → Same (if b then rs else set rs d v) (if b then qs else set qs d v) r
    by true is = let none : r ≡ 0 = e ∙ eqb-true d 0 is in ap (register_at rs) none ∙ zero ∙ ap (register_at qs) (sym none)
    by false is = ap (register_at (set rs d v)) e ∙ set_same rs qs d v sizes ∙ ap (register_at (set qs d v)) (sym e)

pub sizes_writes : (rs qs : List ℕ) (ws : List (ℕ × ℕ)) → length rs ≡ length qs
    → length (after_writes rs ws) ≡ length (after_writes qs ws)
sizes_writes rs qs [] sizes = sizes
sizes_writes rs qs (w ∷ ws) sizes =
    sizes_writes (with_register rs w.0 w.1) (with_register qs w.0 w.1) ws (sizes_with rs qs sizes w.0 w.1)

pub kept_writes : (rs qs : List ℕ) (ws : List (ℕ × ℕ)) → length rs ≡ length qs → (r : ℕ) → Same rs qs r
    → Same (after_writes rs ws) (after_writes qs ws) r
kept_writes rs qs [] sizes r h = h
kept_writes rs qs (w ∷ ws) sizes r h =
    kept_writes (with_register rs w.0 w.1) (with_register qs w.0 w.1) ws (sizes_with rs qs sizes w.0 w.1) r
    (kept_with rs qs sizes w.0 w.1 r h)

pub made_writes : (rs qs : List ℕ) (ws : List (ℕ × ℕ)) → length rs ≡ length qs → Same rs qs 0 → (r : ℕ)
    → IsOneOf (map (λ (w : ℕ × ℕ). w.0) ws) r → Same (after_writes rs ws) (after_writes qs ws) r
made_writes rs qs [] sizes zero r none = absurd none
made_writes rs qs (w ∷ ws) sizes zero r (inl e) =
    kept_writes (with_register rs w.0 w.1) (with_register qs w.0 w.1) ws (sizes_with rs qs sizes w.0 w.1) r
    (made_with rs qs sizes w.0 w.1 zero r e)
made_writes rs qs (w ∷ ws) sizes zero r (inr later) =
    made_writes (with_register rs w.0 w.1) (with_register qs w.0 w.1) ws (sizes_with rs qs sizes w.0 w.1)
    (kept_with rs qs sizes w.0 w.1 0 zero) r later

pub made_written : (s : StreamValue) (value grant : ℕ) (rs qs : List ℕ) → length rs ≡ length qs → (i : Insn)
    → Same rs qs 0 → (r : ℕ) → IsOneOf (registers_written i) r
    → Same (registers_over s i value grant rs) (registers_over s i value grant qs) r
made_written s value grant rs qs sizes (Wide look o reg imm) = made_writes rs qs (writes s (Wide look o reg imm) value grant) sizes
made_written s value grant rs qs sizes (Normal look m a c) = made_writes rs qs (writes s (Normal look m a c) value grant) sizes
