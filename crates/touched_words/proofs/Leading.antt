-- Where instructions lead, and tables of which each place was looked at.
use Rattle.std.proofs.Common.{◌≡◌, ℕ, ◌<◌, ◌≤◌, ◌⊎◌, inl, inr, true, false, sym, ◌∙◌, subst, arith, List, length, slice_get}
use Rattle.std.specs.Prelude.{IsTrue}
use Rattle.std.proofs.lemmas.Bool.{cases_lt}
use Rattle.std.proofs.lemmas.List.{get_or_past}
use Rattle.insn_word.specs.declared.operations.ControlOp.TheVariants as control
use Rattle.insn_word.specs.declared.operations.Condition.{Condition}
use Rattle.insn_word.specs.declared.operations.Condition.TheVariants as condition
use Rattle.insn_word.specs.declared.profiles.Profile.{Profile}
use Rattle.insn_word.specs.declared.insn.MPart.{MPart}
use Rattle.insn_word.specs.declared.insn.APart.{APart}
use Rattle.insn_word.specs.declared.insn.CPart.{CPart}
use Rattle.insn_word.specs.declared.insn.Insn.{Insn}
use Rattle.insn_word.specs.declared.insn.Insn.TheVariants.{Normal}
use Rattle.stream_core.specs.Effects.{next_pc, skip_pc}
use Rattle.stream_core.specs.StreamRow.{fetch_word}
use Rattle.stream_core.specs.declared.steps.Fetch.TheVariants as fetch
use Rattle.program_flow.specs.Flow.{SkipsTo, GoesBy, GoesTo}
use Rattle.touched_words.specs.TouchTables.{TouchValue, is_closed}
use Rattle.touched_words.specs.ClosedTables.{LeadsOn, IsClosedAt, IsClosedTable}

skips : (c : Condition) (n p j : ℕ) → SkipsTo c n p j → ((c ≡ condition.Always → ⊥) × (j ≡ n)) ⊎ (j ≡ p)
skips condition.Always n p j e = inr e
skips c n p j (inl e) = inl ((λ w. cc), e)
skips c n p j (inr e) = inr e

-- a SKIP leads on where it leads to the next place or always skips, and where it skips
pub skip_leads : (v : TouchValue) (i : Insn) (k look : ℕ) (m : MPart) (a : APart) (c : CPart)
    → i ≡ Normal look m a c → c.op ≡ control.Skip → (c.cond ≡ condition.Always) ⊎ LeadsOn v i k (next_pc k)
    → LeadsOn v i k (skip_pc k c.n) → (j : ℕ) → GoesTo i k j → LeadsOn v i k j
skip_leads v i k look m a c is skip next far j goes =
    let normal : GoesTo (Normal look m a c) k j = subst (λ (x : Insn). GoesTo x k j) is goes in
    let by_skip : SkipsTo c.cond (next_pc k) (skip_pc k c.n) j = subst (λ o. GoesBy o c k j) skip normal in
    elim (skips c.cond (next_pc k) (skip_pc k c.n) j by_skip) [
      | inl near ↦ elim next [
        | inl always ↦ absurd (near.0 always)
        | inr leads ↦ subst (LeadsOn v i k) (sym near.1) leads
      ]
      | inr e ↦ subst (LeadsOn v i k) (sym e) far
    ]

-- where each place is closed that was looked at, the table is
pub closed_all : (profile : Profile) (program : List ℕ) (v : TouchValue) (n : ℕ) → length v.closed ≤ n
    → ((k : ℕ) → k < n → IsTrue (is_closed v.closed k)
    → (i : Insn) × ((fetch_word profile (slice_get program k) ≡ fetch.Instruction i) × IsClosedAt v k i))
    → IsClosedTable profile program v
closed_all profile program v n all each k closed = elim (cases_lt k n) [
  | inl below ↦ each k below closed
  | inr past ↦
      let none : false ≡ true = sym (get_or_past v.closed k false (omega (arith, past, all))) ∙ closed in
      cc
]
