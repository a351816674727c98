-- Places of which each was looked at, and where a SKIP leads on from them.
use Rattle.std.proofs.Common.{◌≡◌, ℕ, ◌+◌, ◌<◌, ◌≤◌, ◌⊎◌, inl, inr, Bool, true, false, sym, ◌∙◌, subst, arith, List, length, slice_get}
use Rattle.std.specs.Prelude.{IsTrue, IfOk, Result, Ok, Err, slice_index_or}
use Rattle.std.proofs.lemmas.Bool.{cases_lt}
use Rattle.std.proofs.lemmas.List.{get_or_past}
use Rattle.image_file.specs.ImageValue.{ImageValue}
use Rattle.insn_word.specs.declared.operations.ControlOp.TheVariants as control
use Rattle.insn_word.specs.declared.operations.Condition.{Condition}
use Rattle.insn_word.specs.declared.operations.Condition.TheVariants as condition
use Rattle.insn_word.specs.declared.profiles.Profile.{Profile}
use Rattle.insn_word.specs.declared.insn.MPart.{MPart}
use Rattle.insn_word.specs.declared.insn.APart.{APart}
use Rattle.insn_word.specs.declared.insn.CPart.{CPart}
use Rattle.insn_word.specs.declared.insn.Insn.{Insn}
use Rattle.insn_word.specs.declared.insn.Insn.TheVariants.{Normal}
use Rattle.stream_core.specs.Effects.{next_pc, skip_pc}
use Rattle.stream_core.specs.StreamRow.{fetch_word}
use Rattle.stream_core.specs.declared.steps.Fetch.TheVariants as fetch
use Rattle.program_flow.specs.Flow.{SkipsTo, GoesBy, GoesTo}
use Rattle.program_flow.specs.Tables.{is_live_at, is_named_by}
use Rattle.world_keys.specs.DeadRegisters.Clearing.{LiveValue, IsLive}
use Rattle.touched_words.specs.TouchTables.{TouchValue}
use Rattle.first_sets.specs.ApartSets.{AreTouchTables}
use Rattle.first_sets.specs.UnreadLoads.{IsUnread, AreUnreadPlaces}
use Rattle.schedule_space.specs.Tables.{AreTablesOf, AreUnreadBy}

-- what holds of each place below one, and of that one, holds below the next
pub one_place_more : (P : ℕ → Type 0) (n : ℕ) → ((k : ℕ) → k < n → P k) → P n → (k : ℕ) → k < n + 1 → P k
one_place_more P n below last k less = elim (cases_lt k n) [
  | inl before ↦ below k before
  | inr past ↦ let same : n ≡ k = omega (arith, past, less) in subst P same last
]

-- where nobody reads what is loaded at each marked place that was looked at, nobody does at any
pub all_unread : (l : LiveValue) (profile : Profile) (program : List ℕ) (marks : List Bool) (n : ℕ) → length marks ≤ n
    → ((k : ℕ) → k < n → (i : Insn) → IsTrue (slice_index_or marks k false)
    → fetch_word profile (slice_get program k) ≡ fetch.Instruction i
    → IsUnread (λ r. IsTrue (is_named_by l.names r)) (λ j r. IsTrue (is_live_at l.table j r)) i k)
    → AreUnreadBy l profile program marks
all_unread l profile program marks n all each k i marked found = elim (cases_lt k n) [
  | inl below ↦ each k below i marked found
  | inr past ↦
      let none : false ≡ true = sym (get_or_past marks k false (omega (arith, past, all))) ∙ marked in cc
]

skips : (c : Condition) (n p j : ℕ) → SkipsTo c n p j → ((c ≡ condition.Always → ⊥) × (j ≡ n)) ⊎ (j ≡ p)
skips condition.Always n p j e = inr e
skips c n p j (inl e) = inl ((λ w. cc), e)
skips c n p j (inr e) = inr e

-- what holds where a SKIP leads to the next place, unless it always skips, and where it skips, holds wherever it goes on
pub skip_all : (P : ℕ → Type 0) (i : Insn) (k look : ℕ) (m : MPart) (a : APart) (c : CPart)
    → i ≡ Normal look m a c → c.op ≡ control.Skip → (c.cond ≡ condition.Always) ⊎ P (next_pc k) → P (skip_pc k c.n)
    → (j : ℕ) → GoesTo i k j → P j
skip_all P i k look m a c is skip next far j goes =
    let normal : GoesTo (Normal look m a c) k j = subst (λ (x : Insn). GoesTo x k j) is goes in
    let by_skip : SkipsTo c.cond (next_pc k) (skip_pc k c.n) j = subst (λ o. GoesBy o c k j) skip normal in
    elim (skips c.cond (next_pc k) (skip_pc k c.n) j by_skip) [
      | inl near ↦ elim next [
        | inl always ↦ absurd (near.0 always)
        | inr holds ↦ subst P (sym near.1) holds
      ]
      | inr e ↦ subst P (sym e) far
    ]

-- tables that are made over such marks tell what is so of the image
pub tables_made : {T E : Type 0} (image : ImageValue) (l : LiveValue) → IsLive image l → (marks : List Bool)
    → AreUnreadBy l image.profile image.program marks → (items : T → List TouchValue) (wanted : Bool) (r : Result T E)
    → IfOk r (λ ts. (named : ℕ → Bool) (live : ℕ → ℕ → Bool)
    → AreUnreadPlaces (λ r. IsTrue (named r)) (λ k r. IsTrue (live k r)) image.profile image.program marks
    → AreTouchTables (λ r. IsTrue (named r)) (λ k r. IsTrue (live k r)) image.profile image.program (items ts))
    → IfOk r (λ ts. wanted ≡ true → AreTablesOf image l (items ts))
tables_made image l live marks unread items wanted (Ok ts) made = λ on.
    record { live = live; tell = made (is_named_by l.names) (is_live_at l.table) unread }
tables_made image l live marks unread items wanted (Err e) made = tt
