-- Tables that say nowhere more codes than any closed one.
use Rattle.std.proofs.Common.{◌≡◌, ℕ, zero, suc, ◌+◌, ◌≤◌, inl, inr, Bool, true, false, refl, sym, ap, subst, ◌∙◌, arith}
use Rattle.std.proofs.Common.{Option, Some, None, List, length, replicate, if◌then◌else◌}
use Rattle.std.specs.Prelude.{slice_get, nat_lt, IfSome, unwrap_or}
use Rattle.std.proofs.lemmas.Bool.{ltb-false}
use Rattle.std.proofs.lemmas.Option.{slice_get_past}
use Rattle.insn_word.specs.declared.operations.ControlOp.{ControlOp}
use Rattle.insn_word.specs.declared.operations.ControlOp.TheVariants as control
use Rattle.insn_word.specs.declared.operations.WideOp.{WideOp}
use Rattle.insn_word.specs.declared.operations.WideOp.TheVariants as wide
use Rattle.insn_word.specs.declared.insn.CPart.{CPart}
use Rattle.insn_word.specs.declared.insn.Insn.{Insn}
use Rattle.insn_word.specs.declared.insn.Insn.TheVariants.{Wide, Normal}
use Rattle.image_file.specs.ImageValue.{ImageValue}
use Rattle.stream_core.specs.Effects.{next_pc}
use Rattle.source_slips.specs.Places.{insn_of, insn_at, GoesStraight}
use Rattle.source_slips.specs.Made.{IsWithin, AllowsBy, Allows, AllowsAny, IsAimed, count_after, ControlLeads, WideAims, Leads}
use Rattle.source_slips.specs.Made.{most_of, most_at, LeadsIf, LeadsWhere, IsClosedTable}
use Rattle.source_slips.specs.MostCodes.{IsBelow, IsLeast, kept_after, kept_after_insn, leaves_by, leaves_with}
use Rattle.source_slips.specs.MostCodes.{aimed_by, returns_to, aimed_place, IsNamed, LeadsBy}
use Rattle.source_slips.proofs.MadeCodes.{nothing, missing_past}

-- Fewer codes are allowed where more are.

within_fewer : (most m n : ℕ) → IsWithin most m → IsWithin m n → IsWithin most n
within_fewer most m n (inl less) (inl fewer) = inl (omega (arith, less, fewer))
within_fewer most m n (inl less) (inr all) = inr (omega (arith, less, all))
within_fewer most m n (inr all) h = inr all

allows_fewer : (o : Option (Option ℕ)) (m n : ℕ) → AllowsBy o m → IsWithin m n → AllowsBy o n
allows_fewer None m n is fewer = tt
allows_fewer (Some None) m n is fewer = absurd is
allows_fewer (Some (Some most)) m n is fewer = within_fewer most m n is fewer

any_fewer : (o : Option ℕ) (m n : ℕ) → AllowsAny o m → IsWithin m n → AllowsAny o n
any_fewer None m n is fewer = absurd is
any_fewer (Some most) m n is fewer = within_fewer most m n is fewer

no_code_within : (m : ℕ) → IsWithin m 0
no_code_within m = inl (omega arith)

kept_within : (makes : Bool) (m n : ℕ) → IsWithin m n → IsWithin (count_after makes m) (kept_after makes n)
kept_within false m n h = h
kept_within true m n h = by (nat_lt n 4) refl h where
  by : (b : Bool) → nat_lt n 4 ≡ b → IsWithin m n → IsWithin (m + 1) (if b then n + 1 else 4)
  by true e (inl less) = inl (omega (arith, less))
  by true e (inr all) = inr (omega (arith, all))
  by false e (inl less) = inr (omega (arith, less, ltb-false n 4 e))
  by false e (inr all) = inr (omega (arith, all))

-- A table that stays below another one.

module _ (table : List (Option ℕ)) (anywhere : Option ℕ) (t : List (Option ℕ)) (a : Option ℕ)
    (below : IsBelow table anywhere t a) where
  -- a place to which a target register is set has the codes of those that go to one
  aimed_at : (o : Option ℕ) (k m : ℕ) → AllowsAny o m → IsAimed t o k → Allows t k m
  aimed_at None k m is aims = absurd is
  aimed_at (Some most) k m is aims = allows_fewer (slice_get t k) most m aims is

  pub aim_below : (k : ℕ) → IsNamed t a k → Allows t k (unwrap_or anywhere 0)
  aim_below k named = by anywhere refl where
    by : (o : Option ℕ) → anywhere ≡ o → Allows t k (unwrap_or o 0)
    by None e = named.1
    by (Some m) e = aimed_at a k m (below.any m e) named.0

  pub aim_if_below : (o : Option ℕ) → IfSome o (IsNamed t a) → IfSome o (λ k. Allows t k (unwrap_or anywhere 0))
  aim_if_below None named = tt
  aim_if_below (Some k) named = aim_below k named

-- What an instruction leads to in a closed table, with no more codes before it.

leaves_allowed : (t : List (Option ℕ)) (a : Option ℕ) (k m n : ℕ) (c : CPart) (o : ControlOp) → ControlLeads t a k m c o
    → IsWithin m n → IfSome (leaves_by o n) (AllowsAny a)
leaves_allowed t a k m n c control.Jump leads h = any_fewer a m n (leads.jumps tt) h
leaves_allowed t a k m n c control.Call leads h = any_fewer a m n (leads.jumps tt) h
leaves_allowed t a k m n c control.Create leads h = leads.starts tt
leaves_allowed t a k m n c control.Nop leads h = tt
leaves_allowed t a k m n c control.Skip leads h = tt
leaves_allowed t a k m n c control.Exchange leads h = tt
leaves_allowed t a k m n c control.TargetSet leads h = tt
leaves_allowed t a k m n c control.TargetGet leads h = tt
leaves_allowed t a k m n c control.TrapGet leads h = tt
leaves_allowed t a k m n c control.Reserve leads h = tt
leaves_allowed t a k m n c control.Quit leads h = tt
leaves_allowed t a k m n c control.QuitKeep leads h = tt
leaves_allowed t a k m n c control.Mask leads h = tt

-- a target register that nothing has set leads to the first word
unset_allowed : (t : List (Option ℕ)) (a : Option ℕ) (o : Option ℕ) → IsAimed t a 0 → IfSome o (AllowsAny a)
    → IfSome o (Allows t 0)
unset_allowed t a None aims any = tt
unset_allowed t None (Some n) aims any = absurd any
unset_allowed t (Some most) (Some n) aims any = allows_fewer (slice_get t 0) most n aims any

named_if : (t : List (Option ℕ)) (a : Option ℕ) (k m : ℕ) → AllowsAny a m → IsAimed t a k → IsNamed t a k
named_if t None k m any aims = absurd any
named_if t (Some most) k m any aims = (aims, allows_fewer (slice_get t k) most 0 aims (no_code_within most))

returns_named : (t : List (Option ℕ)) (a : Option ℕ) (k m : ℕ) (c : CPart) (o : ControlOp) → ControlLeads t a k m c o
    → IfSome (returns_to o k) (IsNamed t a)
returns_named t a k m c control.Call leads = named_if t a (next_pc k) m (leads.jumps tt) (leads.returns tt)
returns_named t a k m c control.Jump leads = tt
returns_named t a k m c control.Create leads = tt
returns_named t a k m c control.Nop leads = tt
returns_named t a k m c control.Skip leads = tt
returns_named t a k m c control.Exchange leads = tt
returns_named t a k m c control.TargetSet leads = tt
returns_named t a k m c control.TargetGet leads = tt
returns_named t a k m c control.TrapGet leads = tt
returns_named t a k m c control.Reserve leads = tt
returns_named t a k m c control.Quit leads = tt
returns_named t a k m c control.QuitKeep leads = tt
returns_named t a k m c control.Mask leads = tt

wide_named : (t : List (Option ℕ)) (a : Option ℕ) (o : WideOp) (reg imm : ℕ) → WideAims t a o reg imm
    → IfSome (aimed_by o imm) (IsNamed t a)
wide_named t a wide.Literal reg imm aims = tt
wide_named t a wide.LiteralHigh reg imm aims = tt
wide_named t a wide.TargetLiteral reg imm aims = (aims.0, aims.2)

leads_by : (t : List (Option ℕ)) (a : Option ℕ) (k m n : ℕ) (i : Insn) → Leads t a k m i → IsWithin m n → IsAimed t a 0
    → LeadsBy t a k n i
leads_by t a k m n (Wide look o reg imm) leads h unset = record {
  straight = λ j goes. subst (λ p. Allows t p n) (sym goes) (allows_fewer (slice_get t (next_pc k)) m n leads.0 h);
  leaves = tt;
  unset = tt;
  aims = wide_named t a o reg imm leads.1;
}
leads_by t a k m n (Normal look mp ap c) leads h unset =
    let kept = kept_within ap.test m n h in
    let leaves = leaves_allowed t a k (count_after ap.test m) (kept_after ap.test n) c c.op leads kept in
    record {
      straight = λ j goes. allows_fewer (slice_get t j) (count_after ap.test m) (kept_after ap.test n) (leads.straight j goes) kept;
      leaves = leaves;
      unset = unset_allowed t a (leaves_by c.op (kept_after ap.test n)) unset leaves;
      aims = returns_named t a k (count_after ap.test m) c c.op leads;
    }

-- the same at a place that the table says no more codes of
pub leads_from : (image : ImageValue) (table : List (Option ℕ)) (anywhere : Option ℕ) (t : List (Option ℕ)) (a : Option ℕ)
    (k n : ℕ) (i : Insn) → IsClosedTable image t a → IsBelow table anywhere t a → most_at table k ≡ Some n
    → insn_at image k ≡ Some i → LeadsBy t a k n i
leads_from image table anywhere t a k n i closed below says stands =
    by (slice_get t k) refl (below.places k n says) where
      by : (o : Option (Option ℕ)) → slice_get t k ≡ o → AllowsBy o n → LeadsBy t a k n i
      by None e is =
          let past : length image.program ≤ k = subst (λ l. l ≤ k) closed.size (missing_past t k e) in
          absurd (nothing (sym (ap (insn_of image.profile) (slice_get_past image.program k past)) ∙ stands))
      by (Some None) e is = absurd is
      by (Some (Some m)) e is = leads_by t a k m n i leads is closed.unset where
        leads : Leads t a k m i
        leads =
            subst (LeadsIf t a k m) stands
            (subst (LeadsWhere image t a k) (ap most_of e) (closed.each k))

-- What is found at the beginning, and a step more.

pub none_below : (n : ℕ) (t : List (Option ℕ)) (a : Option ℕ) → IsBelow (replicate n None) None t a
none_below n t a =
    record { places = λ k m got. absurd (none_at n k m got); any = λ m got. absurd (nothing got) } where
      none_at : (n k m : ℕ) → most_at (replicate n None) k ≡ Some m → ⊥
      none_at zero k m got = nothing got
      none_at (suc n) zero m got = nothing got
      none_at (suc n) (suc k) m got = none_at n k m got

-- a table that says nothing yet
pub least_begun : (image : ImageValue) (n : ℕ) → IsLeast image (replicate n None) None
unfolding IsLeast
least_begun image n t a closed = none_below n t a

-- one entry more
pub least_entry : (image : ImageValue) (table : List (Option ℕ)) (anywhere : Option ℕ) (new : List (Option ℕ))
    (elsewhere : Option ℕ) (p entry : ℕ) → slice_get image.entries p ≡ Some entry
    → ((t : List (Option ℕ)) (a : Option ℕ) → IsBelow table anywhere t a → Allows t entry 0 → IsBelow new elsewhere t a)
    → IsLeast image table anywhere → IsLeast image new elsewhere
unfolding IsLeast
least_entry image table anywhere new elsewhere p entry begins come least t a closed =
    come t a (least t a closed) (closed.begins p entry begins)

-- the ways from one word more
pub least_followed : (image : ImageValue) (table : List (Option ℕ)) (anywhere : Option ℕ) (new : List (Option ℕ))
    (elsewhere : Option ℕ) (k n : ℕ) (i : Insn) → most_at table k ≡ Some n → insn_at image k ≡ Some i
    → ((t : List (Option ℕ)) (a : Option ℕ) → IsBelow table anywhere t a → LeadsBy t a k n i → IsBelow new elsewhere t a)
    → IsLeast image table anywhere → IsLeast image new elsewhere
unfolding IsLeast
least_followed image table anywhere new elsewhere k n i says stands follow least t a closed =
    follow t a (least t a closed) (leads_from image table anywhere t a k n i closed (least t a closed) says stands)

-- What an instruction leads to, by what the code finds of it.

pub straight_allowed : (t : List (Option ℕ)) (a : Option ℕ) (k n : ℕ) (i : Insn) (o : Option ℕ) (count : ℕ)
    → LeadsBy t a k n i → count ≡ kept_after_insn i n → IfSome o (GoesStraight i k) → IfSome o (λ j. Allows t j count)
straight_allowed t a k n i None count leads is goes = tt
straight_allowed t a k n i (Some j) count leads is goes = subst (Allows t j) (sym is) (leads.straight j goes)

pub leaves_any : (t : List (Option ℕ)) (a : Option ℕ) (k n : ℕ) (i : Insn) (o : Option ℕ) (count : ℕ)
    → LeadsBy t a k n i → count ≡ kept_after_insn i n → o ≡ leaves_with i count → IfSome o (AllowsAny a)
leaves_any t a k n i o count leads is found =
    subst (λ p. IfSome p (AllowsAny a)) (sym (found ∙ ap (leaves_with i) is)) leads.leaves

pub leaves_unset : (t : List (Option ℕ)) (a : Option ℕ) (k n : ℕ) (i : Insn) (o : Option ℕ) (count : ℕ)
    → LeadsBy t a k n i → count ≡ kept_after_insn i n → o ≡ leaves_with i count → IfSome o (Allows t 0)
leaves_unset t a k n i o count leads is found =
    subst (λ p. IfSome p (Allows t 0)) (sym (found ∙ ap (leaves_with i) is)) leads.unset

pub aims_named : (t : List (Option ℕ)) (a : Option ℕ) (k n : ℕ) (i : Insn) (o : Option ℕ)
    → LeadsBy t a k n i → o ≡ aimed_place i k → IfSome o (IsNamed t a)
aims_named t a k n i o leads found = subst (λ p. IfSome p (IsNamed t a)) (sym found) leads.aims
