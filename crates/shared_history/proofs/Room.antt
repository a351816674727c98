-- How many steps are still to come into the schedule.
use Rattle.std.proofs.Common.{◌≡◌, ℕ, zero, suc, ◌+◌, ◌-◌, ◌<◌, ◌≤◌, refl, ap, ◌∙◌, sym, arith, List, [], ◌∷◌, ◌++◌}
use Rattle.std.proofs.Common.{length}
use Rattle.std.proofs.Common.{get_or, replicate, Some, take}
use Rattle.std.specs.Prelude.{slice_get, slice_set}
use Rattle.std.proofs.lemmas.List.{take_more}
use Rattle.std.proofs.lemmas.Option.{same_Some}
use Rattle.processor.specs.Records.{RecordValue}
use Rattle.shared_history.specs.Schedule.{count_steps}

-- so many of each record's steps are done
abbrev pub left : List RecordValue → List ℕ → ℕ
left [] done = 0
left (r ∷ rs) [] = length r.steps + left rs []
left (r ∷ rs) (d ∷ ds) = (length r.steps - d) + left rs ds

pub left-all : (records : List RecordValue) (n : ℕ) → left records (replicate n 0) ≡ count_steps records
left-all [] zero = refl
left-all [] (suc n) = refl
left-all (r ∷ rs) zero = ap (λ k. length r.steps + k) (left-all rs 0)
left-all (r ∷ rs) (suc n) = omega (arith, left-all rs n)

-- a record's steps up to n are done
pub left-less : (records : List RecordValue) (done : List ℕ) (p n : ℕ) (r : RecordValue)
    → slice_get records p ≡ Some r → p < length done → get_or done p 0 ≤ n → n ≤ length r.steps
    → left records (slice_set done p n) + (n - get_or done p 0) ≡ left records done
left-less [] done p n r h w from upto = absurd (let e : ⊥ = cc in e)
left-less (x ∷ rs) [] p n r h w from upto = absurd (omega (arith, w))
left-less (x ∷ rs) (d ∷ ds) zero n r h w from upto =
    omega (arith, from, upto, ap (λ (z : RecordValue). length z.steps) (same_Some _ _ h))
left-less (x ∷ rs) (d ∷ ds) (suc p) n r h w from upto =
    omega (arith, left-less rs ds p n r h (omega (arith, w)) from upto)

-- and so many of one record's are left
pub left-one : (records : List RecordValue) (done : List ℕ) (p : ℕ) (r : RecordValue)
    → slice_get records p ≡ Some r → p < length done → length r.steps ≤ get_or done p 0 + left records done
left-one [] done p r h w = absurd (let e : ⊥ = cc in e)
left-one (x ∷ rs) [] p r h w = absurd (omega (arith, w))
left-one (x ∷ rs) (d ∷ ds) zero r h w = omega (arith, ap (λ (z : RecordValue). length z.steps) (same_Some _ _ h))
left-one (x ∷ rs) (d ∷ ds) (suc p) r h w = omega (arith, left-one rs ds p r h (omega (arith, w)))

-- The count of all steps.

count_steps-append : (rs : List RecordValue) (r : RecordValue)
    → count_steps (rs ++ r ∷ []) ≡ count_steps rs + length r.steps
count_steps-append [] r = omega arith
count_steps-append (x ∷ rs) r = omega (arith, count_steps-append rs r)

pub count_more : (records : List RecordValue) (p : ℕ) (r : RecordValue) → p < length records → r ≡ get_or records p r
    → count_steps (take (p + 1) records) ≡ count_steps (take p records) + length r.steps
count_more records p r w is =
    ap count_steps (take_more records p r w ∙ ap (λ x. take p records ++ x ∷ []) (sym is))
    ∙ count_steps-append (take p records) r
