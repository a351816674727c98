-- A schedule has enough steps of each processor of which a stream still runs.
use Rattle.std.proofs.Common.{◌≡◌, ℕ, ◌∙◌, ap, subst, arith, length, List, Bool, true, false, Some}
use Rattle.std.specs.Prelude.{slice_get, nat_le, not, ◌||◌, Option}
use Rattle.std.proofs.lemmas.Bool.{leb-true}
use Rattle.processor.specs.Histories.{steps_of}
use Rattle.processor.specs.Records.{RecordValue, any_runs}
use Rattle.processor.specs.declared.steps.Step.{Step}
use Rattle.shared_history.specs.SharedMemory.{SharedValue}
use Rattle.shared_history.specs.Parts.{HasFinished, has_finished}
use Rattle.shared_history.specs.Schedule.{IsWoven, IsLongEnough}
use Rattle.shared_history.proofs.Endings.{list-at}

by_steps : (a b : Bool) → a || not b ≡ true → b ≡ true → a ≡ true
by_steps true b h k = let e : true ≡ true = cc in e
by_steps false true h k = h
by_steps false false h k = absurd (let e : ⊥ = cc in e)

pub long-enough : (fuel : ℕ) (shared : SharedValue) (records : List RecordValue) (ts : List Step)
    → ((p : ℕ) → HasFinished fuel (slice_get records p))
    → IsWoven (record { schedule = ts; shared = shared; records = records })
    → IsLongEnough fuel (record { schedule = ts; shared = shared; records = records })
long-enough fuel shared records ts finished woven p r here runs =
    let F : Option RecordValue → Type 0 = λ o. HasFinished fuel o in
    let done : has_finished fuel r ≡ true = subst F here (finished p) in
    let enough = by_steps (nat_le fuel (length r.steps)) (any_runs r.state) done runs in
    let same : steps_of p ts ≡ r.steps = woven.weaves.steps p ∙ list-at records p (Some r) here in
    omega (arith, ap length same, leb-true _ _ enough)
