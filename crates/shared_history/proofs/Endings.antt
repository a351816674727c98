-- The steps that are left once the whole history is in, and the schedule that holds them all.
use Rattle.std.proofs.Common.{◌≡◌, ℕ, ◌+◌, ◌<◌, ◌≤◌, sym, refl, ◌∙◌, ap, subst, arith, inl, inr, length, List, []}
use Rattle.std.proofs.Common.{◌++◌}
use Rattle.std.proofs.Common.{take, map, get_or, Option, Some, None}
use Rattle.std.specs.Prelude.{slice_get, slice_set, option_map, unwrap_or}
use Rattle.std.proofs.lemmas.Bool.Decides.{eqb_tells}
use Rattle.std.proofs.lemmas.List.{append-nil, take_all, get_or_read, get_or-set_same, get_or-set_other}
use Rattle.std.proofs.lemmas.Option.{same_Some, slice_get_within, slice_get-map, slice_get_past, unwrap_or-slice_get}
use Rattle.image_file.specs.ImageValue.{ImageValue}
use Rattle.processor.specs.Processors.{ProcessorValue}
use Rattle.processor.specs.World.{run, history_of}
use Rattle.processor.specs.Histories.{replay, steps_of, pairs_of}
use Rattle.processor.specs.OwnSteps.{IsOwn}
use Rattle.processor.specs.Records.{RecordValue}
use Rattle.processor.specs.declared.steps.Step.{Step}
use Rattle.processor.specs.declared.steps.Asked.{Asked}
use Rattle.processor.specs.declared.steps.Entry.{Entry}
use Rattle.processor.proofs.Weaving.{run-own, run-memory, run-length, own-unique, same_places}
use Rattle.shared_history.specs.SharedMemory.{SharedValue}
use Rattle.shared_history.specs.Parts.{AllBelong, AllHaveEntries}
use Rattle.shared_history.specs.Schedule.{IsWoven, step_lists}
use Rattle.shared_history.proofs.Places.{get-within, past}
use Rattle.shared_history.proofs.SoFar.{IsSoFar, more, advance}

-- a record's state, over the memory's image and history
own-whole : (shared : SharedValue) (records : List RecordValue) (p : ℕ) (r : RecordValue) → AllBelong shared records
    → AllHaveEntries shared records → slice_get records p ≡ Some r
    → IsOwn shared.image p r.steps (pairs_of p shared.history) r.state
own-whole shared records p r all whole here =
    let of = all.belongs p r here in
    let A : ImageValue → Type 0 = λ v. IsOwn v r.number r.steps r.pairs r.state in
    let B : ℕ → Type 0 = λ q. IsOwn shared.image q r.steps r.pairs r.state in
    let C : List Asked → Type 0 = λ l. IsOwn shared.image p r.steps l r.state in
    subst C (whole p r here) (subst B of.1 (subst A of.0 (all.kept p r here)))

-- The steps that are left.

-- all of a record's steps are in, for the records below p
abbrev pub AllDone : List RecordValue → List ℕ → ℕ → Type 0
AllDone records done p =
    (q : ℕ) (x : RecordValue) → q < p → slice_get records q ≡ Some x → get_or done q 0 ≡ length x.steps

pub left-from : (shared : SharedValue) (records : List RecordValue) (ts : List Step) (done : List ℕ) (i p d : ℕ)
    (r : RecordValue) → IsSoFar shared records ts done i → slice_get records p ≡ Some r → d ≡ get_or done p d
    → (d ≡ get_or done p 0) × (d ≤ length r.steps)
left-from shared records ts done i p d r so h is =
    let z = get_or_read done p d (omega (arith, slice_get_within records p r h, so.done_len)) is 0 in
    (z, omega (arith, z, so.done_in p r h))

pub rested : (shared : SharedValue) (records : List RecordValue) (ts us : List Step) (done : List ℕ)
    (p d number u : ℕ) (r : RecordValue) (found : List ℕ)
    → IsSoFar shared records ts done (length shared.history) × AllDone records done p → AllBelong shared records
    → AllHaveEntries shared records → slice_get records p ≡ Some r → d ≡ get_or done p d → found ≡ r.steps
    → u ≡ length found → number ≡ r.number → us ≡ ts ++ more number found d u
    → IsSoFar shared records us (slice_set done p u) (length shared.history)
    × AllDone records (slice_set done p u) (p + 1)
rested shared records ts us done p d number u r found so all whole here d_is steps u_is number_is is =
    let es = shared.history in
    let n = length r.steps in
    let in_done : p < length done = omega (arith, slice_get_within records p r here, so.0.done_len) in
    let from = left-from shared records ts done (length es) p d r so.0 here d_is in
    let O : List ℕ → Type 0 = λ l. IsOwn shared.image p l (pairs_of p (take (length es) es) ++ []) r.state in
    let E : List Asked → Type 0 = λ l. IsOwn shared.image p r.steps l r.state in
    let pairs : pairs_of p es ≡ pairs_of p (take (length es) es) ++ [] =
    ap (pairs_of p) (sym (take_all (length es) es (omega arith))) ∙ sym (append-nil _) in
    let own = subst O (sym (take_all n r.steps (omega arith)))
    (subst E pairs (own-whole shared records p r all whole here)) in
    let after = advance shared records ts done (length es) (length es) p n r [] r.state so.0 here
    (so.0.done_in p r here) (omega arith) (sym (append-nil (take (length es) es))) own tt in
    let us_is : us ≡ ts ++ more p r.steps (get_or done p 0) n =
    is ∙ ap (λ k. ts ++ more number found d k) (u_is ∙ ap length steps)
    ∙ ap (λ k. ts ++ more k found d n) (number_is ∙ (all.belongs p r here).1)
    ∙ ap (λ l. ts ++ more p l d n) steps ∙ ap (λ k. ts ++ more p r.steps k n) from.0 in
    let S : ℕ → Type 0 = λ k. IsSoFar shared records us (slice_set done p k) (length es) in
    let U : List Step → Type 0 = λ l. IsSoFar shared records l (slice_set done p n) (length es) in (
      subst S (sym (u_is ∙ ap length steps)) (subst U (sym us_is) after),
      λ q x w h. elim (eqb_tells p q) [
        | inl t ↦
            let R : ℕ → Type 0 = λ k. slice_get records k ≡ Some x
            → get_or (slice_set done p u) k 0 ≡ length x.steps in
            let here_p : R p = λ k. get_or-set_same done p u 0 in_done ∙ u_is ∙ ap length steps
            ∙ ap (λ (z : RecordValue). length z.steps) (same_Some _ _ (sym here ∙ k)) in
            subst R t.1 here_p h
        | inr t ↦ get_or-set_other done p q u 0 (λ k. t.1 (sym k)) ∙ so.1 q x (omega (arith, w, t.1)) h
      ],
    )

pub none-done : (records : List RecordValue) (done : List ℕ) → AllDone records done 0
none-done records done = λ q x w h. absurd (omega (arith, w))

pub first-loop : (shared : SharedValue) (records : List RecordValue) (ts : List Step) (done : List ℕ) (i n : ℕ)
    → IsSoFar shared records ts done i → i ≤ n → n ≤ i → n ≡ length shared.history
    → IsSoFar shared records ts done (length shared.history)
first-loop shared records ts done i n so le ge h =
    let P : ℕ → Type 0 = λ k. IsSoFar shared records ts done k in
    let same : i ≡ length shared.history = omega (arith, le, ge, h) in
    subst P same so

-- The whole schedule.

-- all steps are in
abbrev pub Finished : List RecordValue → List ℕ → Type 0
Finished records done = (q : ℕ) (x : RecordValue) → slice_get records q ≡ Some x → get_or done q 0 ≡ length x.steps

state-at : (shared : SharedValue) (records : List RecordValue) (ts : List Step) (done : List ℕ) (q : ℕ)
    (o : Option RecordValue) → slice_get records q ≡ o → AllBelong shared records → AllHaveEntries shared records
    → IsSoFar shared records ts done (length shared.history) → Finished records done
    → slice_get (run shared.image ts).processors q ≡ option_map (λ (r : RecordValue). r.state) o
state-at shared records ts done q None h all whole so finished =
    slice_get_past _ q (omega (arith, run-length shared.image ts, all.one_each, past records q h))
state-at shared records ts done q (Some r) h all whole so finished =
    let image = shared.image in
    let entry = get-within image.entries q (omega (arith, slice_get_within records q r h, all.one_each)) in
    let now = run-own image ts q entry.0 entry.1 in
    let steps : steps_of q ts ≡ r.steps =
    so.steps q r h ∙ ap (λ k. take k r.steps) (finished q r h) ∙ take_all (length r.steps) r.steps (omega arith) in
    let made : history_of image ts ≡ shared.history =
    so.makes ∙ take_all (length shared.history) shared.history (omega arith) in
    let A : List ℕ → Type 0 = λ l. IsOwn image q l (pairs_of q (history_of image ts)) now.0 in
    let B : List Entry → Type 0 = λ l. IsOwn image q r.steps (pairs_of q l) now.0 in
    let same = own-unique image q r.steps (pairs_of q shared.history) now.0 r.state
    (subst B made (subst A steps now.2)) (own-whole shared records q r all whole h) in
    now.1 ∙ ap Some same

pub list-at : (records : List RecordValue) (p : ℕ) (o : Option RecordValue) → slice_get records p ≡ o
    → get_or (step_lists records) p [] ≡ unwrap_or (option_map (λ (r : RecordValue). r.steps) o) []
list-at records p o h =
    let F : Option RecordValue → Option (List ℕ) = option_map (λ (r : RecordValue). r.steps) in
    sym (unwrap_or-slice_get (step_lists records) p [])
    ∙ ap (λ x. unwrap_or x []) (slice_get-map (λ (r : RecordValue). r.steps) records p ∙ ap F h)

steps-at : (shared : SharedValue) (records : List RecordValue) (ts : List Step) (done : List ℕ) (p : ℕ)
    (o : Option RecordValue) → slice_get records p ≡ o → IsSoFar shared records ts done (length shared.history)
    → Finished records done → steps_of p ts ≡ unwrap_or (option_map (λ (r : RecordValue). r.steps) o) []
steps-at shared records ts done p None h so finished = so.others p (past records p h)
steps-at shared records ts done p (Some r) h so finished =
    so.steps p r h ∙ ap (λ k. take k r.steps) (finished p r h) ∙ take_all (length r.steps) r.steps (omega arith)

woven : (shared : SharedValue) (records : List RecordValue) (ts : List Step) (done : List ℕ)
    → AllBelong shared records → AllHaveEntries shared records
    → IsSoFar shared records ts done (length shared.history) → Finished records done
    → IsWoven (record { schedule = ts; shared = shared; records = records })
woven shared records ts done all whole so finished =
    let image = shared.image in
    let state : RecordValue → ProcessorValue = λ r. r.state in
    let made = so.makes ∙ take_all (length shared.history) shared.history (omega arith) in
    let procs : (run image ts).processors ≡ map state records =
    same_places _ _ (λ q. state-at shared records ts done q (slice_get records q) refl all whole so finished
    ∙ sym (slice_get-map state records q)) in
    let memory : (run image ts).memory ≡ replay image shared.history =
    (run-memory image ts).0 ∙ ap (replay image) made in
    record {
      weaves = record {
        steps = λ p. steps-at shared records ts done p (slice_get records p) refl so finished
            ∙ sym (list-at records p (slice_get records p) refl);
        makes = made;
      };
      ends = λ i. record { processors = procs i; memory = memory i };
    }

pub all-done : (shared : SharedValue) (records : List RecordValue) (ts : List Step) (done : List ℕ) (n : ℕ)
    → AllBelong shared records → AllHaveEntries shared records → length records ≤ n
    → IsSoFar shared records ts done (length shared.history) × AllDone records done n
    → IsWoven (record { schedule = ts; shared = shared; records = records })
all-done shared records ts done n all whole h so =
    woven shared records ts done all whole so.0
    (λ p r k. so.1 p r (omega (arith, slice_get_within records p r k, h)) k)
