-- One request, from the steps that it takes.
use Rattle.std.proofs.Common.{ℕ, ◌≡◌, ◌+◌, ◌-◌, List, [], ◌∷◌, ◌++◌, Some, Result, Ok, Err, sym, ◌∙◌, ap}
use Rattle.std.proofs.Common.{subst, map, append-nil, get_or, None}
use Rattle.std.proofs.lemmas.Option.{same_Some}
use Rattle.std.specs.Prelude.{IfOk, OnErr}
use Rattle.atomic_table.specs.Table.{rest}
use Rattle.tag_memory.specs.declared.requests.Request.{Request}
use Rattle.tag_memory.specs.declared.requests.Reply.{Reply}
use Rattle.shared_history.specs.SharedMemory.{SharedValue}
use Rattle.shared_history.specs.declared.shared_memory.NoRoom.{NoRoom}
use Rattle.processor.specs.declared.steps.Entry.{Entry}
use Rattle.processor.specs.declared.steps.Asked.{Asked}
use Rattle.processor.specs.Histories.{pairs_of}
use Rattle.processor.specs.Histories.{entry_by}
use Rattle.memory_lock.specs.declared.turns.views.Stage.TheVariants.{Idle, Waits, Holds}
use Rattle.memory_lock.specs.declared.turns.views.View.{View}
use Rattle.memory_lock.specs.Seats.{Slot, past_of, with_stage, slot_history, after_ask, IsAt}
use Rattle.memory_lock.proofs.Callers.{more-own}
use Rattle.memory_lock.proofs.Keeping.{M}

-- what a call adds
abbrev pub told : ℕ → Request → Result Reply NoRoom → List Asked
told s q (Ok r) = record { s = s; request = q; reply = r } ∷ []
told s q (Err e) = []

pub grew : (res : Result Reply NoRoom) (p s : ℕ) (q : Request) (x x2 : SharedValue)
    → IfOk res (λ r. x2 ≡ record x {
      history = x.history ++ record { p = p; s = s; request = q; reply = r } ∷ [];
      spare = x.spare - 1;
    })
    → OnErr res (x2 ≡ x)
    → (x2.image ≡ x.image) × (x2.history ≡ x.history ++ map (entry_by p) (told s q res))
grew (Ok r) p s q x x2 ok err = (ap (λ (m : SharedValue). m.image) ok, ap (λ (m : SharedValue). m.history) ok)
grew (Err e) p s q x x2 ok err = (
  ap (λ (m : SharedValue). m.image) err,
  ap (λ (m : SharedValue). m.history) err ∙ sym (append-nil x.history),
)

pub told-ok : (res : Result Reply NoRoom) (s : ℕ) (q : Request) (m : M) (v : View)
    → m ≡ (after_ask v (told s q res), []) → IfOk res
    (λ r. m ≡ (after_ask v (record { s = s; request = q; reply = r } ∷ []), []))
told-ok (Ok r) s q m v e = e
told-ok (Err x) s q m v e = tt

pub told-err : (res : Result Reply NoRoom) (s : ℕ) (q : Request) (m : M) (v : View)
    → m ≡ (after_ask v (told s q res), []) → OnErr res (m ≡ (after_ask v [], []))
told-err (Ok r) s q m v e = tt
told-err (Err x) s q m v e = e

-- the seat has the memory, which was asked
pub record HasAsked (v : View) (m : M) (k : ℕ) (x x2 : SharedValue) : Type 0 where
  pub me : m ≡ (with_stage v (v.own.asks + 1) (Holds k (past_of x)), (0, Some x2) ∷ [])
  pub kept : pairs_of v.number x.history ≡ v.own.made

-- from the steps up to the end of the loan: m2 is the seat with the slot, z what is lent, and z2 what comes back
pub goes-out : (m0 m1 m2 : M) (k : ℕ) (y x x2 : SharedValue) (z z2 : Slot)
    → m1 ≡ (with_stage m0.0 (m0.0.own.asks + 1) (Waits k), m0.1)
    → m2 ≡ (with_stage m1.0 m1.0.own.asks (Holds k (past_of y)), (0, Some y) ∷ [])
    → pairs_of m1.0.number y.history ≡ m1.0.own.made → m2.1 ≡ (0, z) ∷ rest m2.1 → z ≡ Some x → z2 ≡ Some x2
    → HasAsked m0.0 (m2.0, (0, z2) ∷ rest m2.1) k x x2
goes-out m0 m1 m2 k y x x2 z z2 e1 e2 kept held is now =
    let found : m2.1 ≡ (0, Some x) ∷ rest m2.1 = held ∙ ap (λ (o : Slot). (0, o) ∷ rest m2.1) is in
    let slot : List (ℕ × Slot) → Slot = λ l. (get_or l 0 (0, None)).1 in
    let same : y ≡ x = same_Some _ _ (sym (ap (λ (m : M). slot m.1) e2) ∙ ap slot found) in
    let v : View = m0.0 in
    let two : m2 ≡ (with_stage v (v.own.asks + 1) (Holds k (past_of x)), (0, Some y) ∷ []) =
    e2 ∙ ap (λ (m : M). (with_stage m.0 m.0.own.asks (Holds k (past_of y)), (0, Some y) ∷ [])) e1
    ∙ ap (λ (z : SharedValue). (with_stage v (v.own.asks + 1) (Holds k (past_of z)), (0, Some y) ∷ [])) same in
    let E : View × List Entry → Type 0 = λ z. pairs_of z.0.number z.1 ≡ z.0.own.made in
    record {
      me = ap (λ (o : Slot). (m2.0, (0, o) ∷ rest m2.1)) now
          ∙ ap (λ (m : M). (m.0, (0, Some x2) ∷ rest m.1)) two;
      kept = subst E (λ i. (ap (λ (m : M). m.0) e1 i, (same i).history)) kept;
    }

pub out-at : (v : View) (m : M) (k : ℕ) (x x2 : SharedValue) → HasAsked v m k x x2 → IsAt v Idle
    → IsAt m.0 (Holds k (past_of x)) × (m.1 ≡ (0, Some x2) ∷ []) × (m.0.number ≡ v.number)
out-at v m k x x2 out is = (
  (
    ap (λ (m : M). m.0.is_spent) out.me ∙ is.0,
    ap (λ (m : M). m.0.other) out.me
        ∙ is.1,
    ap (λ (m : M). m.0.own.stage) out.me,
  ),
  ap (λ (m : M). m.1) out.me,
  ap (λ (m : M). m.0.number) out.me,
)

-- the call is over
pub goes-home : (v : View) (m m2 : M) (k : ℕ) (x x2 : SharedValue) (more : List Asked) → HasAsked v m k x x2
    → x2.history ≡ x.history ++ map (entry_by v.number) more
    → m2 ≡ (
      record m.0 {
        own = record {
          asks = m.0.own.asks;
          stage = Idle;
          made = pairs_of m.0.number (slot_history m.1);
        };
      },
      [],
    ) → m2 ≡ (after_ask v more, [])
goes-home v m m2 k x x2 more out grew e =
    let now : pairs_of v.number x2.history ≡ v.own.made ++ more = ap (pairs_of v.number) grew
    ∙ more-own v.number x.history more ∙ ap (λ l. l ++ more) out.kept in
    e ∙ ap (λ (m : M). (
      record m.0 {
        own = record {
          asks = m.0.own.asks;
          stage = Idle;
          made = pairs_of m.0.number (slot_history m.1);
        };
      },
      [],
    )) out.me
    ∙ ap (λ l. (record v { own = record { asks = v.own.asks + 1; stage = Idle; made = l } }, [])) now
