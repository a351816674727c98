-- The end of a run, and what the ports made.
use Rattle.std.proofs.Common.{ℕ, ◌≡◌, ◌-◌, List, [], ◌∷◌, ◌++◌, Some, false, refl, sym, ◌∙◌, ap, map}
use Rattle.std.proofs.lemmas.Option.{same_Some}
use mathlib.Core.Option.{some, some-injective}
use lib.ListN.{get_elem?}
use Rattle.atomic_table.specs.Table.{Final, Seen}
use Rattle.image_file.specs.ImageValue.{ImageValue}
use Rattle.shared_history.specs.SharedMemory.{SharedValue}
use Rattle.memory_lock.specs.Driving.{with_entries}
use Rattle.processor.specs.declared.steps.Asked.{Asked}
use Rattle.processor.specs.Histories.{pairs_of, pair_of, entry_by}
use Rattle.memory_lock.specs.declared.turns.views.Stage.TheVariants.{Idle}
use Rattle.memory_lock.specs.declared.turns.views.Caller.{Caller}
use Rattle.memory_lock.specs.declared.turns.views.View.{View}
use Rattle.memory_lock.specs.Seats.{Slot}
use Rattle.memory_lock.specs.Tickets.{IsByTickets}
use Rattle.memory_lock.proofs.Keeping.{closes}

-- what comes out of the slot
pub record Ends (image : ImageValue) (v : View) (g : Caller) (x : Slot) : Type 0 where
  pub m : SharedValue
  pub is : x ≡ Some m
  pub image_is : m.image ≡ image
  pub own : pairs_of v.number m.history ≡ v.own.made
  pub other : pairs_of (1 - v.number) m.history ≡ g.made

pub ends : (image : ImageValue) (id : ℕ) (v : View) (g : Caller) (ws : List ℕ) (xs : List Slot) (x : Slot)
    → Final (Seen (IsByTickets image) id v) ws xs → v.is_spent ≡ false → v.other ≡ Some g → v.own.stage ≡ Idle
    → get_elem? xs 0 ≡ some x → Ends image v g x
ends image id v g ws xs x f spent joined idle at =
    let last = closes image id v g f.0 f.1 spent joined idle in
    let there : get_elem? xs 0 ≡ some (Some last.m) = f.4 0 (Some last.m) (ap (λ l. get_elem? l 0) last.slot) in
    record {
      m = last.m;
      is = some-injective _ _ (sym at ∙ there);
      image_is = last.image_is;
      own = last.own;
      other = last.other;
    }

-- a memory that came out is of the table's image, and has these entries
pub ends-image : (image : ImageValue) (v : View) (g : Caller) (x : Slot) (m : SharedValue) → Ends image v g x → x ≡ Some m
    → m.image ≡ image
ends-image image v g x m e is = ap (λ (n : SharedValue). n.image) (same_Some _ _ (sym is ∙ e.is)) ∙ e.image_is

pub ends-own : (image : ImageValue) (v : View) (g : Caller) (x : Slot) (m : SharedValue) → Ends image v g x → x ≡ Some m
    → pairs_of v.number m.history ≡ v.own.made
ends-own image v g x m e is = ap (λ (n : SharedValue). pairs_of v.number n.history) (same_Some _ _ (sym is ∙ e.is)) ∙ e.own

pub ends-other : (image : ImageValue) (v : View) (g : Caller) (x : Slot) (m : SharedValue) → Ends image v g x → x ≡ Some m
    → pairs_of (1 - v.number) m.history ≡ g.made
ends-other image v g x m e is = ap (λ (n : SharedValue). pairs_of (1 - v.number) n.history)
    (same_Some _ _ (sym is ∙ e.is)) ∙ e.other

asked-back : (n : ℕ) (l : List Asked) → map pair_of (map (entry_by n) l) ≡ l
asked-back n [] = refl
asked-back n (x ∷ l) = ap (λ m. x ∷ m) (asked-back n l)

-- what was made from nothing are the pairs
pub made-pairs : (n n0 k : ℕ) (made made0 pairs : List Asked) → made0 ≡ []
    → Some (map (entry_by n) made) ≡ with_entries (Some (map (entry_by n0) made0)) (map (entry_by k) pairs)
    → made ≡ pairs
made-pairs n n0 k made made0 pairs none e =
    let all : map (entry_by n) made ≡ map (entry_by k) pairs =
    same_Some _ _ e ∙ ap (λ l. map (entry_by n0) l ++ map (entry_by k) pairs) none in
    sym (asked-back n made) ∙ ap (map pair_of) all ∙ asked-back k pairs
