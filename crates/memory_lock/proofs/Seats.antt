-- What the other seats know after a step of one.
use Rattle.std.proofs.Common.{ℕ, ◌≡◌, ◌≢◌, ◌-◌, List, Bool, true, false, Option, Some, None, sym, subst, inl}
use Rattle.std.proofs.Common.{inr, ⊎_elim, set}
use mathlib.Core.Option.{some}
use lib.ListN.{get_elem?}
use Rattle.atomic_table.proofs.Lists.{at_set}
use Rattle.memory_lock.specs.declared.turns.views.Caller.{Caller}
use Rattle.memory_lock.specs.declared.turns.views.View.{View}
use Rattle.memory_lock.specs.Tickets.{StandsFor, StandsForOther, KnowsIf, Knows}

module _ (p : ℕ) (a : Caller) (at q : ℕ) (b : Caller) (bt : ℕ) where
  pub mine-flip : (j k : ℕ) (g : Caller) → StandsFor p a at q b bt j k g → StandsFor q b bt p a at j k g
  mine-flip j k g m = ⊎_elim (λ x. inr x) (λ x. inl x) m

  joined-flip : (j k : ℕ) (o : Option Caller) → StandsForOther p a at q b bt j k o
      → StandsForOther q b bt p a at j k o
  joined-flip j k None x = tt
  joined-flip j k (Some g) x = (mine-flip j (1 - k) g x.0, x.1)

  knows-if-flip : (j : ℕ) (v : View) (spent : Bool) → KnowsIf p a at q b bt j v spent
      → KnowsIf q b bt p a at j v spent
  knows-if-flip j v true x = tt
  knows-if-flip j v false x = (mine-flip j v.number v.own x.0, joined-flip j v.number v.other x.1)

  pub knows-flip : (j : ℕ) (v : View) → Knows p a at q b bt j v → Knows q b bt p a at j v
  knows-flip j v x = knows-if-flip j v v.is_spent x

  -- another seat, after number p's caller changed
  mine-else : (a2 : Caller) (j k : ℕ) (g : Caller) → j ≢ at → StandsFor p a at q b bt j k g
      → StandsFor p a2 at q b bt j k g
  mine-else a2 j k g ne m = ⊎_elim (λ x. absurd (ne x.1)) (λ x. inr x) m

  joined-else : (a2 : Caller) (j k : ℕ) (o : Option Caller) → j ≢ at → StandsForOther p a at q b bt j k o
      → StandsForOther p a2 at q b bt j k o
  joined-else a2 j k None ne x = tt
  joined-else a2 j k (Some g) ne x = (mine-else a2 j (1 - k) g ne x.0, x.1)

  knows-if-else : (a2 : Caller) (j : ℕ) (v : View) (spent : Bool) → j ≢ at → KnowsIf p a at q b bt j v spent
      → KnowsIf p a2 at q b bt j v spent
  knows-if-else a2 j v true ne x = tt
  knows-if-else a2 j v false ne x = (mine-else a2 j v.number v.own ne x.0, joined-else a2 j v.number v.other ne x.1)

  pub knows-else : (a2 : Caller) (j : ℕ) (v : View) → j ≢ at → Knows p a at q b bt j v → Knows p a2 at q b bt j v
  knows-else a2 j v ne x = knows-if-else a2 j v v.is_spent ne x

-- a fact of each view, after one is set
pub each-set : (P Q : ℕ → View → Type 0) (views : List View) (i : ℕ) (w : View)
    → ((j : ℕ) (v : View) → get_elem? views j ≡ some v → P j v) → ((j : ℕ) (v : View) → j ≢ i → P j v → Q j v) → Q i w
    → (j : ℕ) (v : View) → get_elem? (set views i w) j ≡ some v → Q j v
each-set P Q views i w each others mine j v e =
    ⊎_elim
    (λ (x : (j ≡ i) × (w ≡ v)). subst (λ (y : ℕ × View). Q y.0 y.1) (λ k. (sym x.0 k, x.1 k)) mine)
    (λ (x : (j ≢ i) × (get_elem? views j ≡ some v)). others j v x.0 (each j v x.1))
    (at_set views i j w v e)
