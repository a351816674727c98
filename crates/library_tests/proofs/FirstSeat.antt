-- The first seat of a table, which stands for both processors, is cut into one for each.
use Rattle.std.proofs.Common.{ℕ, zero, suc, ◌≡◌, ◌≢◌, ◌-◌, ◌⊎◌, List, [], ◌∷◌, ◌++◌, Bool, true, false, refl, sym}
use Rattle.std.proofs.Common.{◌∙◌, ap, subst, arith, length, set, inl, inr, ⊎_elim}
use mathlib.Core.Option.{some, some-injective, some-ne-none}
use lib.ListN.{get_elem?}
use Rattle.atomic_table.specs.Table.{State, Splits}
use Rattle.atomic_table.proofs.Lists.{at_set}
use Rattle.image_file.specs.ImageValue.{ImageValue}
use Rattle.memory_lock.specs.declared.turns.views.Caller.{Caller}
use Rattle.memory_lock.specs.declared.turns.views.Past.{Past}
use Rattle.memory_lock.specs.declared.turns.views.View.{View}
use Rattle.memory_lock.specs.Seats.{Slot, new_caller, first_view, own_view, other_view}
use Rattle.memory_lock.specs.Tickets.{StandsFor, KnowsIf, Knows, IsTable, IsByTickets}

at_push : (l : List View) (a b : View) (j : ℕ) → get_elem? (l ++ a ∷ []) j ≡ some b
    → (get_elem? l j ≡ some b) ⊎ ((j ≡ length l) × (a ≡ b))
at_push [] a b zero e = inr (refl, some-injective a b e)
at_push [] a b (suc j) e = absurd (some-ne-none b (sym e))
at_push (x ∷ xs) a b zero e = inl e
at_push (x ∷ xs) a b (suc j) e = ⊎_elim (λ t. inl t) (λ t. inr (ap suc t.0, t.1)) (at_push xs a b j e)

-- what the seats know where the seats at and bt stand for the processors p and q, and later the seats at2 and bt2
module _ (p : ℕ) (a : Caller) (at q : ℕ) (b : Caller) (bt at2 bt2 : ℕ) where
  -- a seat that stood for neither is spent
  others : (j : ℕ) (v : View) (spent : Bool) → j ≢ at → j ≢ bt → KnowsIf p a at q b bt j v spent
      → KnowsIf p a at2 q b bt2 j v spent
  others j v true n1 n2 k = tt
  others j v false n1 n2 k = absurd (⊎_elim (λ x. n1 x.1) (λ x. n2 x.1) k.0)

  -- both stood for by the seat id, which is cut
  each-cut : (views : List View) (id : ℕ)
      → ((j : ℕ) (v : View) → get_elem? views j ≡ some v → Knows p a at q b bt j v) → id ≡ at → id ≡ bt
      → StandsFor p a at2 q b bt2 id 0 new_caller
      → StandsFor p a at2 q b bt2 (length (set views id (own_view first_view))) 1 new_caller
      → (j : ℕ) (v : View) → get_elem? (set views id (own_view first_view) ++ other_view first_view ∷ []) j ≡ some v
      → Knows p a at2 q b bt2 j v
  each-cut views id each is-at is-bt own other j v e =
      let L : ℕ × View → Type 0 = λ y. Knows p a at2 q b bt2 y.0 y.1 in
      let left : List View = set views id (own_view first_view) in
      ⊎_elim
      (λ (x : get_elem? left j ≡ some v). ⊎_elim
      (λ (y : (j ≡ id) × (own_view first_view ≡ v)). subst L (λ m. (sym y.0 m, y.1 m)) (own, tt))
      (λ (y : (j ≢ id) × (get_elem? views j ≡ some v)). let ne = y.0 in
      others j v v.is_spent (λ i. ne (i ∙ sym is-at)) (λ i. ne (i ∙ sym is-bt)) (each j v y.1))
      (at_set views id j (own_view first_view) v x))
      (λ (x : (j ≡ length left) × (other_view first_view ≡ v)). subst L (λ m. (sym x.0 m, x.1 m)) (other, tt))
      (at_push left (other_view first_view) v j e)

splits : (image : ImageValue) (id : ℕ)
    → Splits (IsByTickets image) id first_view (own_view first_view) (other_view first_view)
splits image id s r at =
    let k = r.table.each id first_view at in
    let len : ℕ = length (set s.views id (own_view first_view)) in
    ⊎_elim
    (λ (x : (0 ≡ r.p) × (id ≡ r.at) × (new_caller ≡ r.a)). ⊎_elim
    (λ (y : (1 ≡ r.p) × (id ≡ r.at) × (new_caller ≡ r.a)). let u = x.0 in let w = y.0 in absurd (omega (arith, u, w)))
    (λ (y : (1 ≡ r.q) × (id ≡ r.bt) × (new_caller ≡ r.b)). record {
      n = r.n;
      d = r.d;
      h = r.h;
      p = r.p;
      a = r.a;
      at = id;
      q = r.q;
      b = r.b;
      bt = len;
      table = record {
        words = r.table.words;
        slot = r.table.slot;
        callers = r.table.callers;
        numbers = r.table.numbers;
        each = each-cut r.p r.a r.at r.q r.b r.bt id len s.views id r.table.each x.1 y.1
            (inl (x.0, refl, x.2)) (inr (y.0, refl, y.2));
      };
      image_is = r.image_is;
    })
    k.1.0)
    (λ (x : (0 ≡ r.q) × (id ≡ r.bt) × (new_caller ≡ r.b)). ⊎_elim
    (λ (y : (1 ≡ r.p) × (id ≡ r.at) × (new_caller ≡ r.a)). record {
      n = r.n;
      d = r.d;
      h = r.h;
      p = r.p;
      a = r.a;
      at = len;
      q = r.q;
      b = r.b;
      bt = id;
      table = record {
        words = r.table.words;
        slot = r.table.slot;
        callers = r.table.callers;
        numbers = r.table.numbers;
        each = each-cut r.p r.a r.at r.q r.b r.bt len id s.views id r.table.each y.1 x.1
            (inr (x.0, refl, x.2)) (inl (y.0, refl, y.2));
      };
      image_is = r.image_is;
    })
    (λ (y : (1 ≡ r.q) × (id ≡ r.bt) × (new_caller ≡ r.b)). let u = x.0 in let w = y.0 in absurd (omega (arith, u, w)))
    k.1.0)
    k.0

-- a seat that knows what the first one does
pub first-splits : (image : ImageValue) (id : ℕ) (v : View) → v ≡ first_view
    → Splits (IsByTickets image) id v (own_view v) (other_view v)
first-splits image id v is =
    subst (λ u. Splits (IsByTickets image) id u (own_view u) (other_view u)) (sym is) (splits image id)
