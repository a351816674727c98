-- Each step at the table keeps its rule.
use Rattle.std.proofs.Common.{ℕ, zero, suc, ◌≡◌, ◌≢◌, ◌<◌, ◌+◌, ◌-◌, ◌%◌, ◌^◌, ◌⊎◌, List, [], ◌∷◌, ◌++◌, Bool}
use Rattle.std.proofs.Common.{true, false, Option, Some, None, refl, sym, ◌∙◌, ap, subst, arith, map, length}
use Rattle.std.proofs.Common.{set, get_or, inl, inr, ⊎_elim}
use Rattle.std.specs.Prelude.{◌||◌}
use mathlib.Core.Option.{some, none, some-injective, some-ne-none}
use mathlib.Core.Logic.{dite}
use native.Mathlib.Decide.{ℕ_discrete}
use lib.ListN.{get_elem?}
use Rattle.atomic_table.specs.Table.{State, Me, step, keeps, takes, gives, put_back, rest, stepped, Allows}
use Rattle.atomic_table.specs.Table.{Splits, Joins, Seen, opening}
use Rattle.atomic_table.proofs.Lists.{at_set, set_again}
use Rattle.shared_history.specs.SharedMemory.{SharedValue}
use Rattle.image_file.specs.ImageValue.{ImageValue}
use Rattle.processor.specs.declared.steps.Asked.{Asked}
use Rattle.processor.specs.Histories.{pairs_of}
use Rattle.processor.specs.Histories.{entry_by}
use Rattle.memory_lock.specs.declared.turns.views.Stage.{Stage}
use Rattle.memory_lock.specs.declared.turns.views.Stage.TheVariants.{Idle, Waits, Holds}
use Rattle.memory_lock.specs.declared.turns.views.Past.{Past}
use Rattle.memory_lock.specs.declared.turns.views.Caller.{Caller}
use Rattle.memory_lock.specs.declared.turns.views.View.{View}
use Rattle.memory_lock.specs.Seats.{Slot, new_caller, first_view, spent_view, stage_ticket, slot_history, IsDraw}
use Rattle.memory_lock.specs.Seats.{past_of, IsPoll, IsRaise, own_view, other_view, caller_or_new, both_views, IsAt}
use Rattle.memory_lock.specs.Tickets.{has_memory, AreCallers, IsSlot, StandsFor, StandsForOther, KnowsIf, Knows}
use Rattle.memory_lock.specs.Tickets.{AreTheTwo, IsTable, IsByTickets}
use Rattle.memory_lock.proofs.Callers.{caller, callers-flip, callers-draws, callers-takes, callers-raises}
use Rattle.memory_lock.proofs.Callers.{callers-few}
use Rattle.memory_lock.proofs.Seats.{knows-flip, knows-else, each-set}

abbrev pub St : Type 0
St = State Slot View

abbrev pub M : Type 0
M = Me Slot View

or_comm : (x y : Bool) → (x || y) ≡ (y || x)
or_comm true true = refl
or_comm true false = refl
or_comm false true = refl
or_comm false false = refl

table-flip : (n d : ℕ) (h : Past) (p : ℕ) (a : Caller) (at q : ℕ) (b : Caller) (bt : ℕ) (s : St)
    → IsTable n d h p a at q b bt s → IsTable n d h q b bt p a at s
table-flip n d h p a at q b bt s t =
    record {
      words = t.words;
      slot = subst (IsSlot s.homes h) (or_comm (has_memory a.stage) (has_memory b.stage)) t.slot;
      callers = callers-flip n d h p a q b t.callers;
      numbers = ⊎_elim (λ x. inr (x.1, x.0)) (λ x. inl (x.1, x.0)) t.numbers;
      each = λ j v e. knows-flip p a at q b bt j v (t.each j v e);
    }

-- the rule, seen from a seat
pub record Here (image : ImageValue) (id : ℕ) (v : View) (s : St) : Type 0 where
  pub n : ℕ
  pub d : ℕ
  pub h : Past
  pub q : ℕ
  pub b : Caller
  pub bt : ℕ
  pub table : IsTable n d h v.number v.own id q b bt s
  pub image_is : h.image ≡ image

here-of : (image : ImageValue) (n d : ℕ) (h : Past) (p : ℕ) (a : Caller) (at q : ℕ) (b : Caller) (bt : ℕ) (s : St)
    → IsTable n d h p a at q b bt s → h.image ≡ image → (id : ℕ) (v : View)
    → v.number ≡ p → id ≡ at → v.own ≡ a → Here image id v s
here-of image n d h p a at q b bt s t is id v x y z =
    let P : ℕ × Caller × ℕ → Type 0 = λ k. IsTable n d h k.0 k.1 k.2 q b bt s in
    record {
      n = n;
      d = d;
      h = h;
      q = q;
      b = b;
      bt = bt;
      table = subst P (λ i. (sym x i, sym z i, sym y i)) t;
      image_is = is;
    }

pub here : (image : ImageValue) (s : St) → IsByTickets image s → (id : ℕ) (v : View) → get_elem? s.views id ≡ some v
    → v.is_spent ≡ false → Here image id v s
here image s r id v at spent =
    let k = subst (KnowsIf r.p r.a r.at r.q r.b r.bt id v) spent (r.table.each id v at) in
    ⊎_elim
    (λ x. here-of image r.n r.d r.h r.p r.a r.at r.q r.b r.bt s r.table r.image_is id v x.0 x.1 x.2)
    (λ x. here-of image r.n r.d r.h r.q r.b r.bt r.p r.a r.at s
    (table-flip r.n r.d r.h r.p r.a r.at r.q r.b r.bt s r.table) r.image_is id v x.0 x.1 x.2)
    k.0

-- after a step of the seat, where its processor did this
moved : (image : ImageValue) (s s2 : St) (id : ℕ) (v : View) (t : Here image id v s) (a2 : Caller) (n2 d2 : ℕ)
    (h2 : Past) → h2.image ≡ image → v.is_spent ≡ false → v.other ≡ None → s2.words ≡ n2 ∷ d2 ∷ []
    → IsSlot s2.homes h2 (has_memory a2.stage || has_memory t.b.stage)
    → AreCallers n2 d2 h2 v.number a2 t.q t.b → s2.views ≡ set s.views id (record v { own = a2 })
    → IsByTickets image s2
moved image s s2 id v t a2 n2 d2 h2 is spent joined words home core views =
    let w : View = record v { own = a2 } in
    let K : ℕ → View → Type 0 = λ j u. Knows v.number v.own id t.q t.b t.bt j u in
    let L : ℕ → View → Type 0 = λ j u. Knows v.number a2 id t.q t.b t.bt j u in
    let J : Option Caller → Type 0 = λ o. StandsForOther v.number a2 id t.q t.b t.bt id v.number o in
    let I : Bool → Type 0 = λ x. KnowsIf v.number a2 id t.q t.b t.bt id w x in
    let mine : L id w = subst I (sym spent) (inl (refl, refl, refl), subst J (sym joined) tt) in
    let all = each-set K L s.views id w t.table.each
    (λ j u ne x. knows-else v.number v.own id t.q t.b t.bt a2 j u ne x) mine in
    let E : List View → Type 0 = λ l. (j : ℕ) (u : View) → get_elem? l j ≡ some u → L j u in
    record {
      n = n2;
      d = d2;
      h = h2;
      p = v.number;
      a = a2;
      at = id;
      q = t.q;
      b = t.b;
      bt = t.bt;
      table = record {
        words = words;
        slot = home;
        callers = core;
        numbers = t.table.numbers;
        each = subst E (sym views) all;
      };
      image_is = is;
    }

callers-at : (image : ImageValue) (id : ℕ) (v : View) (s : St) (t : Here image id v s) (st : Stage) → v.own.stage ≡ st
    → AreCallers t.n t.d t.h v.number (caller v.own.asks st v.own.made) t.q t.b
callers-at image id v s t st is =
    let P : Stage → Type 0 = λ x. AreCallers t.n t.d t.h v.number (caller v.own.asks x v.own.made) t.q t.b in
    subst P is t.table.callers

home-at : (image : ImageValue) (id : ℕ) (v : View) (s : St) (t : Here image id v s) (x : Bool) → has_memory v.own.stage ≡ x
    → has_memory t.b.stage ≡ false → IsSlot s.homes t.h (x || false)
home-at image id v s t x is other =
    let P : Bool × Bool → Type 0 = λ y. IsSlot s.homes t.h (y.0 || y.1) in
    subst P (λ i. (is i, other i)) t.table.slot

apart-numbers : (p q : ℕ) → AreTheTwo p q → p ≢ q
apart-numbers p q n e = ⊎_elim (λ x. let u = x.0 in let w = x.1 in omega (arith, u, w, e))
    (λ x. let u = x.0 in let w = x.1 in omega (arith, u, w, e)) n

-- a seat draws a ticket
pub draws : (image : ImageValue) (slots id : ℕ) (me : M) → IsAt me.0 Idle → me.0.own.asks < 4294967295
    → Allows (IsByTickets image) slots id me 1 (λ n. (n + 1) % 2 ^ 64) (IsDraw (step slots 1 1 0 none) me)
draws image slots id me is few s r _ at _ =
    let v : View = me.0 in
    let t = here image s r id v at is.0 in
    let core = callers-at image id v s t Idle is.2 in
    let x : ℕ = get_or s.words 1 0 in
    let d_is : x ≡ t.d = ap (λ l. get_or l 1 0) t.table.words in
    let small = callers-few t.n t.d t.h v.number (caller v.own.asks Idle v.own.made) t.q t.b core in
    let up : (x + 1) % 2 ^ 64 ≡ t.d + 1 = omega (arith, d_is, small.1) in
    let words : set s.words 1 ((x + 1) % 2 ^ 64) ≡ t.n ∷ (t.d + 1) ∷ [] =
    ap (λ l. set l 1 ((x + 1) % 2 ^ 64)) t.table.words ∙ ap (λ k. t.n ∷ k ∷ []) up in
    let a2 : Caller = caller (v.own.asks + 1) (Waits x) v.own.made in
    let C : ℕ → Type 0 = λ k. AreCallers t.n (t.d + 1) t.h v.number
    (caller (v.own.asks + 1) (Waits k) v.own.made) t.q t.b in
    let H : Stage → Type 0 = λ st. IsSlot s.homes t.h (has_memory st || has_memory t.b.stage) in
    let w : View = record v { own = a2 } in (
      w,
      keeps,
      tt,
      moved image s (stepped s 1 ((x + 1) % 2 ^ 64) id me.1 w keeps) id v t a2 t.n (t.d + 1) t.h t.image_is is.0 is.1 words
          (subst H is.2 t.table.slot)
          (subst C (sym d_is) (callers-draws t.n t.d t.h v.number v.own.asks v.own.made t.q t.b core few)) refl,
      refl,
    )

-- a seat looks at the ticket that is served
pub looks : (image : ImageValue) (slots id : ℕ) (me : M) (ticket : ℕ) → IsAt me.0 (Waits ticket)
    → Allows (IsByTickets image) slots id me 0 (λ n. n) (IsPoll (step slots 0 0 0 none) me)
looks image slots id me ticket is s r _ at _ =
    let v : View = me.0 in
    let t = here image s r id v at is.0 in
    let x : ℕ = get_or s.words 0 0 in
    let n_is : x ≡ t.n = ap (λ l. get_or l 0 0) t.table.words in
    let words : set s.words 0 x ≡ t.n ∷ t.d ∷ [] = ap (λ l. set l 0 (get_or l 0 0)) t.table.words in
    let mine : stage_ticket v.own.stage ≡ ticket = ap stage_ticket is.2 in
    dite (ℕ_discrete x (stage_ticket v.own.stage))
    (λ hit.
    let stage : v.own.stage ≡ Waits t.n = is.2 ∙ ap Waits (sym mine ∙ sym hit ∙ n_is) in
    let core = callers-at image id v s t (Waits t.n) stage in
    let took = callers-takes t.n t.d t.h v.number v.own.asks v.own.made t.q t.b core in
    let home = home-at image id v s t false (ap has_memory stage) took.1 in
    let m : SharedValue = home.0 in
    let a2 : Caller = caller v.own.asks (Holds x (past_of m)) v.own.made in
    let C : ℕ × Past → Type 0 = λ k. AreCallers t.n t.d t.h v.number
    (caller v.own.asks (Holds k.0 k.1) v.own.made) t.q t.b in
    let w : View = record v { own = a2 } in (
      w,
      takes 0 (Some m),
      ap (λ l. get_elem? l 0) home.1,
      moved image s (stepped s 0 x id me.1 w (takes 0 (Some m))) id v t a2 t.n t.d t.h t.image_is is.0 is.1 words
          (ap (λ l. set l 0 none) home.1)
          (subst C (λ i. (sym n_is i, sym home.2 i)) took.0) refl,
      ((λ _. (m, refl, ap (λ (y : Past). pairs_of v.number y.history) home.2 ∙ t.table.callers.made_a)), (λ miss. absurd (miss hit))),
    ))
    (λ miss. (
      v,
      keeps,
      tt,
      subst (IsByTickets image) (λ i. record {
        words = (t.table.words ∙ sym words) i;
        homes = s.homes;
        views = sym (set_again s.views id v at) i;
      }) r,
      ((λ hit. absurd (miss hit)), (λ _. refl)),
    ))

-- a seat gives the slot back, and the next ticket is served
pub raises : (image : ImageValue) (slots id : ℕ) (me : M) (ticket : ℕ) (g : Past) (m : SharedValue) (more : List Asked)
    → IsAt me.0 (Holds ticket g) → me.1 ≡ (0, Some m) ∷ [] → m.image ≡ g.image
    → m.history ≡ g.history ++ map (entry_by me.0.number) more
    → Allows (IsByTickets image) slots id me 0 (λ n. (n + 1) % 2 ^ 64) (IsRaise (step slots 0 1 0 none) me)
raises image slots id me ticket g m more is held same_image grew s r _ at _ =
    let v : View = me.0 in
    let t = here image s r id v at is.0 in
    let core = callers-at image id v s t (Holds ticket g) is.2 in
    let x : ℕ = get_or s.words 0 0 in
    let n_is : x ≡ t.n = ap (λ l. get_or l 0 0) t.table.words in
    let small = callers-few t.n t.d t.h v.number (caller v.own.asks (Holds ticket g) v.own.made) t.q t.b core in
    let up : (x + 1) % 2 ^ 64 ≡ t.n + 1 = omega (arith, n_is, small.0, small.1) in
    let words : set s.words 0 ((x + 1) % 2 ^ 64) ≡ (t.n + 1) ∷ t.d ∷ [] =
    ap (λ l. set l 0 ((x + 1) % 2 ^ 64)) t.table.words ∙ ap (λ k. k ∷ t.d ∷ []) up in
    let h2 : Past = record { image = m.image; history = slot_history me.1 } in
    let now = callers-raises t.n t.d t.h v.number v.own.asks ticket g v.own.made t.q t.b h2 more core
    (apart-numbers v.number t.q t.table.numbers) (ap slot_history held ∙ grew) in
    let gone : s.homes ≡ none ∷ [] = home-at image id v s t true (ap has_memory is.2) now.1 in
    let back : put_back s.homes me.1 ≡ some (Some m) ∷ [] = ap (put_back s.homes) held
    ∙ ap (λ l. set l 0 (some (Some m))) gone in
    let a2 : Caller = caller v.own.asks Idle (pairs_of v.number h2.history) in
    let image_is : h2.image ≡ image = same_image ∙ ap (λ (y : Past). y.image) core.fits_a.1 ∙ t.image_is in
    let past_is : past_of m ≡ h2 = λ i. record { image = m.image; history = sym (ap slot_history held) i } in
    let H : Bool → Type 0 = λ y. IsSlot (put_back s.homes me.1) h2 (false || y) in
    let w : View = record v { own = a2 } in (
      w,
      gives,
      tt,
      moved image s (stepped s 0 ((x + 1) % 2 ^ 64) id me.1 w gives) id v t a2 (t.n + 1) t.d h2 image_is is.0 is.1 words
          (subst H (sym now.1) (m, back, past_is)) now.0 refl,
      λ i. (w, ap rest held i),
    )

-- the table at its start
pub starts : (m : SharedValue) → m.history ≡ []
    → IsByTickets m.image (opening (0 ∷ 0 ∷ []) (Some m ∷ []) first_view)
starts m empty =
    record {
      n = 0;
      d = 0;
      h = record { image = m.image; history = [] };
      p = 0;
      a = new_caller;
      at = 0;
      q = 1;
      b = new_caller;
      bt = 0;
      table = record {
        words = refl;
        slot = (m, refl, λ i. record { image = m.image; history = empty i });
        callers = record {
          count = refl;
          asks = refl;
          few_a = omega arith;
          few_b = omega arith;
          fits_a = tt;
          fits_b = tt;
          apart = λ t x y. let e : ⊥ = cc in e;
          made_a = refl;
          made_b = refl;
        };
        numbers = inl (refl, refl);
        each = one;
      };
      image_is = refl;
    }
  where
    one : (j : ℕ) (v : View) → get_elem? (first_view ∷ []) j ≡ some v → Knows 0 new_caller 0 1 new_caller 0 j v
    one zero v e = subst (λ (u : View). Knows 0 new_caller 0 1 new_caller 0 0 u) (some-injective _ _ e)
        (inl (refl, refl, refl), (inr (refl, refl, refl), refl))
    one (suc j) v e = absurd (some-ne-none v (sym e))

at_push : (l : List View) (a b : View) (j : ℕ) → get_elem? (l ++ a ∷ []) j ≡ some b
    → (get_elem? l j ≡ some b) ⊎ ((j ≡ length l) × (a ≡ b))
at_push [] a b zero e = inr (refl, some-injective a b e)
at_push [] a b (suc j) e = absurd (some-ne-none b (sym e))
at_push (x ∷ xs) a b zero e = inl e
at_push (x ∷ xs) a b (suc j) e = ⊎_elim (λ t. inl t) (λ t. inr (ap suc t.0, t.1)) (at_push xs a b j e)

other-number : (p q : ℕ) → AreTheTwo p q → q ≡ 1 - p
other-number p q n = ⊎_elim (λ x. let u = x.0 in let w = x.1 in omega (arith, u, w))
    (λ x. let u = x.0 in let w = x.1 in omega (arith, u, w)) n

-- a seat that stands for neither is spent
none-else : (p : ℕ) (a : Caller) (at q : ℕ) (b : Caller) (bt bt2 j : ℕ) (v : View) (spent : Bool) → j ≢ at → j ≢ bt
    → KnowsIf p a at q b bt j v spent → KnowsIf p a at q b bt2 j v spent
none-else p a at q b bt bt2 j v true n1 n2 k = tt
none-else p a at q b bt bt2 j v false n1 n2 k = absurd (⊎_elim (λ x. n1 x.1) (λ x. n2 x.1) k.0)

-- what a seat for both knows of the other
other-caller : (p : ℕ) (a : Caller) (at q : ℕ) (b : Caller) (bt j : ℕ) (g : Caller) → AreTheTwo p q
    → StandsFor p a at q b bt j (1 - p) g → (j ≡ bt) × (g ≡ b)
other-caller p a at q b bt j g n m = ⊎_elim (λ x. absurd (apart-numbers p q n (sym x.0 ∙ sym (other-number p q n))))
    (λ x. (x.1, x.2)) m

-- a seat for both is cut in two
pub splits : (image : ImageValue) (id : ℕ) (v : View) (g : Caller) → v.is_spent ≡ false → v.other ≡ Some g
    → Splits (IsByTickets image) id v (own_view v) (other_view v)
splits image id v g spent joined s r at =
    let t = here image s r id v at spent in
    let k = subst (KnowsIf v.number v.own id t.q t.b t.bt id v) spent (t.table.each id v at) in
    let j = subst (StandsForOther v.number v.own id t.q t.b t.bt id v.number) joined k.1 in
    let has = other-caller v.number v.own id t.q t.b t.bt id g t.table.numbers j.0 in
    let bt2 : ℕ = length (set s.views id (own_view v)) in
    let K : ℕ → View → Type 0 = λ i u. Knows v.number v.own id t.q t.b t.bt i u in
    let L : ℕ → View → Type 0 = λ i u. Knows v.number v.own id t.q t.b bt2 i u in
    let I : Bool → Type 0 = λ x. KnowsIf v.number v.own id t.q t.b bt2 id (own_view v) x in
    let mine : L id (own_view v) = subst I (sym spent) (inl (refl, refl, refl), tt) in
    let new : L bt2 (other_view v) =
    (inr (sym (other-number v.number t.q t.table.numbers), refl, ap caller_or_new joined ∙ has.1), tt) in
    let all = each-set K L s.views id (own_view v) t.table.each
    (λ i u ne x. none-else v.number v.own id t.q t.b t.bt bt2 i u u.is_spent ne (λ e. ne (e ∙ sym has.0)) x)
    mine in
    record {
      n = t.n;
      d = t.d;
      h = t.h;
      p = v.number;
      a = v.own;
      at = id;
      q = t.q;
      b = t.b;
      bt = bt2;
      table = record {
        words = t.table.words;
        slot = t.table.slot;
        callers = t.table.callers;
        numbers = t.table.numbers;
        each = λ i u e. ⊎_elim (λ x. all i u x) (λ x. subst (λ (y : ℕ × View). L y.0 y.1)
            (λ m. (sym x.0 m, x.1 m)) new) (at_push (set s.views id (own_view v)) (other_view v) u i e);
      };
      image_is = t.image_is;
    }

-- two seats are put together
pub joins : (image : ImageValue) (id : ℕ) (v : View) (other : ℕ) (w : View) → IsAt v Idle → IsAt w Idle
    → Joins (IsByTickets image) id v other w (both_views v w) spent_view
joins image id v other w is is2 s r at apart there =
    let t = here image s r id v at is.0 in
    let both : View = both_views v w in
    let at2 : get_elem? s.views other ≡ some w =
    ⊎_elim (λ (x : (other ≡ id) × (both ≡ w)). absurd (apart x.0))
    (λ (x : (other ≢ id) × (get_elem? s.views other ≡ some w)). x.1) (at_set s.views id other both w there) in
    let k = subst (KnowsIf v.number v.own id t.q t.b t.bt other w) is2.0 (t.table.each other w at2) in
    let theirs : (w.number ≡ t.q) × (other ≡ t.bt) × (w.own ≡ t.b) = ⊎_elim (λ x. absurd (apart x.1)) (λ x. x) k.0 in
    let qi : t.q ≡ 1 - v.number = other-number v.number t.q t.table.numbers in
    let K : ℕ → View → Type 0 = λ j u. (j ≢ other → Knows v.number v.own id t.q t.b t.bt j u) in
    let L : ℕ → View → Type 0 = λ j u. (j ≢ other → Knows v.number v.own id t.q t.b id j u) in
    let I : Bool → Type 0 = λ x. KnowsIf v.number v.own id t.q t.b id id both x in
    let mine : L id both = λ _. subst I (sym is.0) (inl (refl, refl, refl), (inr (sym qi, refl, theirs.2), is2.2)) in
    let first = each-set K L s.views id both (λ j u e _. t.table.each j u e)
    (λ j u ne x no. none-else v.number v.own id t.q t.b t.bt id j u u.is_spent ne (λ e. no (e ∙ sym theirs.1))
    (x no)) mine in
    let Q : ℕ → View → Type 0 = λ j u. Knows v.number v.own id t.q t.b id j u in
    record {
      n = t.n;
      d = t.d;
      h = t.h;
      p = v.number;
      a = v.own;
      at = id;
      q = t.q;
      b = t.b;
      bt = id;
      table = record {
        words = t.table.words;
        slot = t.table.slot;
        callers = t.table.callers;
        numbers = t.table.numbers;
        each = each-set L Q (set s.views id both) other spent_view first (λ j u ne x. x ne) tt;
      };
      image_is = t.image_is;
    }

-- the memory is back, of the table's image, and its history is what both made
pub record Closes (image : ImageValue) (v : View) (g : Caller) (s : St) : Type 0 where
  pub m : SharedValue
  pub image_is : m.image ≡ image
  pub slot : s.homes ≡ some (Some m) ∷ []
  pub own : pairs_of v.number m.history ≡ v.own.made
  pub other : pairs_of (1 - v.number) m.history ≡ g.made

-- the table ends
pub closes : (image : ImageValue) (id : ℕ) (v : View) (g : Caller) (s : St) → Seen (IsByTickets image) id v s
    → v.is_spent ≡ false → v.other ≡ Some g → v.own.stage ≡ Idle → Closes image v g s
closes image id v g s seen spent joined idle =
    let t = here image s seen.0 id v seen.1 spent in
    let k = subst (KnowsIf v.number v.own id t.q t.b t.bt id v) spent (t.table.each id v seen.1) in
    let j = subst (StandsForOther v.number v.own id t.q t.b t.bt id v.number) joined k.1 in
    let qi : t.q ≡ 1 - v.number = other-number v.number t.q t.table.numbers in
    let ne = apart-numbers v.number t.q t.table.numbers in
    let theirs : g ≡ t.b = ⊎_elim (λ x. absurd (ne (sym x.0 ∙ sym qi))) (λ x. x.2) j.0 in
    let home = home-at image id v s t false (ap has_memory idle)
    (ap (λ (b : Caller). has_memory b.stage) (sym theirs) ∙ ap has_memory j.1) in
    record {
      m = home.0;
      slot = home.1;
      image_is = ap (λ (y : Past). y.image) home.2 ∙ t.image_is;
      own = ap (λ (y : Past). pairs_of v.number y.history) home.2 ∙ t.table.callers.made_a;
      other = ap (λ k. pairs_of k home.0.history) (sym qi) ∙ ap (λ (y : Past). pairs_of t.q y.history) home.2
          ∙ t.table.callers.made_b
          ∙ ap (λ (b : Caller). b.made) (sym theirs);
    }
