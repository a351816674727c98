-- What is noted of the streams in use after a step.
use Rattle.std.proofs.Common.{◌≡◌, ℕ, zero, suc, ◌+◌, ◌*◌, ◌<◌, ◌==◌, Bool, true, false, not, ◌&&◌, ◌||◌, cond, refl, sym, ap, ◌∙◌}
use Rattle.std.proofs.Common.{arith, ⊎_elim, List, [], ◌∷◌, ◌++◌, length, length-append, get_or, subst, Option, Some}
use Rattle.std.specs.List.{slice_get}
use Rattle.std.proofs.lemmas.Bool.{cases_lt, cases_eq, eqb-true, eq-eqb, false≢true}
use Rattle.std.proofs.lemmas.Option.{slice_get-get_or}
use Rattle.insn_word.specs.declared.operations.ControlOp.{ControlOp}
use Rattle.insn_word.specs.declared.operations.ControlOp.TheVariants as control
use Rattle.insn_word.specs.declared.insn.Insn.TheVariants.{Wide, Normal}
use Rattle.run_findings.specs.Marks.{is_quit}
use Rattle.run_findings.specs.Places.{passes}
use Rattle.run_findings.specs.declared.actions.Action.{Action}
use Rattle.run_findings.specs.declared.actions.Deed.{Deed}
use Rattle.run_findings.specs.declared.actions.Deed.TheVariants as deed
use Rattle.value_origins.specs.Streams.{is_create, creates, quits, is_lowest_idle, used_after, used_past, is_used, is_started}
use Rattle.value_origins.specs.Tables.{used_in, is_that, IsStartBy, AreUsed, AreStartsTo}
use Rattle.value_origins.proofs.Idle.{both_true, differ, same_by}

or_false : (x : Bool) → (x || false) ≡ x
or_false true = refl
or_false false = refl

or_true : (x : Bool) → (x || true) ≡ true
or_true true = refl
or_true false = refl

marked_or : (x : Bool) (s k : ℕ) → cond (s == k) true x ≡ (x || (k == s))
marked_or x s k = ⊎_elim
    (λ h.
    ap (λ b. cond b true x) (eq-eqb s k h) ∙ sym (ap (λ b. x || b) (eq-eqb k s (sym h)) ∙ or_true x))
    (λ h.
    ap (λ b. cond b true x) (differ s k h) ∙ sym (ap (λ b. x || b) (differ k s (λ e. h (sym e))) ∙ or_false x))
    (cases_eq s k)

unmarked_and : (x : Bool) (b : Bool) → cond b false x ≡ (x && not b)
unmarked_and true true = refl
unmarked_and true false = refl
unmarked_and false true = refl
unmarked_and false false = refl

noted_start_by : (d : Action) (old new : ℕ → ℕ → Bool) (k : ℕ) → k < 256
    → ((s : ℕ) → s < 256 → (k == s) ≡ (creates d.deed && is_lowest_idle (old d.stream.p) s))
    → ((q r : ℕ) → q < 256 → r < 256 → new q r ≡ cond (q == d.stream.p && r == k) true (old q r))
    → (p s : ℕ) → p < 256 → s < 256 → (b : Bool) → (d.stream.p == p) ≡ b
    → new p s ≡ cond b (used_after d (old p) s) (old p s)
noted_start_by d old new k inside started set p s p_in s_in true e =
    let same : d.stream.p ≡ p = eqb-true d.stream.p p e in
    let made : creates d.deed ≡ true =
    (both_true (creates d.deed) (is_lowest_idle (old d.stream.p) k) (sym (started k inside) ∙ eq-eqb k k refl)).0 in
    let is : (k == s) ≡ is_lowest_idle (old p) s =
    started s s_in ∙ ap (λ b. b && is_lowest_idle (old d.stream.p) s) made ∙ ap (λ q. is_lowest_idle (old q) s) same in
    set p s p_in s_in
    ∙ ap (λ b. cond (b && s == k) true (old p s)) (eq-eqb p d.stream.p (sym same))
    ∙ marked_or (old p s) s k
    ∙ ap (λ b. old p s || b) is
    ∙ sym (ap (λ b. cond b (old p s || is_lowest_idle (old p) s)
    (cond (quits d.deed) (old p s && not (s == d.stream.s)) (old p s))) made)
noted_start_by d old new k inside started set p s p_in s_in false e =
    set p s p_in s_in
    ∙ ap (λ b. cond (b && s == k) true (old p s))
    (differ p d.stream.p (λ same. false≢true (sym e ∙ eq-eqb d.stream.p p (sym same))))

pub noted_start : (d : Action) (old new : ℕ → ℕ → Bool) (k : ℕ) → k < 256
    → ((s : ℕ) → s < 256 → (k == s) ≡ (creates d.deed && is_lowest_idle (old d.stream.p) s))
    → ((q r : ℕ) → q < 256 → r < 256 → new q r ≡ cond (q == d.stream.p && r == k) true (old q r))
    → (p s : ℕ) → p < 256 → s < 256 → new p s ≡ used_past p (old p) (Some d) s
noted_start d old new k inside started set p s p_in s_in =
    noted_start_by d old new k inside started set p s p_in s_in (d.stream.p == p) refl

-- CREATE and QUIT are two operations

op_apart : (op : ControlOp) → is_quit op ≡ true → is_create op ≡ false
op_apart control.Nop h = refl
op_apart control.Jump h = refl
op_apart control.Skip h = refl
op_apart control.Call h = refl
op_apart control.Exchange h = refl
op_apart control.TargetSet h = refl
op_apart control.TargetGet h = refl
op_apart control.TrapGet h = refl
op_apart control.Reserve h = refl
op_apart control.Create h = absurd (false≢true h)
op_apart control.Quit h = refl
op_apart control.QuitKeep h = refl
op_apart control.Mask h = refl

apart : (d : Deed) → quits d ≡ true → creates d ≡ false
apart deed.Nothing h = refl
apart deed.Trap h = refl
apart (deed.Instruction (Wide look op reg imm)) h = refl
apart (deed.Instruction (Normal look m a c)) h = op_apart c.op h

noted_quit_by : (d : Action) (old new : ℕ → ℕ → Bool) → quits d.deed ≡ true
    → ((q r : ℕ) → q < 256 → r < 256 → new q r ≡ cond (q == d.stream.p && r == d.stream.s) false (old q r))
    → (p s : ℕ) → p < 256 → s < 256 → (b : Bool) → (d.stream.p == p) ≡ b
    → new p s ≡ cond b (used_after d (old p) s) (old p s)
noted_quit_by d old new quit set p s p_in s_in true e =
    let same : d.stream.p ≡ p = eqb-true d.stream.p p e in
    set p s p_in s_in
    ∙ ap (λ b. cond (b && s == d.stream.s) false (old p s)) (eq-eqb p d.stream.p (sym same))
    ∙ unmarked_and (old p s) (s == d.stream.s)
    ∙ sym (ap (λ b. cond b (old p s || is_lowest_idle (old p) s)
    (cond (quits d.deed) (old p s && not (s == d.stream.s)) (old p s))) (apart d.deed quit)
    ∙ ap (λ b. cond b (old p s && not (s == d.stream.s)) (old p s)) quit)
noted_quit_by d old new quit set p s p_in s_in false e =
    set p s p_in s_in
    ∙ ap (λ b. cond (b && s == d.stream.s) false (old p s))
    (differ p d.stream.p (λ same. false≢true (sym e ∙ eq-eqb d.stream.p p (sym same))))

pub noted_quit : (d : Action) (old new : ℕ → ℕ → Bool) → quits d.deed ≡ true
    → ((q r : ℕ) → q < 256 → r < 256 → new q r ≡ cond (q == d.stream.p && r == d.stream.s) false (old q r))
    → (p s : ℕ) → p < 256 → s < 256 → new p s ≡ used_past p (old p) (Some d) s
noted_quit d old new quit set p s p_in s_in = noted_quit_by d old new quit set p s p_in s_in (d.stream.p == p) refl

noted_none_by : (d : Action) (old : ℕ → ℕ → Bool) (p s : ℕ) → quits d.deed ≡ false
    → (creates d.deed ≡ true → is_lowest_idle (old p) s ≡ false) → (b : Bool) → creates d.deed ≡ b
    → old p s ≡ used_after d (old p) s
noted_none_by d old p s stays none true made =
    sym (ap (λ b. cond b (old p s || is_lowest_idle (old p) s)
    (cond (quits d.deed) (old p s && not (s == d.stream.s)) (old p s))) made
    ∙ ap (λ b. old p s || b) (none made) ∙ or_false (old p s))
noted_none_by d old p s stays none false made =
    sym (ap (λ b. cond b (old p s || is_lowest_idle (old p) s)
    (cond (quits d.deed) (old p s && not (s == d.stream.s)) (old p s))) made
    ∙ ap (λ b. cond b (old p s && not (s == d.stream.s)) (old p s)) stays)

noted_none_of : (d : Action) (old : ℕ → ℕ → Bool)
    → ((s : ℕ) → s < 256 → false ≡ (creates d.deed && is_lowest_idle (old d.stream.p) s)) → quits d.deed ≡ false
    → (p s : ℕ) → s < 256 → (b : Bool) → (d.stream.p == p) ≡ b → old p s ≡ cond b (used_after d (old p) s) (old p s)
noted_none_of d old started stays p s s_in true e =
    let same : d.stream.p ≡ p = eqb-true d.stream.p p e in
    noted_none_by d old p s stays
    (λ made.
    ap (λ q. is_lowest_idle (old q) s) (sym same)
    ∙ sym (ap (λ b. b && is_lowest_idle (old d.stream.p) s) made) ∙ sym (started s s_in))
    (creates d.deed) refl
noted_none_of d old started stays p s s_in false e = refl

pub noted_none : (d : Action) (old : ℕ → ℕ → Bool)
    → ((s : ℕ) → s < 256 → false ≡ (creates d.deed && is_lowest_idle (old d.stream.p) s)) → quits d.deed ≡ false
    → (p s : ℕ) → s < 256 → old p s ≡ used_past p (old p) (Some d) s
noted_none d old started stays p s s_in = noted_none_of d old started stays p s s_in (d.stream.p == p) refl

-- One more step.

past_same : (p : ℕ) (f g : ℕ → Bool) (d : Action) (s : ℕ) → s < 256 → ((r : ℕ) → r < 256 → f r ≡ g r)
    → used_past p f (Some d) s ≡ used_past p g (Some d) s
past_same p f g d s inside same =
    same_by (λ x a.
    cond (d.stream.p == p) (cond (creates d.deed) (x || (not x && a)) (cond (quits d.deed) (x && not (s == d.stream.s)) x)) x)
    f g s 256 inside same

pub used_more : (ds : List Action) (n next : ℕ) (d : Action) (old new : List Bool) → suc n ≡ next → n < length ds
    → AreUsed ds n old → length new ≡ 65536
    → ((p s : ℕ) → p < 256 → s < 256 → used_in new p s ≡ used_past p (used_in old p) (Some (get_or ds n d)) s)
    → AreUsed ds next new
used_more ds n next d old new same within used count noted = record {
  count = count;
  is = λ p s p_in s_in.
      noted p s p_in s_in
      ∙ past_same p (used_in old p) (is_used ds n p) (get_or ds n d) s s_in (λ r r_in. used.is p r p_in r_in)
      ∙ ap (λ o. used_past p (is_used ds n p) o s) (sym (slice_get-get_or ds n d within))
      ∙ ap (λ m. is_used ds m p s) same;
}

get_last : (xs : List (Option ℕ)) (x other : Option ℕ) → get_or (xs ++ (x ∷ [])) (length xs) other ≡ x
get_last [] x other = refl
get_last (y ∷ xs) x other = get_last xs x other

get_first : (xs : List (Option ℕ)) (x other : Option ℕ) (k : ℕ) → k < length xs
    → get_or (xs ++ (x ∷ [])) k other ≡ get_or xs k other
get_first [] x other k below = absurd (omega arith)
get_first (y ∷ xs) x other zero below = refl
get_first (y ∷ xs) x other (suc k) below = get_first xs x other k (omega arith)

lowest_same : (f g : ℕ → Bool) (s : ℕ) → s < 256 → ((r : ℕ) → r < 256 → f r ≡ g r)
    → is_lowest_idle f s ≡ is_lowest_idle g s
lowest_same f g s inside same = same_by (λ x a. not x && a) f g s 256 inside same

starts_more : (ds : List Action) (n next : ℕ) (d : Action) (moved : List Bool) (starts : List (Option ℕ))
    (started : Option ℕ) → suc n ≡ next → n < length ds → (get_or ds n d).stream.p < 256 → AreUsed ds n moved
    → AreStartsTo ds n starts → IsStartBy moved (get_or ds n d) started → length (starts ++ (started ∷ [])) ≡ next
    → AreStartsTo ds next (starts ++ (started ∷ []))
starts_more ds n next d moved starts started same within p_in used old is count = record {
  count = count;
  is = λ k s other below s_in. ⊎_elim
      (λ h.
      let counted = old.count in
      ap (λ o. is_that o s) (get_first starts started other k (omega (arith, h, counted))) ∙ old.is k s other h s_in)
      (λ h.
      let counted = old.count in
      let here : length starts ≡ k = omega (arith, h, below, same, counted) in
      let last : n ≡ k = omega (arith, here, counted) in
      let e = get_or ds n d in
      ap (λ m. is_that (get_or (starts ++ (started ∷ [])) m other) s) (sym here)
      ∙ ap (λ o. is_that o s) (get_last starts started other)
      ∙ is s s_in
      ∙ ap (λ b. creates e.deed && b)
      (lowest_same (used_in moved e.stream.p) (is_used ds n e.stream.p) s s_in
      (λ r r_in. used.is e.stream.p r p_in r_in))
      ∙ ap (passes (is_started ds n s)) (sym (slice_get-get_or ds n d within))
      ∙ ap (λ m. passes (is_started ds m s) (slice_get ds m)) last)
      (cases_lt k n);
}

-- None so far.

at_start : (b : Bool) → cond b (not false) false ≡ b
at_start true = refl
at_start false = refl

pub first_used : (ds : List Action) (moved : List Bool) → length moved ≡ 65536
    → ((k : ℕ) → get_or moved k false ≡ false) → AreUsed ds 0 moved
first_used ds moved count unmarked = record {
  count = count;
  is = λ p s p_in s_in.
      ap (λ b. cond (s == 0) (not b) b) (unmarked (p * 256 + s)) ∙ at_start (s == 0);
}

pub first_starts : (ds : List Action) (starts : List (Option ℕ)) → starts ≡ [] → AreStartsTo ds 0 starts
first_starts ds starts empty = record {
  count = ap length empty;
  is = λ k s other below s_in. absurd (omega (arith, below));
}

pub seen_as : (ds : List Action) (n : ℕ) (d : Action) (seen moved : List Bool) (started : Option ℕ) → seen ≡ moved
    → IsStartBy seen (get_or ds n d) started → IsStartBy moved (get_or ds n d) started
seen_as ds n d seen moved started same is = subst (λ m. IsStartBy m (get_or ds n d) started) same is

pub starts_pushed : (ds : List Action) (n next : ℕ) (d : Action) (moved : List Bool) (starts pushed : List (Option ℕ))
    (started : Option ℕ) → suc n ≡ next → n < length ds → (get_or ds n d).stream.p < 256 → AreUsed ds n moved
    → AreStartsTo ds n starts → IsStartBy moved (get_or ds n d) started → pushed ≡ starts ++ (started ∷ [])
    → AreStartsTo ds next pushed
starts_pushed ds n next d moved starts pushed started same within p_in used old is made =
    let longer = length-append starts (started ∷ []) in
    let counted = old.count in
    subst (λ xs. AreStartsTo ds next xs) (sym made)
    (starts_more ds n next d moved starts started same within p_in used old is (omega (arith, longer, counted, same)))
