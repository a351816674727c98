-- The reads of other words near a glimpse.
use Rattle.std.proofs.Common.{◌≡◌, ◌≢◌, ℕ, zero, ◌<◌, ◌≤◌, le-ltb, ◌==◌, Bool, true, false, not, cond, nat_lt, ◌&&◌, List, [], length}
use Rattle.std.proofs.Common.{Option, Some, None, refl, sym, ap, ◌∙◌, ne_eqb, ltb-true, ⊎_elim, suc, ◌∷◌, ◌++◌, get_or, take}
use Rattle.std.proofs.Common.{append-nil, append_assoc, length-append, subst, arith}
use Rattle.std.specs.List.{slice_get}
use Rattle.std.proofs.Math.Seq.{take-suc}
use Rattle.std.proofs.lemmas.Bool.{false≢true, eqb-true, cases_lt, false_from_ne_true, and_right}
use Rattle.std.proofs.lemmas.List.{get_or_append_left, get_or_push}
use Rattle.std.proofs.lemmas.Option.{slice_get-get_or}
use Rattle.run_findings.specs.Actions.{is_by}
use Rattle.run_findings.specs.Places.{passes}
use Rattle.run_findings.specs.TornReads.{word_loaded, is_load_of, loaded_by, are_parted, is_torn_pair, torn_by_read}
use Rattle.run_findings.specs.TornReads.{torn_by_word, torn_by_write, other_half, half_by, half_in, is_other_half, word_changed}
use Rattle.run_findings.specs.Found.{list_of, found_to}
use Rattle.run_findings.specs.Stale.{found_in, with_look, AreWithin, HasEarliestFirst, AreLooks}
use Rattle.run_findings.specs.Rounds.{is_other, is_look, is_stale_look}
use Rattle.run_findings.specs.Links.{is_overwritten}
use Rattle.run_findings.specs.declared.actions.Action.{Action}
use Rattle.run_findings.specs.declared.parting.Meeting.TheVariants as meeting
use Rattle.run_findings.specs.declared.glimpse.Glimpse.{Glimpse}
use Rattle.run_findings.specs.declared.torn.TornRead.{TornRead}
use Rattle.run_findings.proofs.TornReads.{other_word, half-writes}
use Rattle.run_findings.proofs.Overwritten.{overwritten}

not_other : (t : Bool) → not t ≡ false → t ≡ true
not_other true h = refl
not_other false h = sym h

not_loaded : (o : Option ℕ) (a b : ℕ) → a ≢ b → is_other o b ≡ false → is_load_of o a ≡ false
not_loaded None a b apart none = refl
not_loaded (Some c) a b apart none =
    ne_eqb c a (λ e. apart (sym e ∙ eqb-true c b (not_other (c == b) none)))

and_fails : (p q r : Bool) → (q ≡ false → r ≡ false) → (p && q) ≡ false → (p && r) ≡ false
and_fails true q r fewer h = fewer h
and_fails false q r fewer h = refl

no_load : (g : Glimpse) (a : ℕ) (o : Option Action) → a ≢ g.fresh → passes (is_look g) o ≡ false
    → passes (loaded_by g.reader a) o ≡ false
no_load g a None apart none = refl
no_load g a (Some d) apart none =
    and_fails (is_by g.reader d) (is_other (word_loaded d.access) g.fresh) (is_load_of (word_loaded d.access) a)
    (not_loaded (word_loaded d.access) a g.fresh apart) none

unread_none : (ds : List Action) (g : Glimpse) (a k i : ℕ) → passes (loaded_by g.reader a) (slice_get ds i) ≡ false
    → torn_by_read ds g a k i ≡ None
unfolding torn_by_read
unread_none ds g a k i none =
    ap (λ t. cond (t && (nat_lt i k && (not (are_parted ds meeting.Reads g.reader a g.fresh i g.fresh_read)
    && is_torn_pair ds g a k i))) (Some (record {
      stale = a;
      fresh = g.fresh;
      stale_read = i;
      fresh_read = g.fresh_read;
      stale_write = k;
      fresh_write = g.fresh_write;
    })) None) none

-- nor where the read comes after the write
late : {F : Type 0} (p x : Bool) (f : F) → cond (p && (false && x)) (Some f) None ≡ None
late true x f = refl
late false x f = refl

late_none : (ds : List Action) (g : Glimpse) (a k i : ℕ) → nat_lt i k ≡ false → torn_by_read ds g a k i ≡ None
unfolding torn_by_read
late_none ds g a k i after =
    let p = passes (loaded_by g.reader a) (slice_get ds i) in
    let x = not (are_parted ds meeting.Reads g.reader a g.fresh i g.fresh_read) && is_torn_pair ds g a k i in
    let f : TornRead = record {
      stale = a;
      fresh = g.fresh;
      stale_read = i;
      fresh_read = g.fresh_read;
      stale_write = k;
      fresh_write = g.fresh_write;
    } in
    ap (λ t. cond (p && (t && x)) (Some f) None) after ∙ late p x f

by_load : (ds : List Action) (g : Glimpse) (a k i : ℕ) (p : Bool) → passes (loaded_by g.reader a) (slice_get ds i) ≡ p
    → other_half ds g k ≡ Some a → is_overwritten ds i ≡ false → torn_by_read ds g a k i ≡ None
by_load ds g a k i false loaded half old = unread_none ds g a k i loaded
by_load ds g a k i true loaded half old =
    let write = half-writes ds g k a half in
    late_none ds g a k i (false_from_ne_true (nat_lt i k) (λ h.
    false≢true (sym old ∙ overwritten ds g.reader a i k (ltb-true i k h) write.0 loaded write.1)))

by_look : (ds : List Action) (g : Glimpse) (a k i : ℕ) (p : Bool) → passes (is_look g) (slice_get ds i) ≡ p
    → other_half ds g k ≡ Some a → (p && is_overwritten ds i) ≡ false → torn_by_read ds g a k i ≡ None
by_look ds g a k i false look half none =
    unread_none ds g a k i (no_load g a (slice_get ds i) (other_word ds g k a half) look)
by_look ds g a k i true look half none =
    by_load ds g a k i (passes (loaded_by g.reader a) (slice_get ds i)) refl half none

pub stale_only : (ds : List Action) (g : Glimpse) (a k i : ℕ) → other_half ds g k ≡ Some a → is_stale_look ds g i ≡ false
    → torn_by_read ds g a k i ≡ None
stale_only ds g a k i half none = by_look ds g a k i (passes (is_look g) (slice_get ds i)) refl half none

-- The reads near a glimpse.

in_push : {F : Type 0} (at : ℕ → Option F) (ks : List ℕ) (k : ℕ)
    → found_in at (ks ++ k ∷ []) ≡ found_in at ks ++ list_of (at k)
in_push at [] k = append-nil (list_of (at k))
in_push at (j ∷ ks) k =
    ap (λ x. list_of (at j) ++ x) (in_push at ks k)
    ∙ sym (append_assoc (list_of (at j)) (found_in at ks) (list_of (at k)))

pub in_more : {F : Type 0} (at : ℕ → Option F) (ks : List ℕ) (i next d : ℕ) → suc i ≡ next → i < length ks
    → found_in at (take next ks) ≡ found_in at (take i ks) ++ list_of (at (get_or ks i d))
in_more at ks i next d is within =
    ap (λ j. found_in at (take j ks)) (sym is)
    ∙ ap (found_in at) (take-suc ks i d within)
    ∙ in_push at (take i ks) (get_or ks i d)

look_by : (ds : List Action) (g : Glimpse) (a k n : ℕ) (ks : List ℕ) (t : Bool) → is_stale_look ds g n ≡ t
    → other_half ds g k ≡ Some a → found_in (torn_by_read ds g a k) ks ≡ found_to (torn_by_read ds g a k) n
    → found_in (torn_by_read ds g a k) (with_look t ks n) ≡ found_to (torn_by_read ds g a k) (suc n)
look_by ds g a k n ks true is half so_far =
    let at = torn_by_read ds g a k in in_push at ks n ∙ ap (λ x. x ++ list_of (at n)) so_far
look_by ds g a k n ks false is half so_far =
    let at = torn_by_read ds g a k in
    so_far ∙ sym (append-nil (found_to at n))
    ∙ ap (λ o. found_to at n ++ list_of o) (sym (stale_only ds g a k n half is))

pub look_more : (ds : List Action) (g : Glimpse) (a k n next : ℕ) (ks : List ℕ) → suc n ≡ next
    → other_half ds g k ≡ Some a → found_in (torn_by_read ds g a k) ks ≡ found_to (torn_by_read ds g a k) n
    → found_in (torn_by_read ds g a k) (with_look (is_stale_look ds g n) ks n) ≡ found_to (torn_by_read ds g a k) next
look_more ds g a k n next ks is half so_far =
    look_by ds g a k n ks (is_stale_look ds g n) refl half so_far ∙ ap (found_to (torn_by_read ds g a k)) is

pub within_more : (ds : List Action) (ks : List ℕ) (t : Bool) (n : ℕ) → n < length ds → AreWithin ds ks
    → AreWithin ds (with_look t ks n)
within_more ds ks false n inside within j other below = within j other below
within_more ds ks true n inside within j other below = ⊎_elim
    (λ h. subst (λ m. m < length ds) (sym (get_or_append_left ks (n ∷ []) other j h)) (within j other h))
    (λ h.
    let longer = length-append ks (n ∷ []) in
    let last : length ks ≡ j = omega (arith, below, longer) in
    subst (λ m. m < length ds) (sym (get_or_push ks n other j last)) inside)
    (cases_lt j (length ks))

-- the steps noted so far come before this one
abbrev pub AreBelow : List ℕ → ℕ → Type 0
AreBelow ks n = (j other : ℕ) → j < length ks → get_or ks j other < n

pub below_more : (ks : List ℕ) (t : Bool) (n next : ℕ) → suc n ≡ next → AreBelow ks n → AreBelow (with_look t ks n) next
below_more ks false n next is below j other h = let far = below j other h in omega (arith, far, is)
below_more ks true n next is below j other h = ⊎_elim
    (λ near.
    let far = below j other near in
    subst (λ m. m < next) (sym (get_or_append_left ks (n ∷ []) other j near)) (omega (arith, far, is)))
    (λ far.
    let longer = length-append ks (n ∷ []) in
    let last : length ks ≡ j = omega (arith, h, longer) in
    subst (λ m. m < next) (sym (get_or_push ks n other j last)) (omega (arith, is)))
    (cases_lt j (length ks))

pub first_more : (ks : List ℕ) (t : Bool) (n : ℕ) → AreBelow ks n → HasEarliestFirst ks
    → HasEarliestFirst (with_look t ks n)
first_more ks false n below first j other h = first j other h
first_more [] true n below first zero other h = omega arith
first_more [] true n below first (suc j) other h = absurd (omega (arith, h))
first_more (k ∷ ks) true n below first j other h = ⊎_elim
    (λ near.
    subst (λ m. k ≤ m) (sym (get_or_append_left (k ∷ ks) (n ∷ []) other j near)) (first j other near))
    (λ far.
    let longer = length-append (k ∷ ks) (n ∷ []) in
    let last : length (k ∷ ks) ≡ j = omega (arith, h, longer) in
    let low = below 0 0 (omega arith) in
    subst (λ m. k ≤ m) (sym (get_or_push (k ∷ ks) n other j last)) (omega (arith, low)))
    (cases_lt j (length (k ∷ ks)))

pub empty_from : (ks : List ℕ) → (length ks == 0) ≡ true → ks ≡ []
empty_from [] none = refl
empty_from (k ∷ ks) none = let count = eqb-true (length (k ∷ ks)) 0 none in absurd (omega (arith, count))

-- A write of a word of which none of them is.

pub unloaded : (ds : List Action) (g : Glimpse) (a k i : ℕ) (d : Action) → i < length ds
    → is_load_of (word_loaded (get_or ds i d).access) a ≡ false → torn_by_read ds g a k i ≡ None
unloaded ds g a k i d within none =
    let e = get_or ds i d in
    unread_none ds g a k i (ap (passes (loaded_by g.reader a)) (slice_get-get_or ds i d within)
    ∙ and_right (is_by g.reader e) (is_load_of (word_loaded e.access) a) none)

half_by_test : (ds : List Action) (g : Glimpse) (looks : List ℕ) (k a : ℕ) (t : Bool) → AreLooks ds g looks
    → found_in (torn_by_read ds g a k) looks ≡ [] → other_half ds g k ≡ cond t (Some a) None
    → torn_by_word ds g k (cond t (Some a) None) ≡ []
half_by_test ds g looks k a true are none is = sym (are.all a k is) ∙ none
half_by_test ds g looks k a false are none is = refl

half_by_change : (ds : List Action) (g : Glimpse) (k : ℕ) (d : Action) (o : Option ℕ) → slice_get ds k ≡ Some d
    → word_changed d.access ≡ o → other_half ds g k ≡ half_by ds g k d.stream o
unfolding other_half
half_by_change ds g k d o stands is = ap (half_in ds g k) stands ∙ ap (half_by ds g k d.stream) is

pub none_by_change : (ds : List Action) (g : Glimpse) (k : ℕ) (d : Action) → slice_get ds k ≡ Some d
    → word_changed d.access ≡ None → torn_by_write ds g k ≡ []
unfolding torn_by_write
none_by_change ds g k d stands is = ap (torn_by_word ds g k) (half_by_change ds g k d None stands is)

pub none_by_looks : (ds : List Action) (g : Glimpse) (looks : List ℕ) (k a : ℕ) (d : Action) → slice_get ds k ≡ Some d
    → word_changed d.access ≡ Some a → AreLooks ds g looks → found_in (torn_by_read ds g a k) looks ≡ []
    → torn_by_write ds g k ≡ []
unfolding torn_by_write
none_by_looks ds g looks k a d stands is are none =
    let half = half_by_change ds g k d (Some a) stands is in
    ap (torn_by_word ds g k) half ∙ half_by_test ds g looks k a (is_other_half ds g a d.stream k) are none half

no_looks : (ds : List Action) (g : Glimpse) (looks : List ℕ) (k : ℕ) (o : Option ℕ) → AreLooks ds g looks → looks ≡ []
    → other_half ds g k ≡ o → torn_by_word ds g k o ≡ []
no_looks ds g looks k None are none half = refl
no_looks ds g looks k (Some a) are none half =
    sym (are.all a k half) ∙ ap (found_in (torn_by_read ds g a k)) none

pub none_looked_at : (ds : List Action) (g : Glimpse) (looks : List ℕ) → AreLooks ds g looks → looks ≡ [] → (k : ℕ)
    → torn_by_write ds g k ≡ []
unfolding torn_by_write
none_looked_at ds g looks are none k = no_looks ds g looks k (other_half ds g k) are none refl

-- A write before all of them.

late_in : (ds : List Action) (g : Glimpse) (a k : ℕ) (looks : List ℕ)
    → ((j other : ℕ) → j < length looks → k ≤ get_or looks j other) → found_in (torn_by_read ds g a k) looks ≡ []
late_in ds g a k [] early = refl
late_in ds g a k (i ∷ looks) early =
    ap (λ o. list_of o ++ found_in (torn_by_read ds g a k) looks)
    (late_none ds g a k i (le-ltb i k (early 0 0 (omega arith))))
    ∙ late_in ds g a k looks (λ j other h. early (suc j) other (omega (arith, h)))

early_half : (ds : List Action) (g : Glimpse) (looks : List ℕ) (k : ℕ) (o : Option ℕ) → AreLooks ds g looks
    → k ≤ get_or looks 0 0 → other_half ds g k ≡ o → torn_by_word ds g k o ≡ []
early_half ds g looks k None are early half = refl
early_half ds g looks k (Some a) are early half =
    sym (are.all a k half)
    ∙ late_in ds g a k looks (λ j other h. let first = are.first j other h in omega (arith, early, first))

pub none_before_looks : (ds : List Action) (g : Glimpse) (looks : List ℕ) → AreLooks ds g looks → (k : ℕ)
    → k ≤ get_or looks 0 0 → torn_by_write ds g k ≡ []
unfolding torn_by_write
none_before_looks ds g looks are k early = early_half ds g looks k (other_half ds g k) are early refl
