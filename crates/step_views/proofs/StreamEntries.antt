-- The entries of a stream: each is right, no two are of one part, and each part that is there has one.
use Rattle.std.proofs.Common.{◌≡◌, ◌≢◌, ℕ, zero, suc, ◌+◌, ◌<◌, ◌≤◌, ◌⊎◌, inl, inr, refl, sym, ap, ◌∙◌, subst, arith}
use Rattle.std.proofs.Common.{Option, Some, None, List, [], ◌∷◌, ◌++◌, length}
use Rattle.std.specs.Prelude.{⊤}
use Rattle.std.proofs.lemmas.Bool.{cases_lt, cond_below, cond_above}
use Rattle.stream_core.specs.Streams.{StreamValue}
use Rattle.stream_core.specs.Registers.{register_at, target_at}
use Rattle.step_views.specs.declared.places.StreamPart.{StreamPart}
use Rattle.step_views.specs.declared.places.StreamPart.TheVariants as part
use Rattle.step_views.specs.declared.places.Place.{Place}
use Rattle.step_views.specs.declared.places.Place.TheVariants as place
use Rattle.step_views.specs.declared.places.Content.{Content}
use Rattle.step_views.specs.declared.places.Content.TheVariants as content
use Rattle.step_views.specs.declared.places.Change.{Change}
use Rattle.step_views.specs.Places.{part_content}
use Rattle.step_views.specs.Comparing.{entry, part_entry, part_entries, state_parts, register_parts}
use Rattle.step_views.specs.Comparing.{target_parts, stream_entries}
use Rattle.step_views.proofs.Entries.{In, in_left, in_right, in_either, AreApart, apart_join}

-- Each is right.

-- an entry of the stream with what stands in its part before and after
pub record IsOfStream (p s : ℕ) (b a : StreamValue) (c : Change) : Type 0 where
  pub part : StreamPart
  pub at : c.place ≡ place.Stream p s part
  pub was : part_content b part ≡ Some c.before
  pub is : part_content a part ≡ Some c.after

of_part : (p s : ℕ) (b a : StreamValue) (x : StreamPart) (o q : Option Content) (c : Change)
    → part_content b x ≡ o → part_content a x ≡ q → In (part_entry (place.Stream p s x) o q) c
    → IsOfStream p s b a c
of_part p s b a x None q c e f h = absurd h
of_part p s b a x (Some k) None c e f h = absurd h
of_part p s b a x (Some k) (Some l) c e f (inl same) = record {
  part = x;
  at = ap (λ (d : Change). d.place) (sym same);
  was = e ∙ ap (λ (d : Change). Some d.before) same;
  is = f ∙ ap (λ (d : Change). Some d.after) same;
}
of_part p s b a x (Some k) (Some l) c e f (inr h) = absurd h

of_parts : (p s : ℕ) (b a : StreamValue) (xs : List StreamPart) (c : Change) → In (part_entries p s b a xs) c
    → IsOfStream p s b a c
of_parts p s b a [] c h = absurd h
of_parts p s b a (x ∷ xs) c h =
    let first = part_entry (place.Stream p s x) (part_content b x) (part_content a x) in
    elim (in_either first (part_entries p s b a xs) c h) [
      | inl k ↦ of_part p s b a x (part_content b x) (part_content a x) c refl refl k
      | inr k ↦ of_parts p s b a xs c k
    ]

pub of_stream : (p s : ℕ) (b a : StreamValue) (c : Change) → In (stream_entries p s b a) c → IsOfStream p s b a c
unfolding stream_entries
of_stream p s b a c h =
    let states = part_entries p s b a state_parts in
    let registers = part_entries p s b a (register_parts 32 0) in
    elim (in_either (states ++ registers) (part_entries p s b a (target_parts 8 0)) c h) [
      | inl k ↦ elim (in_either states registers c k) [
        | inl m ↦ of_parts p s b a state_parts c m
        | inr m ↦ of_parts p s b a (register_parts 32 0) c m
      ]
      | inr k ↦ of_parts p s b a (target_parts 8 0) c k
    ]

-- No two are of one part: their numbers rise.

-- the parts by number
abbrev part_number : StreamPart → ℕ
part_number part.Pc = 0
part_number part.Codes = 1
part_number part.Mask = 2
part_number part.InTrap = 3
part_number part.TrapRegister = 4
part_number part.Retries = 5
part_number part.Status = 6
part_number (part.Register r) = 7 + r
part_number (part.Target t) = 39 + t

abbrev place_number : Place → ℕ
place_number (place.Stream p s x) = part_number x
place_number (place.Current p) = 0
place_number (place.Reserved p) = 0
place_number (place.Value a) = 0
place_number (place.Tags a) = 0

-- the parts have the numbers from k on
abbrev AreNumbered : ℕ → List StreamPart → Type 0
AreNumbered k [] = ⊤
AreNumbered k (x ∷ xs) = (part_number x ≡ k) × AreNumbered (k + 1) xs

-- the entry is of a part with a number in this range
abbrev IsWithin : ℕ → ℕ → Change → Type 0
IsWithin low high c = (low ≤ place_number c.place) × (place_number c.place < high)

part_within : (p s : ℕ) (x : StreamPart) (o q : Option Content) (k : ℕ) (c : Change) → part_number x ≡ k
    → In (part_entry (place.Stream p s x) o q) c → place_number c.place ≡ k
part_within p s x None q k c e h = absurd h
part_within p s x (Some m) None k c e h = absurd h
part_within p s x (Some m) (Some n) k c e (inl same) = ap (λ (d : Change). place_number d.place) (sym same) ∙ e
part_within p s x (Some m) (Some n) k c e (inr h) = absurd h

part_apart : (p s : ℕ) (x : StreamPart) (o q : Option Content) → AreApart (part_entry (place.Stream p s x) o q)
part_apart p s x None q = tt
part_apart p s x (Some m) None = tt
part_apart p s x (Some m) (Some n) = (λ c h. absurd h, tt)

parts_within : (p s : ℕ) (b a : StreamValue) (xs : List StreamPart) (k : ℕ) (c : Change) → AreNumbered k xs
    → In (part_entries p s b a xs) c → IsWithin k (k + length xs) c
parts_within p s b a [] k c n h = absurd h
parts_within p s b a (x ∷ xs) k c n h =
    let first = part_entry (place.Stream p s x) (part_content b x) (part_content a x) in
    elim (in_either first (part_entries p s b a xs) c h) [
      | inl m ↦
          let e = part_within p s x (part_content b x) (part_content a x) k c n.0 m in
          (omega (arith, e), omega (arith, e))
      | inr m ↦
          let r = parts_within p s b a xs (k + 1) c n.1 m in
          (omega (arith, r.0), omega (arith, r.1))
    ]

distinct : (c d : Change) (k : ℕ) → place_number c.place < k → k ≤ place_number d.place → c.place ≢ d.place
distinct c d k below above e = let same = ap place_number e in absurd (omega (arith, same))

parts_apart : (p s : ℕ) (b a : StreamValue) (xs : List StreamPart) (k : ℕ) → AreNumbered k xs
    → AreApart (part_entries p s b a xs)
parts_apart p s b a [] k n = tt
parts_apart p s b a (x ∷ xs) k n =
    apart_join (part_entry (place.Stream p s x) (part_content b x) (part_content a x)) (part_entries p s b a xs)
    (part_apart p s x (part_content b x) (part_content a x)) (parts_apart p s b a xs (k + 1) n.1)
    (λ c d h m. distinct c d (k + 1)
    (omega (arith, part_within p s x (part_content b x) (part_content a x) k c n.0 h))
    (parts_within p s b a xs (k + 1) d n.1 m).0)

registers_numbered : (n r k : ℕ) → k ≡ 7 + r → AreNumbered k (register_parts n r)
unfolding register_parts
registers_numbered zero r k e = tt
registers_numbered (suc n) r k e = (sym e, registers_numbered n (r + 1) (k + 1) (omega (arith, e)))

targets_numbered : (n t k : ℕ) → k ≡ 39 + t → AreNumbered k (target_parts n t)
unfolding target_parts
targets_numbered zero t k e = tt
targets_numbered (suc n) t k e = (sym e, targets_numbered n (t + 1) (k + 1) (omega (arith, e)))

length-register_parts : (n r : ℕ) → length (register_parts n r) ≡ n
unfolding register_parts
length-register_parts zero r = refl
length-register_parts (suc n) r = ap suc (length-register_parts n (r + 1))

states_numbered : AreNumbered 0 state_parts
states_numbered = (refl, (refl, (refl, (refl, (refl, (refl, (refl, tt)))))))

pub stream_apart : (p s : ℕ) (b a : StreamValue) → AreApart (stream_entries p s b a)
unfolding stream_entries
stream_apart p s b a =
    let states = part_entries p s b a state_parts in
    let registers = part_entries p s b a (register_parts 32 0) in
    let targets = part_entries p s b a (target_parts 8 0) in
    let numbered = registers_numbered 32 0 7 refl in
    let few = length-register_parts 32 0 in
    let target_numbers = targets_numbered 8 0 39 refl in
    apart_join (states ++ registers) targets
    (apart_join states registers (parts_apart p s b a state_parts 0 states_numbered)
    (parts_apart p s b a (register_parts 32 0) 7 numbered)
    (λ c d h m. distinct c d 7 (parts_within p s b a state_parts 0 c states_numbered h).1
    (parts_within p s b a (register_parts 32 0) 7 d numbered m).0))
    (parts_apart p s b a (target_parts 8 0) 39 target_numbers)
    (λ c d h m. distinct c d 39
    (elim (in_either states registers c h) [
      | inl k ↦ let r = parts_within p s b a state_parts 0 c states_numbered k in omega (arith, r.1)
      | inr k ↦ let r = parts_within p s b a (register_parts 32 0) 7 c numbered k in omega (arith, r.1, few)
    ])
    (parts_within p s b a (target_parts 8 0) 39 d target_numbers m).0)

-- Each part has one, or holds nothing.

-- the part is one of the list
abbrev IsListed : List StreamPart → StreamPart → Type 0
IsListed [] x = ⊥
IsListed (y ∷ ys) x = (y ≡ x) ⊎ IsListed ys x

-- an entry of the part
abbrev pub HasEntry : List Change → Place → Type 0
HasEntry es x = (c : Change) × In es c × (c.place ≡ x)

part_has : (p s : ℕ) (x : StreamPart) (k l : Content) (o q : Option Content) → o ≡ Some k → q ≡ Some l
    → HasEntry (part_entry (place.Stream p s x) o q) (place.Stream p s x)
part_has p s x k l o q e f =
    let P : Option Content → Type 0 = λ y. HasEntry (part_entry (place.Stream p s x) y q) (place.Stream p s x) in
    let Q : Option Content → Type 0 = λ y. HasEntry (part_entry (place.Stream p s x) (Some k) y) (place.Stream p s x) in
    subst P (sym e) (subst Q (sym f) (entry (place.Stream p s x) k l, inl refl, refl))

parts_have : (p s : ℕ) (b a : StreamValue) (xs : List StreamPart) (x : StreamPart) (k l : Content) → IsListed xs x
    → part_content b x ≡ Some k → part_content a x ≡ Some l
    → HasEntry (part_entries p s b a xs) (place.Stream p s x)
parts_have p s b a [] x k l h e f = absurd h
parts_have p s b a (y ∷ ys) x k l (inl same) e f =
    let P : StreamPart → Type 0 = λ z. HasEntry (part_entries p s b a (z ∷ ys)) (place.Stream p s x) in
    let found = part_has p s x k l (part_content b x) (part_content a x) e f in
    subst P (sym same) (
      found.0,
      in_left (part_entry (place.Stream p s x) (part_content b x) (part_content a x)) (part_entries p s b a ys)
          found.0 found.1,
      found.2,
    )
parts_have p s b a (y ∷ ys) x k l (inr h) e f =
    let found = parts_have p s b a ys x k l h e f in (
      found.0,
      in_right (part_entry (place.Stream p s y) (part_content b y) (part_content a y)) (part_entries p s b a ys)
          found.0 found.1,
      found.2,
    )

register_listed : (n r k : ℕ) → r ≤ k → k < r + n → IsListed (register_parts n r) (part.Register k)
unfolding register_parts
register_listed zero r k above below = absurd (omega arith)
register_listed (suc n) r k above below =
    elim (cases_lt r k) [
      | inl more ↦ inr (register_listed n (r + 1) k (omega arith) (omega arith))
      | inr most ↦ let e : r ≡ k = omega arith in inl (ap part.Register e)
    ]

target_listed : (n t k : ℕ) → t ≤ k → k < t + n → IsListed (target_parts n t) (part.Target k)
unfolding target_parts
target_listed zero t k above below = absurd (omega arith)
target_listed (suc n) t k above below =
    elim (cases_lt t k) [
      | inl more ↦ inr (target_listed n (t + 1) k (omega arith) (omega arith))
      | inr most ↦ let e : t ≡ k = omega arith in inl (ap part.Target e)
    ]

-- the stream has an entry of the part, or the part holds the same before and after
abbrev pub IsPartCovered : ℕ → ℕ → StreamValue → StreamValue → StreamPart → Type 0
IsPartCovered p s b a x =
    HasEntry (stream_entries p s b a) (place.Stream p s x) ⊎ (part_content a x ≡ part_content b x)

pub has_left : (xs ys : List Change) (x : Place) → HasEntry xs x → HasEntry (xs ++ ys) x
has_left xs ys x h = (h.0, in_left xs ys h.0 h.1, h.2)

pub has_right : (xs ys : List Change) (x : Place) → HasEntry ys x → HasEntry (xs ++ ys) x
has_right xs ys x h = (h.0, in_right xs ys h.0 h.1, h.2)

state_has : (p s : ℕ) (b a : StreamValue) (x : StreamPart) (k l : Content) → IsListed state_parts x
    → part_content b x ≡ Some k → part_content a x ≡ Some l → IsPartCovered p s b a x
unfolding stream_entries
state_has p s b a x k l h e f =
    let states = part_entries p s b a state_parts in
    let registers = part_entries p s b a (register_parts 32 0) in
    let targets = part_entries p s b a (target_parts 8 0) in
    let at = place.Stream p s x in
    inl (has_left (states ++ registers) targets at
    (has_left states registers at (parts_have p s b a state_parts x k l h e f)))

pub register_there : (v : StreamValue) (r : ℕ) → r < 32
    → part_content v (part.Register r) ≡ Some (content.Number (register_at v.registers r))
register_there v r below = sym (cond_below r 32 (Some (content.Number (register_at v.registers r))) None below)

register_none : (v : StreamValue) (r : ℕ) → 32 ≤ r → part_content v (part.Register r) ≡ None
register_none v r above = sym (cond_above r 32 (Some (content.Number (register_at v.registers r))) None None above refl)

pub target_there : (v : StreamValue) (t : ℕ) → t < 8
    → part_content v (part.Target t) ≡ Some (content.Target (target_at v.targets t))
target_there v t below = sym (cond_below t 8 (Some (content.Target (target_at v.targets t))) None below)

target_none : (v : StreamValue) (t : ℕ) → 8 ≤ t → part_content v (part.Target t) ≡ None
target_none v t above = sym (cond_above t 8 (Some (content.Target (target_at v.targets t))) None None above refl)

register_covered : (p s : ℕ) (b a : StreamValue) (r : ℕ) → IsPartCovered p s b a (part.Register r)
unfolding stream_entries
register_covered p s b a r =
    let states = part_entries p s b a state_parts in
    let registers = part_entries p s b a (register_parts 32 0) in
    let targets = part_entries p s b a (target_parts 8 0) in
    let at = place.Stream p s (part.Register r) in
    elim (cases_lt r 32) [
      | inl below ↦
          inl (has_left (states ++ registers) targets at (has_right states registers at
          (parts_have p s b a (register_parts 32 0) (part.Register r) _ _
          (register_listed 32 0 r (omega arith) (omega arith))
          (register_there b r below) (register_there a r below))))
      | inr above ↦ inr (register_none a r above ∙ sym (register_none b r above))
    ]

target_covered : (p s : ℕ) (b a : StreamValue) (t : ℕ) → IsPartCovered p s b a (part.Target t)
unfolding stream_entries
target_covered p s b a t =
    let states = part_entries p s b a state_parts in
    let registers = part_entries p s b a (register_parts 32 0) in
    let targets = part_entries p s b a (target_parts 8 0) in
    let at = place.Stream p s (part.Target t) in
    elim (cases_lt t 8) [
      | inl below ↦
          inl (has_right (states ++ registers) targets at
          (parts_have p s b a (target_parts 8 0) (part.Target t) _ _
          (target_listed 8 0 t (omega arith) (omega arith))
          (target_there b t below) (target_there a t below)))
      | inr above ↦ inr (target_none a t above ∙ sym (target_none b t above))
    ]

pub part_covered : (p s : ℕ) (b a : StreamValue) (x : StreamPart) → IsPartCovered p s b a x
part_covered p s b a part.Pc = state_has p s b a part.Pc _ _ (inl refl) refl refl
part_covered p s b a part.Codes = state_has p s b a part.Codes _ _ (inr (inl refl)) refl refl
part_covered p s b a part.Mask = state_has p s b a part.Mask _ _ (inr (inr (inl refl))) refl refl
part_covered p s b a part.InTrap = state_has p s b a part.InTrap _ _ (inr (inr (inr (inl refl)))) refl refl
part_covered p s b a part.TrapRegister =
    state_has p s b a part.TrapRegister _ _ (inr (inr (inr (inr (inl refl))))) refl refl
part_covered p s b a part.Retries =
    state_has p s b a part.Retries _ _ (inr (inr (inr (inr (inr (inl refl)))))) refl refl
part_covered p s b a part.Status =
    state_has p s b a part.Status _ _ (inr (inr (inr (inr (inr (inr (inl refl))))))) refl refl
part_covered p s b a (part.Register r) = register_covered p s b a r
part_covered p s b a (part.Target t) = target_covered p s b a t
