-- The places of an image: which are among them, and that none is there twice.
use Rattle.std.proofs.Common.{◌≡◌, ◌≢◌, ℕ, zero, suc, ◌+◌, ◌*◌, ◌/◌, ◌<◌, ◌≤◌, ◌⊎◌, inl, inr, refl, sym, ap, ◌∙◌}
use Rattle.std.proofs.Common.{subst, arith, List, [], ◌∷◌, ◌++◌, length}
use Rattle.std.specs.Prelude.{⊤}
use Rattle.std.proofs.lemmas.Bool.{cases_lt}
use Rattle.image_file.specs.ImageValue.{ImageValue}
use Rattle.step_views.specs.declared.places.StreamPart.{StreamPart}
use Rattle.step_views.specs.declared.places.StreamPart.TheVariants as part
use Rattle.step_views.specs.declared.places.Place.{Place}
use Rattle.step_views.specs.declared.places.Place.TheVariants as place
use Rattle.whole_runs.specs.PlaceLists.{each, state_places, register_place, target_place, stream_places}
use Rattle.whole_runs.specs.PlaceLists.{processor_places, word_places, places_of}

-- Among a list.

abbrev pub IsAmong : List Place → Place → Type 0
IsAmong [] x = ⊥
IsAmong (y ∷ ys) x = (y ≡ x) ⊎ IsAmong ys x

pub among_left : (xs ys : List Place) (x : Place) → IsAmong xs x → IsAmong (xs ++ ys) x
among_left [] ys x h = absurd h
among_left (z ∷ xs) ys x (inl e) = inl e
among_left (z ∷ xs) ys x (inr h) = inr (among_left xs ys x h)

pub among_right : (xs ys : List Place) (x : Place) → IsAmong ys x → IsAmong (xs ++ ys) x
among_right [] ys x h = h
among_right (z ∷ xs) ys x h = inr (among_right xs ys x h)

later : (z x : Place) (xs ys : List Place) → IsAmong xs x ⊎ IsAmong ys x → IsAmong (z ∷ xs) x ⊎ IsAmong ys x
later z x xs ys (inl h) = inl (inr h)
later z x xs ys (inr h) = inr h

among_either : (xs ys : List Place) (x : Place) → IsAmong (xs ++ ys) x → IsAmong xs x ⊎ IsAmong ys x
among_either [] ys x h = inr h
among_either (z ∷ xs) ys x (inl e) = inl (inl e)
among_either (z ∷ xs) ys x (inr h) = later z x xs ys (among_either xs ys x h)

among_one : (y x : Place) → IsAmong (y ∷ []) x → y ≡ x
among_one y x (inl e) = e
among_one y x (inr h) = absurd h

-- Of each number.

pub among_each : (f : ℕ → List Place) (n k j : ℕ) (x : Place) → k ≤ j → j < k + n → IsAmong (f j) x
    → IsAmong (each n k f) x
unfolding each
among_each f zero k j x above below h = absurd (omega arith)
among_each f (suc n) k j x above below h =
    elim (cases_lt k j) [
      | inl more ↦
          among_right (f k) (each n (k + 1) f) x (among_each f n (k + 1) j x (omega arith) (omega arith) h)
      | inr most ↦
          let same : j ≡ k = omega arith in
          among_left (f k) (each n (k + 1) f) x (subst (λ i. IsAmong (f i) x) same h)
    ]

-- the number of which f has the place
record IsOf (f : ℕ → List Place) (k : ℕ) (x : Place) : Type 0 where
  pub number : ℕ
  pub above : k ≤ number
  pub among : IsAmong (f number) x

of_each : (f : ℕ → List Place) (n k : ℕ) (x : Place) → IsAmong (each n k f) x → IsOf f k x
unfolding each
of_each f zero k x h = absurd h
of_each f (suc n) k x h =
    elim (among_either (f k) (each n (k + 1) f) x h) [
      | inl a ↦ record { number = k; above = omega arith; among = a }
      | inr b ↦
          let r = of_each f n (k + 1) x b in
          let from : k + 1 ≤ r.number = r.above in
          record { number = r.number; above = omega (arith, from); among = r.among }
    ]

-- None twice.

abbrev pub AreOther : List Place → Type 0
AreOther [] = ⊤
AreOther (x ∷ xs) = ((y : Place) → IsAmong xs y → x ≢ y) × AreOther xs

other_join : (xs ys : List Place) → AreOther xs → AreOther ys
    → ((x y : Place) → IsAmong xs x → IsAmong ys y → x ≢ y) → AreOther (xs ++ ys)
other_join [] ys h k across = k
other_join (x ∷ xs) ys h k across = (
  λ y among. elim (among_either xs ys y among) [ inl a ↦ h.0 y a | inr b ↦ across x y (inl refl) b ],
  other_join xs ys h.1 k (λ z y a b. across z y (inr a) b),
)

-- the places of a number have it as their key
abbrev IsKey : (Place → ℕ) → (ℕ → List Place) → Type 0
IsKey key f = (j : ℕ) (x : Place) → IsAmong (f j) x → key x ≡ j

other_each : (key : Place → ℕ) (f : ℕ → List Place) → IsKey key f → ((j : ℕ) → AreOther (f j)) → (n k : ℕ)
    → AreOther (each n k f)
unfolding each
other_each key f keyed others zero k = tt
other_each key f keyed others (suc n) k =
    other_join (f k) (each n (k + 1) f) (others k) (other_each key f keyed others n (k + 1))
    (λ x y a b e.
    let r = of_each f n (k + 1) y b in
    let from : k + 1 ≤ r.number = r.above in
    let same : k ≡ r.number = sym (keyed k x a) ∙ ap key e ∙ keyed r.number y r.among in
    absurd (omega (arith, from, same)))

-- the places have the keys from k on
abbrev AreNumbered : (Place → ℕ) → ℕ → List Place → Type 0
AreNumbered key k [] = ⊤
AreNumbered key k (x ∷ xs) = (key x ≡ k) × AreNumbered key (k + 1) xs

abbrev IsWithin : (Place → ℕ) → ℕ → ℕ → Place → Type 0
IsWithin key low high x = (low ≤ key x) × (key x < high)

numbered_within : (key : Place → ℕ) (xs : List Place) (k : ℕ) (x : Place) → AreNumbered key k xs → IsAmong xs x
    → IsWithin key k (k + length xs) x
numbered_within key [] k x n h = absurd h
numbered_within key (y ∷ ys) k x n (inl e) =
    let at : key x ≡ k = ap key (sym e) ∙ n.0 in
    (omega (arith, at), omega (arith, at))
numbered_within key (y ∷ ys) k x n (inr h) =
    let r = numbered_within key ys (k + 1) x n.1 h in
    (omega (arith, r.0), omega (arith, r.1))

other_numbered : (key : Place → ℕ) (xs : List Place) (k : ℕ) → AreNumbered key k xs → AreOther xs
other_numbered key [] k n = tt
other_numbered key (x ∷ xs) k n = (
  λ y among e.
      let r = numbered_within key xs (k + 1) y n.1 among in
      let same : k ≡ key y = sym n.0 ∙ ap key e in
      absurd (omega (arith, r.0, same)),
  other_numbered key xs (k + 1) n.1,
)

-- The keys.

-- the kinds of parts
abbrev part_kind : StreamPart → ℕ
part_kind part.Pc = 0
part_kind part.Codes = 1
part_kind part.Mask = 2
part_kind part.InTrap = 3
part_kind part.TrapRegister = 4
part_kind part.Retries = 5
part_kind part.Status = 6
part_kind (part.Register r) = 7
part_kind (part.Target t) = 8

-- the kinds of places
abbrev kind_of : Place → ℕ
kind_of (place.Stream p s x) = part_kind x
kind_of (place.Current p) = 9
kind_of (place.Reserved p) = 10
kind_of (place.Value a) = 11
kind_of (place.Tags a) = 12

abbrev register_of : StreamPart → ℕ
register_of part.Pc = 0
register_of part.Codes = 0
register_of part.Mask = 0
register_of part.InTrap = 0
register_of part.TrapRegister = 0
register_of part.Retries = 0
register_of part.Status = 0
register_of (part.Register r) = r
register_of (part.Target t) = t

-- the number of a register, of a stream, of a processor and of a word

abbrev register_key : Place → ℕ
register_key (place.Stream p s x) = register_of x
register_key (place.Current p) = 0
register_key (place.Reserved p) = 0
register_key (place.Value a) = 0
register_key (place.Tags a) = 0

abbrev stream_key : Place → ℕ
stream_key (place.Stream p s x) = s
stream_key (place.Current p) = 0
stream_key (place.Reserved p) = 0
stream_key (place.Value a) = 0
stream_key (place.Tags a) = 0

abbrev processor_key : Place → ℕ
processor_key (place.Stream p s x) = p
processor_key (place.Current p) = p
processor_key (place.Reserved p) = p
processor_key (place.Value a) = 0
processor_key (place.Tags a) = 0

abbrev word_key : Place → ℕ
word_key (place.Stream p s x) = 0
word_key (place.Current p) = 0
word_key (place.Reserved p) = 0
word_key (place.Value a) = a / 8
word_key (place.Tags a) = a / 8

-- Of one key: what holds of a list holds of each place of it.

abbrev pub HaveKey : (Place → ℕ) → ℕ → List Place → Type 0
HaveKey key k xs = (x : Place) → IsAmong xs x → key x ≡ k

key_join : (key : Place → ℕ) (k : ℕ) (xs ys : List Place) → HaveKey key k xs → HaveKey key k ys
    → HaveKey key k (xs ++ ys)
key_join key k xs ys h g x among = elim (among_either xs ys x among) [ inl a ↦ h x a | inr b ↦ g x b ]

key_each : (key : Place → ℕ) (k : ℕ) (f : ℕ → List Place) → ((j : ℕ) → HaveKey key k (f j)) → (n i : ℕ)
    → HaveKey key k (each n i f)
key_each key k f h n i x among = let r = of_each f n i x among in h r.number x r.among

key_one : (key : Place → ℕ) (k : ℕ) (y : Place) → key y ≡ k → HaveKey key k (y ∷ [])
key_one key k y e x among = ap key (sym (among_one y x among)) ∙ e

key_more : (key : Place → ℕ) (k : ℕ) (y : Place) (ys : List Place) → key y ≡ k → HaveKey key k ys
    → HaveKey key k (y ∷ ys)
key_more key k y ys e h x (inl same) = ap key (sym same) ∙ e
key_more key k y ys e h x (inr among) = h x among

-- A stream.

states_key : (key : Place → ℕ) (k p s : ℕ) → ((x : StreamPart) → key (place.Stream p s x) ≡ k)
    → HaveKey key k (state_places p s)
states_key key k p s e x (inl same) = ap key (sym same) ∙ e part.Pc
states_key key k p s e x (inr (inl same)) = ap key (sym same) ∙ e part.Codes
states_key key k p s e x (inr (inr (inl same))) = ap key (sym same) ∙ e part.Mask
states_key key k p s e x (inr (inr (inr (inl same)))) = ap key (sym same) ∙ e part.InTrap
states_key key k p s e x (inr (inr (inr (inr (inl same))))) = ap key (sym same) ∙ e part.TrapRegister
states_key key k p s e x (inr (inr (inr (inr (inr (inl same)))))) = ap key (sym same) ∙ e part.Retries
states_key key k p s e x (inr (inr (inr (inr (inr (inr (inl same))))))) = ap key (sym same) ∙ e part.Status
states_key key k p s e x (inr (inr (inr (inr (inr (inr (inr none))))))) = absurd none

stream_has_key : (key : Place → ℕ) (k p s : ℕ) → ((x : StreamPart) → key (place.Stream p s x) ≡ k)
    → HaveKey key k (stream_places p s)
stream_has_key key k p s e =
    key_join key k (state_places p s ++ each 32 0 (register_place p s)) (each 8 0 (target_place p s))
    (key_join key k (state_places p s) (each 32 0 (register_place p s)) (states_key key k p s e)
    (key_each key k (register_place p s) (λ j. key_one key k (place.Stream p s (part.Register j)) (e (part.Register j))) 32 0))
    (key_each key k (target_place p s) (λ j. key_one key k (place.Stream p s (part.Target j)) (e (part.Target j))) 8 0)

registers_kind : (p s : ℕ) → HaveKey kind_of 7 (each 32 0 (register_place p s))
registers_kind p s = key_each kind_of 7 (register_place p s) (λ j. key_one kind_of 7 _ refl) 32 0

targets_kind : (p s : ℕ) → HaveKey kind_of 8 (each 8 0 (target_place p s))
targets_kind p s = key_each kind_of 8 (target_place p s) (λ j. key_one kind_of 8 _ refl) 8 0

states_numbered : (p s : ℕ) → AreNumbered kind_of 0 (state_places p s)
states_numbered p s = (refl, (refl, (refl, (refl, (refl, (refl, (refl, tt)))))))

one_other : (x : Place) → AreOther (x ∷ [])
one_other x = (λ y h. absurd h, tt)

stream_other : (p s : ℕ) → AreOther (stream_places p s)
stream_other p s =
    let states = state_places p s in
    let registers = each 32 0 (register_place p s) in
    let targets = each 8 0 (target_place p s) in
    other_join (states ++ registers) targets
    (other_join states registers (other_numbered kind_of states 0 (states_numbered p s))
    (other_each register_key (register_place p s) (λ j. key_one register_key j _ refl) (λ j. one_other _) 32 0)
    (λ x y a b e.
    let low = (numbered_within kind_of states 0 x (states_numbered p s) a).1 in
    let high = registers_kind p s y b in
    let same = ap kind_of e in
    absurd (omega (arith, low, high, same))))
    (other_each register_key (target_place p s) (λ j. key_one register_key j _ refl) (λ j. one_other _) 8 0)
    (λ x y a b e.
    let high = targets_kind p s y b in
    let same = ap kind_of e in
    elim (among_either states registers x a) [
      | inl k ↦
          let low = (numbered_within kind_of states 0 x (states_numbered p s) k).1 in
          absurd (omega (arith, low, high, same))
      | inr k ↦ let low = registers_kind p s x k in absurd (omega (arith, low, high, same))
    ])

-- the places of streams are of low kinds
stream_low : (p s : ℕ) (x : Place) → IsAmong (stream_places p s) x → kind_of x < 9
stream_low p s x among =
    let states = state_places p s in
    let registers = each 32 0 (register_place p s) in
    elim (among_either (states ++ registers) (each 8 0 (target_place p s)) x among) [
      | inl a ↦ elim (among_either states registers x a) [
        | inl k ↦
            let low = (numbered_within kind_of states 0 x (states_numbered p s) k).1 in omega (arith, low)
        | inr k ↦ let low = registers_kind p s x k in omega (arith, low)
      ]
      | inr b ↦ let low = targets_kind p s x b in omega (arith, low)
    ]

streams_low : (slim p : ℕ) (x : Place) → IsAmong (each slim 0 (stream_places p)) x → kind_of x < 9
streams_low slim p x among = let r = of_each (stream_places p) slim 0 x among in stream_low p r.number x r.among

-- A processor.

counts_numbered : (p : ℕ) → AreNumbered kind_of 9 (place.Current p ∷ place.Reserved p ∷ [])
counts_numbered p = (refl, (refl, tt))

processor_other : (slim p : ℕ) → AreOther (processor_places slim p)
processor_other slim p =
    let counts = place.Current p ∷ place.Reserved p ∷ [] in
    other_join counts (each slim 0 (stream_places p)) (other_numbered kind_of counts 9 (counts_numbered p))
    (other_each stream_key (stream_places p) (λ j. stream_has_key stream_key j p j (λ x. refl)) (stream_other p) slim 0)
    (λ x y a b e.
    let high = (numbered_within kind_of counts 9 x (counts_numbered p) a).0 in
    let low = streams_low slim p y b in
    let same = ap kind_of e in
    absurd (omega (arith, high, low, same)))

processor_has_key : (slim p : ℕ) → HaveKey processor_key p (processor_places slim p)
processor_has_key slim p =
    key_join processor_key p (place.Current p ∷ place.Reserved p ∷ []) (each slim 0 (stream_places p))
    (key_more processor_key p (place.Current p) (place.Reserved p ∷ []) refl
    (key_one processor_key p (place.Reserved p) refl))
    (key_each processor_key p (stream_places p) (λ j. stream_has_key processor_key p p j (λ x. refl)) slim 0)

processors_low : (n slim : ℕ) (x : Place) → IsAmong (each n 0 (processor_places slim)) x → kind_of x < 11
processors_low n slim x among =
    let r = of_each (processor_places slim) n 0 x among in
    let counts = place.Current r.number ∷ place.Reserved r.number ∷ [] in
    elim (among_either counts (each slim 0 (stream_places r.number)) x r.among) [
      | inl a ↦
          let low = (numbered_within kind_of counts 9 x (counts_numbered r.number) a).1 in omega (arith, low)
      | inr b ↦ let low = streams_low slim r.number x b in omega (arith, low)
    ]

-- Words.

word_numbered : (k : ℕ) → AreNumbered kind_of 11 (word_places k)
word_numbered k = (refl, (refl, tt))

word_has_key : (k : ℕ) → HaveKey word_key k (word_places k)
word_has_key k =
    let back : k * 8 / 8 ≡ k = omega arith in
    key_more word_key k (place.Value (k * 8)) (place.Tags (k * 8) ∷ []) back
    (key_one word_key k (place.Tags (k * 8)) back)

words_high : (n : ℕ) (x : Place) → IsAmong (each n 0 word_places) x → 11 ≤ kind_of x
words_high n x among =
    let r = of_each word_places n 0 x among in
    (numbered_within kind_of (word_places r.number) 11 x (word_numbered r.number) r.among).0

-- All.

pub places_other : (image : ImageValue) → AreOther (places_of image)
places_other image =
    let n = length image.entries in
    let many = length image.cells in
    other_join (each n 0 (processor_places image.slim)) (each many 0 word_places)
    (other_each processor_key (processor_places image.slim) (processor_has_key image.slim)
    (processor_other image.slim) n 0)
    (other_each word_key word_places word_has_key (λ k. other_numbered kind_of (word_places k) 11 (word_numbered k))
    many 0)
    (λ x y a b e.
    let low = processors_low n image.slim x a in
    let high = words_high many y b in
    let same = ap kind_of e in
    absurd (omega (arith, low, high, same)))
