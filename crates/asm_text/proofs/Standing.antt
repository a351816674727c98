-- One line more among the labels.
use Rattle.std.proofs.Common.{◌≡◌, ℕ, ◌+◌, ◌≤◌, Bool, true, false, cond, List, [], ◌∷◌, Option, Some, None}
use Rattle.std.proofs.Common.{refl, sym, ◌∙◌, ap, arith, unwrap_or}
use Rattle.std.specs.Option.{option_map, option_or}
use Rattle.asm_line.specs.Lines.{Line, place, stands, word_count, count_words, is_word}
use Rattle.insn_word.specs.declared.profiles.Profile.{Profile}
use Rattle.insn_word.specs.declared.profiles.Profile.TheVariants.{One}
use Rattle.asm_line.specs.Profiles.{profile_of, profile_named}
use Rattle.asm_line.specs.Labels.{place_told}
use Rattle.asm_line.specs.declared.place.Place.{Place}

-- a place seen from k lines and w words before
abbrev pub moved : ℕ → ℕ → Option Place → Option Place
moved k w None = None
moved k w (Some p) = Some (record { line = k + p.line; value = w + p.value })

same_place : (a b c d : ℕ) → a ≡ b → c ≡ d
    → ◌≡◌ {A = Option Place} (Some (record { line = a; value = c })) (Some (record { line = b; value = d }))
same_place a b c d e f = λ i. Some (record { line = e i; value = f i })

one_line : (before : Option Place) (here : Bool) (after : Option Place) (k w c : ℕ)
    → option_or (option_or before (cond here (Some (record { line = k; value = w })) None))
    (moved (k + 1) (w + c) after)
    ≡ option_or before (moved k w (cond here (Some (record { line = 0; value = 0 }))
    (option_map (λ (p : Place). record { line = p.line + 1; value = p.value + c }) after)))
one_line (Some p) true after k w c = refl
one_line (Some p) false after k w c = refl
one_line None true after k w c = same_place k (k + 0) w (w + 0) (omega arith) (omega arith)
one_line None false None k w c = refl
one_line None false (Some p) k w c =
    same_place (k + 1 + p.line) (k + (p.line + 1)) (w + c + p.value) (w + (p.value + c)) (omega arith) (omega arith)

place-at : (l : Line) (ls : List Line) (name : List ℕ)
    → place (l ∷ ls) name
    ≡ cond (stands name l.label) (Some (record { line = 0; value = 0 }))
    (option_map (λ (p : Place). record { line = p.line + 1; value = p.value + word_count l }) (place ls name))
unfolding place
place-at l ls name = refl

-- what stands before a line, on it and behind it
pub labels_taken : (name : List ℕ) (l : Line) (ls these all : List Line) (before now : Option Place) (k w v : ℕ)
    → these ≡ l ∷ ls → v ≡ w + word_count l
    → now ≡ option_or before (place_told name l.label (record { line = k; value = w }))
    → option_or before (moved k w (place these name)) ≡ place all name
    → option_or now (moved (k + 1) v (place ls name)) ≡ place all name
labels_taken name l ls these all before now k w v first count is whole =
    ap (λ n. option_or now (moved (k + 1) n (place ls name))) count
    ∙ ap (λ p. option_or p (moved (k + 1) (w + word_count l) (place ls name))) is
    ∙ one_line before (stands name l.label) (place ls name) k w (word_count l)
    ∙ ap (λ p. option_or before (moved k w p)) (sym (place-at l ls name))
    ∙ ap (λ xs. option_or before (moved k w (place xs name))) (sym first)
    ∙ whole

or_none : (before : Option Place) → option_or before None ≡ before
or_none (Some p) = refl
or_none None = refl

none_left : (name : List ℕ) → place [] name ≡ None
unfolding place
none_left name = refl

-- with no line left
pub labels_end : (name : List ℕ) (these all : List Line) (before : Option Place) (k w : ℕ) → these ≡ []
    → option_or before (moved k w (place these name)) ≡ place all name → before ≡ place all name
labels_end name these all before k w none whole =
    sym (or_none before) ∙ ap (λ p. option_or before (moved k w p)) (sym (none_left name))
    ∙ ap (λ xs. option_or before (moved k w (place xs name))) (sym none) ∙ whole

moved_not : (o : Option Place) → option_or None (moved 0 0 o) ≡ o
moved_not None = refl
moved_not (Some p) = same_place (0 + p.line) p.line (0 + p.value) p.value (omega arith) (omega arith)

-- before the first line
pub labels_begin : (name : List ℕ) (all : List Line) (before : Option Place) → before ≡ None
    → option_or before (moved 0 0 (place all name)) ≡ place all name
labels_begin name all before is = ap (λ p. option_or p (moved 0 0 (place all name))) is ∙ moved_not (place all name)

pub words_taken : (l : Line) (ls these all : List Line) (w v : ℕ) → these ≡ l ∷ ls → v ≡ w + word_count l
    → w + count_words these ≡ count_words all → v + count_words ls ≡ count_words all
words_taken l ls these all w v first count whole = omega (arith, ap count_words first)

pub one_word : (l : Line) (w v : ℕ) (counts : Bool) → counts ≡ is_word l.statement
    → v ≡ w + cond counts 1 0 → v ≡ w + word_count l
one_word l w v counts is e = e ∙ ap (λ b. w + cond b 1 0) is

pub few_more : (b : Bool) → cond b 1 0 ≤ 1
few_more true = omega arith
few_more false = omega arith

pub then_one : (b : Bool) (w v : ℕ) → b ≡ true → v ≡ w + 1 → v ≡ w + cond b 1 0
then_one b w v e f = f ∙ ap (λ t. w + cond t 1 0) (sym e)

pub else_none : (b : Bool) (w v : ℕ) → b ≡ false → v ≡ w → v ≡ w + cond b 1 0
else_none b w v e f = let none : v ≡ w + 0 = omega arith in none ∙ ap (λ t. w + cond t 1 0) (sym e)

-- The profile.

or_rest : (before told : Option Profile) (rest : Profile)
    → unwrap_or (option_or before told) rest ≡ unwrap_or before (unwrap_or told rest)
or_rest None told rest = refl
or_rest (Some p) told rest = refl

pub profile_taken : (l : Line) (ls these all : List Line) (before now : Option Profile) → these ≡ l ∷ ls
    → now ≡ option_or before (profile_named l) → unwrap_or before (profile_of these) ≡ profile_of all
    → unwrap_or now (profile_of ls) ≡ profile_of all
profile_taken l ls these all before now first is whole =
    ap (λ o. unwrap_or o (profile_of ls)) is ∙ or_rest before (profile_named l) (profile_of ls)
    ∙ ap (λ xs. unwrap_or before (profile_of xs)) (sym first) ∙ whole

pub profile_end : (these all : List Line) (before : Option Profile) → these ≡ []
    → unwrap_or before (profile_of these) ≡ profile_of all → unwrap_or before One ≡ profile_of all
profile_end these all before none whole =
    ap (λ xs. unwrap_or before (profile_of xs)) (sym none) ∙ whole
