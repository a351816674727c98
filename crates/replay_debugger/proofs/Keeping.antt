-- Kept machines: which is the nearest, and some taken away.
use Rattle.std.proofs.Common.{◌≡◌, ℕ, zero, suc, ◌+◌, ◌-◌, ◌<◌, ◌≤◌, ◌%◌, refl, sym, ap, ◌∙◌, arith, subst}
use Rattle.std.proofs.Common.{List, [], ◌∷◌, length, get_or, Option, Some, None, IfSome, IfNone, inl, inr}
use Rattle.std.specs.List.{All, swap_remove}
use Rattle.std.proofs.lemmas.Bool.{cases_lt}
use Rattle.std.proofs.lemmas.List.Elements.{All-take, All-set, All-get_or}
use Rattle.replay_debugger.specs.declared.replay.Replay.{Replay}
use Rattle.replay_debugger.specs.Places.{CheckpointsValue}
use Rattle.replay_debugger.specs.Checkpoints.{IsCheckpoint, IsNearest, NoneNear}

-- The nearest.

-- the places before i have been looked at, and the nearest of them, if there is one, stands at least
pub record IsLooked {size : ℕ} (kept : List (Replay size)) (first goal i least : ℕ) (nearest : Option ℕ)
    : Type 0 where
  pub from : first ≤ least
  pub passed : (k : ℕ) (d : Replay size) → k < i → (get_or kept k d).position ≤ goal
      → (get_or kept k d).position ≤ least
  pub there : IfSome nearest (λ place. place < length kept)
  pub at : IfSome nearest (λ place. (d : Replay size) → (get_or kept place d).position ≡ least)
  pub within : IfSome nearest (λ place. least ≤ goal)
  pub none : IfNone nearest ((k : ℕ) (d : Replay size) → k < i → (get_or kept k d).position ≤ goal
      → (get_or kept k d).position < first)
  pub still : IfNone nearest (least ≡ first)

any_default : {A : Type 0} (xs : List A) (i : ℕ) (d e : A) → i < length xs → get_or xs i d ≡ get_or xs i e
any_default [] i d e below = absurd (omega arith)
any_default (x ∷ xs) zero d e below = refl
any_default (x ∷ xs) (suc i) d e below = any_default xs i d e (omega arith)

position_is : {size : ℕ} (kept : List (Replay size)) (i : ℕ) (x d : Replay size) → i < length kept
    → x ≡ get_or kept i x → (get_or kept i d).position ≡ x.position
position_is {size} kept i x d below is = ap (λ (r : Replay size). r.position) (any_default kept i d x below ∙ sym is)

-- the place i is nearer
pub nearer : {size : ℕ} (kept : List (Replay size)) (first goal i least : ℕ) (nearest : Option ℕ) (x : Replay size)
    → IsLooked kept first goal i least nearest → i < length kept → x ≡ get_or kept i x → least ≤ x.position
    → x.position ≤ goal → IsLooked kept first goal (i + 1) x.position (Some i)
nearer {size} kept first goal i least nearest x looked below is above under =
    let from = looked.from in
    record {
      from = omega (arith, from, above);
      passed = λ k d before within. elim (cases_lt k i) [
        | inl sooner ↦ let past = looked.passed k d sooner within in omega (arith, past, above)
        | inr later ↦
            let same : k ≡ i = omega (arith, before, later) in
            let at : (get_or kept k d).position ≡ x.position =
            ap (λ n. (get_or kept n d).position) same ∙ position_is kept i x d below is in
            omega (arith, at)
      ];
      there = below;
      at = λ d. position_is kept i x d below is;
      within = under;
      none = tt;
      still = tt;
    }

-- the place i is no nearer
pub no_nearer : {size : ℕ} (kept : List (Replay size)) (first goal i least : ℕ) (nearest : Option ℕ)
    (x : Replay size) → IsLooked kept first goal i least nearest → i < length kept → x ≡ get_or kept i x
    → (x.position ≤ goal → x.position < least) → IsLooked kept first goal (i + 1) least nearest
no_nearer {size} kept first goal i least None x looked below is far =
    let at_place : (k : ℕ) (d : Replay size) → k < i + 1 → i ≤ k → (get_or kept k d).position ≡ x.position =
    λ k d before later. let same : k ≡ i = omega (arith, before, later) in
    ap (λ n. (get_or kept n d).position) same ∙ position_is kept i x d below is in
    record {
      from = looked.from;
      passed = λ k d before within. elim (cases_lt k i) [
        | inl sooner ↦ looked.passed k d sooner within
        | inr later ↦
            let at = at_place k d before later in
            let close = far (omega (arith, at, within)) in
            omega (arith, at, close)
      ];
      there = tt;
      at = tt;
      within = tt;
      none = λ k d before within. elim (cases_lt k i) [
        | inl sooner ↦ looked.none k d sooner within
        | inr later ↦
            let at = at_place k d before later in
            let close = far (omega (arith, at, within)) in
            let still = looked.still in
            omega (arith, at, close, still)
      ];
      still = looked.still;
    }
no_nearer {size} kept first goal i least (Some place) x looked below is far =
    record {
      from = looked.from;
      passed = λ k d before within. elim (cases_lt k i) [
        | inl sooner ↦ looked.passed k d sooner within
        | inr later ↦
            let same : k ≡ i = omega (arith, before, later) in
            let at : (get_or kept k d).position ≡ x.position =
            ap (λ n. (get_or kept n d).position) same ∙ position_is kept i x d below is in
            let close = far (omega (arith, at, within)) in
            omega (arith, at, close)
      ];
      there = looked.there;
      at = looked.at;
      within = looked.within;
      none = tt;
      still = tt;
    }

pub looked_same : {size : ℕ} (kept : List (Replay size)) (first goal i least now : ℕ) (nearest is : Option ℕ)
    → IsLooked kept first goal i least nearest → now ≡ least → is ≡ nearest → IsLooked kept first goal i now is
looked_same {size} kept first goal i least now nearest is looked e f =
    subst (λ (n : ℕ). IsLooked kept first goal i n is) (sym e)
    (subst (λ (x : Option ℕ). IsLooked kept first goal i least x) (sym f) looked)

-- all places have been looked at
pub nearest_found : {size : ℕ} (kept : List (Replay size)) (first goal i least : ℕ) (nearest : Option ℕ)
    → IsLooked kept first goal i least nearest → length kept ≤ i
    → IfSome nearest (λ place. (d : Replay size) → IsNearest first goal kept (get_or kept place d))
nearest_found {size} kept first goal i least None looked all = tt
nearest_found {size} kept first goal i least (Some place) looked all = λ d.
    let at = looked.at d in
    let from = looked.from in
    let within = looked.within in
    record {
      from = omega (arith, at, from);
      within = omega (arith, at, within);
      greatest = λ k e below near.
          let past = looked.passed k e (omega (arith, below, all)) near in omega (arith, at, past);
    }

pub none_near : {size : ℕ} (kept : List (Replay size)) (first goal i least : ℕ) (nearest : Option ℕ)
    → IsLooked kept first goal i least nearest → length kept ≤ i → IfNone nearest (NoneNear first goal kept)
none_near {size} kept first goal i least None looked all = λ k d below near.
    looked.none k d (omega (arith, below, all)) near
none_near {size} kept first goal i least (Some place) looked all = tt

-- Some taken away.

pub all_without : {size : ℕ} (P : Replay size → Type 0) (old new : List (Replay size)) (i : ℕ) (d : Replay size)
    → i < length old → new ≡ swap_remove old i d → All P old → All P new
all_without {size} P old new i d below is all =
    let last = get_or old (length old - 1) d in
    let among : P last = All-get_or P old (length old - 1) d (omega (arith, below)) all in
    subst (All P) (sym is) (All-take P (length old - 1) _ (All-set P old i last among all))

-- kept machines at multiples of another spacing
pub spaced_again : {size : ℕ} (course : CheckpointsValue) (old spacing : ℕ) (kept : List (Replay size))
    → All (IsCheckpoint course old) kept
    → ((k : ℕ) (d : Replay size) → k < length kept → (get_or kept k d).position % spacing ≡ 0)
    → All (IsCheckpoint course spacing) kept
spaced_again {size} course old spacing kept all multiples k d below =
    let is = all k d below in
    record { is_on = is.is_on; behind_start = is.behind_start; spaced = multiples k d below }
