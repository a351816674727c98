-- The next stop, and the last one of a run at its beginning.
use Rattle.std.proofs.Common.{◌≡◌, ℕ, ◌+◌, ◌<◌, ◌≤◌, Bool, true, false, sym, ap, ◌∙◌, arith, subst}
use Rattle.std.proofs.Common.{Option, Some, None}
use Rattle.replay_debugger.specs.Stops.{NoneAbove}
use Rattle.replay_debugger.specs.StopFinders.{IsRunToStop, IsLastInRun, IsGreatestInRun, NoneInRun}

-- the number behind k stops
pub run_found : (test : ℕ → Bool) (low high k n : ℕ) → low ≤ k → k < high → n ≡ k + 1 → NoneAbove test low k
    → test n ≡ true → IsRunToStop test low high n true
run_found test low high k n from below next none stops = record {
  stop = λ e. record {
    above = omega (arith, next);
    within = omega (arith, next);
    passes = stops;
    least = λ j above under. none j above (omega (arith, next, under));
  };
  end = λ e. cc;
}

-- what is seen of the first number alone
pub first_seen : (test : ℕ → Bool) (k : ℕ) (last : Option ℕ) → k ≡ 0 → test k ≡ true → last ≡ Some 0
    → IsLastInRun test k k last
first_seen test k last first stops e =
    let at : IsGreatestInRun test k k k = record {
      seen = omega (arith, first);
      within = omega arith;
      passes = stops;
      greatest = λ j above within. absurd (omega (arith, above, within));
    } in
    subst (IsLastInRun test k k) (ap (λ n. Some n) first ∙ sym e) at

pub none_first : (test : ℕ → Bool) (k : ℕ) (last : Option ℕ) → test k ≡ false → last ≡ None
    → IsLastInRun test k k last
none_first test k last fails e =
    let none : NoneInRun test k k = λ j seen within. let same : j ≡ k = omega (arith, seen, within) in
    ap test same ∙ fails in
    subst (IsLastInRun test k k) (sym e) none

-- of a later number alone nothing is seen
pub none_yet : (test : ℕ → Bool) (k : ℕ) (last : Option ℕ) → 0 < k → last ≡ None → IsLastInRun test k k last
none_yet test k last later e =
    let none : NoneInRun test k k = λ j seen within. absurd (omega (arith, later, seen, within)) in
    subst (IsLastInRun test k k) (sym e) none
