-- Steps as runs: what a search finds, and what one more step leaves.
use Rattle.std.proofs.Common.{◌≡◌, ◌≢◌, ℕ, zero, suc, ◌+◌, ◌-◌, ◌<◌, ◌≤◌, true, false, leb, refl, sym, ◌∙◌}
use Rattle.std.proofs.Common.{ap, arith, subst, List, [], ◌∷◌, ◌++◌, length, replicate, get_or, slice_get, Some, None}
use Rattle.std.proofs.Common.{Option}
use Rattle.std.proofs.Common.{append_assoc, append-nil, length-append, leb-true, leb-false}
use Rattle.std.specs.List.{AllWithin}
use Rattle.std.proofs.lemmas.List.{length-replicate, get_or_append_left, get_or-replicate}
use Rattle.std.proofs.lemmas.List.Sorted.{IsPartitionedBy-leb}
use Rattle.std.proofs.lemmas.Option.{slice_get-get_or, slice_get_within, same_Some}
use Rattle.processor.specs.declared.recorded_steps.StreamRun.{StreamRun}
use Rattle.processor.specs.StreamRuns.{run_numbers, AreRunEnds, step_numbers, leading_stream, AreApart, AreStreamRuns, IsStreamRun}
use Rattle.processor.specs.Turns.{last_of}

-- ---- a list behind another

slice_get-append_right : (xs ys : List ℕ) (k : ℕ) → length xs ≤ k
    → slice_get (xs ++ ys) k ≡ slice_get ys (k - length xs)
slice_get-append_right [] ys k past = let same : k ≡ k - 0 = omega arith in ap (slice_get ys) same
slice_get-append_right (x ∷ xs) ys zero past = absurd (omega arith)
slice_get-append_right (x ∷ xs) ys (suc k) past =
    let same : k - length xs ≡ suc k - length (x ∷ xs) = omega arith in
    slice_get-append_right xs ys k (omega arith) ∙ ap (slice_get ys) same

slice_get-replicate : (n s k : ℕ) (rest : List ℕ) → k < n → slice_get (replicate n s ++ rest) k ≡ Some s
slice_get-replicate n s k rest h =
    let long = length-replicate n s in
    let within : k < length (replicate n s) = omega (arith, h, long) in
    let both = length-append (replicate n s) rest in
    let within_both : k < length (replicate n s ++ rest) = omega (arith, within, both) in
    slice_get-get_or (replicate n s ++ rest) k s within_both
    ∙ ap (λ x. Some x) (get_or_append_left (replicate n s) rest s k within ∙ get_or-replicate n k s s h)

slice_get-replicate_all : (n s k : ℕ) → k < n → slice_get (replicate n s) k ≡ Some s
slice_get-replicate_all n s k h =
    ap (λ xs. slice_get xs k) (sym (append-nil (replicate n s))) ∙ slice_get-replicate n s k [] h

-- ---- the ends rise

end_from : (rs : List StreamRun) (n j : ℕ) (d : StreamRun) → AreRunEnds n rs → j < length rs → n ≤ (get_or rs j d).end
end_from [] n j d ended h = absurd (omega arith)
end_from (r ∷ rs) n zero d ended h = let first : n < r.end = ended.0 in omega (arith, first)
end_from (r ∷ rs) n (suc j) d ended h =
    let first : n < r.end = ended.0 in
    omega (arith, first, end_from rs r.end j d ended.1 (omega arith))

ends_rise : (rs : List StreamRun) (n i j : ℕ) (d : StreamRun) → AreRunEnds n rs → i ≤ j → j < length rs
    → (get_or rs i d).end ≤ (get_or rs j d).end
ends_rise [] n i j d ended order h = absurd (omega arith)
ends_rise (r ∷ rs) n zero zero d ended order h = omega arith
ends_rise (r ∷ rs) n zero (suc j) d ended order h = end_from rs r.end j d ended.1 (omega arith)
ends_rise (r ∷ rs) n (suc i) zero d ended order h = absurd (omega arith)
ends_rise (r ∷ rs) n (suc i) (suc j) d ended order h = ends_rise rs r.end i j d ended.1 (omega arith) (omega arith)

-- what the search asks
pub ended_in_order : (rs : List StreamRun) (n i : ℕ) → AreRunEnds n rs
    → (j k : ℕ) (d : StreamRun) → j ≤ k → k < length rs
    → leb (get_or rs k d).end i ≡ true → leb (get_or rs j d).end i ≡ true
ended_in_order rs n i ended =
    IsPartitionedBy-leb (λ (r : StreamRun). r.end) rs i (λ j k d order h. ends_rise rs n j k d ended order h)

-- ---- the run that a search finds

-- the run of step i, in runs that begin behind n steps and after which one of stream s goes on for so many
pub record IsFound (rs : List StreamRun) (s count n i k : ℕ) (d : StreamRun) : Type 0 where
  pub there : k < length rs
  pub begins : i < (get_or rs k d).end
  pub within : (get_or rs k d).end ≤ n + length (run_numbers n rs)
  pub each : (j : ℕ) → i ≤ j → j < (get_or rs k d).end
      → slice_get (run_numbers n rs) (j - n) ≡ Some (get_or rs k d).stream
  pub furthest : slice_get (run_numbers n rs ++ replicate count s) ((get_or rs k d).end - n)
      ≢ Some (get_or rs k d).stream

-- the first step of some runs and of the one that goes on
first_step : (rs : List StreamRun) (n s count : ℕ) → AreRunEnds n rs → 0 < count
    → slice_get (run_numbers n rs ++ replicate count s) 0 ≡ Some (leading_stream rs s)
unfolding run_numbers
first_step [] n s count ended some = slice_get-replicate_all count s 0 some
first_step (r ∷ rs) n s count ended some =
    let first : n < r.end = ended.0 in
    ap (λ xs. slice_get xs 0) (append_assoc (replicate (r.end - n) r.stream) (run_numbers r.end rs) (replicate count s))
    ∙ slice_get-replicate (r.end - n) r.stream 0 (run_numbers r.end rs ++ replicate count s) (omega (arith, first))

-- behind the first run comes what comes behind it alone
behind_first : (r : StreamRun) (rs : List StreamRun) (n s count k : ℕ) → n < r.end → r.end ≤ k
    → slice_get (run_numbers n (r ∷ rs) ++ replicate count s) (k - n)
    ≡ slice_get (run_numbers r.end rs ++ replicate count s) (k - r.end)
unfolding run_numbers
behind_first r rs n s count k first past =
    let own = replicate (r.end - n) r.stream in
    let long : length own ≡ r.end - n = length-replicate (r.end - n) r.stream in
    let rest = run_numbers r.end rs ++ replicate count s in
    let far : length own ≤ k - n = omega (arith, long, first, past) in
    let same : k - n - length own ≡ k - r.end = omega (arith, long, first, past) in
    ap (λ xs. slice_get xs (k - n)) (append_assoc own (run_numbers r.end rs) (replicate count s))
    ∙ slice_get-append_right own rest (k - n) far
    ∙ ap (slice_get rest) same

-- behind the runs that are over by step i, and before those that are not, is the run of step i
pub found : (rs : List StreamRun) (s count n i k : ℕ) (d : StreamRun) → AreRunEnds n rs → AreApart rs s → 0 < count → n ≤ i
    → i < n + length (run_numbers n rs)
    → AllWithin (λ (r : StreamRun). leb r.end i ≡ true) rs 0 k
    → AllWithin (λ (r : StreamRun). leb r.end i ≡ false) rs k (length rs)
    → IsFound rs s count n i k d
unfolding run_numbers
found [] s count n i k d ended apart some from below over_by ends_later = absurd (omega arith)
found (r ∷ rs) s count n i zero d ended apart some from below over_by ends_later =
    let first : n < r.end = ended.0 in
    let long = length-append (replicate (r.end - n) r.stream) (run_numbers r.end rs) in
    let own = length-replicate (r.end - n) r.stream in
    let same : r.end - r.end ≡ 0 = omega arith in
    let next : slice_get (run_numbers n (r ∷ rs) ++ replicate count s) (r.end - n) ≡ Some (leading_stream rs s) =
    behind_first r rs n s count r.end first (omega arith)
    ∙ ap (slice_get (run_numbers r.end rs ++ replicate count s)) same
    ∙ first_step rs r.end s count ended.1 some in record {
      there = omega arith;
      begins = leb-false _ _ (ends_later 0 d (omega arith) (omega arith));
      within = omega (arith, long, own, first);
      each = λ j up to.
          slice_get-replicate (r.end - n) r.stream (j - n) (run_numbers r.end rs) (omega (arith, up, to, from));
      furthest = λ e. apart.0 (same_Some _ _ (sym next ∙ e));
    }
found (r ∷ rs) s count n i (suc k) d ended apart some from below over_by ends_later =
    let first : n < r.end = ended.0 in
    let long = length-append (replicate (r.end - n) r.stream) (run_numbers r.end rs) in
    let own = length-replicate (r.end - n) r.stream in
    let over : r.end ≤ i = leb-true _ _ (over_by 0 d (omega arith) (omega arith)) in
    let rest : IsFound rs s count r.end i k d =
    found rs s count r.end i k d ended.1 apart.1 some over (omega (arith, below, long, own, first))
    (λ j e low high. over_by (suc j) e (omega arith) (omega arith))
    (λ j e low high. ends_later (suc j) e (omega arith) (omega arith)) in record {
      there = omega (arith, rest.there);
      begins = rest.begins;
      within = omega (arith, rest.within, long, own, first);
      each = λ j up to.
          let past : length (replicate (r.end - n) r.stream) ≤ j - n = omega (arith, up, over, own, first) in
          let same : j - n - length (replicate (r.end - n) r.stream) ≡ j - r.end = omega (arith, own, first, up, over) in
          slice_get-append_right (replicate (r.end - n) r.stream) (run_numbers r.end rs) (j - n) past
          ∙ ap (slice_get (run_numbers r.end rs)) same
          ∙ rest.each j up to;
      furthest = λ e.
          let late : r.end ≤ (get_or rs k d).end = omega (arith, over, rest.begins) in
          rest.furthest (sym (behind_first r rs n s count (get_or rs k d).end first late) ∙ e);
    }

slice_get-append_left : (xs ys : List ℕ) (k s : ℕ) → k < length xs → slice_get xs k ≡ Some s
    → slice_get (xs ++ ys) k ≡ Some s
slice_get-append_left xs ys k s within is =
    let within_both : k < length (xs ++ ys) = omega (arith, within, length-append xs ys) in
    slice_get-get_or (xs ++ ys) k s within_both
    ∙ ap (λ x. Some x) (get_or_append_left xs ys s k within)
    ∙ sym (slice_get-get_or xs k s within)
    ∙ is

-- so the steps from i up to its end are of its stream
pub run_over : (rs : List StreamRun) (before s count i k : ℕ) (d : StreamRun) → AreStreamRuns rs before s count → i < before
    → IsFound rs s count 0 i k d → IsStreamRun (step_numbers rs s count) i (get_or rs k d).stream (get_or rs k d).end
run_over rs before s count i k d are h is =
    let long = length-append (run_numbers 0 rs) (replicate count s) in record {
      begins = is.begins;
      within = omega (arith, is.within, long);
      each = λ j up to.
          let same : j - 0 ≡ j = omega arith in
          slice_get-append_left (run_numbers 0 rs) (replicate count s) j (get_or rs k d).stream
          (omega (arith, to, is.within))
          (ap (slice_get (run_numbers 0 rs)) (sym same) ∙ is.each j up to);
      furthest = λ e.
          let same : (get_or rs k d).end - 0 ≡ (get_or rs k d).end = omega arith in
          is.furthest (ap (slice_get (step_numbers rs s count)) same ∙ e);
    }

pub length-step_numbers : (rs : List StreamRun) (before s count : ℕ) → AreStreamRuns rs before s count
    → length (step_numbers rs s count) ≡ before + count
length-step_numbers rs before s count are =
    omega (arith, length-append (run_numbers 0 rs) (replicate count s), length-replicate count s, are.length)

-- past the last step there is none
slice_get-past : (xs : List ℕ) (k s : ℕ) → length xs ≤ k → slice_get xs k ≢ Some s
slice_get-past xs k s past e = absurd (omega (arith, past, slice_get_within xs k s e))

-- and those of the run that goes on
pub run_going_on : (rs : List StreamRun) (before s count i : ℕ) → AreStreamRuns rs before s count → before ≤ i
    → i < before + count → IsStreamRun (step_numbers rs s count) i s (before + count)
run_going_on rs before s count i are from below = record {
  begins = below;
  within = omega (arith, length-step_numbers rs before s count are);
  each = λ j up to.
      let past : length (run_numbers 0 rs) ≤ j = omega (arith, up, from, are.length) in
      slice_get-append_right (run_numbers 0 rs) (replicate count s) j past
      ∙ slice_get-replicate_all count s (j - length (run_numbers 0 rs)) (omega (arith, to, past, are.length));
  furthest = slice_get-past (step_numbers rs s count) (before + count) s
      (omega (arith, length-step_numbers rs before s count are));
}

-- some step is not over: the run that goes on has one
pub goes_on : (rs : List StreamRun) (before s count i : ℕ) → AreStreamRuns rs before s count → i < before → 0 < count
unfolding run_numbers
goes_on rs before s zero i are h =
    let none : length (run_numbers 0 rs) ≡ 0 = ap (λ xs. length (run_numbers 0 xs)) (are.first refl) in
    absurd (omega (arith, none, are.length, h))
goes_on rs before s (suc count) i are h = omega arith

-- ---- the last step

pub last_of-none : (rs : List StreamRun) (before s : ℕ) → AreStreamRuns rs before s 0 → None ≡ last_of (step_numbers rs s 0)
unfolding run_numbers
last_of-none rs before s are = sym (ap (λ xs. last_of (step_numbers xs s 0)) (are.first refl))

pub last_of-some : (rs : List StreamRun) (before s count : ℕ) → AreStreamRuns rs before s count → 0 < count
    → Some s ≡ last_of (step_numbers rs s count)
last_of-some rs before s count are some =
    let long = length-step_numbers rs before s count are in
    let last = length (step_numbers rs s count) - 1 in
    let past : length (run_numbers 0 rs) ≤ last = omega (arith, long, some, are.length) in
    sym (slice_get-append_right (run_numbers 0 rs) (replicate count s) last past
    ∙ slice_get-replicate_all count s (last - length (run_numbers 0 rs)) (omega (arith, long, some, are.length)))

-- ---- one more run

run_numbers-push : (rs : List StreamRun) (n m : ℕ) (r : StreamRun) → n + length (run_numbers n rs) ≡ m → AreRunEnds n rs
    → run_numbers n (rs ++ r ∷ []) ≡ run_numbers n rs ++ replicate (r.end - m) r.stream
unfolding run_numbers
run_numbers-push [] n m r here ended =
    let same : n ≡ m = omega (arith, here) in
    append-nil (replicate (r.end - n) r.stream) ∙ ap (λ k. replicate (r.end - k) r.stream) same
run_numbers-push (q ∷ rs) n m r here ended =
    let own = replicate (q.end - n) q.stream in
    let first : n < q.end = ended.0 in
    let long = length-append own (run_numbers q.end rs) in
    let count = length-replicate (q.end - n) q.stream in
    ap (λ xs. own ++ xs) (run_numbers-push rs q.end m r (omega (arith, here, long, count, first)) ended.1)
    ∙ sym (append_assoc own (run_numbers q.end rs) (replicate (r.end - m) r.stream))

ended-push : (rs : List StreamRun) (n m : ℕ) (r : StreamRun)
    → AreRunEnds n rs → n + length (run_numbers n rs) ≡ m → m < r.end → AreRunEnds n (rs ++ r ∷ [])
unfolding run_numbers
ended-push [] n m r ended here ends = (omega (arith, here, ends), tt)
ended-push (q ∷ rs) n m r ended here ends =
    let long = length-append (replicate (q.end - n) q.stream) (run_numbers q.end rs) in
    let count = length-replicate (q.end - n) q.stream in
    let first : n < q.end = ended.0 in
    (first, ended-push rs q.end m r ended.1 (omega (arith, here, long, count, first)) ends)

leading_stream-push : (rs : List StreamRun) (r : StreamRun) (t : ℕ) → leading_stream (rs ++ r ∷ []) t ≡ leading_stream rs r.stream
leading_stream-push [] r t = refl
leading_stream-push (q ∷ rs) r t = refl

apart-push : (rs : List StreamRun) (r : StreamRun) (t : ℕ) → AreApart rs r.stream → t ≢ r.stream → AreApart (rs ++ r ∷ []) t
apart-push [] r t apart differs = (differs, tt)
apart-push (q ∷ rs) r t apart differs =
    ((λ e. apart.0 (sym (leading_stream-push rs r t) ∙ e)), apart-push rs r t apart.1 differs)

-- the run that went on, which has a step, is over, and one of another stream begins
pub runs-begin : (rs : List StreamRun) (before s count t : ℕ) → AreStreamRuns rs before s count → 0 < count → t ≢ s
    → AreStreamRuns (rs ++ record { stream = s; end = before + count } ∷ []) (before + count) t 1
runs-begin rs before s count t are some differs =
    let r : StreamRun = record { stream = s; end = before + count } in
    let left : before + count - before ≡ count = omega arith in record {
      ended = ended-push rs 0 before r are.ended (omega (arith, are.length)) (omega (arith, some));
      length = ap length (run_numbers-push rs 0 before r (omega (arith, are.length)) are.ended
          ∙ ap (λ k. run_numbers 0 rs ++ replicate k s) left) ∙ length-step_numbers rs before s count are;
      first = λ e. absurd (omega (arith, e));
      apart = apart-push rs r t are.apart differs;
    }

pub step_numbers-begin : (rs : List StreamRun) (before s count t : ℕ) → AreStreamRuns rs before s count
    → step_numbers (rs ++ record { stream = s; end = before + count } ∷ []) t 1
    ≡ step_numbers rs s count ++ t ∷ []
step_numbers-begin rs before s count t are =
    let r : StreamRun = record { stream = s; end = before + count } in
    let left : before + count - before ≡ count = omega arith in
    ap (λ xs. xs ++ t ∷ []) (run_numbers-push rs 0 before r (omega (arith, are.length)) are.ended
    ∙ ap (λ k. run_numbers 0 rs ++ replicate k s) left)
