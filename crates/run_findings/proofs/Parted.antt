-- What is parted from a step, and so not found.
use Rattle.std.proofs.Common.{◌≡◌, ℕ, zero, suc, ◌<◌, ◌≤◌, ◌==◌, Bool, true, false, not, cond, ◌&&◌, ◌||◌, List, [], ◌++◌}
use Rattle.std.proofs.Common.{Option, Some, None, refl, sym, ap, ◌∙◌, arith, nat_lt, lt-ltb, le-ltb, append-nil, ⊎_elim}
use Rattle.std.specs.List.{slice_get}
use Rattle.std.proofs.lemmas.Bool.{false≢true, cases_lt}
use Rattle.processor.specs.declared.steps.Step.{Step}
use Rattle.run_findings.specs.Actions.{is_by}
use Rattle.run_findings.specs.Places.{passes}
use Rattle.run_findings.specs.Found.{list_of, found_to, lists_to}
use Rattle.run_findings.specs.TornReads.{word_heard, word_changed, meets, brings_news, parts, parts_at, any_between}
use Rattle.run_findings.specs.TornReads.{are_parted, half_by, half_in, other_half, loaded_by, is_torn_pair, torn_by_read}
use Rattle.run_findings.specs.TornReads.{torn_by_word, torn_by_write}
use Rattle.run_findings.specs.Rounds.{meets_by, closes}
use Rattle.run_findings.specs.Links.{news_in, news_at}
use Rattle.run_findings.specs.declared.actions.Action.{Action}
use Rattle.run_findings.specs.declared.parting.Meeting.{Meeting}
use Rattle.run_findings.specs.declared.parting.Meeting.TheVariants as meeting
use Rattle.run_findings.specs.declared.glimpse.Glimpse.{Glimpse}
use Rattle.run_findings.proofs.Between.{one-between}

-- A step that meets one of the words parts.

or_parts : (a b c d : Bool) → (a && c) ≡ true → (a && (b || c || d)) ≡ true
or_parts true true c d h = refl
or_parts true false true d h = refl
or_parts true false false d h = absurd (false≢true h)
or_parts false b c d h = absurd (false≢true h)

parts-by : (ds : List Action) (way : Meeting) (t : Step) (a b lo m : ℕ) (o : Option Action) → slice_get ds m ≡ o
    → passes (meets_by way t b) o ≡ true → parts_at ds way t a b lo m ≡ true
parts-by ds way t a b lo m None stands met = absurd (false≢true met)
parts-by ds way t a b lo m (Some d) stands met =
    ap (passes (λ e. is_by t e && (meets way a e || meets way b e || brings_news ds t lo m (word_heard e.access)))) stands
    ∙ or_parts (is_by t d) (meets way a d) (meets way b d) (brings_news ds t lo m (word_heard d.access)) met

parts-at : (ds : List Action) (way : Meeting) (t : Step) (a b lo m : ℕ) → closes ds way t b m ≡ true
    → parts_at ds way t a b lo m ≡ true
parts-at ds way t a b lo m met = parts-by ds way t a b lo m (slice_get ds m) refl met

or_news : (a b c d : Bool) → a ≡ true → d ≡ true → (a && (b || c || d)) ≡ true
or_news true true c true by news = refl
or_news true false true true by news = refl
or_news true false false true by news = refl
or_news true b c false by news = absurd (false≢true news)
or_news false b c d by news = absurd (false≢true by)

news-parts : (ds : List Action) (way : Meeting) (t : Step) (a b lo m : ℕ) (o : Option Action)
    → passes (is_by t) o ≡ true → news_in ds t lo m o ≡ true → passes (parts ds way t a b lo m) o ≡ true
news-parts ds way t a b lo m None by news = absurd (false≢true by)
news-parts ds way t a b lo m (Some d) by news =
    or_news (is_by t d) (meets way a d) (meets way b d) (brings_news ds t lo m (word_heard d.access)) by news

or_other : (p q r s : Bool) → (p && (r || r || s)) ≡ true → (p && (q || r || s)) ≡ true
or_other true true r s h = refl
or_other true false true s h = refl
or_other true false false s h = h
or_other false q r s h = absurd (false≢true h)

other-parts : (ds : List Action) (way : Meeting) (t : Step) (a b lo m : ℕ) (o : Option Action)
    → passes (parts ds way t b b lo m) o ≡ true → passes (parts ds way t a b lo m) o ≡ true
other-parts ds way t a b lo m None h = absurd (false≢true h)
other-parts ds way t a b lo m (Some d) h =
    or_other (is_by t d) (meets way a d) (meets way b d) (brings_news ds t lo m (word_heard d.access)) h

-- what lies before it is parted from what lies behind it
parted_over : (ds : List Action) (way : Meeting) (t : Step) (a b k m n : ℕ) → k < m → m < n
    → parts_at ds way t a b k m ≡ true → are_parted ds way t a b k n ≡ true
parted_over ds way t a b k m n low high parted =
    ap (λ c. cond c (any_between (parts_at ds way t a b k) k n) (any_between (parts_at ds way t a b n) n k))
    (lt-ltb k n (omega arith))
    ∙ one-between (parts_at ds way t a b k) k m n low high parted

pub parted_before : (ds : List Action) (way : Meeting) (t : Step) (b m n : ℕ) → m < n → closes ds way t b m ≡ true
    → (a k : ℕ) → k < m → are_parted ds way t a b k n ≡ true
parted_before ds way t b m n below met a k h = parted_over ds way t a b k m n h below (parts-at ds way t a b k m met)

-- and so it is where the step hears of what was written behind the first
pub parted_by_news : (ds : List Action) (way : Meeting) (t : Step) (a b k m n : ℕ) → k < m → m < n
    → passes (is_by t) (slice_get ds m) ≡ true → news_at ds t k m ≡ true → are_parted ds way t a b k n ≡ true
parted_by_news ds way t a b k m n low high by news =
    parted_over ds way t a b k m n low high (news-parts ds way t a b k m (slice_get ds m) by news)

pub parted_behind : (ds : List Action) (way : Meeting) (t : Step) (b m n : ℕ) → n < m
    → parts_at ds way t b b n m ≡ true → (a k : ℕ) → m < k → are_parted ds way t a b k n ≡ true
parted_behind ds way t b m n above parted a k h =
    ap (λ c. cond c (any_between (parts_at ds way t a b k) k n) (any_between (parts_at ds way t a b n) n k))
    (le-ltb k n (omega arith))
    ∙ one-between (parts_at ds way t a b n) n m k above h (other-parts ds way t a b n m (slice_get ds m) parted)

-- What is parted is not found.

no_half : (p q r s : Bool) → s ≡ true → ((p && q) && (not r && not s)) ≡ false
no_half true true true s h = refl
no_half true true false s h = ap not h
no_half true false r s h = refl
no_half false q r s h = refl

half-by : (ds : List Action) (g : Glimpse) (k : ℕ) (d : Action) (o : Option ℕ)
    → ((a : ℕ) → are_parted ds meeting.Writes g.writer a g.fresh k g.fresh_write ≡ true)
    → half_by ds g k d.stream o ≡ None
half-by ds g k d None parted = refl
half-by ds g k d (Some a) parted =
    ap (λ t. cond t (Some a) None) (no_half (d.stream.p == g.writer.p) (d.stream.s == g.writer.s) (a == g.fresh)
    (are_parted ds meeting.Writes g.writer a g.fresh k g.fresh_write) (parted a))

half-in : (ds : List Action) (g : Glimpse) (k : ℕ) (o : Option Action)
    → ((a : ℕ) → are_parted ds meeting.Writes g.writer a g.fresh k g.fresh_write ≡ true)
    → half_in ds g k o ≡ None
half-in ds g k None parted = refl
half-in ds g k (Some d) parted = half-by ds g k d (word_changed d.access) parted

no-half : (ds : List Action) (g : Glimpse) (k : ℕ)
    → ((a : ℕ) → are_parted ds meeting.Writes g.writer a g.fresh k g.fresh_write ≡ true) → other_half ds g k ≡ None
unfolding other_half
no-half ds g k parted = half-in ds g k (slice_get ds k) parted

pub none_by_write : (ds : List Action) (g : Glimpse) (k : ℕ)
    → ((a : ℕ) → are_parted ds meeting.Writes g.writer a g.fresh k g.fresh_write ≡ true) → torn_by_write ds g k ≡ []
unfolding torn_by_write
none_by_write ds g k parted = ap (torn_by_word ds g k) (no-half ds g k parted)

no_look : (p q r s : Bool) → r ≡ true → (p && (q && (not r && s))) ≡ false
no_look true true r s h = ap (λ t. not t && s) h
no_look true false r s h = refl
no_look false q r s h = refl

pub none_by_read : (ds : List Action) (g : Glimpse) (a k i : ℕ)
    → are_parted ds meeting.Reads g.reader a g.fresh i g.fresh_read ≡ true → torn_by_read ds g a k i ≡ None
unfolding torn_by_read
none_by_read ds g a k i parted =
    ap (λ t. cond t (Some (record {
      stale = a;
      fresh = g.fresh;
      stale_read = i;
      fresh_read = g.fresh_read;
      stale_write = k;
      fresh_write = g.fresh_write;
    })) None) (no_look (passes (loaded_by g.reader a) (slice_get ds i)) (nat_lt i k)
    (are_parted ds meeting.Reads g.reader a g.fresh i g.fresh_read) (is_torn_pair ds g a k i) parted)

-- Where nothing is found, nothing comes to a list.

pub lists_begin : {F : Type 0} (at : ℕ → List F) (n : ℕ) → ((k : ℕ) → k < n → at k ≡ []) → lists_to at n ≡ []
lists_begin at zero none = refl
lists_begin at (suc n) none =
    ap (λ x. x ++ at n) (lists_begin at n (λ k h. none k (omega arith))) ∙ none n (omega arith)

pub lists_rest : {F : Type 0} (at : ℕ → List F) (m n : ℕ) → m ≤ n → ((k : ℕ) → m ≤ k → k < n → at k ≡ [])
    → lists_to at m ≡ lists_to at n
lists_rest at m zero below none = let same : m ≡ zero = omega arith in ap (lists_to at) same
lists_rest at m (suc n) below none = ⊎_elim
    (λ h.
    lists_rest at m n (omega arith) (λ k low high. none k low (omega arith))
    ∙ sym (append-nil (lists_to at n))
    ∙ sym (ap (λ x. lists_to at n ++ x) (none n (omega arith) (omega arith))))
    (λ h. let same : m ≡ suc n = omega arith in ap (lists_to at) same)
    (cases_lt m (suc n))

pub found_begin : {F : Type 0} (at : ℕ → Option F) (n : ℕ) → ((k : ℕ) → k < n → at k ≡ None) → found_to at n ≡ []
found_begin at zero none = refl
found_begin at (suc n) none =
    ap (λ x. x ++ list_of (at n)) (found_begin at n (λ k h. none k (omega arith)))
    ∙ ap list_of (none n (omega arith))

pub found_rest : {F : Type 0} (at : ℕ → Option F) (m n : ℕ) → m ≤ n → ((k : ℕ) → m ≤ k → k < n → at k ≡ None)
    → found_to at m ≡ found_to at n
found_rest at m zero below none = let same : m ≡ zero = omega arith in ap (found_to at) same
found_rest at m (suc n) below none = ⊎_elim
    (λ h.
    found_rest at m n (omega arith) (λ k low high. none k low (omega arith))
    ∙ sym (append-nil (found_to at n))
    ∙ sym (ap (λ o. found_to at n ++ list_of o) (none n (omega arith) (omega arith))))
    (λ h. let same : m ≡ suc n = omega arith in ap (found_to at) same)
    (cases_lt m (suc n))
