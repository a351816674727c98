-- Of each step, the last step before it that met its word.
use Rattle.std.proofs.Common.{◌≡◌, ℕ, zero, suc, ◌+◌, ◌-◌, ◌<◌, ◌≤◌, ◌==◌, Bool, true, false, not, cond, nat_lt, List, [], ◌∷◌, ◌++◌}
use Rattle.std.proofs.Common.{length, get_or, Option, Some, None, refl, sym, ap, ◌∙◌, arith, lt-ltb, le-ltb, ⊎_elim, ◌&&◌, ◌||◌}
use Rattle.std.specs.List.{slice_get}
use Rattle.std.specs.Option.{IfSome}
use Rattle.std.proofs.lemmas.Bool.{false≢true, cases_lt, eqb-true, ltb-false, false_from_ne_true}
use Rattle.std.proofs.lemmas.List.{get_or_append_left, get_or_push}
use Rattle.std.proofs.lemmas.Option.{slice_get-get_or}
use Rattle.processor.specs.declared.steps.Step.{Step}
use Rattle.run_findings.specs.Actions.{op_reads, op_hears, is_load, is_store, reads, writes, is_by, read_by}
use Rattle.run_findings.specs.Actions.{access_reads, written_or_read_by, met}
use Rattle.run_findings.specs.Places.{passes, last_before}
use Rattle.run_findings.specs.LostUpdates.{full_store}
use Rattle.run_findings.specs.UnreadStores.{store_of}
use Rattle.run_findings.specs.TornReads.{meets, is_later, is_newer, brings_news, word_loaded, word_heard}
use Rattle.run_findings.specs.Links.{word_of, word_in, word_at, link_to, AreLinks}
use Rattle.run_findings.specs.Links.{later, is_after, news_in, news_at, other_step}
use Rattle.run_findings.specs.declared.actions.Access.{Access}
use Rattle.run_findings.specs.declared.actions.Action.{Action}
use Rattle.run_findings.specs.declared.parting.Meeting.{Meeting}
use Rattle.run_findings.specs.declared.parting.Meeting.TheVariants as meeting
use Rattle.run_findings.proofs.Before.{last-is, last-below}
use Rattle.run_findings.proofs.Finding.{both_true}

and_true : (t : Bool) → (t && true) ≡ t
and_true true = refl
and_true false = refl

-- the word of a step that is there
pub word-is : (ds : List Action) (n : ℕ) (d : Action) → n < length ds → word_at ds n ≡ word_of (get_or ds n d).access
word-is ds n d within = ap word_in (slice_get-get_or ds n d within)

pub links-more : (of : ℕ → Option ℕ) (links : List (Option ℕ)) (n : ℕ) (link : Option ℕ) → length links ≡ n
    → ((k : ℕ) (other : Option ℕ) → k < n → get_or links k other ≡ of k) → link ≡ of n
    → (k : ℕ) (other : Option ℕ) → k < suc n → get_or (links ++ link ∷ []) k other ≡ of k
links-more of links n link count is here k other below = ⊎_elim
    (λ h. get_or_append_left links (link ∷ []) other k (omega arith) ∙ is k other h)
    (λ h.
    let same : k ≡ n = omega arith in
    get_or_push links link other k (count ∙ sym same) ∙ here ∙ ap of (sym same))
    (cases_lt k n)

-- What a link is.

pub link-is : (way : Meeting) (ds : List Action) (links : List (Option ℕ)) (n a : ℕ) (other : Option ℕ)
    → AreLinks way ds links → n < length ds → word_at ds n ≡ Some a
    → get_or links n other ≡ last_before (meets way a) ds n
link-is way ds links n a other linked within word = linked.is n other within ∙ ap (link_to way ds n) word

-- Words of accesses.

gated-some : (t : Bool) (b a : ℕ) → cond t (Some b) None ≡ Some a → Some b ≡ Some a
gated-some true b a e = e
gated-some false b a e = absurd cc

pub loaded-word : (o : Option Access) (a : ℕ) → word_loaded o ≡ Some a → word_of o ≡ Some a
loaded-word None a e = e
loaded-word (Some x) a e = gated-some (is_load x.op) x.address a e

pub heard-word : (o : Option Access) (a : ℕ) → word_heard o ≡ Some a → word_of o ≡ Some a
heard-word None a e = e
heard-word (Some x) a e = gated-some (op_hears x.op x.full) x.address a e

pub full-store-word : (o : Option Access) (a : ℕ) → full_store o ≡ Some a → word_of o ≡ Some a
full-store-word None a e = e
full-store-word (Some x) a e = gated-some (is_store x.op && x.full) x.address a e

gated-access : (t : Bool) (x y : Access) → cond t (Some x) None ≡ Some y → Some x.address ≡ Some y.address
gated-access true x y e = ap word_of e
gated-access false x y e = absurd cc

pub store-word : (o : Option Access) (y : Access) → store_of o ≡ Some y → word_of o ≡ Some y.address
store-word None y e = absurd cc
store-word (Some x) y e = gated-access (is_store x.op) x y e

-- A stricter test.

passes-by : (test : Action → Bool) (ds : List Action) (m u : ℕ) (t : Bool) → passes test (slice_get ds m) ≡ t
    → (last_before test ds m ≡ Some u → passes test (slice_get ds u) ≡ true)
    → cond t (Some m) (last_before test ds m) ≡ Some u → passes test (slice_get ds u) ≡ true
passes-by test ds m u true is below e =
    let same : m ≡ u = cc in sym (ap (λ k. passes test (slice_get ds k)) same) ∙ is
passes-by test ds m u false is below e = below e

pub last-passes : (test : Action → Bool) (ds : List Action) (n u : ℕ) → last_before test ds n ≡ Some u
    → passes test (slice_get ds u) ≡ true
last-passes test ds zero u e = absurd cc
last-passes test ds (suc m) u e =
    passes-by test ds m u (passes test (slice_get ds m)) refl (last-passes test ds m u) e

stricter-fails : (p q : Action → Bool) → ((d : Action) → q d ≡ true → p d ≡ true) → (o : Option Action)
    → passes p o ≡ false → passes q o ≡ false
stricter-fails p q strict None fails = refl
stricter-fails p q strict (Some d) fails = false_from_ne_true (q d) (λ h. false≢true (sym fails ∙ strict d h))

skipped : (q : Action → Bool) (ds : List Action) (m : ℕ) → passes q (slice_get ds m) ≡ false
    → last_before q ds (suc m) ≡ last_before q ds m
skipped q ds m fails = ap (λ t. cond t (Some m) (last_before q ds m)) fails

none-by : (p q : Action → Bool) → ((d : Action) → q d ≡ true → p d ≡ true) → (ds : List Action) (m : ℕ) (t : Bool)
    → passes p (slice_get ds m) ≡ t → (last_before p ds m ≡ None → last_before q ds m ≡ None)
    → cond t (Some m) (last_before p ds m) ≡ None → last_before q ds (suc m) ≡ None
none-by p q strict ds m true is below e = absurd cc
none-by p q strict ds m false is below e =
    skipped q ds m (stricter-fails p q strict (slice_get ds m) is) ∙ below e

pub stricter-none : (p q : Action → Bool) → ((d : Action) → q d ≡ true → p d ≡ true) → (ds : List Action) (n : ℕ)
    → last_before p ds n ≡ None → last_before q ds n ≡ None
stricter-none p q strict ds zero e = refl
stricter-none p q strict ds (suc m) e =
    none-by p q strict ds m (passes p (slice_get ds m)) refl (stricter-none p q strict ds m) e

some-by : (p q : Action → Bool) → ((d : Action) → q d ≡ true → p d ≡ true) → (ds : List Action) (m u : ℕ) (t : Bool)
    → passes p (slice_get ds m) ≡ t
    → (last_before p ds m ≡ Some u → last_before q ds m ≡ last_before q ds (suc u))
    → cond t (Some m) (last_before p ds m) ≡ Some u → last_before q ds (suc m) ≡ last_before q ds (suc u)
some-by p q strict ds m u true is below e = let same : m ≡ u = cc in ap (λ k. last_before q ds (suc k)) same
some-by p q strict ds m u false is below e =
    skipped q ds m (stricter-fails p q strict (slice_get ds m) is) ∙ below e

pub stricter-some : (p q : Action → Bool) → ((d : Action) → q d ≡ true → p d ≡ true) → (ds : List Action) (n u : ℕ)
    → last_before p ds n ≡ Some u → last_before q ds n ≡ last_before q ds (suc u)
stricter-some p q strict ds zero u e = absurd cc
stricter-some p q strict ds (suc m) u e =
    some-by p q strict ds m u (passes p (slice_get ds m)) refl (stricter-some p q strict ds m u) e

-- What a stream itself read.

own-strict : (t : Step) (a : ℕ) (d : Action) → read_by t a d ≡ true → meets meeting.Reads a d ≡ true
own-strict t a d h = (both_true (is_by t d) (reads a d) h).1

pub own-none : (ds : List Action) (t : Step) (a n : ℕ) → last_before (meets meeting.Reads a) ds n ≡ None
    → last_before (read_by t a) ds n ≡ None
own-none ds t a n e = stricter-none (meets meeting.Reads a) (read_by t a) (own-strict t a) ds n e

own-test : (p q r : Bool) → p ≡ q → r ≡ true → (p && r) ≡ q
own-test p q r is reads = ap (λ t. p && t) reads ∙ and_true p ∙ is

own-by : (ds : List Action) (t : Step) (a u : ℕ) (d : Action) → u < length ds
    → passes (meets meeting.Reads a) (slice_get ds u) ≡ true
    → last_before (read_by t a) ds (suc u) ≡ cond (is_by t (get_or ds u d)) (Some u) (last_before (read_by t a) ds u)
own-by ds t a u d within met =
    let stands = slice_get-get_or ds u d within in
    let e = get_or ds u d in
    ap (λ o. cond (passes (read_by t a) o) (Some u) (last_before (read_by t a) ds u)) stands
    ∙ ap (λ b. cond b (Some u) (last_before (read_by t a) ds u))
    (own-test (is_by t e) (is_by t e) (reads a e) refl (sym (ap (passes (meets meeting.Reads a)) stands) ∙ met))

pub own-is : (ds : List Action) (t : Step) (a n u : ℕ) (d : Action) → u < length ds
    → last_before (meets meeting.Reads a) ds n ≡ Some u
    → last_before (read_by t a) ds n
    ≡ cond (is_by t (get_or ds u d)) (Some u) (last_before (read_by t a) ds u)
own-is ds t a n u d within e =
    stricter-some (meets meeting.Reads a) (read_by t a) (own-strict t a) ds n u e
    ∙ own-by ds t a u d within (last-passes (meets meeting.Reads a) ds n u e)

pub own-below : (ds : List Action) (t : Step) (a n u : ℕ) → last_before (meets meeting.Reads a) ds n ≡ Some u
    → (v : ℕ) → last_before (read_by t a) ds n ≡ Some v → v ≤ u
own-below ds t a n u e v is =
    let low = last-below (read_by t a) ds (suc u) v
    (sym (stricter-some (meets meeting.Reads a) (read_by t a) (own-strict t a) ds n u e) ∙ is) in
    omega arith

-- a step that read a word has that word
has-word : (a : ℕ) (o : Option Access) → access_reads a o ≡ true → word_of o ≡ Some a
has-word a None h = absurd (false≢true h)
has-word a (Some x) h = ap Some (eqb-true x.address a (both_true (x.address == a) (op_reads x.op) h).0)

word-by : (a : ℕ) (o : Option Action) → passes (meets meeting.Reads a) o ≡ true → word_in o ≡ Some a
word-by a None h = absurd (false≢true h)
word-by a (Some d) h = has-word a d.access h

pub read-word : (ds : List Action) (a n u : ℕ) → last_before (meets meeting.Reads a) ds n ≡ Some u
    → word_at ds u ≡ Some a
read-word ds a n u e = word-by a (slice_get ds u) (last-passes (meets meeting.Reads a) ds n u e)

-- The later of two steps.

pub later-none : (o : Option ℕ) → later o None ≡ o
later-none None = refl
later-none (Some m) = refl

later-old : (w : ℕ) (o : Option ℕ) → ((u : ℕ) → o ≡ Some u → u ≤ w) → later (Some w) o ≡ Some w
later-old w None old = refl
later-old w (Some u) old = ap (λ t. cond t (Some u) (Some w)) (le-ltb w u (old u refl))

-- what comes before a step that is not after a write does not either
pub later-cut : (write : Option ℕ) (read : ℕ) (o : Option ℕ) → is_after read write ≡ false
    → ((u : ℕ) → o ≡ Some u → u ≤ read) → later write None ≡ later write o
later-cut None read o cut old = absurd (false≢true (sym cut))
later-cut (Some w) read o cut old =
    let before : read ≤ w = ltb-false w read cut in
    sym (later-old w o (λ u e. let low = old u e in omega arith))

same-both : (t : Bool) (o : Option ℕ) → cond t o o ≡ o
same-both true o = refl
same-both false o = refl

later-last : (m : ℕ) (o : Option ℕ) → ((u : ℕ) → o ≡ Some u → u < m) → later o (Some m) ≡ Some m
later-last m None below = refl
later-last m (Some u) below = ap (λ t. cond t (Some m) (Some u)) (lt-ltb u m (below u refl))

merged-step : (m : ℕ) (x y : Bool) (one other : Option ℕ) → ((u : ℕ) → one ≡ Some u → u < m)
    → ((u : ℕ) → other ≡ Some u → u < m)
    → cond (x || y) (Some m) (later one other) ≡ later (cond x (Some m) one) (cond y (Some m) other)
merged-step m true true one other low below = sym (same-both (nat_lt m m) (Some m))
merged-step m true false one other low below =
    sym (later-old m other (λ u e. let h = below u e in omega arith))
merged-step m false true one other low below = sym (later-last m one low)
merged-step m false false one other low below = refl

passes-or : (p q r : Action → Bool) → ((d : Action) → r d ≡ (p d || q d)) → (o : Option Action)
    → passes r o ≡ (passes p o || passes q o)
passes-or p q r is None = refl
passes-or p q r is (Some d) = is d

pub merged : (p q r : Action → Bool) → ((d : Action) → r d ≡ (p d || q d)) → (ds : List Action) (n : ℕ)
    → last_before r ds n ≡ later (last_before p ds n) (last_before q ds n)
merged p q r is ds zero = refl
merged p q r is ds (suc m) =
    let o = slice_get ds m in
    ap (λ t. cond t (Some m) (last_before r ds m)) (passes-or p q r is o)
    ∙ ap (cond (passes p o || passes q o) (Some m)) (merged p q r is ds m)
    ∙ merged-step m (passes p o) (passes q o) (last_before p ds m) (last_before q ds m) (last-below p ds m)
    (last-below q ds m)

pub written-or-read : (ds : List Action) (t : Step) (a n : ℕ)
    → last_before (written_or_read_by t a) ds n ≡ later (last_before (writes a) ds n) (last_before (read_by t a) ds n)
written-or-read ds t a n = merged (writes a) (read_by t a) (written_or_read_by t a) (λ d. refl) ds n

pub met-is : (ds : List Action) (a n : ℕ)
    → last_before (met a) ds n ≡ later (last_before (reads a) ds n) (last_before (writes a) ds n)
met-is ds a n = merged (reads a) (writes a) (met a) (λ d. refl) ds n

if-some : (o : Option ℕ) (n : ℕ) → ((u : ℕ) → o ≡ Some u → u < n) → IfSome o (λ u. u < n)
if-some None n below = tt
if-some (Some u) n below = below u refl

-- a link is below its step
pub link-below : (ds : List Action) (test : Action → Bool) (o : Option ℕ) (n : ℕ) → o ≡ last_before test ds n
    → IfSome o (λ u. u < n)
link-below ds test o n is = if-some o n (λ u e. last-below test ds n u (sym is ∙ e))

-- News of a step.

pub news-made : (ds : List Action) (t : Step) (m a u k : ℕ) (d : Action) → m < length ds
    → word_heard (get_or ds m d).access ≡ Some a → last_before (writes a) ds m ≡ Some u
    → passes (is_by t) (slice_get ds u) ≡ false → k < u → news_at ds t k m ≡ true
news-made ds t m a u k d within heard last other newer =
    ap (news_in ds t k m) (slice_get-get_or ds m d within) ∙ ap (brings_news ds t k m) heard
    ∙ ap (is_newer ds t k) last
    ∙ ap (λ b. b && not (passes (is_by t) (slice_get ds u))) (lt-ltb k u newer)
    ∙ ap not other

other-by : (ds : List Action) (t : Step) (m a u k : ℕ) (d : Action) (b : Bool) → m < length ds
    → word_heard (get_or ds m d).access ≡ Some a → last_before (writes a) ds m ≡ Some u
    → passes (is_by t) (slice_get ds u) ≡ b → k < cond b 0 u → news_at ds t k m ≡ true
other-by ds t m a u k d true within heard last is newer = absurd (omega arith)
other-by ds t m a u k d false within heard last is newer = news-made ds t m a u k d within heard last is newer

pub other-news : (ds : List Action) (t : Step) (m a k : ℕ) (d : Action) (o : Option ℕ) → m < length ds
    → word_heard (get_or ds m d).access ≡ Some a → o ≡ last_before (writes a) ds m → k < other_step ds t o
    → news_at ds t k m ≡ true
other-news ds t m a k d None within heard last newer = absurd (omega arith)
other-news ds t m a k d (Some u) within heard last newer =
    other-by ds t m a u k d (passes (is_by t) (slice_get ds u)) within heard (sym last) refl newer

zero-or-below : (b : Bool) (u n : ℕ) → u < n → cond b 0 u ≤ n
zero-or-below true u n below = omega arith
zero-or-below false u n below = omega arith

pub other-within : (ds : List Action) (t : Step) (test : Action → Bool) (n : ℕ) (o : Option ℕ)
    → o ≡ last_before test ds n → other_step ds t o ≤ n
other-within ds t test n None last = omega arith
other-within ds t test n (Some u) last =
    zero-or-below (passes (is_by t) (slice_get ds u)) u n (last-below test ds n u (sym last))

-- Whether one of some steps passes a test.

pub not-later : (lo : ℕ) (o : Option ℕ) → ((u : ℕ) → o ≡ Some u → u ≤ lo) → is_later lo o ≡ false
not-later lo None old = refl
not-later lo (Some u) old = le-ltb lo u (old u refl)

pub old-not-later : (lo : ℕ) (test : Action → Bool) (ds : List Action) (n : ℕ) → n ≤ lo + 1
    → is_later lo (last_before test ds n) ≡ false
old-not-later lo test ds n old =
    not-later lo (last_before test ds n) (λ u e. let low = last-below test ds n u e in omega arith)

pub here-later : (lo : ℕ) (test : Action → Bool) (ds : List Action) (n : ℕ) (d : Action) → lo < n - 1
    → n ≤ length ds → test (get_or ds (n - 1) d) ≡ true → is_later lo (last_before test ds n) ≡ true
here-later lo test ds n d newer within passed =
    ap (is_later lo) (last-is test ds n d (omega arith) within passed) ∙ lt-ltb lo (n - 1) newer
