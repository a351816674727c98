-- The last step that had a word, and what the steps that met the word are by it.
use Rattle.std.proofs.Common.{◌≡◌, ℕ, suc, ◌+◌, ◌<◌, ◌≤◌, ◌==◌, true, false, cond, List, [], ◌∷◌, ◌++◌, length, get_or}
use Rattle.std.proofs.Common.{Option, Some, None, refl, sym, ap, ◌∙◌, arith, ◌&&◌, length-append}
use Rattle.std.specs.List.{slice_get}
use Rattle.std.specs.Option.{IfSome}
use Rattle.std.proofs.lemmas.Bool.{false≢true, eqb-true, eq-eqb}
use Rattle.std.proofs.lemmas.Option.{slice_get-get_or}
use Rattle.run_findings.specs.Actions.{op_reads, is_change, access_reads, access_writes}
use Rattle.run_findings.specs.Places.{passes, last_before}
use Rattle.run_findings.specs.TornReads.{meets, is_load_of}
use Rattle.run_findings.specs.Links.{word_of, word_at, has_word, same_to, link_to, link_at, latest_of, latest_in, with_step}
use Rattle.run_findings.specs.Links.{meets_its_word, AreLinks, AreLinksSoFar}
use Rattle.run_findings.specs.declared.actions.Access.{Access}
use Rattle.run_findings.specs.declared.actions.Action.{Action}
use Rattle.run_findings.specs.declared.links.Latest.{Latest}
use Rattle.run_findings.specs.declared.parting.Meeting.{Meeting}
use Rattle.run_findings.specs.declared.parting.Meeting.TheVariants as meeting
use Rattle.run_findings.proofs.Before.{last-below}
use Rattle.run_findings.proofs.Chains.{word-is, links-more, last-passes, stricter-none, stricter-some}
use Rattle.run_findings.proofs.Finding.{both_true}

-- The last step so far that had each word.

with_cases : (a n : ℕ) (o before : Option ℕ) → with_step a o n before ≡ cond (is_load_of o a) (Some n) before
with_cases a n None before = refl
with_cases a n (Some b) before = refl

pub latest_more : (ds : List Action) (n next a : ℕ) (d : Action) (before : Option ℕ) → suc n ≡ next
    → n < length ds → before ≡ last_before (has_word a) ds n
    → with_step a (word_of (get_or ds n d).access) n before ≡ last_before (has_word a) ds next
latest_more ds n next a d before same within is =
    let e = get_or ds n d in
    let test : is_load_of (word_of e.access) a ≡ passes (has_word a) (slice_get ds n) =
    sym (ap (passes (has_word a)) (slice_get-get_or ds n d within)) in
    with_cases a n (word_of e.access) before
    ∙ ap (λ t. cond t (Some n) before) test
    ∙ ap (cond (passes (has_word a) (slice_get ds n)) (Some n)) is
    ∙ ap (last_before (has_word a) ds) same

in_latest : (ds : List Action) (n : ℕ) (latest : Latest) (word : Option ℕ)
    → ((a : ℕ) → latest_of latest a ≡ last_before (has_word a) ds n) → latest_in latest word ≡ same_to ds n word
in_latest ds n latest None is = refl
in_latest ds n latest (Some a) is = is a

-- of the word of step m
pub same_made : (ds : List Action) (n m : ℕ) (d : Action) (latest : Latest) → m < length ds
    → ((a : ℕ) → latest_of latest a ≡ last_before (has_word a) ds n)
    → latest_in latest (word_of (get_or ds m d).access) ≡ same_to ds n (word_at ds m)
same_made ds n m d latest within is =
    in_latest ds n latest (word_of (get_or ds m d).access) is ∙ ap (same_to ds n) (sym (word-is ds m d within))

same_below : (ds : List Action) (n u : ℕ) (o : Option ℕ) → Some u ≡ same_to ds n o → u < n
same_below ds n u None e = absurd cc
same_below ds n u (Some a) e = last-below (has_word a) ds n u (sym e)

pub same_within : (ds : List Action) (n m : ℕ) (o same : Option ℕ) → n ≤ m → same ≡ same_to ds n o
    → IfSome same (λ u. u < m)
same_within ds n m o None low e = tt
same_within ds n m o (Some u) low e = let below = same_below ds n u o e in omega arith

-- A step that meets a word has it.

strict_reads : (a : ℕ) (o : Option Access) → access_reads a o ≡ true → is_load_of (word_of o) a ≡ true
strict_reads a None h = absurd (false≢true h)
strict_reads a (Some x) h = (both_true (x.address == a) (op_reads x.op) h).0

strict_writes : (a : ℕ) (o : Option Access) → access_writes a o ≡ true → is_load_of (word_of o) a ≡ true
strict_writes a None h = absurd (false≢true h)
strict_writes a (Some x) h = (both_true (x.address == a) (is_change x) h).0

strict : (way : Meeting) (a : ℕ) (d : Action) → meets way a d ≡ true → has_word a d ≡ true
strict meeting.Reads a d h = strict_reads a d.access h
strict meeting.Writes a d h = strict_writes a d.access h
strict meeting.News a d h = absurd (false≢true h)

-- Where it has it, the word does not matter.

same_reads : (a : ℕ) (o : Option Access) → word_of o ≡ Some a → access_reads a o ≡ meets_its_word meeting.Reads o
same_reads a None w = absurd cc
same_reads a (Some x) w =
    let same : x.address ≡ a = cc in ap (λ t. t && op_reads x.op) (eq-eqb x.address a same)

same_writes : (a : ℕ) (o : Option Access) → word_of o ≡ Some a → access_writes a o ≡ meets_its_word meeting.Writes o
same_writes a None w = absurd cc
same_writes a (Some x) w =
    let same : x.address ≡ a = cc in ap (λ t. t && is_change x) (eq-eqb x.address a same)

same_news : (a : ℕ) (o : Option Access) → word_of o ≡ Some a → false ≡ meets_its_word meeting.News o
same_news a None w = absurd cc
same_news a (Some x) w = refl

meets_same : (way : Meeting) (a : ℕ) (d : Action) → word_of d.access ≡ Some a
    → meets way a d ≡ meets_its_word way d.access
meets_same meeting.Reads a d w = same_reads a d.access w
meets_same meeting.Writes a d w = same_writes a d.access w
meets_same meeting.News a d w = same_news a d.access w

-- A link by the last step that had the word.

pub load_is : (o : Option ℕ) (a : ℕ) → is_load_of o a ≡ true → o ≡ Some a
load_is None a h = absurd (false≢true h)
load_is (Some b) a h = ap Some (eqb-true b a h)

pub link_none : (way : Meeting) (ds : List Action) (n : ℕ) (o : Option ℕ) → None ≡ same_to ds n o
    → None ≡ link_to way ds n o
link_none way ds n None e = refl
link_none way ds n (Some a) e = sym (stricter-none (has_word a) (meets way a) (strict way a) ds n (sym e))

pub link_some : (way : Meeting) (ds : List Action) (n u : ℕ) (d : Action) (o : Option ℕ) → u < length ds
    → Some u ≡ same_to ds n o
    → cond (meets_its_word way (get_or ds u d).access) (Some u) (link_at way ds u) ≡ link_to way ds n o
link_some way ds n u d None within e = absurd cc
link_some way ds n u d (Some a) within e =
    let x = get_or ds u d in
    let stands = slice_get-get_or ds u d within in
    let word : word_of x.access ≡ Some a =
    load_is (word_of x.access) a
    (sym (ap (passes (has_word a)) stands) ∙ last-passes (has_word a) ds n u (sym e)) in
    sym (stricter-some (has_word a) (meets way a) (strict way a) ds n u (sym e)
    ∙ ap (λ p. cond (passes (meets way a) p) (Some u) (last_before (meets way a) ds u)) stands
    ∙ ap (λ t. cond t (Some u) (last_before (meets way a) ds u)) (meets_same way a x word)
    ∙ ap (λ w. cond (meets_its_word way x.access) (Some u) (link_to way ds u w)) (sym (word-is ds u d within ∙ word)))

-- The links so far.

pub count_more : (links : List (Option ℕ)) (n : ℕ) (link : Option ℕ) → length links ≡ n
    → length (links ++ link ∷ []) ≡ n + 1
count_more links n link count =
    let longer : length (links ++ link ∷ []) ≡ length links + 1 = length-append links (link ∷ []) in
    omega (arith, longer, count)

pub links_more : (way : Meeting) (ds : List Action) (links : List (Option ℕ)) (n : ℕ) (link : Option ℕ)
    → length links ≡ n → n < length ds → AreLinksSoFar way ds links → link ≡ link_at way ds n
    → AreLinksSoFar way ds (links ++ link ∷ [])
links_more way ds links n link count within are here =
    let longer = count_more links n link count in
    record {
      count = omega (arith, longer, within);
      is = λ k other below.
          links-more (link_at way ds) links n link count (λ j o low. are.is j o (omega (arith, low, count))) here k other
          (omega (arith, below, longer));
    }

pub links_all : (way : Meeting) (ds : List Action) (links : List (Option ℕ)) → length links ≡ length ds
    → AreLinksSoFar way ds links → AreLinks way ds links
links_all way ds links count are = record {
  count = count;
  is = λ n other below. are.is n other (omega (arith, below, count));
}

-- all links of a run are those of its steps so far
pub all_links : (way : Meeting) (ds : List Action) (links : List (Option ℕ)) → AreLinks way ds links
    → AreLinksSoFar way ds links
all_links way ds links are =
    let count = are.count in
    record {
      count = omega (arith, count);
      is = λ n other below. are.is n other (omega (arith, below, count));
    }
