-- What is computed of torn reads is what they are.
use Rattle.std.proofs.Common.{◌≡◌, ◌≢◌, ℕ, ◌<◌, ◌==◌, Bool, true, false, not, cond, nat_lt, List, [], length, Option, Some, None}
use Rattle.std.proofs.Common.{refl, sym, ap, ◌∙◌, subst, unwrap_or, ltb-true, lt-ltb, ne_eqb, arith, ◌&&◌}
use Rattle.std.specs.List.{slice_get, Contains}
use Rattle.std.proofs.lemmas.Bool.{false≢true, eqb-false}
use Rattle.std.proofs.lemmas.Option.{slice_get_within}
use Rattle.run_findings.specs.Actions.{writes, is_by}
use Rattle.run_findings.specs.Pairs.{is_half}
use Rattle.run_findings.specs.Places.{passes, last_before}
use Rattle.run_findings.specs.TornReads.{IsTornRead, word_changed, are_parted, is_other_half, half_by, half_in, other_half}
use Rattle.run_findings.specs.TornReads.{torn_by_read, torn_by_word, torn_by_write, glimpse_at, torn_in_glimpse, torn_at}
use Rattle.run_findings.specs.TornReads.{torn_reads, loaded_by, lets_go, is_of_later_round, is_torn_pair}
use Rattle.run_findings.specs.declared.actions.Action.{Action}
use Rattle.run_findings.specs.declared.parting.Meeting.TheVariants as meeting
use Rattle.run_findings.specs.declared.glimpse.Glimpse.{Glimpse}
use Rattle.run_findings.specs.declared.torn.TornRead.{TornRead}
use Rattle.run_findings.proofs.Finding.{both_true, found-cases, found-there, lists-cases, lists-there}
use Rattle.run_findings.proofs.Overwritten.{change-writes}
use Rattle.run_findings.proofs.Glimpses.{IsGlimpse, glimpse-is, glimpse-there, not_true}

abbrev torn : Glimpse → ℕ → ℕ → ℕ → TornRead
torn g a k i = record {
  stale = a;
  fresh = g.fresh;
  stale_read = i;
  fresh_read = g.fresh_read;
  stale_write = k;
  fresh_write = g.fresh_write;
}

-- The other half of the change.

record IsHalf (ds : List Action) (g : Glimpse) (k a : ℕ) : Type 0 where
  write : Action
  stands : slice_get ds k ≡ Some write
  changes : word_changed write.access ≡ Some a
  by_writer : is_by g.writer write ≡ true
  two_words : a ≢ g.fresh
  one_change : are_parted ds meeting.Writes g.writer a g.fresh k g.fresh_write ≡ false

other_words : (a b : ℕ) (t : Bool) → (a == b) ≡ t → not t ≡ true → a ≢ b
other_words a b true test h = absurd (false≢true h)
other_words a b false test h = eqb-false a b test

half-by_test : (ds : List Action) (g : Glimpse) (k a c : ℕ) (d : Action) (t : Bool)
    → is_other_half ds g c d.stream k ≡ t → slice_get ds k ≡ Some d → word_changed d.access ≡ Some c
    → cond t (Some c) None ≡ Some a → IsHalf ds g k a
half-by_test ds g k a c d false test stands changes is = absurd cc
half-by_test ds g k a c d true test stands changes is =
    let same : c ≡ a = ap (λ o. unwrap_or o c) is in
    let parted = are_parted ds meeting.Writes g.writer c g.fresh k g.fresh_write in
    let outer = both_true (is_by g.writer d) (not (c == g.fresh) && not parted) test in
    let inner = both_true (not (c == g.fresh)) (not parted) outer.1 in
    subst (IsHalf ds g k) same (record {
      write = d;
      stands = stands;
      changes = changes;
      by_writer = outer.0;
      two_words = other_words c g.fresh (c == g.fresh) refl inner.0;
      one_change = not_true parted inner.1;
    })

half-by_word : (ds : List Action) (g : Glimpse) (k a : ℕ) (d : Action) (o : Option ℕ)
    → slice_get ds k ≡ Some d → word_changed d.access ≡ o → half_by ds g k d.stream o ≡ Some a → IsHalf ds g k a
half-by_word ds g k a d None stands changes is = absurd cc
half-by_word ds g k a d (Some c) stands changes is =
    half-by_test ds g k a c d (is_other_half ds g c d.stream k) refl stands changes is

half-by_step : (ds : List Action) (g : Glimpse) (k a : ℕ) (o : Option Action)
    → slice_get ds k ≡ o → half_in ds g k o ≡ Some a → IsHalf ds g k a
half-by_step ds g k a None stands is = absurd cc
half-by_step ds g k a (Some d) stands is = half-by_word ds g k a d (word_changed d.access) stands refl is

half-is : (ds : List Action) (g : Glimpse) (k a : ℕ) → other_half ds g k ≡ Some a → IsHalf ds g k a
unfolding other_half
half-is ds g k a is = half-by_step ds g k a (slice_get ds k) refl is

pub half-writes : (ds : List Action) (g : Glimpse) (k a : ℕ) → other_half ds g k ≡ Some a
    → (k < length ds) × (passes (writes a) (slice_get ds k) ≡ true)
half-writes ds g k a is =
    let h = half-is ds g k a is in (
      slice_get_within ds k h.write h.stands,
      ap (passes (writes a)) h.stands ∙ change-writes h.write.access a h.changes,
    )

pub other_word : (ds : List Action) (g : Glimpse) (k a : ℕ) → other_half ds g k ≡ Some a → a ≢ g.fresh
other_word ds g k a is = (half-is ds g k a is).two_words

half_test : (a b c : Bool) → a ≡ true → b ≡ false → c ≡ false → (a && (not b && not c)) ≡ true
half_test a b c e f g = ap (λ t. t && (not b && not c)) e ∙ ap (λ t. not t && not c) f ∙ ap not g

half-there : (ds : List Action) (g : Glimpse) (k a : ℕ) → IsHalf ds g k a → other_half ds g k ≡ Some a
unfolding other_half
half-there ds g k a h =
    ap (half_in ds g k) h.stands ∙ ap (half_by ds g k h.write.stream) h.changes
    ∙ ap (λ t. cond t (Some a) None)
    (half_test (is_by g.writer h.write) (a == g.fresh) (are_parted ds meeting.Writes g.writer a g.fresh k g.fresh_write)
    h.by_writer (ne_eqb a g.fresh h.two_words) h.one_change)

-- The other read.

record IsOtherRead (ds : List Action) (g : Glimpse) (a k i : ℕ) : Type 0 where
  read : Action
  stands : slice_get ds i ≡ Some read
  reads : loaded_by g.reader a read ≡ true
  unseen : i < k
  one_look : are_parted ds meeting.Reads g.reader a g.fresh i g.fresh_read ≡ false
  one_round : is_of_later_round ds g.writer a i k g.fresh_write ≡ false
  kept : lets_go ds g.reader g.writer a g.fresh i g.fresh_read k ≡ false
  half : is_half ds g.reader a g.fresh i g.fresh_read ≡ true

passed : (test : Action → Bool) (o : Option Action) → passes test o ≡ true → (d : Action) × (o ≡ Some d) × (test d ≡ true)
passed test None h = absurd (false≢true h)
passed test (Some d) h = (d, refl, h)

read-by_test : (ds : List Action) (g : Glimpse) (a k i : ℕ) (f : TornRead) (t : Bool)
    → (passes (loaded_by g.reader a) (slice_get ds i)
    && (nat_lt i k && (not (are_parted ds meeting.Reads g.reader a g.fresh i g.fresh_read) && is_torn_pair ds g a k i))) ≡ t
    → cond t (Some (torn g a k i)) None ≡ Some f → IsOtherRead ds g a k i × (torn g a k i ≡ f)
read-by_test ds g a k i f false test is = absurd cc
read-by_test ds g a k i f true test is =
    let parted = are_parted ds meeting.Reads g.reader a g.fresh i g.fresh_read in
    let pair = is_torn_pair ds g a k i in
    let late = is_of_later_round ds g.writer a i k g.fresh_write in
    let gone = lets_go ds g.reader g.writer a g.fresh i g.fresh_read k in
    let outer = both_true (passes (loaded_by g.reader a) (slice_get ds i)) (nat_lt i k && (not parted && pair)) test in
    let inner = both_true (nat_lt i k) (not parted && pair) outer.1 in
    let look = both_true (not parted) pair inner.1 in
    let round = both_true (not late) (not gone && is_half ds g.reader a g.fresh i g.fresh_read) look.1 in
    let hold = both_true (not gone) (is_half ds g.reader a g.fresh i g.fresh_read) round.1 in
    let found = passed (loaded_by g.reader a) (slice_get ds i) outer.0 in (
      record {
        read = found.0;
        stands = found.1;
        reads = found.2;
        unseen = ltb-true i k inner.0;
        one_look = not_true parted look.0;
        one_round = not_true late round.0;
        kept = not_true gone hold.0;
        half = hold.1;
      },
      ap (λ o. unwrap_or o (torn g a k i)) is,
    )

read-is : (ds : List Action) (g : Glimpse) (a k i : ℕ) (f : TornRead) → torn_by_read ds g a k i ≡ Some f
    → IsOtherRead ds g a k i × (torn g a k i ≡ f)
unfolding torn_by_read
read-is ds g a k i f is = read-by_test ds g a k i f (passes (loaded_by g.reader a) (slice_get ds i)
    && (nat_lt i k && (not (are_parted ds meeting.Reads g.reader a g.fresh i g.fresh_read) && is_torn_pair ds g a k i)))
    refl is

read_test : (a b c d : Bool) → a ≡ true → b ≡ true → c ≡ false → d ≡ true → (a && (b && (not c && d))) ≡ true
read_test a b c d e f g h =
    ap (λ t. t && (b && (not c && d))) e ∙ ap (λ t. t && (not c && d)) f ∙ ap (λ t. not t && d) g ∙ h

pair_test : (a b c : Bool) → a ≡ false → b ≡ false → c ≡ true → (not a && (not b && c)) ≡ true
pair_test a b c e f g = ap (λ t. not t && (not b && c)) e ∙ ap (λ t. not t && c) f ∙ g

read-there : (ds : List Action) (g : Glimpse) (a k i : ℕ) → IsOtherRead ds g a k i
    → torn_by_read ds g a k i ≡ Some (torn g a k i)
unfolding torn_by_read
read-there ds g a k i h =
    ap (λ t. cond t (Some (torn g a k i)) None)
    (read_test (passes (loaded_by g.reader a) (slice_get ds i)) (nat_lt i k)
    (are_parted ds meeting.Reads g.reader a g.fresh i g.fresh_read) (is_torn_pair ds g a k i)
    (ap (passes (loaded_by g.reader a)) h.stands ∙ h.reads) (lt-ltb i k h.unseen) h.one_look
    (pair_test (is_of_later_round ds g.writer a i k g.fresh_write) (lets_go ds g.reader g.writer a g.fresh i g.fresh_read k)
    (is_half ds g.reader a g.fresh i g.fresh_read) h.one_round h.kept h.half))

-- Both of them.

assembled : (ds : List Action) (g : Glimpse) (j k i a : ℕ) → IsGlimpse ds j g → IsHalf ds g k a → IsOtherRead ds g a k i
    → IsTornRead ds (torn g a k i)
assembled ds g j k i a seen half read =
    let by_reader : g.reader ≡ seen.reader.stream = sym (ap (λ (h : Glimpse). h.reader) seen.is) in
    let by_writer : g.writer ≡ seen.writer.stream = sym (ap (λ (h : Glimpse). h.writer) seen.is) in
    let second : j ≡ g.fresh_read = ap (λ (h : Glimpse). h.fresh_read) seen.is in
    record {
      reader = seen.reader;
      writer = seen.writer;
      stands_fresh_read = ap (slice_get ds) (sym second) ∙ seen.stands;
      reads_fresh = seen.reads;
      seen = sym (ap (last_before (writes g.fresh) ds) second) ∙ seen.seen;
      stands_fresh_write = seen.stood;
      changes_fresh = seen.changes;
      others = seen.others;
      other_write = half.write;
      stands_stale_write = half.stands;
      changes_stale = half.changes;
      by_writer = sym (ap (λ t. is_by t half.write) by_writer) ∙ half.by_writer;
      other_read = read.read;
      stands_stale_read = read.stands;
      reads_stale = sym (ap (λ t. loaded_by t a read.read) by_reader) ∙ read.reads;
      two_words = half.two_words;
      unseen = read.unseen;
      one_change =
          sym (ap (λ t. are_parted ds meeting.Writes t a g.fresh k g.fresh_write) by_writer) ∙ half.one_change;
      one_look = sym (ap (λ t. are_parted ds meeting.Reads t a g.fresh i g.fresh_read) by_reader) ∙ read.one_look;
      kept =
          sym (ap (λ t. lets_go ds t seen.writer.stream a g.fresh i g.fresh_read k) by_reader)
          ∙ sym (ap (λ t. lets_go ds g.reader t a g.fresh i g.fresh_read k) by_writer)
          ∙ read.kept;
      one_round =
          sym (ap (λ t. is_of_later_round ds t a i k g.fresh_write) by_writer) ∙ read.one_round;
      half = sym (ap (λ t. is_half ds t a g.fresh i g.fresh_read) by_reader) ∙ read.half;
    }

nothing_in : {F : Type 0} (f : F) → Contains (let none : List F = [] in none) f → ⊥
nothing_in f c = omega (arith, c.1)

in_word : (ds : List Action) (g : Glimpse) (j k : ℕ) (f : TornRead) (o : Option ℕ) → IsGlimpse ds j g
    → other_half ds g k ≡ o → Contains (torn_by_word ds g k o) f → IsTornRead ds f
in_word ds g j k f None seen half c = absurd (nothing_in f c)
in_word ds g j k f (Some a) seen half c =
    let r = found-cases (torn_by_read ds g a k) (length ds) f c in
    let read = read-is ds g a k r.0 f r.2 in
    subst (IsTornRead ds) read.1 (assembled ds g j k r.0 a seen (half-is ds g k a half) read.0)

in_write : (ds : List Action) (g : Glimpse) (j k : ℕ) (f : TornRead) → IsGlimpse ds j g
    → Contains (torn_by_write ds g k) f → IsTornRead ds f
unfolding torn_by_write
in_write ds g j k f seen c = in_word ds g j k f (other_half ds g k) seen refl c

in_glimpse : (ds : List Action) (j : ℕ) (f : TornRead) (o : Option Glimpse) → glimpse_at ds j ≡ o
    → Contains (torn_in_glimpse ds o) f → IsTornRead ds f
in_glimpse ds j f None seen c = absurd (nothing_in f c)
in_glimpse ds j f (Some g) seen c =
    let r = lists-cases (torn_by_write ds g) (length ds) f c in
    in_write ds g j r.0 f (glimpse-is ds j g seen) r.2

torn-is : (ds : List Action) (f : TornRead) → Contains (torn_reads ds) f → IsTornRead ds f
torn-is ds f c =
    let r = lists-cases (torn_at ds) (length ds) f c in in_glimpse ds r.0 f (glimpse_at ds r.0) refl r.2

-- The other way.

there_in_write : (ds : List Action) (g : Glimpse) (k i a : ℕ) → i < length ds → IsHalf ds g k a
    → IsOtherRead ds g a k i → Contains (torn_by_write ds g k) (torn g a k i)
unfolding torn_by_write
there_in_write ds g k i a within half read =
    subst (λ o. Contains (torn_by_word ds g k o) (torn g a k i)) (sym (half-there ds g k a half))
    (found-there (torn_by_read ds g a k) (length ds) i (torn g a k i) within (read-there ds g a k i read))

abbrev glimpse_in : (ds : List Action) (f : TornRead) → IsTornRead ds f → Glimpse
glimpse_in ds f h = record {
  reader = h.reader.stream;
  writer = h.writer.stream;
  fresh = f.fresh;
  fresh_read = f.fresh_read;
  fresh_write = f.fresh_write;
}

torn-there : (ds : List Action) (f : TornRead) → IsTornRead ds f → Contains (torn_reads ds) f
torn-there ds f h =
    let g = glimpse_in ds f h in
    let seen : IsGlimpse ds f.fresh_read g = record {
      reader = h.reader;
      writer = h.writer;
      stands = h.stands_fresh_read;
      reads = h.reads_fresh;
      seen = h.seen;
      stood = h.stands_fresh_write;
      changes = h.changes_fresh;
      others = h.others;
      is = refl;
    } in
    let half : IsHalf ds g f.stale_write f.stale = record {
      write = h.other_write;
      stands = h.stands_stale_write;
      changes = h.changes_stale;
      by_writer = h.by_writer;
      two_words = h.two_words;
      one_change = h.one_change;
    } in
    let read : IsOtherRead ds g f.stale f.stale_write f.stale_read = record {
      read = h.other_read;
      stands = h.stands_stale_read;
      reads = h.reads_stale;
      unseen = h.unseen;
      one_look = h.one_look;
      one_round = h.one_round;
      kept = h.kept;
      half = h.half;
    } in
    let in_list = there_in_write ds g f.stale_write f.stale_read f.stale
    (slice_get_within ds f.stale_read h.other_read h.stands_stale_read) half read in
    let in_all = lists-there (torn_by_write ds g) (length ds) f.stale_write f
    (slice_get_within ds f.stale_write h.other_write h.stands_stale_write) in_list in
    lists-there (torn_at ds) (length ds) f.fresh_read f
    (slice_get_within ds f.fresh_read h.reader h.stands_fresh_read)
    (subst (λ o. Contains (torn_in_glimpse ds o) f) (sym (glimpse-there ds f.fresh_read g seen)) in_all)

pub torn-exact : (ds : List Action) (found : List TornRead) → found ≡ torn_reads ds
    → (f : TornRead) → (Contains found f → IsTornRead ds f) × (IsTornRead ds f → Contains found f)
torn-exact ds found e f = (
  λ c. torn-is ds f (subst (λ fs. Contains fs f) e c),
  λ h. subst (λ fs. Contains fs f) (sym e) (torn-there ds f h),
)
