-- What each step at the table does to what the two processors did.
use Rattle.std.proofs.Common.{ℕ, ◌≡◌, ◌≢◌, ◌<◌, ◌≤◌, ◌+◌, List, [], ◌∷◌, ◌++◌, false, Some, refl, ◌∙◌, ap}
use Rattle.std.proofs.Common.{arith, map, append-nil}
use Rattle.std.proofs.lemmas.Bool.{ne_eqb}
use Rattle.std.proofs.lemmas.Option.{same_Some}
use Rattle.processor.specs.declared.steps.Entry.{Entry}
use Rattle.processor.specs.declared.steps.Asked.{Asked}
use Rattle.processor.specs.Histories.{pairs_of}
use Rattle.processor.proofs.Histories.{pairs_of-append}
use Rattle.processor.specs.Histories.{entry_by}
use Rattle.processor.proofs.Weaving.{pairs_of-by_same}
use Rattle.memory_lock.specs.declared.turns.views.Stage.{Stage}
use Rattle.memory_lock.specs.declared.turns.views.Stage.TheVariants.{Idle, Waits, Holds}
use Rattle.memory_lock.specs.declared.turns.views.Past.{Past}
use Rattle.memory_lock.specs.declared.turns.views.Caller.{Caller}
use Rattle.memory_lock.specs.Tickets.{count_tickets, ticket_of, has_memory, FitsWords, AreCallers}

abbrev pub caller : ℕ → Stage → List Asked → Caller
caller k st made = record { asks = k; stage = st; made = made }

pub callers-flip : (n d : ℕ) (h : Past) (p : ℕ) (a : Caller) (q : ℕ) (b : Caller) → AreCallers n d h p a q b
    → AreCallers n d h q b p a
callers-flip n d h p a q b c =
    record {
      count = omega (arith, c.count);
      asks = omega (arith, c.asks);
      few_a = c.few_b;
      few_b = c.few_a;
      fits_a = c.fits_b;
      fits_b = c.fits_a;
      apart = λ t x y. c.apart t y x;
      made_a = c.made_b;
      made_b = c.made_a;
    }

ticket-within : (n d : ℕ) (h : Past) (st : Stage) (t : ℕ) → FitsWords n d h st → n + count_tickets st ≤ d
    → ticket_of st ≡ Some t → t < d
ticket-within n d h Idle t ok le e = absurd (let f : ⊥ = cc in f)
ticket-within n d h (Waits u) t ok le e = let same : u ≡ t = same_Some _ _ e in omega (arith, ok.1, same)
ticket-within n d h (Holds u g) t ok le e = let same : u ≡ t = same_Some _ _ e in omega (arith, ok.0, same, le)

stage-more : (n d : ℕ) (h : Past) (st : Stage) → FitsWords n d h st → FitsWords n (d + 1) h st
stage-more n d h Idle ok = tt
stage-more n d h (Waits u) ok = (ok.0, omega (arith, ok.1))
stage-more n d h (Holds u g) ok = ok

-- a stage whose ticket is not served goes on, and has no memory
stage-up : (n d : ℕ) (h h2 : Past) (st : Stage) → FitsWords n d h st → (ticket_of st ≡ Some n → ⊥)
    → FitsWords (n + 1) d h2 st
stage-up n d h h2 Idle ok not = tt
stage-up n d h h2 (Waits u) ok not = let differs : u ≢ n =
    λ e. not (ap Some e) in (omega (arith, ok.0, differs), ok.1)
stage-up n d h h2 (Holds u g) ok not = absurd (not (ap Some ok.0))

stage-home : (n d : ℕ) (h : Past) (st : Stage) → FitsWords n d h st → (ticket_of st ≡ Some n → ⊥)
    → has_memory st ≡ false
stage-home n d h Idle ok not = refl
stage-home n d h (Waits u) ok not = refl
stage-home n d h (Holds u g) ok not = absurd (not (ap Some ok.0))

-- a ticket is drawn
pub callers-draws : (n d : ℕ) (h : Past) (p k : ℕ) (made : List Asked) (q : ℕ) (b : Caller)
    → AreCallers n d h p (caller k Idle made) q b → k < 4294967295
    → AreCallers n (d + 1) h p (caller (k + 1) (Waits d) made) q b
callers-draws n d h p k made q b c few =
    record {
      count = omega (arith, c.count);
      asks = omega (arith, c.asks);
      few_a = omega (arith, few);
      few_b = c.few_b;
      fits_a = (omega (arith, c.count), omega arith);
      fits_b = stage-more n d h b.stage c.fits_b;
      apart = λ t x y. let same : d ≡ t = same_Some _ _ x in let lt : t < d =
          ticket-within n d h b.stage t c.fits_b (omega (arith, c.count)) y in omega (arith, lt, same);
      made_a = c.made_a;
      made_b = c.made_b;
    }

-- the memory is taken
pub callers-takes : (n d : ℕ) (h : Past) (p k : ℕ) (made : List Asked) (q : ℕ) (b : Caller)
    → AreCallers n d h p (caller k (Waits n) made) q b
    → AreCallers n d h p (caller k (Holds n h) made) q b × (has_memory b.stage ≡ false)
callers-takes n d h p k made q b c = (
  record {
    count = c.count;
    asks = c.asks;
    few_a = c.few_a;
    few_b = c.few_b;
    fits_a = (refl, refl);
    fits_b = c.fits_b;
    apart = c.apart;
    made_a = c.made_a;
    made_b = c.made_b;
  },
  stage-home n d h b.stage c.fits_b (c.apart n refl),
)

pairs_of-by_other : (p q : ℕ) (rs : List Asked) → p ≢ q → pairs_of q (map (entry_by p) rs) ≡ []
pairs_of-by_other p q [] ne = refl
pairs_of-by_other p q (r ∷ rs) ne = rw (ne_eqb p q ne) (pairs_of-by_other p q rs ne)

-- the entries of p and of another, after more of p's
pub more-own : (p : ℕ) (g : List Entry) (more : List Asked)
    → pairs_of p (g ++ map (entry_by p) more) ≡ pairs_of p g ++ more
more-own p g more = pairs_of-append p g (map (entry_by p) more)
    ∙ ap (λ l. pairs_of p g ++ l) (pairs_of-by_same p more)

more-other : (p q : ℕ) (g : List Entry) (more : List Asked) → p ≢ q
    → pairs_of q (g ++ map (entry_by p) more) ≡ pairs_of q g
more-other p q g more ne = pairs_of-append q g (map (entry_by p) more)
    ∙ ap (λ l. pairs_of q g ++ l) (pairs_of-by_other p q more ne) ∙ append-nil (pairs_of q g)

-- the memory is given back, and the next ticket is served
pub callers-raises : (n d : ℕ) (h : Past) (p k t : ℕ) (g : Past) (made : List Asked) (q : ℕ)
    (b : Caller) (h2 : Past) (more : List Asked) → AreCallers n d h p (caller k (Holds t g) made) q b
    → p ≢ q → h2.history ≡ g.history ++ map (entry_by p) more
    → AreCallers (n + 1) d h2 p (caller k Idle (pairs_of p h2.history)) q b
    × (has_memory b.stage ≡ false)
callers-raises n d h p k t g made q b h2 more c ne is =
    let not : ticket_of b.stage ≡ Some n → ⊥ = λ e. c.apart n (ap Some c.fits_a.0) e in (
      record {
        count = omega (arith, c.count);
        asks = c.asks;
        few_a = c.few_a;
        few_b = c.few_b;
        fits_a = tt;
        fits_b = stage-up n d h h2 b.stage c.fits_b not;
        apart = λ u x y. let e : ⊥ = cc in e;
        made_a = refl;
        made_b = ap (pairs_of q) is ∙ more-other p q g.history more ne
            ∙ ap (λ (x : Past). pairs_of q x.history) c.fits_a.1 ∙ c.made_b;
      },
      stage-home n d h b.stage c.fits_b not,
    )

-- no word of the table comes round
pub callers-few : (n d : ℕ) (h : Past) (p : ℕ) (a : Caller) (q : ℕ) (b : Caller) → AreCallers n d h p a q b
    → (n ≤ d) × (d ≤ 8589934590)
callers-few n d h p a q b c = (omega (arith, c.count), omega (arith, c.asks, c.few_a, c.few_b))
