-- A step that nobody sees who looks at some places and words changes no claim, where claims look at no others.
use Rattle.std.proofs.Common.{◌≡◌, ◌≢◌, ℕ, zero, suc, ◌+◌, cond, ◌⊎◌, inl, inr, Bool, true, false, refl, sym, ap, ◌∙◌, eq-eqb}
use Rattle.std.proofs.Common.{List, [], ◌∷◌, Option, Some, None, slice_get, ◌==◌, ◌&&◌}
use Rattle.std.specs.Prelude.{IsTrue, nat_le, slice_index_or}
use Rattle.std.specs.List.{Contains}
use Rattle.std.proofs.lemmas.Bool.{or_left, or_right}
use Rattle.std.proofs.lemmas.List.Sums.{sum_by-cons}
use Rattle.image_file.specs.ImageValue.{ImageValue}
use Rattle.stream_core.specs.Streams.{StreamValue}
use Rattle.processor.specs.Processors.{ProcessorValue}
use Rattle.processor.specs.Processors as processors
use Rattle.processor.specs.Records.{is_running}
use Rattle.processor.specs.World.{World, after}
use Rattle.processor.specs.declared.steps.Step.{Step}
use Rattle.busy_streams.proofs.AgreeingEnds.Moving.{same_step}
use Rattle.claims.specs.Holding.{runs_at_places, count_at_places, count_in_group, count_in_groups, counts_so}
use Rattle.claims.specs.Holding.{stream_at, word_holds, form_holds, holds_by}
use Rattle.claims.specs.Looking as looking
use Rattle.claims.specs.Looking.{is_in_groups, form_looks_at, is_looked_at, form_looks_at_word, is_word_looked_at}
use Rattle.claims.specs.declared.claim.Claim.{Claim}
use Rattle.claims.specs.declared.claim.ClaimForm.{ClaimForm}
use Rattle.claims.specs.declared.claim.ClaimForm.TheVariants as form
use Rattle.claims.specs.declared.claim.StreamGroup.{StreamGroup}
use Rattle.expectations.specs.MemoryWords.{is_compared}
use Rattle.busy_streams.specs.ScheduleSpace.Quiet.{is_seen, stream_of_step, IsUnseenStep}
use Rattle.schedule_verdicts.specs.KeptClaims.{all_hold}

-- whether a stream runs at places of a range
abbrev is_in_range : ℕ → ℕ → StreamValue → Bool
is_in_range first last s = is_running s && (nat_le first s.ssw.pc && nat_le s.ssw.pc last)

in_list : (first last : ℕ) (ss : List StreamValue) (n : ℕ)
    → runs_at_places first last (slice_get ss n) ≡ is_in_range first last (processors.stream_at ss n)
in_list first last [] n = refl
in_list first last (s ∷ ss) zero = refl
in_list first last (s ∷ ss) (suc n) = in_list first last ss n

-- a stream that is not there runs nowhere, as an idle one
by_name : (first last : ℕ) (w : World) (t : Step)
    → runs_at_places first last (stream_at w t) ≡ is_in_range first last (stream_of_step w t)
by_name first last w t = by_processor (slice_get w.processors t.p) refl where
  by_processor : (o : Option ProcessorValue) → slice_get w.processors t.p ≡ o
      → runs_at_places first last (stream_at w t) ≡ is_in_range first last (stream_of_step w t)
  by_processor None there = rw there refl
  by_processor (Some d) there = rw there (in_list first last d.streams t.s)

-- what is not seen at any of more places is not in some of them
not_in_range : (runs within looked : Bool) → (IsTrue within → IsTrue looked) → (runs && looked) ≡ false
    → (runs && within) ≡ false
not_in_range false within looked covers none = refl
not_in_range true false looked covers none = refl
not_in_range true true looked covers none = let e : true ≡ false = sym (covers refl) ∙ none in absurd cc

module _ (looked_at : List Bool) (words : List ℕ) (image : ImageValue) (w : World) (t : Step)
    (free : IsUnseenStep looked_at words image w t) where
  -- it runs at no place of a range that is looked at
  not_there : (first last : ℕ) (v : World)
      → ((place : ℕ) → IsTrue (nat_le first place && nat_le place last) → IsTrue (slice_index_or looked_at place false))
      → is_seen looked_at (stream_of_step v t) ≡ false → runs_at_places first last (stream_at v t) ≡ false
  not_there first last v covers none =
      let s = stream_of_step v t in
      by_name first last v t
      ∙ not_in_range (is_running s) (nat_le first s.ssw.pc && nat_le s.ssw.pc last)
      (slice_index_or looked_at s.ssw.pc false) (covers s.ssw.pc) none

  module _ (first last : ℕ)
      (covers : (place : ℕ) → IsTrue (nat_le first place && nat_le place last)
      → IsTrue (slice_index_or looked_at place false)) where
    same_at : (u : Step) → runs_at_places first last (stream_at (after image w t) u) ≡ runs_at_places first last (stream_at w u)
    same_at u = by_step (same_step u t) where
      by_step : (u ≡ t) ⊎ (u ≢ t)
          → runs_at_places first last (stream_at (after image w t) u) ≡ runs_at_places first last (stream_at w u)
      by_step (inl same) =
          ap (λ x. runs_at_places first last (stream_at (after image w t) x)) same
          ∙ not_there first last (after image w t) covers free.quiet.behind
          ∙ sym (not_there first last w covers free.quiet.before)
          ∙ sym (ap (λ x. runs_at_places first last (stream_at w x)) same)
      by_step (inr apart) =
          by_name first last (after image w t) u
          ∙ ap (is_in_range first last) (free.others u apart)
          ∙ sym (by_name first last w u)

    -- 1 where the stream of a step runs at places of the range, else 0
    abbrev one_at : World → Step → ℕ
    one_at v u = cond (runs_at_places first last (stream_at v u)) 1 0

    same_count : (us : List Step) → count_at_places (after image w t) first last us ≡ count_at_places w first last us
    same_count [] = refl
    same_count (u ∷ us) =
        sum_by-cons (one_at (after image w t)) u us
        ∙ (λ i. cond (same_at u i) 1 0 + same_count us i)
        ∙ sym (sum_by-cons (one_at w) u us)

  same_groups : (gs : List StreamGroup)
      → ((place : ℕ) → IsTrue (is_in_groups place gs) → IsTrue (slice_index_or looked_at place false))
      → count_in_groups (after image w t) gs ≡ count_in_groups w gs
  same_groups [] covers = refl
  same_groups (g ∷ gs) covers =
      let here : count_in_group (after image w t) g ≡ count_in_group w g =
      same_count g.first g.last (λ place is. covers place (or_left (looking.is_in_range place g) (is_in_groups place gs) is))
      g.streams.items in
      let others = same_groups gs (λ place is. covers place (or_right (looking.is_in_range place g) (is_in_groups place gs) is)) in
      sum_by-cons (count_in_group (after image w t)) g gs
      ∙ (λ i. here i + others i)
      ∙ sym (sum_by-cons (count_in_group w) g gs)

  same_form : (f : ClaimForm) → ((place : ℕ) → IsTrue (form_looks_at place f) → IsTrue (slice_index_or looked_at place false))
      → ((a : ℕ) → IsTrue (form_looks_at_word a f) → Contains words a)
      → form_holds (after image w t) f ≡ form_holds w f
  same_form (form.Word a test) covers named = ap (word_holds test) (free.cells a (named a (eq-eqb a a refl)))
  same_form (form.Compared a r b more) covers named =
      let one = free.cells a (named a (or_left (a == a) (b == a) (eq-eqb a a refl))) in
      let other = free.cells b (named b (or_right (a == b) (b == b) (eq-eqb b b refl))) in
      λ i. is_compared r more (one i) (other i)
  same_form (form.Streams test gs) covers named = ap (counts_so test) (same_groups gs.items covers)

  pub same_claims : (cs : List Claim)
      → ((place : ℕ) → IsTrue (is_looked_at cs place) → IsTrue (slice_index_or looked_at place false))
      → ((a : ℕ) → IsTrue (is_word_looked_at cs a) → Contains words a)
      → all_hold cs (after image w t) ≡ all_hold cs w
  same_claims [] covers named = refl
  same_claims (c ∷ cs) covers named =
      let here =
      same_form c.form
      (λ place is. covers place (or_left (form_looks_at place c.form) (is_looked_at cs place) is))
      (λ a is. named a (or_left (form_looks_at_word a c.form) (is_word_looked_at cs a) is)) in
      let others =
      same_claims cs (λ place is. covers place (or_right (form_looks_at place c.form) (is_looked_at cs place) is))
      (λ a is. named a (or_right (form_looks_at_word a c.form) (is_word_looked_at cs a) is)) in
      λ i. holds_by c.scope (here i) && others i
