-- Worlds that agree are judged alike: each as the one is in which registers that do not matter hold 0.
use Rattle.std.proofs.Common.{Bool, ◌≡◌, ℕ, zero, suc, ◌+◌, cond, ◌<◌, ◌≤◌, ◌⊎◌, inl, inr, refl, sym, ap, ◌∙◌, arith}
use Rattle.std.proofs.Common.{List, [], ◌∷◌, length, map, Option, Some, None, slice_get, ◌&&◌}
use Rattle.std.specs.Prelude.{IsTrue}
use Rattle.std.specs.List.{list_all}
use Rattle.std.specs.Option.{option_map, option_and_then}
use Rattle.std.proofs.lemmas.Bool.{cases_lt, eq-eqb, or_left, or_right}
use Rattle.std.proofs.lemmas.List.Sums.{sum_by-cons}
use Rattle.std.proofs.lemmas.Option.{slice_get-get_or, slice_get_past}
use Rattle.stream_core.specs.Streams.{StreamValue}
use Rattle.processor.specs.Processors.{ProcessorValue, is_idle}
use Rattle.processor.specs.World.{World}
use Rattle.processor.specs.declared.steps.Step.{Step}
use Rattle.program_flow.specs.Tables.{is_named_by}
use Rattle.busy_streams.specs.DeadRegisters.Clearing.{LiveValue, kept_registers, cleared_stream, cleared_processor, cleared, AgreeBy}
use Rattle.busy_streams.proofs.DeadRegisters.Registers.{all_kept, is_kept, does_matter}
use Rattle.busy_streams.proofs.DeadRegisters.Worlds.{agreeing_same}
use Rattle.expectations.specs.Meeting.{stream_in, holds_in_register, is_number, is_stopped_by, all_idle, is_met}
use Rattle.expectations.specs.NamedRegisters.{names_register, is_register_named}
use Rattle.expectations.specs.declared.expectation.Expectation.{Expectation}
use Rattle.expectations.specs.declared.expectation.Expectation.TheVariants as expect
use Rattle.claims.specs.Holding.{runs_at_places, count_at_places, count_in_group, count_in_groups, counts_so, stream_at}
use Rattle.claims.specs.Holding.{form_holds, holds_by, shown_by}
use Rattle.claims.specs.declared.claim.Claim.{Claim}
use Rattle.claims.specs.declared.claim.ClaimForm.{ClaimForm}
use Rattle.claims.specs.declared.claim.ClaimForm.TheVariants as form
use Rattle.claims.specs.declared.claim.StreamGroup.{StreamGroup}
use Rattle.schedule_verdicts.specs.KeptClaims.{all_hold}
use Rattle.schedule_verdicts.specs.ClaimMarks.{passes}
use Rattle.schedule_verdicts.specs.NamedRegisters.{AreAllNamed}
use Rattle.schedule_verdicts.specs.RightEnds.{are_met, is_stop_expected, is_rest_expected, IsRightEnd}

-- What is seen of a cleared world.

get_map : {X Y : Type 0} (f : X → Y) (xs : List X) (k : ℕ) → slice_get (map f xs) k ≡ option_map f (slice_get xs k)
get_map f [] k = refl
get_map f (x ∷ xs) zero = refl
get_map f (x ∷ xs) (suc k) = get_map f xs k

-- 1 where the stream of a step runs at places of a range, else 0
abbrev one_at : ℕ → ℕ → World → Step → ℕ
one_at first last w t = cond (runs_at_places first last (stream_at w t)) 1 0

module _ (l : LiveValue) where
  stream_among : (o : Option ProcessorValue) (s : ℕ)
      → option_and_then (λ (d : ProcessorValue). slice_get d.streams s) (option_map (cleared_processor l) o)
      ≡ option_map (cleared_stream l) (option_and_then (λ (d : ProcessorValue). slice_get d.streams s) o)
  stream_among None s = refl
  stream_among (Some d) s = get_map (cleared_stream l) d.streams s

  stream_cleared : (w : World) (p s : ℕ)
      → stream_in (cleared l w) p s ≡ option_map (cleared_stream l) (stream_in w p s)
  unfolding cleared
  stream_cleared w p s =
      ap (option_and_then (λ (d : ProcessorValue). slice_get d.streams s)) (get_map (cleared_processor l) w.processors p)
      ∙ stream_among (slice_get w.processors p) s

  -- Registers that are named.

  named_held : (s : StreamValue) (r : ℕ) → IsTrue (is_named_by l.names r)
      → slice_get (kept_registers l s) r ≡ slice_get s.registers r
  named_held s r named = by (cases_lt r (length s.registers)) where
    by : (r < length s.registers) ⊎ (length s.registers ≤ r) → slice_get (kept_registers l s) r ≡ slice_get s.registers r
    by (inl here) =
        let size : length (kept_registers l s) ≡ length s.registers = all_kept l s in
        slice_get-get_or (kept_registers l s) r 0 (omega (arith, here, size))
        ∙ ap Some (is_kept l s r (does_matter l s r (inl named)))
        ∙ sym (slice_get-get_or s.registers r 0 here)
    by (inr past) =
        let size : length (kept_registers l s) ≡ length s.registers = all_kept l s in
        slice_get_past (kept_registers l s) r (omega (arith, past, size)) ∙ sym (slice_get_past s.registers r past)

  held : (r value : ℕ) → IsTrue (is_named_by l.names r) → (o : Option StreamValue)
      → holds_in_register r value (option_map (cleared_stream l) o) ≡ holds_in_register r value o
  held r value named None = refl
  held r value named (Some s) = ap (is_number value) (named_held s r named)

  -- What looks at no register.

  stopped : (trap : ℕ) (o : Option StreamValue)
      → is_stopped_by trap (option_map (cleared_stream l) o) ≡ is_stopped_by trap o
  stopped trap None = refl
  stopped trap (Some s) = refl

  stop_expected : (expected : List Expectation) (p s : ℕ) (o : Option StreamValue)
      → is_stop_expected expected p s (option_map (cleared_stream l) o) ≡ is_stop_expected expected p s o
  stop_expected expected p s None = refl
  stop_expected expected p s (Some d) = refl

  rest_expected : (expected : List Expectation) (p s : ℕ) (o : Option StreamValue)
      → is_rest_expected expected p s (option_map (cleared_stream l) o) ≡ is_rest_expected expected p s o
  rest_expected expected p s None = refl
  rest_expected expected p s (Some d) = refl

  idle_streams : (ss : List StreamValue) → list_all is_idle (map (cleared_stream l) ss) ≡ list_all is_idle ss
  idle_streams [] = refl
  idle_streams (s ∷ ss) = ap (λ b. is_idle s && b) (idle_streams ss)

  idle_processors : (ps : List ProcessorValue) → list_all all_idle (map (cleared_processor l) ps) ≡ list_all all_idle ps
  idle_processors [] = refl
  idle_processors (d ∷ ps) = λ i. idle_streams d.streams i && idle_processors ps i

  -- Expectations.

  met_cleared : (w : World) (e : Expectation) → ((r : ℕ) → IsTrue (names_register r e) → IsTrue (is_named_by l.names r))
      → is_met (cleared l w) e ≡ is_met w e
  unfolding cleared
  met_cleared w (expect.Word a value state) named = refl
  met_cleared w (expect.Words a b value state) named = refl
  met_cleared w (expect.Sum a b value) named = refl
  met_cleared w (expect.Compared a r b more) named = refl
  met_cleared w (expect.Register p s r value) named =
      ap (holds_in_register r value) (stream_cleared w p s) ∙ held r value (named r (eq-eqb r r refl)) (stream_in w p s)
  met_cleared w expect.Finished named = idle_processors w.processors
  met_cleared w (expect.Stopped p s trap) named =
      ap (is_stopped_by trap) (stream_cleared w p s) ∙ stopped trap (stream_in w p s)
  met_cleared w (expect.Waits p s first last) named = refl
  met_cleared w expect.Loops named = refl

  all_met_cleared : (w : World) (es : List Expectation) → AreAllNamed es l.names → are_met (cleared l w) es ≡ are_met w es
  all_met_cleared w [] named = refl
  all_met_cleared w (e ∷ es) named =
      let first = met_cleared w e (λ r is. named r (or_left (names_register r e) (is_register_named es r) is)) in
      let others = all_met_cleared w es (λ r is. named r (or_right (names_register r e) (is_register_named es r) is)) in
      ap (λ b. b && are_met (cleared l w) es) first ∙ ap (λ b. is_met w e && b) others

  -- Claims.

  at_places : (first last : ℕ) (o : Option StreamValue)
      → runs_at_places first last (option_map (cleared_stream l) o) ≡ runs_at_places first last o
  at_places first last None = refl
  at_places first last (Some s) = refl

  counted : (w : World) (first last : ℕ) (ts : List Step)
      → count_at_places (cleared l w) first last ts ≡ count_at_places w first last ts
  counted w first last [] = refl
  counted w first last (t ∷ ts) =
      let here : runs_at_places first last (stream_at (cleared l w) t) ≡ runs_at_places first last (stream_at w t) =
      ap (runs_at_places first last) (stream_cleared w t.p t.s) ∙ at_places first last (stream_at w t) in
      sum_by-cons (one_at first last (cleared l w)) t ts
      ∙ ap (λ b. cond b 1 0 + count_at_places (cleared l w) first last ts) here
      ∙ ap (λ n. one_at first last w t + n) (counted w first last ts)
      ∙ sym (sum_by-cons (one_at first last w) t ts)

  groups_cleared : (w : World) (gs : List StreamGroup) → count_in_groups (cleared l w) gs ≡ count_in_groups w gs
  groups_cleared w [] = refl
  groups_cleared w (g ∷ gs) =
      sum_by-cons (count_in_group (cleared l w)) g gs
      ∙ (λ i. counted w g.first g.last g.streams.items i + groups_cleared w gs i)
      ∙ sym (sum_by-cons (count_in_group w) g gs)

  form_cleared : (w : World) (f : ClaimForm) → form_holds (cleared l w) f ≡ form_holds w f
  unfolding cleared
  form_cleared w (form.Word a t) = refl
  form_cleared w (form.Compared a r b more) = refl
  form_cleared w (form.Streams t gs) = ap (counts_so t) (groups_cleared w gs.items)

  claims_cleared : (w : World) (cs : List Claim) → all_hold cs (cleared l w) ≡ all_hold cs w
  claims_cleared w [] = refl
  claims_cleared w (c ∷ cs) = λ i. holds_by c.scope (form_cleared w c.form i) && claims_cleared w cs i

  passes_cleared : (w : World) (c : Claim) → passes (cleared l w) c ≡ passes w c
  passes_cleared w c = ap (λ (b : Bool). holds_by c.scope b && shown_by c.scope b) (form_cleared w c.form)

  -- Of two worlds that agree.

  module _ (a b : World) (g : AgreeBy l a b) where
    pub agreeing_met : (es : List Expectation) → AreAllNamed es l.names → are_met a es ≡ are_met b es
    agreeing_met es named =
        sym (all_met_cleared a es named) ∙ ap (λ w. are_met w es) (agreeing_same l a b g) ∙ all_met_cleared b es named

    pub agreeing_claims : (cs : List Claim) → all_hold cs a ≡ all_hold cs b
    agreeing_claims cs =
        sym (claims_cleared a cs) ∙ ap (all_hold cs) (agreeing_same l a b g) ∙ claims_cleared b cs

    pub agreeing_passes : (c : Claim) → passes a c ≡ passes b c
    agreeing_passes c =
        sym (passes_cleared a c) ∙ ap (λ w. passes w c) (agreeing_same l a b g) ∙ passes_cleared b c

    stop_same : (es : List Expectation) (t : Step)
        → is_stop_expected es t.p t.s (stream_in a t.p t.s) ≡ is_stop_expected es t.p t.s (stream_in b t.p t.s)
    stop_same es t =
        sym (cleared_stop a) ∙ ap (λ w. is_stop_expected es t.p t.s (stream_in w t.p t.s)) (agreeing_same l a b g)
        ∙ cleared_stop b
      where
        cleared_stop : (w : World)
            → is_stop_expected es t.p t.s (stream_in (cleared l w) t.p t.s)
            ≡ is_stop_expected es t.p t.s (stream_in w t.p t.s)
        cleared_stop w =
            ap (is_stop_expected es t.p t.s) (stream_cleared w t.p t.s) ∙ stop_expected es t.p t.s (stream_in w t.p t.s)

    rest_same : (es : List Expectation) (t : Step)
        → is_rest_expected es t.p t.s (stream_in a t.p t.s) ≡ is_rest_expected es t.p t.s (stream_in b t.p t.s)
    rest_same es t =
        sym (cleared_rest a) ∙ ap (λ w. is_rest_expected es t.p t.s (stream_in w t.p t.s)) (agreeing_same l a b g)
        ∙ cleared_rest b
      where
        cleared_rest : (w : World)
            → is_rest_expected es t.p t.s (stream_in (cleared l w) t.p t.s)
            ≡ is_rest_expected es t.p t.s (stream_in w t.p t.s)
        cleared_rest w =
            ap (is_rest_expected es t.p t.s) (stream_cleared w t.p t.s) ∙ rest_expected es t.p t.s (stream_in w t.p t.s)

    pub agreeing_right : (es : List Expectation) → AreAllNamed es l.names → IsRightEnd es a → IsRightEnd es b
    agreeing_right es named right = record {
      waits = λ t. sym (rest_same es t) ∙ right.waits t;
      met = sym (agreeing_met es named) ∙ right.met;
      traps = λ t. sym (stop_same es t) ∙ right.traps t;
    }
