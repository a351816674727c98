-- What a machine shows of steps that make requests.
use Rattle.std.proofs.Common.{zero, suc, ◌+◌, ◌<◌, ◌≤◌, arith, [], ◌∷◌, length, get_or}
use Rattle.std.proofs.lemmas.Bool.{cases_lt}
use Rattle.std.proofs.Common.{◌≡◌, ◌≢◌, ℕ, ◌⊎◌, inl, inr, Bool, true, false, refl, sym, ap, ◌∙◌, subst, List, Option, Some, None, slice_get, nat_lt, if◌then◌else◌}
use Rattle.std.specs.Prelude.{IsTrue, not}
use Rattle.std.specs.List.{Contains}
use Rattle.insn_word.specs.declared.insn.Insn.{Insn}
use Rattle.tag_memory.specs.declared.requests.Request.{Request}
use Rattle.tag_memory.specs.declared.requests.Reply.{Reply}
use Rattle.tag_memory.specs.declared.requests.Reply.TheVariants as reply
use Rattle.tag_memory.specs.Answer.{answer}
use Rattle.image_file.specs.ImageValue.{ImageValue}
use Rattle.stream_core.specs.Streams.{StreamValue, cannot_trap, after_trap_if}
use Rattle.stream_core.specs.Traps.{memory_trap}
use Rattle.stream_core.specs.Effects.{request_of}
use Rattle.stream_core.specs.StreamRow.{fetch_of, control_of, row_asking}
use Rattle.stream_core.specs.declared.traps.TrapKind.{TrapKind}
use Rattle.stream_core.specs.declared.steps.Outcome.{Outcome}
use Rattle.stream_core.specs.declared.steps.Outcome.TheVariants as outcome
use Rattle.stream_core.specs.declared.steps.Fetch.TheVariants as fetch
use Rattle.processor.specs.Processors.{ProcessorValue, stream_at}
use Rattle.processor.specs.Records.{is_running}
use Rattle.processor.specs.World.{World, outcome_of, stream_of, stream_seen_at}
use Rattle.processor.specs.declared.steps.Step.{Step}
use Rattle.waiting.specs.Running.{runs_in}
use Rattle.local_steps.specs.NeverAsking.{AsksForNone}
use Rattle.local_steps.specs.SettledEndings.{stream_in}
use Rattle.commuting_requests.specs.RequestSteps.{IsRequestStep}
use Rattle.commuting_requests.proofs.Swapping.{stepped}
use Rattle.first_sets.specs.ApartSets.{is_blocked, KeepsOff}
use Rattle.first_sets.proofs.Resting.{runs_there}
use Rattle.touched_words.specs.TouchTables.{TouchValue}

-- A stream that is shown is there.
shown_there : (size : ℕ) (w : World) (t : Step) (s : StreamValue) → stream_of size w t.p t.s ≡ Some s
    → (proc : ProcessorValue) × ((slice_get w.processors t.p ≡ Some proc) × (stream_at proc.streams t.s ≡ s))
shown_there size w t s seen = by (slice_get w.processors t.p) refl seen where
  by_room : (b : Bool) (proc : ProcessorValue) → (if b then Some (stream_at proc.streams t.s) else None) ≡ Some s
      → stream_at proc.streams t.s ≡ s
  by_room true proc e = cc
  by_room false proc e = cc

  by : (o : Option ProcessorValue) → slice_get w.processors t.p ≡ o → stream_seen_at size t.s o ≡ Some s
      → (proc : ProcessorValue) × ((slice_get w.processors t.p ≡ Some proc) × (stream_at proc.streams t.s ≡ s))
  by None there e = cc
  by (Some proc) there e = (proc, (there, by_room (nat_lt t.s size) proc e))

some_same : {A : Type 0} {x y : A} → Some x ≡ Some y → x ≡ y
some_same e = cc

-- the stream that is shown is the one that makes a request
pub shown_same : (size : ℕ) (image : ImageValue) (w : World) (t : Step) (s x : StreamValue) (q : Option Request)
    → stream_of size w t.p t.s ≡ Some s → IsRequestStep image w t x q → s ≡ x
shown_same size image w t s x q seen f =
    let at = shown_there size w t s seen in
    sym at.1.1
    ∙ ap (λ (p : ProcessorValue). stream_at p.streams t.s) (some_same (sym at.1.0 ∙ f.there))
    ∙ f.is

pub shown_makes : (size : ℕ) (image : ImageValue) (w : World) (t : Step) (s : StreamValue) (i : Insn) (q : Request)
    → stream_of size w t.p t.s ≡ Some s → fetch_of image.profile image.program s ≡ fetch.Instruction i
    → AsksForNone (control_of s i) → request_of s i ≡ Some q → IsRequestStep image w t s (Some q)
shown_makes size image w t s i q seen found none asks =
    let at = shown_there size w t s seen in record {
      processor = at.0;
      there = at.1.0;
      is = at.1.1;
      request = record { insn = i; found = found; asked = asks; none = none };
    }

-- A request that is not blocked leaves another outcome.

trapped_so : (b : Bool) (k : TrapKind) (x : StreamValue) → (after_trap_if b k x).1 ≢ outcome.Blocked
trapped_so true k x e = cc
trapped_so false k x e = cc

replied : (limit : ℕ) (s : StreamValue) (i : Insn) (r : Reply) (o : Option Request) (q : Request) → o ≡ Some q
    → is_blocked r ≡ false → (row_asking limit s i 0 (Some r) o).1 ≢ outcome.Blocked
replied limit s i r None q asks free = cc
replied limit s i (reply.Done n) (Some p) q asks free = λ e. cc
replied limit s i (reply.Blocked a) (Some p) q asks free = cc
replied limit s i (reply.Trap k a) (Some p) q asks free = λ e. trapped_so (cannot_trap s) (memory_trap k) _ e

pub goes_by : (image : ImageValue) (w : World) (t : Step) (s : StreamValue) (q : Request)
    → IsRequestStep image w t s (Some q) → is_blocked (answer w.memory q).1 ≡ false
    → ¬ (outcome_of image w t ≡ outcome.Blocked)
goes_by image w t s q f free e =
    replied image.retry_limit s f.request.insn (answer w.memory q).1 (request_of s f.request.insn) q f.request.asked free
    (sym (ap (λ (x : World × Outcome). x.1) (stepped image w t s (Some q) f)) ∙ e)

-- Who does not run keeps off, and who runs is among those that do.
pub all_keep_off : (tables : List TouchValue) (w : World) (running set : List Step) (quiet : Bool) (q : Request)
    → ((t : Step) → IsTrue (runs_in w t) → Contains running t)
    → ((u : Step) → Contains running u → ¬ (Contains set u) → KeepsOff tables w u quiet q)
    → (u : Step) → ¬ (Contains set u) → KeepsOff tables w u quiet q
all_keep_off tables w running set quiet q all each u none = by (is_running (stream_in w u.p u.s)) refl where
  by : (b : Bool) → is_running (stream_in w u.p u.s) ≡ b → KeepsOff tables w u quiet q
  by true e = each u (all u (runs_there w u ∙ e)) none
  by false e = inl e

-- Steps that were looked at one after the other.

same_default : (ts : List Step) (n : ℕ) (c d : Step) → n < length ts → get_or ts n c ≡ get_or ts n d
same_default [] n c d below = absurd (omega (arith, below))
same_default (t ∷ ts) zero c d below = refl
same_default (t ∷ ts) (suc n) c d below = same_default ts n c d (omega (arith, below))

abbrev pub AreLookedAt : (Step → Type 0) → List Step → ℕ → Type 0
AreLookedAt P ts n = (k : ℕ) (d : Step) → k < n → P (get_or ts k d)

pub one_more : (P : Step → Type 0) (ts : List Step) (n : ℕ) (c : Step) → n < length ts → AreLookedAt P ts n
    → P (get_or ts n c) → AreLookedAt P ts (n + 1)
one_more P ts n c within all last k d less = by (cases_lt k n) where
  by : (k < n) ⊎ (n ≤ k) → P (get_or ts k d)
  by (inl before) = all k d before
  by (inr past) =
      let same : n ≡ k = omega (arith, past, less) in
      subst (λ (j : ℕ). P (get_or ts j d)) same (subst P (same_default ts n c d within) last)

pub each_one : (P : Step → Type 0) (ts : List Step) (n : ℕ) → length ts ≤ n → AreLookedAt P ts n → (t : Step)
    → Contains ts t → P t
each_one P ts n many all t has = subst P has.2 (all has.0 t (omega (arith, has.1, many)))

pub not_so : (b : Bool) → IsTrue (not b) → b ≡ false
not_so true e = cc
not_so false e = refl
