-- Which streams a machine shows to end beside settled ones.
use Rattle.std.proofs.Common.{◌≡◌, ◌≢◌, ℕ, ◌<◌, ◌≤◌, ◌⊎◌, inl, inr, Bool, true, false, refl, sym, ap, ◌∙◌, arith, subst}
use Rattle.std.proofs.Common.{if◌then◌else◌, nat_lt, List, length, Option, Some, None, slice_get}
use Rattle.std.proofs.lemmas.Bool.{cases_lt, ltb-false}
use Rattle.std.proofs.lemmas.List.{get_or_past}
use Rattle.image_file.specs.ImageValue.{ImageValue}
use Rattle.stream_core.specs.Streams.{StreamValue, idle}
use Rattle.processor.specs.Processors.{ProcessorValue, stream_at}
use Rattle.processor.specs.World.{World, stream_of, stream_seen_at}
use Rattle.processor.specs.declared.steps.Step.{Step}
use Rattle.machine.specs.MachineValue.{MachineValue, IsMachine}
use Rattle.waiting.specs.Running.{streams_at}
use Rattle.waiting.proofs.Standing.{few_streams}
use Rattle.local_steps.specs.EndingSteps.{IsEndingIn}
use Rattle.local_steps.specs.SettledEndings.{is_settled, stream_in, IsSettledEnding}
use Rattle.local_steps.proofs.Ended.{there_ending}
use Rattle.local_steps.proofs.Told.{shown}

-- Each other stream of the processor stands settled if it runs.
abbrev pub AreOthersSettled : List Bool → World → Step → Type 0
AreOthersSettled places w t = (k : ℕ) → k ≢ t.s → is_settled places (stream_in w t.p k) ≡ true

-- past the streams that the image has there are idle ones alone
past_idle : (size : ℕ) (m : MachineValue) (p k : ℕ) → IsMachine size m → m.image.slim ≤ k → stream_in m.world p k ≡ idle
past_idle size m p k machine past =
    let few : length (streams_at (slice_get m.world.processors p)) ≤ m.image.slim = few_streams size m p machine in
    get_or_past (streams_at (slice_get m.world.processors p)) k idle (omega (arith, few, past))

-- so it holds where it holds of as many streams as the image has
pub others_settled : (size : ℕ) (places : List Bool) (m : MachineValue) (t : Step) (n : ℕ) → IsMachine size m
    → m.image.slim ≤ n
    → ((k : ℕ) → k < n → k ≢ t.s → is_settled places (stream_in m.world t.p k) ≡ true)
    → AreOthersSettled places m.world t
others_settled size places m t n machine past all k apart = by_place (cases_lt k n) where
  by_place : (k < n) ⊎ (n ≤ k) → is_settled places (stream_in m.world t.p k) ≡ true
  by_place (inl below) = all k below apart
  by_place (inr far) = ap (is_settled places) (past_idle size m t.p k machine (omega (arith, past, far)))

-- A stream that the machine shows is that of its world.
pub seen_in : (size : ℕ) (m : MachineValue) (p k : ℕ) (s : StreamValue) → stream_of size m.world p k ≡ Some s
    → stream_in m.world p k ≡ s
seen_in size m p k s seen = by_processor (slice_get m.world.processors p) seen where
  by_processor : (o : Option ProcessorValue) → stream_seen_at size k o ≡ Some s → stream_at (streams_at o) k ≡ s
  by_processor None e = cc
  by_processor (Some proc) e = by_room (nat_lt k size) e where
    by_room : (b : Bool) → (if b then Some (stream_at proc.streams k) else None) ≡ Some s → stream_at proc.streams k ≡ s
    by_room true e = cc
    by_room false e = cc

-- where it shows none the stream is idle
pub unseen_idle : (size : ℕ) (m : MachineValue) (p k : ℕ) → IsMachine size m → stream_of size m.world p k ≡ None
    → stream_in m.world p k ≡ idle
unseen_idle size m p k machine none = by_processor (slice_get m.world.processors p) refl none where
  by_processor : (o : Option ProcessorValue) → slice_get m.world.processors p ≡ o → stream_seen_at size k o ≡ None
      → stream_in m.world p k ≡ idle
  by_processor None there e = ap (λ o. stream_at (streams_at o) k) there
  by_processor (Some proc) there e =
      past_idle size m p k machine (by_room (nat_lt k size) refl e)
    where
      by_room : (b : Bool) → nat_lt k size ≡ b → (if b then Some (stream_at proc.streams k) else None) ≡ None
          → m.image.slim ≤ k
      by_room true off e = cc
      by_room false off e = omega (arith, ltb-false k size off, machine.within)

-- Where a machine shows the stream that ends.

in_there : (w : World) (p k : ℕ) (proc : ProcessorValue) → slice_get w.processors p ≡ Some proc
    → stream_in w p k ≡ stream_at proc.streams k
in_there w p k proc there = ap (λ o. stream_at (streams_at o) k) there

pub ending_shown : (size : ℕ) (places : List Bool) (m : MachineValue) (t : Step) (s : StreamValue)
    → stream_of size m.world t.p t.s ≡ Some s → IsEndingIn m.image s → AreOthersSettled places m.world t
    → IsSettledEnding places m.image m.world t
ending_shown size places m t s seen ending rest = by_processor (slice_get m.world.processors t.p) refl seen where
  by_processor : (o : Option ProcessorValue) → slice_get m.world.processors t.p ≡ o → stream_seen_at size t.s o ≡ Some s
      → IsSettledEnding places m.image m.world t
  by_processor None there e = cc
  by_processor (Some proc) there e = record {
    processor = proc;
    there = there;
    ending = subst (IsEndingIn m.image)
        (sym (seen_in size m t.p t.s s seen) ∙ in_there m.world t.p t.s proc there) ending;
    others = λ k apart. ap (is_settled places) (sym (in_there m.world t.p k proc there)) ∙ rest k apart;
  }

some_same : {x y : StreamValue} → Some x ≡ Some y → x ≡ y
some_same e = cc

pub shown_ends : (size : ℕ) (places : List Bool) (m : MachineValue) (t : Step) (s : StreamValue) → IsMachine size m
    → stream_of size m.world t.p t.s ≡ Some s → IsSettledEnding places m.image m.world t → IsEndingIn m.image s
shown_ends size places m t s machine seen l =
    let within = there_ending m.image l.processor t.s l.ending in
    subst (IsEndingIn m.image) (some_same (sym (shown size m t l.processor machine l.there within) ∙ seen)) l.ending

pub shown_settled : (image : ImageValue) (places : List Bool) (w : World) (t : Step) → IsSettledEnding places image w t
    → AreOthersSettled places w t
shown_settled image places w t l k apart =
    ap (is_settled places) (in_there w t.p k l.processor l.there) ∙ l.others k apart

-- Where it shows none, there is none.
pub none_ends : (size : ℕ) (places : List Bool) (m : MachineValue) (t : Step) → IsMachine size m
    → stream_of size m.world t.p t.s ≡ None → IsSettledEnding places m.image m.world t → ⊥
none_ends size places m t machine none l =
    let within = there_ending m.image l.processor t.s l.ending in
    let both : Some (stream_at l.processor.streams t.s) ≡ None =
    sym (shown size m t l.processor machine l.there within) ∙ none in
    cc
