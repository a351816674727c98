-- A standstill stays as it is, for ever.
use Rattle.std.proofs.Common.{◌≡◌, ℕ, ◌<◌, ◌≤◌, Bool, true, false, refl, sym, ap, ◌∙◌, arith}
use Rattle.std.proofs.Common.{Option, Some, None, List, [], ◌∷◌, length, get_or, set, slice_get}
use Rattle.std.proofs.Common.{nat_lt, if◌then◌else◌, zero, suc}
use Rattle.std.specs.Prelude.{not}
use Rattle.std.proofs.lemmas.Bool.{ltb-false}
use Rattle.std.proofs.lemmas.List.{set-get_or}
use Rattle.std.proofs.lemmas.Option.{slice_get_within, get_or_from_slice_get}
use Rattle.image_file.specs.ImageValue.{ImageValue}
use Rattle.stream_core.specs.declared.steps.Outcome.{Outcome}
use Rattle.stream_core.specs.declared.steps.Fetch.{Fetch}
use Rattle.stream_core.specs.declared.steps.Fetch.TheVariants as fetch
use Rattle.stream_core.specs.Streams.{StreamValue, idle}
use Rattle.machine.specs.Processor.Processors.{ProcessorValue, stream_at}
use Rattle.machine.specs.Processor.Records.{is_running}
use Rattle.machine.specs.Processor.Row.{step_fetch_of, next_of, request}
use Rattle.machine.specs.Processor.World.{World, after, steps, stream_of, stream_seen_at}
use Rattle.machine.specs.ProcessorTypes.Step.{Step}
use Rattle.machine.proofs.Processor.Begun.{rests, row_begun, request_begun}
use Rattle.machine.proofs.Processor.Histories.{after-known, after-absent}
use Rattle.machine.specs.MachineValue.{MachineValue, IsMachine}
use Rattle.waiting.specs.Running.{streams_at, runs_at, runs_in}
use Rattle.waiting.specs.Stuck.{AllStuck, StaysForEver}
use Rattle.waiting.proofs.Needs.{skips, skips-at, rests-begun}

rest_alone : (f : Fetch) → rests f ≡ true → f ≡ fetch.Rest
rest_alone fetch.Rest e = refl
rest_alone (fetch.Trap k) e = cc
rest_alone (fetch.Instruction i) e = cc

-- a step of a stream that does not run changes nothing
rested_at : (image : ImageValue) (w : World) (t : Step) (o : Option ProcessorValue) → slice_get w.processors t.p ≡ o
    → runs_at (slice_get (streams_at o) t.s) ≡ false → after image w t ≡ w
rested_at image w t None there rests_now = after-absent image w t there
rested_at image w t (Some proc) there rests_now =
    let skipped : skips (next_of image proc t.s) ≡ true = skips-at image (Some proc) t.s ∙ ap not rests_now in
    let begins : step_fetch_of image proc t.s ≡ fetch.Rest =
    rest_alone (step_fetch_of image proc t.s) (rests-begun image proc t.s ∙ skipped) in
    let asks : request image proc t.s ≡ None = request_begun image proc t.s fetch.Rest begins in
    let put : ProcessorValue × Outcome → World =
    λ e. record { processors = set w.processors t.p e.0; memory = w.memory } in
    let list : List ProcessorValue → World = λ ps. record { processors = ps; memory = w.memory } in
    after-known image w t proc None there asks
    ∙ ap put (sym (row_begun image proc t.s None fetch.Rest begins))
    ∙ ap (λ x. list (set w.processors t.p x)) (sym (get_or_from_slice_get w.processors t.p proc proc there))
    ∙ ap list (set-get_or w.processors t.p proc)

-- where each stream that runs is stuck, no step changes anything
each_stays : (image : ImageValue) (w : World) (t : Step) (b : Bool) → AllStuck image w → runs_in w t ≡ b
    → after image w t ≡ w
each_stays image w t true all runs = ap (λ (x : World × Outcome). x.0) (all t runs).stays
each_stays image w t false all rests_now = rested_at image w t (slice_get w.processors t.p) refl rests_now

pub stays_for_ever : (image : ImageValue) (w : World) → AllStuck image w → StaysForEver image w
stays_for_ever image w all [] = refl
stays_for_ever image w all (t ∷ ts) =
    ap (λ v. steps image v ts) (each_stays image w t (runs_in w t) all refl) ∙ stays_for_ever image w all ts

-- Where a stream runs.

runs_within : (o : Option ProcessorValue) (n slim : ℕ) → length (streams_at o) ≤ slim
    → runs_at (slice_get (streams_at o) n) ≡ true → n < slim
runs_within o n slim few runs = by_test (slice_get (streams_at o) n) refl runs where
  by_test : (x : Option _) → slice_get (streams_at o) n ≡ x → runs_at x ≡ true → n < slim
  by_test None got e = cc
  by_test (Some s) got e = let within = slice_get_within (streams_at o) n s got in omega arith

-- no processor of a machine has more streams than its image says
pub few_streams : (size : ℕ) (m : MachineValue) (p : ℕ) → IsMachine size m
    → length (streams_at (slice_get m.world.processors p)) ≤ m.image.slim
few_streams size m p machine = by_processor (slice_get m.world.processors p) refl where
  by_processor : (o : Option ProcessorValue) → slice_get m.world.processors p ≡ o
      → length (streams_at o) ≤ m.image.slim
  by_processor None got = omega arith
  by_processor (Some proc) got =
      let at : get_or m.world.processors p proc ≡ proc = get_or_from_slice_get m.world.processors p proc proc got in
      let all = machine.slims p proc (slice_get_within m.world.processors p proc got) in
      let long : length proc.streams ≡ m.image.slim = sym (ap (λ (x : ProcessorValue). length x.streams) at) ∙ all in
      omega arith

-- a stream that is not there does not run
runs_or_idle : (ss : List StreamValue) (n : ℕ) → is_running (get_or ss n idle) ≡ runs_at (slice_get ss n)
runs_or_idle [] n = refl
runs_or_idle (s ∷ ss) zero = refl
runs_or_idle (s ∷ ss) (suc n) = runs_or_idle ss n

runs_past : (ss : List StreamValue) (n : ℕ) → length ss ≤ n → runs_at (slice_get ss n) ≡ false
runs_past [] n past = refl
runs_past (s ∷ ss) zero past = absurd (omega (arith, past))
runs_past (s ∷ ss) (suc n) past = runs_past ss n (omega (arith, past))

seen_by : (ss : List StreamValue) (n : ℕ) (b : Bool) → (b ≡ false → length ss ≤ n)
    → runs_at (if b then Some (stream_at ss n) else None) ≡ runs_at (slice_get ss n)
seen_by ss n true past = runs_or_idle ss n
seen_by ss n false past = sym (runs_past ss n (past refl))

-- a stream that runs is numbered below the image's slim
pub runs-slim : (size : ℕ) (m : MachineValue) (t : Step) → IsMachine size m → runs_in m.world t ≡ true
    → t.s < m.image.slim
runs-slim size m t machine runs =
    runs_within (slice_get m.world.processors t.p) t.s m.image.slim (few_streams size m t.p machine) runs

-- what is seen of a stream tells whether it runs
pub runs_seen : (size : ℕ) (m : MachineValue) (t : Step) (o : Option StreamValue) → IsMachine size m
    → o ≡ stream_of size m.world t.p t.s → runs_at o ≡ runs_in m.world t
runs_seen size m t o machine is = ap runs_at is ∙ by_processor (slice_get m.world.processors t.p) refl where
  by_processor : (x : Option ProcessorValue) → slice_get m.world.processors t.p ≡ x
      → runs_at (stream_seen_at size t.s x) ≡ runs_at (slice_get (streams_at x) t.s)
  by_processor None got = refl
  by_processor (Some proc) got =
      seen_by proc.streams t.s (nat_lt t.s size)
      (λ off.
      let few : length (streams_at (slice_get m.world.processors t.p)) ≤ m.image.slim = few_streams size m t.p machine in
      let same : length (streams_at (slice_get m.world.processors t.p)) ≡ length proc.streams =
      ap (λ (x : Option ProcessorValue). length (streams_at x)) got in
      omega (arith, ltb-false _ _ off, few, same, machine.within))

processor_within : (w : World) (t : Step) (o : Option ProcessorValue) → slice_get w.processors t.p ≡ o
    → runs_at (slice_get (streams_at o) t.s) ≡ true → t.p < length w.processors
processor_within w t None got runs = cc
processor_within w t (Some proc) got runs = slice_get_within w.processors t.p proc got

-- and its processor below the number of the image's entries
pub runs-entries : (size : ℕ) (m : MachineValue) (t : Step) → IsMachine size m → runs_in m.world t ≡ true
    → t.p < length m.image.entries
runs-entries size m t machine runs =
    let within = processor_within m.world t (slice_get m.world.processors t.p) refl runs in
    omega (arith, machine.one_each)
