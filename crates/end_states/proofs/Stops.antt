-- Which trap stopped a stream, and what is added for a stream when all are looked at in order.
use Rattle.std.proofs.Common.{◌≡◌, ℕ, zero, suc, ◌+◌, ◌<◌, ◌≤◌, Bool, true, false, refl, sym, ap, ◌∙◌, arith}
use Rattle.std.proofs.Common.{Option, Some, None, List, [], ◌∷◌, ◌++◌, length, drop, get_or, slice_get, append_assoc, append-nil}
use Rattle.std.proofs.Common.{nat_lt, if◌then◌else◌}
use Rattle.std.proofs.Math.Seq.{drop-nil}
use Rattle.std.proofs.lemmas.Bool.{ltb-false}
use Rattle.std.proofs.lemmas.List.{drop_all}
use Rattle.stream_core.specs.Streams.{StreamValue, idle}
use Rattle.processor.specs.Processors.{ProcessorValue, stream_at}
use Rattle.processor.specs.World.{World, stream_of, stream_seen_at}
use Rattle.processor.specs.declared.steps.Step.{Step}
use Rattle.machine.specs.MachineValue.{MachineValue, IsMachine}
use Rattle.waiting.specs.Running.{streams_at}
use Rattle.waiting.proofs.Standing.{few_streams}
use Rattle.end_states.specs.EndStates.{trap_at, trap_in, stop_of, stops_from, stops_of, trap_stops}
use Rattle.end_states.specs.declared.states.TrapStop.{TrapStop}

-- a stream that is not there was not stopped
trap_or_idle : (ss : List StreamValue) (n : ℕ) → trap_at (Some (get_or ss n idle)) ≡ trap_at (slice_get ss n)
trap_or_idle [] n = refl
trap_or_idle (s ∷ ss) zero = refl
trap_or_idle (s ∷ ss) (suc n) = trap_or_idle ss n

trap_past : (ss : List StreamValue) (n : ℕ) → length ss ≤ n → trap_at (slice_get ss n) ≡ None
trap_past [] n past = refl
trap_past (s ∷ ss) zero past = absurd (omega (arith, past))
trap_past (s ∷ ss) (suc n) past = trap_past ss n (omega (arith, past))

seen_by : (ss : List StreamValue) (n : ℕ) (b : Bool) → (b ≡ false → length ss ≤ n)
    → trap_at (if b then Some (stream_at ss n) else None) ≡ trap_at (slice_get ss n)
seen_by ss n true past = trap_or_idle ss n
seen_by ss n false past = sym (trap_past ss n (past refl))

-- what is seen of a stream says which trap stopped it
pub trap_seen : (size : ℕ) (m : MachineValue) (t : Step) (o : Option StreamValue) → IsMachine size m
    → o ≡ stream_of size m.world t.p t.s → trap_at o ≡ trap_in m.world t
trap_seen size m t o machine is = ap trap_at is ∙ by_processor (slice_get m.world.processors t.p) refl where
  by_processor : (x : Option ProcessorValue) → slice_get m.world.processors t.p ≡ x
      → trap_at (stream_seen_at size t.s x) ≡ trap_at (slice_get (streams_at x) t.s)
  by_processor None got = refl
  by_processor (Some proc) got =
      seen_by proc.streams t.s (nat_lt t.s size)
      (λ off.
      let few : length (streams_at (slice_get m.world.processors t.p)) ≤ m.image.slim = few_streams size m t.p machine in
      let same : length (streams_at (slice_get m.world.processors t.p)) ≡ length proc.streams =
      ap (λ (x : Option ProcessorValue). length (streams_at x)) got in
      omega (arith, ltb-false _ _ off, few, same, machine.within))

-- One stream after another.

stops-drop_from : (p n k : ℕ) (ss : List StreamValue)
    → stops_from p n (drop k ss)
    ≡ stop_of (record { p = p; s = n }) (trap_at (slice_get ss k)) ++ stops_from p (n + 1) (drop (k + 1) ss)
stops-drop_from p n k [] =
    ap (stops_from p n) (drop-nil k) ∙ sym (ap (stops_from p (n + 1)) (drop-nil (k + 1)))
stops-drop_from p n zero (s ∷ ss) = refl
stops-drop_from p n (suc k) (s ∷ ss) =
    let next : suc (k + 1) ≡ suc k + 1 = omega arith in
    stops-drop_from p n k ss
    ∙ ap (λ j. stop_of (record { p = p; s = n }) (trap_at (slice_get ss k)) ++ stops_from p (n + 1) (drop j (s ∷ ss))) next

stops_of-drop_from : (p k : ℕ) (procs : List ProcessorValue)
    → stops_of p (drop k procs)
    ≡ stops_from p 0 (streams_at (slice_get procs k)) ++ stops_of (p + 1) (drop (k + 1) procs)
stops_of-drop_from p k [] = ap (stops_of p) (drop-nil k) ∙ sym (ap (stops_of (p + 1)) (drop-nil (k + 1)))
stops_of-drop_from p zero (proc ∷ procs) = refl
stops_of-drop_from p (suc k) (proc ∷ procs) =
    let next : suc (k + 1) ≡ suc k + 1 = omega arith in
    stops_of-drop_from p k procs
    ∙ ap (λ j. stops_from p 0 (streams_at (slice_get procs k)) ++ stops_of (p + 1) (drop j (proc ∷ procs))) next

-- one stream more: what is added is its trap, if one stopped it
pub one_more_stream : (w : World) (p n : ℕ) (all done more : List TrapStop)
    → done ++ stops_from p n (drop n (streams_at (slice_get w.processors p))) ≡ all
    → more ≡ done ++ stop_of (record { p = p; s = n }) (trap_in w (record { p = p; s = n }))
    → more ++ stops_from p (n + 1) (drop (n + 1) (streams_at (slice_get w.processors p))) ≡ all
one_more_stream w p n all done more so_far is =
    let ss = streams_at (slice_get w.processors p) in
    let here = stop_of (record { p = p; s = n }) (trap_at (slice_get ss n)) in
    let rest = stops_from p (n + 1) (drop (n + 1) ss) in
    ap (λ x. x ++ rest) is ∙ append_assoc done here rest
    ∙ sym (ap (λ x. done ++ x) (stops-drop_from p n n ss)) ∙ so_far

-- no stream is left
pub all_streams : (size : ℕ) (m : MachineValue) (p n : ℕ) (all done : List TrapStop) → IsMachine size m
    → done ++ stops_from p n (drop n (streams_at (slice_get m.world.processors p))) ≡ all → m.image.slim ≤ n
    → done ≡ all
all_streams size m p n all done machine so_far past =
    let ss = streams_at (slice_get m.world.processors p) in
    let few = few_streams size m p machine in
    let none : drop n ss ≡ [] = drop_all n ss (omega arith) in
    sym (append-nil done) ∙ sym (ap (λ x. done ++ stops_from p n x) none) ∙ so_far

-- one processor more
pub one_more_processor : (w : World) (p : ℕ) (all done more : List TrapStop)
    → done ++ stops_of p (drop p w.processors) ≡ all
    → more ≡ done ++ stops_from p 0 (streams_at (slice_get w.processors p))
    → more ++ stops_of (p + 1) (drop (p + 1) w.processors) ≡ all
one_more_processor w p all done more so_far is =
    let here = stops_from p 0 (streams_at (slice_get w.processors p)) in
    let rest = stops_of (p + 1) (drop (p + 1) w.processors) in
    ap (λ x. x ++ rest) is ∙ append_assoc done here rest
    ∙ sym (ap (λ x. done ++ x) (stops_of-drop_from p p w.processors)) ∙ so_far

-- no processor is left
pub all_processors : (size : ℕ) (m : MachineValue) (p : ℕ) (done : List TrapStop) → IsMachine size m
    → done ++ stops_of p (drop p m.world.processors) ≡ trap_stops m.world → length m.image.entries ≤ p
    → done ≡ trap_stops m.world
all_processors size m p done machine so_far past =
    let none : drop p m.world.processors ≡ [] = drop_all p m.world.processors (omega (arith, machine.one_each)) in
    sym (append-nil done) ∙ sym (ap (λ x. done ++ stops_of p x) none) ∙ so_far
