-- Where a stream still runs after its step and as many are current, the same streams run.
use Rattle.std.proofs.Common.{◌≡◌, ℕ, zero, suc, ◌+◌, ◌&&◌, Bool, true, false, refl, sym, ap, ◌∙◌, arith, set}
use Rattle.std.proofs.Common.{slice_get, List, [], ◌∷◌, ◌++◌, length, Some, if◌then◌else◌, inl, inr}
use Rattle.std.specs.Prelude.{IsTrue, ◌⊎◌}
use Rattle.std.proofs.lemmas.Bool.{cases_eq, eqb-true}
use Rattle.std.proofs.lemmas.Option.{same_Some}
use Rattle.stream_core.specs.Streams.{StreamValue}
use Rattle.stream_core.specs.declared.steps.Outcome.{Outcome}
use Rattle.processor.specs.Processors.{ProcessorValue, stream_at}
use Rattle.processor.specs.OtherStreams.{IsStarted, KeepsOthers}
use Rattle.processor.specs.Records.{is_running}
use Rattle.processor.specs.Row.{row_over_memory}
use Rattle.processor.specs.World.{World, world_step, world_with}
use Rattle.processor.specs.declared.steps.Step.{Step}
use Rattle.processor.proofs.OtherStreams.{kept_row_over_memory}
use Rattle.machine.specs.MachineValue.{MachineValue, IsMachine}
use Rattle.waiting.specs.Running.{runs_at, runs_in, running_from, running_of, running_steps}
use Rattle.schedule_makers.specs.Advancing.{seen_of, is_same_run}
use Rattle.schedule_makers.proofs.Seen.{runs_there, stepped, next_there, seen_there, current_there, room_there}

-- Lists in which the same streams run.

same_from : (p n : ℕ) (xs ys : List StreamValue) → length xs ≡ length ys
    → ((k : ℕ) → is_running (stream_at xs k) ≡ is_running (stream_at ys k)) → running_from p n xs ≡ running_from p n ys
same_from p n [] [] long each = refl
same_from p n [] (y ∷ ys) long each = absurd (omega (arith, long))
same_from p n (x ∷ xs) [] long each = absurd (omega (arith, long))
same_from p n (x ∷ xs) (y ∷ ys) long each =
    let own : Bool → List Step = λ b. if b then record { p = p; s = n } ∷ [] else [] in
    ap (λ b. own b ++ running_from p (n + 1) xs) (each zero)
    ∙ ap (λ ts. own (is_running y) ++ ts)
    (same_from p (n + 1) xs ys (omega (arith, long)) (λ k. each (suc k)))

same_of : (p k : ℕ) (ps : List ProcessorValue) (proc next : ProcessorValue) → slice_get ps k ≡ Some proc
    → ((q : ℕ) → running_from q 0 next.streams ≡ running_from q 0 proc.streams)
    → running_of p (set ps k next) ≡ running_of p ps
same_of p k [] proc next there same = refl
same_of p zero (x ∷ ps) proc next there same =
    ap (λ ts. ts ++ running_of (p + 1) ps)
    (same p ∙ sym (ap (λ (d : ProcessorValue). running_from p 0 d.streams) (same_Some x proc there)))
same_of p (suc k) (x ∷ ps) proc next there same =
    ap (λ ts. running_from p 0 x.streams ++ ts) (same_of (p + 1) k ps proc next there same)

-- A processor.

other_runs : (old new : ProcessorValue) (k : ℕ) → new.scur ≡ old.scur
    → (stream_at new.streams k ≡ stream_at old.streams k) ⊎ IsStarted old new k
    → is_running (stream_at new.streams k) ≡ is_running (stream_at old.streams k)
other_runs old new k same which = elim which [
  | inl kept ↦ ap is_running kept
  | inr started ↦ absurd (omega (arith, same, started.1))
]

each_runs : (n k : ℕ) (old new : ProcessorValue) → KeepsOthers n old new → new.scur ≡ old.scur
    → is_running (stream_at old.streams n) ≡ true → is_running (stream_at new.streams n) ≡ true
    → is_running (stream_at new.streams k) ≡ is_running (stream_at old.streams k)
each_runs n k old new keeps same ran runs = elim (cases_eq k n) [
  | inl here ↦
      ap (λ j. is_running (stream_at new.streams j)) here ∙ runs
      ∙ sym (ap (λ j. is_running (stream_at old.streams j)) here ∙ ran)
  | inr other ↦ other_runs old new k same (keeps.others k other)
]

-- The world.

both : (a b : Bool) → (a && b) ≡ true → (a ≡ true) × (b ≡ true)
both true true e = (refl, refl)
both true false e = cc
both false b e = cc

pub same_run : (size : ℕ) (m : MachineValue) (t : Step) (new : World) (o : Outcome) → IsMachine size m
    → IsTrue (runs_in m.world t) → (new, o) ≡ world_step m.image m.world t
    → is_same_run (seen_of size m.world t) (seen_of size new t) ≡ true
    → running_steps new ≡ running_steps m.world
same_run size m t new o machine runs is seen =
    let at = runs_there m.world t runs in
    let room = room_there size m t at.proc machine at.there at.within in
    let over = row_over_memory m.image at.proc t.s m.world.memory in
    let next = over.0.0 in
    let came : new ≡ (world_with m.world t.p over).0 =
    ap (λ (x : World × Outcome). x.0) (stepped m.image m.world new t o at.proc at.there is) in
    let there : slice_get new.processors t.p ≡ Some next =
    ap (λ (w : World). slice_get w.processors t.p) came ∙ next_there m.world t.p at.proc next at.there in
    let found = both (seen_of size new t).runs _ seen in
    let still : is_running (stream_at next.streams t.s) ≡ true =
    sym (ap runs_at (seen_there size new t next room there)) ∙ found.0 in
    let counts : next.scur ≡ at.proc.scur =
    sym (current_there size new t next there) ∙ eqb-true _ _ found.1 ∙ current_there size m.world t at.proc at.there in
    let keeps = kept_row_over_memory m.image at.proc t.s m.world.memory in
    let same : (q : ℕ) → running_from q 0 next.streams ≡ running_from q 0 at.proc.streams =
    λ q. same_from q 0 next.streams at.proc.streams keeps.as_many
    (λ k. each_runs t.s k at.proc next keeps counts at.runs still) in
    ap running_steps came ∙ same_of 0 t.p m.world.processors at.proc next at.there same
