-- A machine shows each stream that is there.
use Rattle.std.proofs.Common.{◌≡◌, ℕ, ◌<◌, ◌≤◌, sym, ap, ◌∙◌, arith, if◌then◌else◌, length, Option, Some, None, slice_get, subst}
use Rattle.std.proofs.lemmas.Bool.{lt-ltb}
use Rattle.processor.specs.Processors.{ProcessorValue, stream_at}
use Rattle.processor.specs.World.{stream_seen_at, stream_of}
use Rattle.processor.specs.declared.steps.Step.{Step}
use Rattle.machine.specs.MachineValue.{MachineValue, IsMachine}
use Rattle.waiting.specs.Running.{streams_at}
use Rattle.waiting.proofs.Standing.{few_streams}
use Rattle.local_steps.specs.LocalSteps.{IsLocalStep}
use Rattle.local_steps.proofs.Alone.{plain_of, there_awake}

pub shown : (size : ℕ) (m : MachineValue) (t : Step) (proc : ProcessorValue) → IsMachine size m
    → slice_get m.world.processors t.p ≡ Some proc → t.s < length proc.streams
    → stream_of size m.world t.p t.s ≡ Some (stream_at proc.streams t.s)
shown size m t proc machine there within =
    let few : length proc.streams ≤ m.image.slim =
    subst (λ (o : Option ProcessorValue). length (streams_at o) ≤ m.image.slim) there (few_streams size m t.p machine) in
    ap (stream_seen_at size t.s) there
    ∙ ap (λ b. if b then Some (stream_at proc.streams t.s) else None)
    (lt-ltb t.s size (omega (arith, within, few, machine.within)))

-- where it shows none, there is none whose step concerns it alone
pub none_shown : (size : ℕ) (m : MachineValue) (t : Step) → IsMachine size m → stream_of size m.world t.p t.s ≡ None
    → IsLocalStep m.image m.world t → ⊥
none_shown size m t machine none l =
    let found = plain_of m.image (stream_at l.processor.streams t.s) l.alone in
    let within = (there_awake m.image l.processor t.s found.0 found.1).0 in
    let both : Some (stream_at l.processor.streams t.s) ≡ None =
    sym (shown size m t l.processor machine l.there within) ∙ none in
    cc
