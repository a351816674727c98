-- What a step that starts a stream says of its processor.
use Rattle.std.proofs.Common.{◌≡◌, ℕ, ◌<◌, ◌≤◌, false, refl, ap, subst, arith, Option}
use Rattle.std.proofs.lemmas.Bool.{eqb-false}
use Rattle.tag_memory.specs.declared.requests.Reply.{Reply}
use Rattle.tag_memory.specs.Storage.{TaggedMemory}
use Rattle.image_file.specs.ImageValue.{ImageValue}
use Rattle.stream_core.specs.Streams.{StreamValue}
use Rattle.stream_core.specs.Effects.{request_of}
use Rattle.stream_core.specs.StreamRow.{control_of, row_asking}
use Rattle.stream_core.specs.declared.steps.Outcome.{Outcome}
use Rattle.stream_core.specs.declared.steps.Outcome.TheVariants as outcome
use Rattle.stream_core.specs.declared.steps.Fetch.{Fetch}
use Rattle.stream_core.specs.declared.steps.Fetch.TheVariants as fetch
use Rattle.stream_core.specs.declared.steps.Control.{Control}
use Rattle.stream_core.specs.declared.steps.Control.TheVariants as asks
use Rattle.machine.specs.Processor.Processors.{ProcessorValue, is_idle, stream_at, IsCounted}
use Rattle.machine.specs.Processor.Row.{lacks_stream, step_fetch_of, grant_of, with_stream, after_control}
use Rattle.machine.specs.Processor.Row.{after_control_if_done}
use Rattle.machine.specs.Processor.Row.{row_on_fetch, row, request, memory_reply, row_over_memory}
use Rattle.machine.proofs.Processor.Begun.{rests, awake, free, row_is}

-- more streams are current
abbrev Grows : ProcessorValue → ProcessorValue → Type 0
Grows old new = old.scur < new.scur

-- a reserved stream was free, and the stream that stepped is not idle
abbrev pub CanStart : ProcessorValue → ℕ → Type 0
CanStart proc n = (proc.scur < proc.sres) × (is_idle (stream_at proc.streams n) ≡ false)

grows_by_control : (proc : ProcessorValue) (n grant : ℕ) (v : StreamValue) (c : Control)
    → lacks_stream proc c ≡ false → proc.scur ≤ proc.sres
    → Grows proc (after_control (with_stream proc n v) n grant c) → proc.scur < proc.sres
grows_by_control proc n grant v asks.Plain free within more = absurd (omega arith)
grows_by_control proc n grant v (asks.Reserve k) free within more = absurd (omega arith)
grows_by_control proc n grant v (asks.Create child) free within more =
    let apart = eqb-false proc.scur proc.sres free in omega (arith, apart)
grows_by_control proc n grant v asks.Quit free within more = absurd (omega arith)
grows_by_control proc n grant v asks.QuitKeep free within more = absurd (omega arith)

grows_if_done : (proc : ProcessorValue) (n grant : ℕ) (v : StreamValue) (c : Control) (o : Outcome)
    → lacks_stream proc c ≡ false → proc.scur ≤ proc.sres
    → Grows proc (after_control_if_done (with_stream proc n v) n grant c o) → proc.scur < proc.sres
grows_if_done proc n grant v c outcome.Skipped free within more = absurd (omega arith)
grows_if_done proc n grant v c outcome.Done free within more = grows_by_control proc n grant v c free within more
grows_if_done proc n grant v c outcome.Blocked free within more = absurd (omega arith)
grows_if_done proc n grant v c (outcome.Trapped k) free within more = absurd (omega arith)
grows_if_done proc n grant v c (outcome.Stopped k) free within more = absurd (omega arith)

grows_by : (image : ImageValue) (proc : ProcessorValue) (n : ℕ) (r : Option Reply) (f : Fetch)
    → step_fetch_of image proc n ≡ f → proc.scur ≤ proc.sres
    → Grows proc (row_on_fetch image proc n r (stream_at proc.streams n) f).0 → CanStart proc n
grows_by image proc n r fetch.Rest e within more = absurd (omega arith)
grows_by image proc n r (fetch.Trap k) e within more = absurd (omega arith)
grows_by image proc n r (fetch.Instruction i) e within more =
    let v = stream_at proc.streams n in
    let c = control_of v i in
    let grant = grant_of image proc c in
    let next = row_asking image.retry_limit v i grant r (request_of v i) in (
      grows_if_done proc n grant next.0 c next.1 (free image proc n i e) within more,
      (awake image proc n (ap rests e)).1,
    )

grows : (image : ImageValue) (proc : ProcessorValue) (n : ℕ) (r : Option Reply) → IsCounted proc
    → Grows proc (row image proc n r).0 → CanStart proc n
grows image proc n r counted more =
    let P : ProcessorValue × Outcome → Type 0 = λ x. Grows proc x.0 in
    grows_by image proc n r (step_fetch_of image proc n) refl counted.within_sres (subst P (row_is image proc n r) more)

pub starts : (image : ImageValue) (proc : ProcessorValue) (n : ℕ) (m : TaggedMemory) → IsCounted proc
    → proc.scur < (row_over_memory image proc n m).0.0.scur → CanStart proc n
unfolding row_over_memory
starts image proc n m counted more = grows image proc n (memory_reply m (request image proc n)).1 counted more
