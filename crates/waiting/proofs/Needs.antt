-- A step is skipped exactly where its stream does not run.
use Rattle.std.proofs.Common.{◌≡◌, ℕ, Bool, true, false, refl, sym, ap, ◌∙◌, List, Option, Some, None, slice_get}
use Rattle.std.proofs.Common.{if◌then◌else◌}
use Rattle.std.specs.Prelude.{not, ◌⊎◌}
use Rattle.std.proofs.Common.{inl, inr}
use Rattle.insn_word.specs.Reading.{instruction_in}
use Rattle.insn_word.specs.declared.insn.Insn.{Insn}
use Rattle.insn_word.specs.declared.profiles.Profile.{Profile}
use Rattle.tag_memory.specs.declared.requests.Request.{Request}
use Rattle.image_file.specs.ImageValue.{ImageValue}
use Rattle.stream_core.specs.Streams.{StreamValue}
use Rattle.stream_core.specs.Effects.{request_of}
use Rattle.stream_core.specs.StreamRow.{fetch_of, fetch_if, fetch_word, fetch_instruction, control_of}
use Rattle.stream_core.specs.declared.traps.TrapKind.TheVariants as kind
use Rattle.stream_core.specs.declared.steps.Status.{Status}
use Rattle.stream_core.specs.declared.steps.Status.TheVariants.{Idle, Running, Stopped}
use Rattle.stream_core.specs.declared.steps.Fetch.{Fetch}
use Rattle.stream_core.specs.declared.steps.Fetch.TheVariants as fetch
use Rattle.machine.specs.Processor.Processors.{ProcessorValue, stream_at}
use Rattle.machine.specs.Processor.Records.{is_running_status}
use Rattle.machine.specs.Processor.Row.{lacks_stream, image_fetch, step_fetch_from, step_fetch, step_fetch_of}
use Rattle.machine.specs.Processor.Row.{next_asking, next_on_fetch, next_of}
use Rattle.machine.specs.Processor.Row as row
use Rattle.machine.specs.ProcessorTypes.Next.{Next}
use Rattle.machine.specs.ProcessorTypes.Next.TheVariants as next
use Rattle.machine.specs.ProcessorTypes.Step.{Step}
use Rattle.machine.proofs.Processor.Begun.{rests, next_begun}
use Rattle.machine.specs.MachineValue.{MachineValue, next_at, next_in}
use Rattle.waiting.specs.Running.{streams_at, runs_at, runs_in}

-- whether nothing is done in a step that needs this
abbrev pub skips : Next → Bool
skips next.Skip = true
skips next.Local = false
skips (next.Ask q) = false

skips-asking : (o : Option Request) → skips (next_asking o) ≡ false
skips-asking None = refl
skips-asking (Some q) = refl

skips-fetch : (s : StreamValue) (f : Fetch) → skips (next_on_fetch s f) ≡ rests f
skips-fetch s fetch.Rest = refl
skips-fetch s (fetch.Trap k) = refl
skips-fetch s (fetch.Instruction i) = skips-asking (request_of s i)

rests-if : (b : Bool) (i : Insn) → rests (if b then fetch.Trap kind.Create else fetch.Instruction i) ≡ false
rests-if true i = refl
rests-if false i = refl

rests-from : (proc : ProcessorValue) (s : StreamValue) (f : Fetch) → rests (step_fetch_from proc s f) ≡ rests f
rests-from proc s fetch.Rest = refl
rests-from proc s (fetch.Trap k) = refl
rests-from proc s (fetch.Instruction i) = rests-if (lacks_stream proc (control_of s i)) i

rests-instruction : (o : Option Insn) → rests (fetch_instruction o) ≡ false
rests-instruction None = refl
rests-instruction (Some i) = refl

rests-word : (p : Profile) (o : Option ℕ) → rests (fetch_word p o) ≡ false
rests-word p None = refl
rests-word p (Some word) = rests-instruction (instruction_in p word)

rests-status : (p : Profile) (st : Status) (program : List ℕ) (pc : ℕ)
    → rests (fetch_if p st program pc) ≡ not (is_running_status st)
rests-status p Idle program pc = refl
rests-status p Running program pc = rests-word p (slice_get program pc)
rests-status p (Stopped k) program pc = refl

skips-stream : (image : ImageValue) (proc : ProcessorValue) (o : Option StreamValue)
    → skips (row.next_at image proc o) ≡ not (runs_at o)
unfolding step_fetch fetch_of
skips-stream image proc None = refl
skips-stream image proc (Some s) =
    skips-fetch s (step_fetch image proc s) ∙ rests-from proc s (image_fetch image s)
    ∙ rests-status image.profile s.status image.program s.ssw.pc

-- the step of a processor that may be missing
pub skips-at : (image : ImageValue) (o : Option ProcessorValue) (n : ℕ)
    → skips (next_at image o n) ≡ not (runs_at (slice_get (streams_at o) n))
unfolding next_of
skips-at image None n = refl
skips-at image (Some proc) n = skips-stream image proc (slice_get proc.streams n)

turned : (a b : Bool) → a ≡ not b → b ≡ not a
turned true true e = e
turned true false e = refl
turned false true e = refl
turned false false e = e

-- what a step needs tells whether its stream runs
pub runs-next : (m : MachineValue) (t : Step) (n : Next) → n ≡ next_in m t → not (skips n) ≡ runs_in m.world t
runs-next m t n e =
    sym (turned (skips n) (runs_in m.world t)
    (ap skips e ∙ skips-at m.image (slice_get m.world.processors t.p) t.s))

-- what a step begins with tells the same
pub rests-begun : (image : ImageValue) (proc : ProcessorValue) (n : ℕ)
    → rests (step_fetch_of image proc n) ≡ skips (next_of image proc n)
rests-begun image proc n =
    sym (ap skips (sym (next_begun image proc n (step_fetch_of image proc n) refl))
    ∙ skips-fetch (stream_at proc.streams n) (step_fetch_of image proc n))

-- where no reply or one is needed, it runs
pub runs-asking : (m : MachineValue) (t : Step) (n : Next) → n ≡ next_in m t
    → (n ≡ next.Local) ⊎ ((q : Request) × (n ≡ next.Ask q)) → true ≡ runs_in m.world t
runs-asking m t n is which =
    elim which [
      | inl own ↦ runs-next m t next.Local (sym own ∙ is)
      | inr asks ↦ runs-next m t (next.Ask asks.0) (sym asks.1 ∙ is)
    ]
