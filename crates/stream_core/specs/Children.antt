-- The stream that a CREATE starts.
use Rattle.std.specs.Prelude.{replicate}
use Rattle.stream_core.specs.StatusWords.{status_at}
use Rattle.stream_core.specs.Registers.{with_register, with_target}
use Rattle.stream_core.specs.Streams.{StreamValue, idle}
use Rattle.stream_core.specs.declared.steps.Child.{Child}
use Rattle.stream_core.specs.declared.steps.Status.TheVariants.{Running}

-- the stream that CREATE starts: all that it is not given is zero
abbrev pub child_stream : Child → StreamValue
child_stream c = record idle {
  registers = with_register (replicate 32 0) 1 c.value;
  targets = with_target (replicate 8 (status_at 0)) 0 c.t0;
  ssw = record (status_at c.pc) { mask = c.mask };
  status = Running;
}
