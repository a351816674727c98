-- Whether a trap of a running stream may have a handler, by the image alone: t0 names it, and few instructions write t0.
use Rattle.std.specs.Prelude.{◌≡◌, ℕ, ◌==◌, Bool, true, false, not, ◌||◌, Option, Some, None, slice_get}
use Rattle.std.specs.List.{list_any}
use Rattle.insn_word.specs.Reading.{instruction_in}
use Rattle.insn_word.specs.declared.operations.WideOp.{WideOp}
use Rattle.insn_word.specs.declared.operations.WideOp.TheVariants as wide
use Rattle.insn_word.specs.declared.operations.ControlOp.{ControlOp}
use Rattle.insn_word.specs.declared.operations.ControlOp.TheVariants as control
use Rattle.insn_word.specs.declared.profiles.Profile.{Profile}
use Rattle.insn_word.specs.declared.insn.CPart.{CPart}
use Rattle.insn_word.specs.declared.insn.Insn.{Insn}
use Rattle.insn_word.specs.declared.insn.Insn.TheVariants.{Wide, Normal}
use Rattle.image_file.specs.ImageValue.{ImageValue}
use Rattle.stream_core.specs.Registers.{target_at}
use Rattle.stream_core.specs.Streams.{StreamValue, no_handler}
use Rattle.processor.specs.Processors.{ProcessorValue, stream_at}
use Rattle.processor.specs.Records.{is_running}
use Rattle.processor.specs.World.{World}

-- whether a wide operation writes t0
abbrev pub wide_sets_handler : WideOp → ℕ → Bool
wide_sets_handler wide.Literal reg = false
wide_sets_handler wide.LiteralHigh reg = false
wide_sets_handler wide.TargetLiteral reg = reg == 0

-- whether a control operation writes t0
abbrev pub control_sets_handler : CPart → ControlOp → Bool
control_sets_handler c control.Call = c.u == 0
control_sets_handler c control.Exchange = c.t == 0
control_sets_handler c control.TargetSet = c.t == 0
control_sets_handler c op = false

-- whether an instruction writes t0
abbrev pub sets_handler : Insn → Bool
sets_handler (Wide look op reg imm) = wide_sets_handler op reg
sets_handler (Normal look m a c) = control_sets_handler c c.op

-- whether a word spells an instruction that does
abbrev pub sets_handler_if : Option Insn → Bool
sets_handler_if None = false
sets_handler_if (Some i) = sets_handler i

abbrev pub word_sets_handler : Profile → ℕ → Bool
word_sets_handler profile word = sets_handler_if (instruction_in profile word)

-- whether streams begin with a handler, or some word of the program writes t0
unfoldable pub may_have_handlers : ImageValue → Bool
may_have_handlers image =
    not (image.trap_entry == no_handler) || list_any (word_sets_handler image.profile) image.program

-- the t0 of a stream names no handler
abbrev pub HasNoHandler : StreamValue → Type 0
HasNoHandler s = (target_at s.targets 0).pc ≡ no_handler

-- so it is of each stream that runs
abbrev pub NobodyHasHandlers : World → Type 0
NobodyHasHandlers w =
    (p k : ℕ) (proc : ProcessorValue) → slice_get w.processors p ≡ Some proc
    → is_running (stream_at proc.streams k) ≡ true → HasNoHandler (stream_at proc.streams k)
