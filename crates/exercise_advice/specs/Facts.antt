-- When an observation fits a fact.
use Rattle.std.specs.Prelude.{ℕ, ◌==◌, ◌&&◌, Bool, true, false, Option, Some, None}
use Rattle.insn_word.specs.Operations.{access_number}
use Rattle.insn_word.specs.declared.insn.Insn.{Insn}
use Rattle.insn_word.specs.declared.insn.Insn.TheVariants as insn
use Rattle.stream_core.specs.Traps.{trap_number}
use Rattle.stream_core.specs.declared.traps.TrapKind.{TrapKind}
use Rattle.processor.specs.declared.steps.Step.{Step}
use Rattle.expectations.specs.declared.expectation.FullEmpty.{FullEmpty}
use Rattle.expectations.specs.declared.expectation.FullEmpty.TheVariants as state
use Rattle.program_rules.specs.Keeping.{has_operation}
use Rattle.exercise_advice.specs.declared.observations.ObservationKind.{ObservationKind}
use Rattle.exercise_advice.specs.declared.observations.ObservationKind.TheVariants as kind
use Rattle.exercise_advice.specs.declared.observations.Observation.{Observation}
use Rattle.exercise_advice.specs.declared.facts.Suffix.{Suffix}
use Rattle.exercise_advice.specs.declared.facts.Suffix.TheVariants as suffix
use Rattle.exercise_advice.specs.declared.facts.SoughtOperation.{SoughtOperation}
use Rattle.exercise_advice.specs.declared.facts.SoughtFact.{SoughtFact}

-- a number of each kind of observation, none of which two have
abbrev pub kind_number : ObservationKind → ℕ
kind_number kind.Waits = 0
kind_number kind.Stopped = 1
kind_number kind.Trapped = 2
kind_number kind.Runs = 3
kind_number kind.Did = 4
kind_number kind.Has = 5
kind_number kind.Handler = 6
kind_number kind.Missed = 7
kind_number kind.Claim = 8
kind_number kind.Rule = 9
kind_number kind.Absent = 10
kind_number kind.Changed = 11
kind_number kind.Left = 12
kind_number kind.Lost = 13
kind_number kind.Unread = 14
kind_number kind.Torn = 15

-- Whether a part of an observation fits that of a fact: if the fact has none it does, else the observation has the same.

abbrev pub stream_fits : Option Step → Option Step → Bool
stream_fits None seen = true
stream_fits (Some a) None = false
stream_fits (Some a) (Some b) = a.p == b.p && a.s == b.s

abbrev pub address_fits : Option ℕ → Option ℕ → Bool
address_fits None seen = true
address_fits (Some a) None = false
address_fits (Some a) (Some b) = a == b

abbrev pub is_same_state : FullEmpty → FullEmpty → Bool
is_same_state state.Full state.Full = true
is_same_state state.Full state.Empty = false
is_same_state state.Empty state.Full = false
is_same_state state.Empty state.Empty = true

abbrev pub state_fits : Option FullEmpty → Option FullEmpty → Bool
state_fits None seen = true
state_fits (Some a) None = false
state_fits (Some a) (Some b) = is_same_state a b

abbrev pub trap_fits : Option ℕ → Option TrapKind → Bool
trap_fits None seen = true
trap_fits (Some n) None = false
trap_fits (Some n) (Some trap) = n == trap_number trap

-- whether an instruction has a suffix: its memory operation this access, or its arithmetic one a test
abbrev pub has_suffix : Suffix → Insn → Bool
has_suffix (suffix.Memory access) (insn.Wide look op reg imm) = false
has_suffix (suffix.Memory access) (insn.Normal look m a c) = access_number m.acc == access_number access
has_suffix suffix.Test (insn.Wide look op reg imm) = false
has_suffix suffix.Test (insn.Normal look m a c) = a.test

abbrev pub suffix_fits : Option Suffix → Insn → Bool
suffix_fits None i = true
suffix_fits (Some x) i = has_suffix x i

-- whether an instruction has an operation with its suffix
abbrev pub has_sought : SoughtOperation → Insn → Bool
has_sought o i = has_operation o.operation i && suffix_fits o.suffix i

abbrev pub operation_fits : Option SoughtOperation → Option Insn → Bool
operation_fits None seen = true
operation_fits (Some o) None = false
operation_fits (Some o) (Some i) = has_sought o i

-- Whether an observation fits a fact: it is of the fact's kind, and each of its parts fits.
abbrev pub fits : SoughtFact → Observation → Bool
fits f o = kind_number f.kind == kind_number o.kind
    && stream_fits f.stream o.stream
    && address_fits f.address o.address
    && state_fits f.state o.state
    && trap_fits f.trap o.trap
    && operation_fits f.operation o.insn
