-- Which streams are in use before a step of a run from its start, by the steps before it: the first of each processor
-- from the start, and each that a CREATE began and that has not quit since.
use Rattle.std.specs.Prelude.{ℕ, zero, suc, ◌==◌, Bool, true, false, not, ◌&&◌, ◌||◌, if◌then◌else◌, List, Option}
use Rattle.std.specs.Prelude.{Some, None, slice_get}
use Rattle.insn_word.specs.declared.operations.ControlOp.{ControlOp}
use Rattle.insn_word.specs.declared.operations.ControlOp.TheVariants as control
use Rattle.insn_word.specs.declared.insn.Insn.TheVariants.{Wide, Normal}
use Rattle.processor.specs.declared.steps.Step.{Step}
use Rattle.run_findings.specs.declared.actions.Action.{Action}
use Rattle.run_findings.specs.declared.actions.Deed.{Deed}
use Rattle.run_findings.specs.declared.actions.Deed.TheVariants as deed
use Rattle.run_findings.specs.Marks.{is_quit}

abbrev pub is_create : ControlOp → Bool
is_create control.Nop = false
is_create control.Jump = false
is_create control.Skip = false
is_create control.Call = false
is_create control.Exchange = false
is_create control.TargetSet = false
is_create control.TargetGet = false
is_create control.TrapGet = false
is_create control.Reserve = false
is_create control.Create = true
is_create control.Quit = false
is_create control.QuitKeep = false
is_create control.Mask = false

-- whether a step executed CREATE
abbrev pub creates : Deed → Bool
creates deed.Nothing = false
creates deed.Trap = false
creates (deed.Instruction (Wide look op reg imm)) = false
creates (deed.Instruction (Normal look m a c)) = is_create c.op

-- whether it executed QUIT or QUITP
abbrev pub quits : Deed → Bool
quits deed.Nothing = false
quits deed.Trap = false
quits (deed.Instruction (Wide look op reg imm)) = false
quits (deed.Instruction (Normal look m a c)) = is_quit c.op

-- whether each stream below one is in use
abbrev pub all_below : (ℕ → Bool) → ℕ → Bool
all_below used zero = true
all_below used (suc s) = used s && all_below used s

-- whether a stream is the lowest idle one of its processor: CREATE starts it
abbrev pub is_lowest_idle : (ℕ → Bool) → ℕ → Bool
is_lowest_idle used s = not (used s) && all_below used s

-- which streams of its processor are in use after a step, by those before it
abbrev pub used_after : Action → (ℕ → Bool) → ℕ → Bool
used_after d used s =
    if creates d.deed then used s || is_lowest_idle used s
    else if quits d.deed then used s && not (s == d.stream.s)
    else used s

-- the same of processor p, after a step of some processor
abbrev pub used_past : ℕ → (ℕ → Bool) → Option Action → ℕ → Bool
used_past p used None s = used s
used_past p used (Some d) s = if d.stream.p == p then used_after d used s else used s

-- whether stream s of processor p is in use before step n
abbrev pub is_used : List Action → ℕ → ℕ → ℕ → Bool
is_used ds zero p s = s == 0
is_used ds (suc n) p s = used_past p (is_used ds n p) (slice_get ds n) s

-- whether step n, which this is, starts stream s of its processor
abbrev pub is_started : List Action → ℕ → ℕ → Action → Bool
is_started ds n s d = creates d.deed && is_lowest_idle (is_used ds n d.stream.p) s

-- whether it begins a stream: a step of that stream's processor starts it
abbrev pub begins : List Action → ℕ → Step → Action → Bool
begins ds n t d = d.stream.p == t.p && is_started ds n t.s d
