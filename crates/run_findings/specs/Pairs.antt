-- Two values that a stream read one after the other, of words a and b in the steps i and j: whether there was a moment at
-- which the words held both, and whether the stream computes something from both.
use Rattle.std.specs.Prelude.{ℕ, ◌+◌, ◌==◌, Bool, false, not, nat_lt, ◌&&◌, ◌||◌, if◌then◌else◌, List, [], ◌∷◌}
use Rattle.std.specs.Prelude.{Option, Some, None, length, slice_range}
use Rattle.insn_word.specs.declared.insn.Insn.TheVariants.{Wide, Normal}
use Rattle.processor.specs.declared.steps.Step.{Step}
use Rattle.run_findings.specs.Actions.{is_by}
use Rattle.run_findings.specs.Marks.{arithmetic_mark, marks_past, marks_before}
use Rattle.run_findings.specs.declared.actions.Access.{Access}
use Rattle.run_findings.specs.declared.actions.Action.{Action}
use Rattle.run_findings.specs.declared.actions.Deed.{Deed}
use Rattle.run_findings.specs.declared.actions.Deed.TheVariants as deed
use Rattle.run_findings.specs.declared.marks.Marks.{Marks}

-- the steps from step i on
abbrev pub from_step : List Action → ℕ → List Action
from_step ds i = slice_range ds i (length ds)

-- What a word holds.

-- the value of a word before an access, where it is to this word; else what it is by the later steps
abbrev pub value_met : ℕ → Option Access → ℕ → ℕ
value_met a None later = later
value_met a (Some x) later = if x.address == a then x.before else later

-- the value of a word before some steps, by the first of them that met it
abbrev pub value_before : ℕ → List Action → ℕ
value_before a [] = 0
value_before a (d ∷ ds) = value_met a d.access (value_before a ds)

-- the value of a word after an access, if it was v before
abbrev pub value_past : ℕ → ℕ → Option Access → ℕ
value_past a v None = v
value_past a v (Some x) = if x.address == a then x.after else v

-- whether words a and b, which are x and y before these steps, are v and w at one moment before, between or after them
abbrev pub are_at_once : ℕ → ℕ → ℕ → ℕ → ℕ → ℕ → List Action → Bool
are_at_once a b v w x y [] = x == v && y == w
are_at_once a b v w x y (d ∷ ds) =
    (x == v && y == w) || are_at_once a b v w (value_past a x d.access) (value_past b y d.access) ds

-- whether from step i to step j words a and b held, at one moment, the values that a had before step i and b before step j
abbrev pub were_at_once : List Action → ℕ → ℕ → ℕ → ℕ → Bool
were_at_once ds a b i j =
    are_at_once a b (value_before a (from_step ds i)) (value_before b (from_step ds j))
    (value_before a (from_step ds i)) (value_before b (from_step ds i)) (slice_range ds i j)

-- What is computed from both.

-- whether the operands of an instruction's arithmetic operation have a mark of each of two kinds
abbrev pub deed_mixes : Deed → Marks → Marks → Bool
deed_mixes deed.Nothing one other = false
deed_mixes deed.Trap one other = false
deed_mixes (deed.Instruction (Wide look op reg imm)) one other = false
deed_mixes (deed.Instruction (Normal look m a c)) one other = arithmetic_mark one a && arithmetic_mark other a

-- whether a step of this stream among these does, from these marks on
abbrev pub mixes : Step → Marks → Marks → List Action → Bool
mixes t one other [] = false
mixes t one other (d ∷ ds) =
    (is_by t d && deed_mixes d.deed one other) || mixes t (marks_past t one d) (marks_past t other d) ds

-- whether an operation of a stream has operands that were computed from what it read in step i, and such as were from
-- what it read in step j, which is later
abbrev pub computes_from_both : List Action → Step → ℕ → ℕ → Bool
computes_from_both ds t i j =
    mixes t (marks_before ds t i (j + 1)) (marks_before ds t j (j + 1)) (from_step ds (j + 1))

-- whether the two reads, in this order, saw half of a change: there was no moment at which the words held both values, or
-- the stream computes something from both
abbrev pub is_half_in_order : List Action → Step → ℕ → ℕ → ℕ → ℕ → Bool
is_half_in_order ds t a b i j = not (were_at_once ds a b i j) || computes_from_both ds t i j

-- and in either order
abbrev pub is_half : List Action → Step → ℕ → ℕ → ℕ → ℕ → Bool
is_half ds t a b i j = if nat_lt i j then is_half_in_order ds t a b i j else is_half_in_order ds t b a j i
