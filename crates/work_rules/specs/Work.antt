-- Who stores values in the steps of a run, and where.
use Rattle.std.specs.Prelude.{ℕ, ◌+◌, nat_le, Bool, true, false, not, ◌&&◌, if◌then◌else◌, List, [], ◌∷◌, Option, Some, None}
use Rattle.std.specs.List.{list_any, position}
use Rattle.tag_memory.specs.declared.requests.MemOp.{MemOp}
use Rattle.tag_memory.specs.declared.requests.MemOp.TheVariants as op
use Rattle.processor.specs.declared.steps.Step.{Step}
use Rattle.run_findings.specs.Actions.{is_by}
use Rattle.run_findings.specs.declared.actions.Access.{Access}
use Rattle.run_findings.specs.declared.actions.Action.{Action}
use Rattle.work_rules.specs.declared.work_rule.WorkRule.{WorkRule}
use Rattle.work_rules.specs.declared.work_rule.WorkRule.TheVariants as rule

-- whether an operation stores a value: STORE puts one, and FADD adds one. TAGSET leaves the value, and PURGE gives the word up
abbrev pub op_stores : MemOp → Bool
op_stores op.Load = false
op_stores op.Store = true
op_stores op.Fadd = true
op_stores op.TagGet = false
op_stores op.TagSet = false
op_stores op.Purge = false

-- whether an access that the memory did stores to a word from one byte address to another
abbrev pub stores_between : ℕ → ℕ → Option Access → Bool
stores_between first last None = false
stores_between first last (Some x) = op_stores x.op && (nat_le first x.address && nat_le x.address last)

-- whether a step is of a stream, and stores there
abbrev pub stored_by : Step → ℕ → ℕ → Action → Bool
stored_by t first last d = is_by t d && stores_between first last d.access

-- whether a stream stores there in some of these steps
abbrev pub has_stored : Step → ℕ → ℕ → List Action → Bool
has_stored t first last ds = list_any (stored_by t first last) ds

-- 1 for a step that stores there and is the last of its stream that does, before these later ones; else 0
abbrev pub counts : ℕ → ℕ → Action → List Action → ℕ
counts first last d later =
    if stores_between first last d.access && not (has_stored d.stream first last later) then 1 else 0

-- how many streams store there in these steps
abbrev pub storing_streams : ℕ → ℕ → List Action → ℕ
storing_streams first last [] = 0
storing_streams first last (d ∷ ds) = counts first last d ds + storing_streams first last ds

-- whether steps meet a line about who does the work
abbrev pub is_met : List Action → WorkRule → Bool
is_met ds (rule.Writes t a) = has_stored t a a ds
is_met ds (rule.AtLeast count first last) = nat_le count (storing_streams first last ds)

-- the place of the first line that steps don't meet
abbrev pub first_missed : List Action → List WorkRule → Option ℕ
first_missed ds rules = position (λ r. not (is_met ds r)) rules
