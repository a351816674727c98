-- What a line requires of a program alone.
use Rattle.std.specs.Prelude.{ℕ, ◌+◌, if◌then◌else◌, List, [], ◌∷◌, ◌++◌, length, codes, Option, Some, None, Result, Ok}
use Rattle.std.specs.Str.{bytes_eq}
use Rattle.program_rules.specs.Names.{operation_named}
use Rattle.program_rules.specs.declared.program_rule.ProgramOperation.{ProgramOperation}
use Rattle.program_rules.specs.declared.program_rule.ProgramRule.{ProgramRule}
use Rattle.program_rules.specs.declared.program_rule.ProgramRule.TheVariants as rule
use Rattle.expectation_files.specs.Values.{count_named}
use Rattle.expectation_files.specs.WordLines.{at}
use Rattle.expectation_files.specs.ClaimLines.{and_then}
use Rattle.expectation_files.specs.declared.faults.LineFault.{LineFault}
use Rattle.expectation_files.specs.declared.faults.LineFaultKind.TheVariants as fault
use Rattle.expectation_files.specs.declared.faults.LineForm.TheVariants as form
use Rattle.expectation_files.specs.declared.rule_lines.OperationVerb.{OperationVerb}
use Rattle.expectation_files.specs.declared.rule_lines.OperationVerb.TheVariants.{Forbid, Require}

abbrev pub RulesSaid : Type 0
RulesSaid = Result (List ProgramRule) LineFault

abbrev pub entries_of : Option ℕ → RulesSaid
entries_of None = at 1 fault.Count
entries_of (Some n) = Ok (rule.Entries n ∷ [])

-- COUNT
abbrev pub entries_said : List (List ℕ) → RulesSaid
entries_said (n ∷ []) = entries_of (count_named n)
entries_said _ = at 0 (fault.Form form.Entries)

abbrev pub most_words_of : Option ℕ → RulesSaid
most_words_of None = at 2 fault.Count
most_words_of (Some n) = Ok (rule.AtMostWords n ∷ [])

-- most COUNT words
abbrev pub most_words_said : List (List ℕ) → RulesSaid
most_words_said (m ∷ n ∷ w ∷ []) =
    if bytes_eq m (codes "most") then (if bytes_eq w (codes "words") then most_words_of (count_named n)
    else at 3 (fault.Form form.MostWords)) else at 1 (fault.Form form.MostWords)
most_words_said _ = at 0 (fault.Form form.MostWords)

abbrev pub rule_of : OperationVerb → ProgramOperation → ProgramRule
rule_of Forbid o = rule.Forbid o
rule_of Require o = rule.Require o

-- the rule of the operation that word k names
abbrev pub operation_rule : OperationVerb → ℕ → Option ProgramOperation → Result ProgramRule LineFault
operation_rule verb k None = at k fault.Operation
operation_rule verb k (Some o) = Ok (rule_of verb o)

-- the rules of the operations that words name, behind others; the first is word 1 of its line
abbrev pub operations_from : OperationVerb → List ProgramRule → List (List ℕ) → RulesSaid
operations_from verb before [] = Ok before
operations_from verb before (w ∷ ws) =
    and_then (operation_rule verb (1 + length before) (operation_named w))
    (λ r. operations_from verb (before ++ r ∷ []) ws)

-- one operation at least
unfoldable pub operations_said : OperationVerb → List (List ℕ) → RulesSaid
operations_said verb [] = at 0 (fault.Form form.Operations)
operations_said verb (w ∷ ws) = operations_from verb [] (w ∷ ws)
