-- What a file of expectations says.
use Rattle.std.specs.Prelude.{ℕ, zero, suc, ◌+◌, ◌==◌, ◌&&◌, ◌||◌, Bool, false, if◌then◌else◌, List, [], ◌∷◌, ◌++◌, length, codes}
use Rattle.std.specs.Prelude.{Option, Some, None, is_some, not, Result, Ok, Err}
use Rattle.std.specs.List.{slice_index_or}
use Rattle.std.specs.Option.{option_or}
use Rattle.std.specs.Str.{bytes_eq}
use Rattle.std.proofs.Math.ListN.{replicate}
use Rattle.text_parts.specs.Pieces.{pieces}
use Rattle.image_file.specs.ImageValue.{ImageValue}
use Rattle.expectations.specs.declared.expectation.Expectation.{Expectation}
use Rattle.program_rules.specs.declared.program_rule.ProgramRule.{ProgramRule}
use Rattle.work_rules.specs.declared.work_rule.WorkRule.{WorkRule}
use Rattle.expectation_files.specs.Words.{words_on, in_one_line}
use Rattle.expectation_files.specs.Addresses.{Names}
use Rattle.expectation_files.specs.ClaimLines.{ClaimValue}
use Rattle.expectation_files.specs.Conditions.{ConditionValue, RestValue}
use Rattle.expectation_files.specs.Lines.{Meaning, Nothing, End, Claimed, OfRuns, Rests, Rules, Work, NeverBusy, NeverStarved, Marked}
use Rattle.expectation_files.specs.Lines.{MeaningSaid, said_after, has_after}
use Rattle.expectation_files.specs.declared.faults.FileFault.{FileFault}
use Rattle.expectation_files.specs.declared.faults.FileFault.TheVariants as file

-- What lines say, in their order, each kind with the numbers of its lines and with their words; of the lines `never busy`, and
-- of the lines `never starved`, the first one's number.
pub record RequirementsValue : Type 0 where
  pub ends : List Expectation
  pub end_numbers : List ℕ
  pub end_texts : List (List ℕ)
  pub claims : List ClaimValue
  pub claim_numbers : List ℕ
  pub claim_texts : List (List ℕ)
  pub run_conditions : List ConditionValue
  pub condition_numbers : List ℕ
  pub condition_texts : List (List ℕ)
  pub rests : List RestValue
  pub rules : List ProgramRule
  pub rule_numbers : List ℕ
  pub rule_texts : List (List ℕ)
  pub work : List WorkRule
  pub work_numbers : List ℕ
  pub work_texts : List (List ℕ)
  pub never_busy : Option ℕ
  pub never_starved : Option ℕ

abbrev pub nothing_said : RequirementsValue
nothing_said = record {
  ends = [];
  end_numbers = [];
  end_texts = [];
  claims = [];
  claim_numbers = [];
  claim_texts = [];
  run_conditions = [];
  condition_numbers = [];
  condition_texts = [];
  rests = [];
  rules = [];
  rule_numbers = [];
  rule_texts = [];
  work = [];
  work_numbers = [];
  work_texts = [];
  never_busy = None;
  never_starved = None;
}

-- whether a line that begins with this word names operations
abbrev pub names_operations : List ℕ → Bool
names_operations name = bytes_eq name (codes "forbid") || bytes_eq name (codes "require")

-- the words that say the rule of this number, from 0, among the words of its line: of several operations that one alone
abbrev pub words_of_rule : ℕ → List (List ℕ) → List (List ℕ)
words_of_rule k [] = []
words_of_rule k (name ∷ os) = if names_operations name then name ∷ slice_index_or os k [] ∷ [] else name ∷ os

-- the texts of the first so many rules of a line with these words, of programs, of who does the work or of conditions on runs
abbrev pub texts_of_rules : List (List ℕ) → ℕ → List (List ℕ)
texts_of_rules ws zero = []
texts_of_rules ws (suc k) = texts_of_rules ws k ++ in_one_line (words_of_rule k ws) ∷ []

-- what the line of this number says
abbrev pub said_on : ℕ → List ℕ → Meaning → RequirementsValue
said_on k l Nothing = nothing_said
said_on k l (End e) = record {
  ends = e ∷ [];
  end_numbers = k ∷ [];
  end_texts = in_one_line (words_on l) ∷ [];
  claims = [];
  claim_numbers = [];
  claim_texts = [];
  run_conditions = [];
  condition_numbers = [];
  condition_texts = [];
  rests = [];
  rules = [];
  rule_numbers = [];
  rule_texts = [];
  work = [];
  work_numbers = [];
  work_texts = [];
  never_busy = None;
  never_starved = None;
}
said_on k l (Claimed c) = record {
  ends = [];
  end_numbers = [];
  end_texts = [];
  claims = c ∷ [];
  claim_numbers = k ∷ [];
  claim_texts = in_one_line (words_on l) ∷ [];
  run_conditions = [];
  condition_numbers = [];
  condition_texts = [];
  rests = [];
  rules = [];
  rule_numbers = [];
  rule_texts = [];
  work = [];
  work_numbers = [];
  work_texts = [];
  never_busy = None;
  never_starved = None;
}
said_on k l (OfRuns cs) = record {
  ends = [];
  end_numbers = [];
  end_texts = [];
  claims = [];
  claim_numbers = [];
  claim_texts = [];
  run_conditions = cs;
  condition_numbers = replicate (length cs) k;
  condition_texts = texts_of_rules (words_on l) (length cs);
  rests = [];
  rules = [];
  rule_numbers = [];
  rule_texts = [];
  work = [];
  work_numbers = [];
  work_texts = [];
  never_busy = None;
  never_starved = None;
}
said_on k l (Rests r) = record {
  ends = [];
  end_numbers = [];
  end_texts = [];
  claims = [];
  claim_numbers = [];
  claim_texts = [];
  run_conditions = [];
  condition_numbers = [];
  condition_texts = [];
  rests = r ∷ [];
  rules = [];
  rule_numbers = [];
  rule_texts = [];
  work = [];
  work_numbers = [];
  work_texts = [];
  never_busy = None;
  never_starved = None;
}
said_on k l (Rules rs) = record {
  ends = [];
  end_numbers = [];
  end_texts = [];
  claims = [];
  claim_numbers = [];
  claim_texts = [];
  run_conditions = [];
  condition_numbers = [];
  condition_texts = [];
  rests = [];
  rules = rs;
  rule_numbers = replicate (length rs) k;
  rule_texts = texts_of_rules (words_on l) (length rs);
  work = [];
  work_numbers = [];
  work_texts = [];
  never_busy = None;
  never_starved = None;
}
said_on k l (Work rs) = record {
  ends = [];
  end_numbers = [];
  end_texts = [];
  claims = [];
  claim_numbers = [];
  claim_texts = [];
  run_conditions = [];
  condition_numbers = [];
  condition_texts = [];
  rests = [];
  rules = [];
  rule_numbers = [];
  rule_texts = [];
  work = rs;
  work_numbers = replicate (length rs) k;
  work_texts = texts_of_rules (words_on l) (length rs);
  never_busy = None;
  never_starved = None;
}
said_on k l NeverBusy = record {
  ends = [];
  end_numbers = [];
  end_texts = [];
  claims = [];
  claim_numbers = [];
  claim_texts = [];
  run_conditions = [];
  condition_numbers = [];
  condition_texts = [];
  rests = [];
  rules = [];
  rule_numbers = [];
  rule_texts = [];
  work = [];
  work_numbers = [];
  work_texts = [];
  never_busy = Some k;
  never_starved = None;
}
said_on k l NeverStarved = record {
  ends = [];
  end_numbers = [];
  end_texts = [];
  claims = [];
  claim_numbers = [];
  claim_texts = [];
  run_conditions = [];
  condition_numbers = [];
  condition_texts = [];
  rests = [];
  rules = [];
  rule_numbers = [];
  rule_texts = [];
  work = [];
  work_numbers = [];
  work_texts = [];
  never_busy = None;
  never_starved = Some k;
}
said_on k l (Marked m) = nothing_said

-- what some lines say, and what those after them say
abbrev pub joined : RequirementsValue → RequirementsValue → RequirementsValue
joined v w = record {
  ends = v.ends ++ w.ends;
  end_numbers = v.end_numbers ++ w.end_numbers;
  end_texts = v.end_texts ++ w.end_texts;
  claims = v.claims ++ w.claims;
  claim_numbers = v.claim_numbers ++ w.claim_numbers;
  claim_texts = v.claim_texts ++ w.claim_texts;
  run_conditions = v.run_conditions ++ w.run_conditions;
  condition_numbers = v.condition_numbers ++ w.condition_numbers;
  condition_texts = v.condition_texts ++ w.condition_texts;
  rests = v.rests ++ w.rests;
  rules = v.rules ++ w.rules;
  rule_numbers = v.rule_numbers ++ w.rule_numbers;
  rule_texts = v.rule_texts ++ w.rule_texts;
  work = v.work ++ w.work;
  work_numbers = v.work_numbers ++ w.work_numbers;
  work_texts = v.work_texts ++ w.work_texts;
  never_busy = option_or v.never_busy w.never_busy;
  never_starved = option_or v.never_starved w.never_starved;
}

abbrev pub FileSaid : Type 0
FileSaid = Result RequirementsValue FileFault

-- these, and what later lines say, where none of them has a fault
abbrev pub in_front : RequirementsValue → FileSaid → FileSaid
in_front v (Ok w) = Ok (joined v w)
in_front v (Err f) = Err f

-- what a line says in front of what the lines behind it say: its fault stands before theirs
abbrev pub on_line : ℕ → List ℕ → MeaningSaid → FileSaid → FileSaid
on_line k l (Err f) later = Err (file.Line k f)
on_line k l (Ok m) later = in_front (said_on k l m) later

-- what lines say of which the first has this number, after others that say how many points there are or not
abbrev pub lines_said : Names → ImageValue → Bool → ℕ → List (List ℕ) → FileSaid
lines_said names i has k [] = Ok nothing_said
lines_said names i has k (l ∷ ls) =
    on_line k l (said_after names i has l) (lines_said names i (has_after has (said_after names i has l)) (k + 1) ls)

-- whether nothing is said
abbrev pub is_nothing : RequirementsValue → Bool
is_nothing v =
    length v.ends == 0
    && (length v.claims == 0
    && (length v.run_conditions == 0
    && (length v.rests == 0
    && (length v.rules == 0 && (length v.work == 0 && (not (is_some v.never_busy) && not (is_some v.never_starved)))))))

-- a file has to say something
abbrev pub unless_nothing : FileSaid → FileSaid
unless_nothing (Err f) = Err f
unless_nothing (Ok v) = if is_nothing v then Err file.Empty else Ok v

-- what a text says of a program with these names and this image: all that its lines say, in their order; or the fault of the
-- least line that has one
unfoldable pub file_said : Names → ImageValue → List ℕ → FileSaid
file_said names i text = unless_nothing (lines_said names i false 1 (pieces 10 text))
