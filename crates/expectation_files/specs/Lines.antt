-- What a line of a file of expectations says.
use Rattle.std.specs.Prelude.{ℕ, Bool, true, false, ◌&&◌, ◌||◌, if◌then◌else◌, List, [], ◌∷◌, codes, Result, Ok, Err}
use Rattle.std.specs.Str.{bytes_eq}
use Rattle.image_file.specs.ImageValue.{ImageValue}
use Rattle.claims.specs.declared.claim.Scope.TheVariants.{Always, Never, Once}
use Rattle.expectations.specs.declared.expectation.Expectation.{Expectation}
use Rattle.program_rules.specs.declared.program_rule.ProgramRule.{ProgramRule}
use Rattle.work_rules.specs.declared.work_rule.WorkRule.{WorkRule}
use Rattle.expectation_files.specs.Words.{words_on}
use Rattle.expectation_files.specs.Addresses.{Names}
use Rattle.expectation_files.specs.WordLines.{Said, at, word_said, words_said, sum_said}
use Rattle.expectation_files.specs.EndLines.{register_said, finished_said, stopped_said, waits_said, loops_said}
use Rattle.expectation_files.specs.ClaimLines.{ClaimValue, claim_said}
use Rattle.expectation_files.specs.Conditions.{ConditionValue, ConditionsSaid, RestValue, RestSaid}
use Rattle.expectation_files.specs.LeadsLines.{is_leading, leads_said}
use Rattle.expectation_files.specs.OvertakingLines.{is_overtaking, overtaking_said}
use Rattle.expectation_files.specs.RestLines.{is_resting, rest_said}
use Rattle.expectation_files.specs.RuleLines.{RulesSaid, entries_said, most_words_said, operations_said}
use Rattle.expectation_files.specs.WorkLines.{WorkSaid, each_said, least_said}
use Rattle.expectation_files.specs.Marks.{MarkSaid, mark_named}
use Rattle.expectation_files.specs.declared.marks.CaseMark.{CaseMark}
use Rattle.expectation_files.specs.declared.marks.CaseMark.TheVariants as mark
use Rattle.expectation_files.specs.declared.faults.LineFault.{LineFault}
use Rattle.expectation_files.specs.declared.faults.LineFaultKind.TheVariants as fault
use Rattle.expectation_files.specs.declared.rule_lines.OperationVerb.TheVariants.{Forbid, Require}

-- what a line says: nothing; what the end of a run has to be, or may be; a claim about worlds; conditions on runs; where a
-- stream may rest; rules for the program; who does the work in a run; that no stream ever loops alone; that none can wait
-- forever; how the case counts to which the file belongs
pub data Meaning : Type 0 where
  Nothing : Meaning
  End : Expectation → Meaning
  Claimed : ClaimValue → Meaning
  OfRuns : List ConditionValue → Meaning
  Rests : RestValue → Meaning
  Rules : List ProgramRule → Meaning
  Work : List WorkRule → Meaning
  NeverBusy : Meaning
  NeverStarved : Meaning
  Marked : CaseMark → Meaning

abbrev pub MeaningSaid : Type 0
MeaningSaid = Result Meaning LineFault

abbrev pub end_of : Said → MeaningSaid
end_of (Err f) = Err f
end_of (Ok e) = Ok (End e)

abbrev pub claim_of : Result ClaimValue LineFault → MeaningSaid
claim_of (Err f) = Err f
claim_of (Ok c) = Ok (Claimed c)

abbrev pub runs_of : ConditionsSaid → MeaningSaid
runs_of (Err f) = Err f
runs_of (Ok cs) = Ok (OfRuns cs)

abbrev pub rests_of : RestSaid → MeaningSaid
rests_of (Err f) = Err f
rests_of (Ok r) = Ok (Rests r)

abbrev pub rules_of : RulesSaid → MeaningSaid
rules_of (Err f) = Err f
rules_of (Ok rs) = Ok (Rules rs)

abbrev pub work_of : WorkSaid → MeaningSaid
work_of (Err f) = Err f
work_of (Ok rs) = Ok (Work rs)

abbrev pub mark_of : MarkSaid → MeaningSaid
mark_of (Err f) = Err f
mark_of (Ok m) = Ok (Marked m)

-- whether words are `busy` alone
abbrev pub is_busy_alone : List (List ℕ) → Bool
is_busy_alone (w ∷ []) = bytes_eq w (codes "busy")
is_busy_alone _ = false

-- whether words are `starved` alone
abbrev pub is_starved_alone : List (List ℕ) → Bool
is_starved_alone (w ∷ []) = bytes_eq w (codes "starved")
is_starved_alone _ = false

-- what stands after `never`: `busy` alone, `starved` alone, or a claim
abbrev pub never_said : Names → ImageValue → List (List ℕ) → MeaningSaid
never_said names i ws =
    if is_busy_alone ws then Ok NeverBusy
    else (if is_starved_alone ws then Ok NeverStarved
    else claim_of (claim_said names i Never ws))

-- Lines by their first words.

abbrev pub rules_named : List ℕ → List (List ℕ) → MeaningSaid
rules_named name os =
    if bytes_eq name (codes "entries") then rules_of (entries_said os)
    else (if bytes_eq name (codes "at") then rules_of (most_words_said os)
    else (if bytes_eq name (codes "forbid") then rules_of (operations_said Forbid os)
    else (if bytes_eq name (codes "require") then rules_of (operations_said Require os)
    else mark_of (mark_named name os))))

-- whether words are `least` and others behind it
abbrev pub is_least : List (List ℕ) → Bool
is_least [] = false
is_least (w ∷ ws) = bytes_eq w (codes "least")

abbrev pub work_named : Names → List ℕ → List (List ℕ) → MeaningSaid
work_named names name os =
    if bytes_eq name (codes "each") then work_of (each_said names os)
    else (if bytes_eq name (codes "at") && is_least os then work_of (least_said names os)
    else rules_named name os)

abbrev pub claim_named : Names → ImageValue → List ℕ → List (List ℕ) → MeaningSaid
claim_named names i name os =
    if bytes_eq name (codes "always") then claim_of (claim_said names i Always os)
    else (if bytes_eq name (codes "never") then never_said names i os
    else (if bytes_eq name (codes "some") then claim_of (claim_said names i Once os)
    else work_named names name os))

-- what may be at an end, or else a claim
abbrev pub allowance_named : Names → ImageValue → List ℕ → List (List ℕ) → MeaningSaid
allowance_named names i name os =
    if bytes_eq name (codes "waits") then end_of (waits_said names i os)
    else (if bytes_eq name (codes "loops") then end_of (loops_said os)
    else claim_named names i name os)

abbrev pub meaning_named : Names → ImageValue → List ℕ → List (List ℕ) → MeaningSaid
meaning_named names i name os =
    if bytes_eq name (codes "word") then end_of (word_said names os)
    else (if bytes_eq name (codes "words") then end_of (words_said names os)
    else (if bytes_eq name (codes "sum") then end_of (sum_said names os)
    else (if bytes_eq name (codes "register") then end_of (register_said os)
    else (if bytes_eq name (codes "finished") then end_of (finished_said os)
    else (if bytes_eq name (codes "stopped") then end_of (stopped_said os)
    else allowance_named names i name os)))))

abbrev pub words_meaning : Names → ImageValue → List (List ℕ) → MeaningSaid
words_meaning names i [] = Ok Nothing
words_meaning names i (name ∷ os) =
    if is_resting name os then rests_of (rest_said names i name os)
    else (if is_leading os then runs_of (leads_said names i name os)
    else (if is_overtaking os then runs_of (overtaking_said names i name os)
    else meaning_named names i name os))

-- what a line says of a program with these names and this image, or its fault
unfoldable pub line_said : Names → ImageValue → List ℕ → MeaningSaid
line_said names i line = words_meaning names i (words_on line)

-- whether a line says how many points a case has
abbrev pub is_points : Meaning → Bool
is_points (Marked (mark.Points n)) = true
is_points (Marked mark.Hidden) = false
is_points Nothing = false
is_points (End e) = false
is_points (Claimed c) = false
is_points (OfRuns cs) = false
is_points (Rests r) = false
is_points (Rules rs) = false
is_points (Work rs) = false
is_points NeverBusy = false
is_points NeverStarved = false

-- what a line says after others that say how many points there are or not: a second such line has a fault
abbrev pub once : Bool → MeaningSaid → MeaningSaid
once has (Err f) = Err f
once has (Ok m) = if has && is_points m then at 0 fault.Again else Ok m

abbrev pub said_after : Names → ImageValue → Bool → List ℕ → MeaningSaid
said_after names i has line = once has (line_said names i line)

-- whether some line says it, up to one that says this
abbrev pub has_after : Bool → MeaningSaid → Bool
has_after has (Err f) = has
has_after has (Ok m) = has || is_points m
