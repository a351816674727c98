-- Whether a verdict is asked for.
use Rattle.std.specs.Prelude.{Bool, IsTrue, IsFalse, List}
use Rattle.std.specs.List.{list_all}
use Rattle.image_file.specs.ImageValue.{ImageValue}
use Rattle.program_rules.specs.Keeping.{is_kept}
use Rattle.program_rules.specs.declared.program_rule.ProgramRule.{ProgramRule}
use Rattle.expectation_files.specs.Files.{is_nothing}
use Rattle.expectation_files.specs.Seen.{requirements_seen}
use Rattle.expectation_files.specs.declared.requirements.Requirements.{Requirements}

-- whether the program of an image keeps rules
abbrev pub are_rules_kept : ImageValue → List ProgramRule → Bool
are_rules_kept i rules = list_all (is_kept i) rules

-- something is required, and the program keeps the rules that are
pub record IsJudged (i : ImageValue) (r : Requirements) : Type 0 where
  pub some : IsFalse (is_nothing (requirements_seen r))
  pub kept : IsTrue (are_rules_kept i r.rules.items)
