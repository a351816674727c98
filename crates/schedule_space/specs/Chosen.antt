-- Those of some steps that are of a set, and the others.
use Rattle.std.specs.Prelude.{◌==◌, ◌&&◌, Bool, not, List, filter}
use Rattle.std.specs.List.{list_any}
use Rattle.processor.specs.declared.steps.Step.{Step}

-- whether the second one is this step
abbrev pub is_step : Step → Step → Bool
is_step t u = u.p == t.p && u.s == t.s

-- whether a step is one of the set
abbrev pub is_in : List Step → Step → Bool
is_in set t = list_any (is_step t) set

abbrev pub is_out : List Step → Step → Bool
is_out set t = not (is_in set t)

-- those of these steps that are of the set, and those that are not
abbrev pub steps_in : List Step → List Step → List Step
steps_in set steps = filter (is_in set) steps

abbrev pub steps_out : List Step → List Step → List Step
steps_out set steps = filter (is_out set) steps
