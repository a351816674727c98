-- Streams that may rest, and those whose steps are due.
use Rattle.std.specs.Prelude.{◌==◌, ◌&&◌, not, Bool, List}
use Rattle.std.specs.List.{list_any}
use Rattle.processor.specs.World.{World}
use Rattle.processor.specs.declared.steps.Step.{Step}
use Rattle.waiting.specs.Running.{runs_in}
use Rattle.claims.specs.Holding.{form_holds}
use Rattle.claims.specs.declared.run_conditions.Rest.{Rest}

-- whether the stream may rest in a world by this
abbrev pub rests_by : World → Step → Rest → Bool
rests_by w who r = (who.p == r.who.p && who.s == r.who.s) && form_holds w r.places

-- whether it may by one of these
abbrev pub may_rest : List Rest → World → Step → Bool
may_rest rests w who = list_any (rests_by w who) rests

-- whether steps of the stream are due in a world: it runs there, and may not rest
abbrev pub is_due : List Rest → World → Step → Bool
is_due rests w who = runs_in w who && not (may_rest rests w who)
