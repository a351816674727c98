use Rattle.std.proofs.Common.{◌<◌, sym, subst}
use Rattle.std.specs.List.{All}
use Rattle.std.proofs.lemmas.List.Elements.{All-drop}
use Rattle.schedule_space.specs.Kept.{KeptValue}
use Rattle.schedule_space.proofs.kept_machines.KeptMachines.go_to.Goals as goal

pub returns-clause-fewer : goal.returns-clause-fewer
returns-clause-fewer g c = λ n all.
    subst (All (λ k. k < n)) (sym c.pop_front.ensures.rest)
    (All-drop (λ k. k < n) 1 c.self.inside.places.items
    (subst (λ (x : KeptValue). All (λ k. k < n) x.places) (sym c.self.view_is) all))
