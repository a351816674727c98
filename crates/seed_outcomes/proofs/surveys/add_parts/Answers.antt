use Rattle.std.proofs.Common.{◌≡◌, ◌++◌, [], ◌∷◌, sym, ap, ◌∙◌, subst, List, Vec, Global}
use Rattle.std.proofs.lemmas.List.{append-nil}
use Rattle.std.proofs.lemmas.Grind.{flat_map-append}
use Rattle.seed_outcomes.specs.Adding.{AreAdded, same}
use Rattle.seed_outcomes.specs.Parts.{all_outcomes}
use Rattle.seed_outcomes.specs.declared.outcomes.SeedOutcome.{SeedOutcome}
use Rattle.seed_outcomes.proofs.Added.{added_both}
use Rattle.seed_outcomes.proofs.surveys.add_parts.Goals as goal

pub loop-part-init : goal.loop-part-init
loop-part-init c = same

pub loop-part-preserved : goal.loop-part-preserved
loop-part-preserved c =
    let before = c.loop-part.yielded in
    let part = c.in-Some.part in
    let all : all_outcomes before ++ part.items ≡ all_outcomes (before ++ part ∷ []) =
    ap (λ (l : List SeedOutcome). all_outcomes before ++ l) (sym (append-nil part.items))
    ∙ sym (flat_map-append (λ (v : Vec SeedOutcome Global). v.items) before (part ∷ [])) in
    subst (λ (l : List SeedOutcome). AreAdded c.args.outcomes.now.items l c.add_outcomes.new.outcomes.items) all
    (added_both c.args.outcomes.now.items c.loop-part.outcomes.items c.add_outcomes.new.outcomes.items
    (all_outcomes before) part.items c.loop-part.invariant c.in_ok-add_outcomes.ensures)
