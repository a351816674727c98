-- The views of the steps of a run.
use Rattle.std.specs.Prelude.{◌≡◌, List, [], ◌∷◌}
use Rattle.image_file.specs.ImageValue.{ImageValue}
use Rattle.processor.specs.World.{World, after}
use Rattle.processor.specs.declared.steps.Step.{Step}
use Rattle.step_views.specs.declared.step_views.StepView.{StepView}
use Rattle.step_views.specs.StepViews.{IsViewOf}

-- the views are those of the steps, one each in their order, each of the world that the steps before it leave
abbrev pub AreViews : ImageValue → World → List Step → List StepView → Type 0
AreViews image w [] views = views ≡ []
AreViews image w (t ∷ ts) [] = ⊥
AreViews image w (t ∷ ts) (v ∷ vs) = IsViewOf image w t v × AreViews image (after image w t) ts vs
