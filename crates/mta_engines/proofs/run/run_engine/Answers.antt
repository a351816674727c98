use Rattle.mta_engines.proofs.ReadBytes.{answered, never}
use Rattle.mta_engines.proofs.run.run_engine.Goals as goal

pub returns-in_err-image-clause-no_image : goal.returns-in_err-image-clause-no_image
returns-in_err-image-clause-no_image g c = λ found.
    answered _ _ _ _ _ c.from_residual.ensures.1 (c.in_err-image.ensures.no_image found)

pub returns-in_err-steps-clause-no_image : goal.returns-in_err-steps-clause-no_image
returns-in_err-steps-clause-no_image g c = λ found. never _ _ _ (c.in_ok-image.ensures.no_image found)

pub returns-clause-no_image : goal.returns-clause-no_image
returns-clause-no_image g c = λ found. never _ _ _ (c.in_ok-image.ensures.no_image found)

pub returns-clause-schedule_as_before : goal.returns-clause-schedule_as_before
returns-clause-schedule_as_before g c = λ found. never _ _ _ (c.in_ok-image.ensures.no_image found)
