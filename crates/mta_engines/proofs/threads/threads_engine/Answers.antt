use Rattle.std.proofs.Common.{ap, Err}
use Rattle.mta_engines.proofs.ReadBytes.{answered, never}
use Rattle.mta_engines.proofs.Refusals.{unread, asked_for, refused}
use Rattle.mta_engines.proofs.threads.threads_engine.Goals as goal

pub returns-in_err-image-clause-no_image : goal.returns-in_err-image-clause-no_image
returns-in_err-image-clause-no_image g c = λ found.
    answered _ _ _ _ _ c.from_residual.ensures.1 (c.in_err-image.ensures.no_image found)

pub returns-in_err-image-clause-too_long : goal.returns-in_err-image-clause-too_long
returns-in_err-image-clause-too_long g c = λ asked.
    unread _ _ _ asked c.args.fuel c.from_residual.ensures.1 (λ is. c.in_err-image.ensures.no_write (ap Err is))
    c.in_err-image.ensures.fault

pub returns-in_err-texts-clause-no_image : goal.returns-in_err-texts-clause-no_image
returns-in_err-texts-clause-no_image g c = λ found. never _ _ _ (c.in_ok-image.ensures.no_image found)

pub returns-in_err-texts-clause-too_long : goal.returns-in_err-texts-clause-too_long
returns-in_err-texts-clause-too_long g c = λ asked.
    asked_for _ c.in_ok-image.image asked c.args.fuel _ c.in_ok-image.ensures.image
    (λ long. refused _ _ c.from_residual-in_err-texts.ensures.1 (c.in_err-texts.ensures.too_long long))

pub returns-in_err-write_output-clause-no_image : goal.returns-in_err-write_output-clause-no_image
returns-in_err-write_output-clause-no_image g c = λ found. never _ _ _ (c.in_ok-image.ensures.no_image found)

pub returns-in_err-write_output-clause-too_long : goal.returns-in_err-write_output-clause-too_long
returns-in_err-write_output-clause-too_long g c = λ asked.
    asked_for _ c.in_ok-image.image asked c.args.fuel _ c.in_ok-image.ensures.image
    (λ long. absurd (c.in_ok-texts.ensures.too_long long))

pub returns-clause-no_image : goal.returns-clause-no_image
returns-clause-no_image g c = λ found. never _ _ _ (c.in_ok-image.ensures.no_image found)

pub returns-clause-too_long : goal.returns-clause-too_long
returns-clause-too_long g c = λ asked.
    asked_for _ c.in_ok-image.image asked c.args.fuel _ c.in_ok-image.ensures.image
    (λ long. absurd (c.in_ok-texts.ensures.too_long long))
