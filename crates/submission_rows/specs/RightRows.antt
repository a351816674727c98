-- When the row of a submission may say that it is right.
use Rattle.std.specs.Prelude.{◌≡◌, ℕ, List}
use Rattle.image_file.specs.ImageValue.{ImageValue}
use Rattle.lab_requests.specs.declared.requests.GradeRequest.{GradeRequest}
use Rattle.grade_rows.specs.Judgements.Shown.{limits_of}
use Rattle.grade_rows.specs.Judgements.Verdicts.{AreRightCases}
use Rattle.grade_rows.specs.JudgementsTypes.AskedJudging.{AskedJudging}
use Rattle.submission_rows.specs.declared.judging.Grading.{Grading}

-- Submissions are judged so if this is requested: the searches go as far, but for their memory, which those that are judged
-- side by side share.
pub record IsAskedBy (request : GradeRequest) (asked : AskedJudging) : Type 0 where
  pub limits : limits_of asked.explored ≡ limits_of request.explored
  pub thorough : asked.is_thorough ≡ request.is_thorough
  pub names : asked.needs_names ≡ request.needs_names
  pub seeds : asked.seeds ≡ request.seeds
  pub most : asked.most ≡ request.most

-- A submission of this image and text is right by each case, as it is asked to be judged.
pub record IsRightAsGraded (grading : Grading) (image : ImageValue) (text : List ℕ) : Type 0 where
  pub asked : AskedJudging
  pub as_asked : IsAskedBy grading.request.now asked
  pub right : AreRightCases asked image text grading.cases.now
