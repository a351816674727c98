-- The worlds on the way through a schedule.
use Rattle.std.proofs.Common.{◌≡◌, ℕ, ◌+◌, ◌<◌, List, length, take, get_or, sym, ap, ◌∙◌}
use Rattle.std.proofs.lemmas.List.{take_more}
use Rattle.stream_core.specs.declared.steps.Outcome.{Outcome}
use Rattle.image_file.specs.ImageValue.{ImageValue}
use Rattle.processor.specs.World.{World, world_step, after, run}
use Rattle.processor.specs.declared.steps.Step.{Step}
use Rattle.busy_streams.proofs.ScheduleSpace.Schedules.{run-push}

-- the world behind one step more
pub step_more : (image other : ImageValue) (ts : List Step) (k : ℕ) (d : Step) (w new : World) (o : Outcome)
    → k < length ts → other ≡ image → w ≡ run image (take k ts) → (new, o) ≡ world_step other w (get_or ts k d)
    → new ≡ run image (take (k + 1) ts)
step_more image other ts k d w new o below same stands is =
    ap (λ (x : World × Outcome). x.0) is
    ∙ (λ i. after (same i) (stands i) (get_or ts k d))
    ∙ sym (run-push image (take k ts) (get_or ts k d))
    ∙ sym (ap (run image) (take_more ts k d below))
