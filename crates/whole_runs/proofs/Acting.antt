-- What a step did, put together of what is seen before it and after it.
use Rattle.std.proofs.Common.{◌≡◌, ℕ, ◌∙◌, Option}
use Rattle.tag_memory.specs.Cell.{Cell}
use Rattle.image_file.specs.ImageValue.{ImageValue}
use Rattle.stream_core.specs.declared.steps.Outcome.{Outcome}
use Rattle.processor.specs.World.{World, after, outcome_of, world_step}
use Rattle.processor.specs.declared.steps.Step.{Step}
use Rattle.step_views.specs.declared.step_views.Reference.{Reference}
use Rattle.step_views.specs.Places.{used_stream}
use Rattle.step_views.specs.StepViews.{pc_of, reference_of}
use Rattle.run_findings.specs.declared.actions.Access.{Access}
use Rattle.run_findings.specs.declared.actions.Deed.{Deed}
use Rattle.whole_runs.specs.RunActions.{deed_by, word_met, access_by, access_of, action_of}

deed_made : (image shown : ImageValue) (w v : World) (t : Step) (pc : ℕ) (o : Outcome) (d : Deed)
    → shown ≡ image → pc ≡ pc_of (used_stream w t.p t.s) → (v, o) ≡ world_step image w t → d ≡ deed_by shown pc o
    → d ≡ deed_by image (pc_of (used_stream w t.p t.s)) (outcome_of image w t)
deed_made image shown w v t pc o d same place stepped is = is ∙ (λ i. deed_by (same i) (place i) (stepped i).1)

access_made : (image : ImageValue) (w v : World) (t : Step) (o : Outcome) (r : Option Reference)
    (before behind : Option Cell) (a : Option Access)
    → (v, o) ≡ world_step image w t → r ≡ reference_of image w t → before ≡ word_met w.memory r
    → behind ≡ word_met v.memory r → a ≡ access_by r before behind
    → a ≡ access_of w.memory (after image w t).memory (reference_of image w t)
access_made image w v t o r before behind a stepped asked first last is =
    is
    ∙ (λ i. access_by r (first i) (last i))
    ∙ (λ i. access_of w.memory (stepped i).0.memory (asked i))

pub action_made : (image shown : ImageValue) (w v : World) (t : Step) (pc : ℕ) (o : Outcome) (r : Option Reference)
    (before behind : Option Cell) (d : Deed) (a : Option Access)
    → shown ≡ image → pc ≡ pc_of (used_stream w t.p t.s) → (v, o) ≡ world_step image w t
    → r ≡ reference_of image w t → before ≡ word_met w.memory r → behind ≡ word_met v.memory r
    → d ≡ deed_by shown pc o → a ≡ access_by r before behind
    → record { stream = t; deed = d; access = a } ≡ action_of image w t
unfolding action_of
action_made image shown w v t pc o r before behind d a same place stepped asked first last did met =
    let deed_is : d ≡ deed_by image (pc_of (used_stream w t.p t.s)) (outcome_of image w t) =
    deed_made image shown w v t pc o d same place stepped did in
    let access_is : a ≡ access_of w.memory (after image w t).memory (reference_of image w t) =
    access_made image w v t o r before behind a stepped asked first last met in
    λ i. record { stream = t; deed = deed_is i; access = access_is i }
