-- Replies that are alike, and what a step leaves by them.
use Rattle.std.proofs.Common.{◌≡◌, ◌≢◌, inl, inr, Bool, true, false, refl, sym, ap, ◌∙◌, subst, Some}
use Rattle.std.specs.Prelude.{◌&&◌}
use Rattle.insn_word.specs.declared.insn.Insn.{Insn}
use Rattle.tag_memory.specs.Answer.{answer}
use Rattle.tag_memory.specs.Adds.{AreAlike}
use Rattle.tag_memory.specs.declared.requests.Request.{Request}
use Rattle.tag_memory.specs.declared.requests.Reply.{Reply}
use Rattle.image_file.specs.ImageValue.{ImageValue}
use Rattle.stream_core.specs.Streams.{StreamValue}
use Rattle.stream_core.specs.Effects.{request_of}
use Rattle.stream_core.specs.StreamRow.{row_asking}
use Rattle.stream_core.specs.declared.steps.Outcome.{Outcome}
use Rattle.stream_core.specs.declared.steps.Outcome.TheVariants as outcome
use Rattle.stream_core.specs.declared.steps.Fetch.TheVariants as fetch
use Rattle.tag_memory.specs.declared.requests.Reply.TheVariants as reply
use Rattle.processor.specs.World.{World, outcome_of}
use Rattle.processor.specs.declared.steps.Step.{Step}
use Rattle.commuting_requests.specs.RequestSteps.{IsRequestStep}
use Rattle.commuting_requests.proofs.Leaving.{left_after}
use Rattle.commuting_requests.proofs.Swapping.{stepped}

pub alike_next : (x y z : Reply) → AreAlike x y → AreAlike y z → AreAlike x z
alike_next x y z (inl same) other = subst (λ r. AreAlike r z) (sym same) other
alike_next x y z (inr (n, (k, (first, second)))) (inl same) = inr (n, (k, (first, sym same ∙ second)))
alike_next x y z (inr (n, (k, (first, second)))) (inr (m, (j, (third, last)))) = inr (n, (j, (first, last)))

pub and_first : (a b : Bool) → (a && b) ≡ true → a ≡ true
and_first true b e = refl
and_first false b e = cc

pub and_second : (a b : Bool) → (a && b) ≡ true → b ≡ true
and_second true b e = e
and_second false b e = cc

same_insn : (i j : Insn) → fetch.Instruction i ≡ fetch.Instruction j → i ≡ j
same_insn i j e = cc

-- a step that goes on still does by a reply that is alike
left_goes : (image : ImageValue) (s : StreamValue) (i : Insn) (q : Request) (x y : Reply) → request_of s i ≡ Some q
    → AreAlike x y → (left_after image s i (Some y)).1 ≢ outcome.Blocked → (left_after image s i (Some x)).1 ≢ outcome.Blocked
left_goes image s i q x y asks (inl same) goes e = goes (ap (λ z. (left_after image s i (Some z)).1) (sym same) ∙ e)
left_goes image s i q x y asks (inr (n, (k, (first, second)))) goes e =
    let done : (left_after image s i (Some (reply.Done n))).1 ≡ outcome.Done =
    ap (λ o. (row_asking image.retry_limit s i 0 (Some (reply.Done n)) o).1) asks in
    let never : outcome.Done ≡ outcome.Blocked =
    sym done ∙ ap (λ z. (left_after image s i (Some z)).1) (sym first) ∙ e in
    cc

pub still_goes : (image : ImageValue) (w v : World) (t : Step) (s : StreamValue) (q : Request)
    → IsRequestStep image w t s (Some q) → IsRequestStep image v t s (Some q)
    → AreAlike (answer v.memory q).1 (answer w.memory q).1
    → outcome_of image w t ≢ outcome.Blocked → outcome_of image v t ≢ outcome.Blocked
still_goes image w v t s q f g alike goes e =
    let i = f.request.insn in
    let same : g.request.insn ≡ i = same_insn g.request.insn i (sym g.request.found ∙ f.request.found) in
    let now : outcome_of image w t ≡ (left_after image s i (Some (answer w.memory q).1)).1 =
    ap (λ (x : World × Outcome). x.1) (stepped image w t s (Some q) f) in
    let then : outcome_of image v t ≡ (left_after image s i (Some (answer v.memory q).1)).1 =
    ap (λ (x : World × Outcome). x.1) (stepped image v t s (Some q) g)
    ∙ ap (λ j. (left_after image s j (Some (answer v.memory q).1)).1) same in
    left_goes image s i q (answer v.memory q).1 (answer w.memory q).1 f.request.asked alike (λ b. goes (now ∙ b))
    (sym then ∙ e)
