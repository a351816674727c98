use Rattle.std.proofs.Common.{◌≡◌, ◌≢◌, ℕ, ◌/◌, ◌⊎◌, false, refl, sym, ap, ◌∙◌, subst, rules, Some}
use Rattle.std.specs.List.{Contains}
use Rattle.std.specs.Option.{option_copied}
use Rattle.tag_memory.specs.Address.{address_of}
use Rattle.tag_memory.specs.Answer.{answer}
use Rattle.tag_memory.specs.ReadRequests.{may_change}
use Rattle.tag_memory.specs.declared.requests.Request.{Request}
use Rattle.stream_core.specs.StreamRow.{plan_of}
use Rattle.stream_core.specs.declared.steps.Plan.TheVariants as plan
use Rattle.first_sets.specs.LocalSteps.NeverAsking.{own_step}
use Rattle.first_sets.proofs.Members.{shown_same}
use Rattle.schedule_space.specs.Quiet.{is_seen}
use Rattle.schedule_space.proofs.UnseenSets.{asks_for}
use Rattle.schedule_space.proofs.unseen.is_unseen.Goals as goal

pub returns-then-is_unseen_stream : goal.returns-then-is_unseen_stream
returns-then-is_unseen_stream g c = λ yes s q f.
    let m = c.args.machine.now in
    let x = c.in-Some.stream.now in
    let i = c.image-image.result.now in
    let r = c.in-Ask.request in
    let image : i ≡ m.image = c.image-image.ensures.is in
    let same : x ≡ s =
    shown_same g.row.S m.image m.world c.args.step x s (Some q) (sym c.stream.ensures ∙ ap option_copied c.in-Some.is) f in
    let planned : plan_of i.profile i.program x ≡ plan.Ask r = search rules in
    let asked : r ≡ q =
    asks_for m.image m.world c.args.step s q r f
    (sym (λ k. plan_of (image k).profile (image k).program (same k)) ∙ planned) in
    let replied : c.ending-reply.result.reply ≡ (answer m.world.memory q).1 =
    c.ending-reply.ensures.reply ∙ ap (λ (y : Request). (answer m.world.memory y).1) asked in
    let places = c.args.observation.places.now in
    let words = c.args.observation.words.now in
    record {
      before = ap (is_seen places) (sym same) ∙ c.if-is_unseen_stream.ensures.before refl;
      behind =
          sym (λ k. is_seen places (own_step (image k) (same k) (Some (replied k))))
          ∙ c.if-is_unseen_stream.ensures.behind refl;
      apart =
          subst
          (λ (y : Request). (a : ℕ) → Contains words a
          → (a / 8 ≢ address_of y.pointer / 8) ⊎ (may_change y.op y.acc ≡ false))
          asked (c.is_unseen_word.ensures yes);
    }
