-- Two steps whose requests commute, in both orders.
use Rattle.std.proofs.Common.{◌≡◌, ◌≢◌, ℕ, ◌⊎◌, inl, inr, refl, sym, ap, ◌∙◌, List, set, Option, Some, slice_get}
use Rattle.std.proofs.lemmas.List.{get_or-set_other, set_comm, set-set}
use Rattle.insn_word.specs.declared.insn.Insn.{Insn}
use Rattle.tag_memory.specs.declared.requests.Request.{Request}
use Rattle.image_file.specs.ImageValue.{ImageValue}
use Rattle.stream_core.specs.Streams.{StreamValue, idle}
use Rattle.stream_core.specs.StreamRow.{control_of}
use Rattle.stream_core.specs.declared.steps.Outcome.{Outcome}
use Rattle.processor.specs.Processors.{ProcessorValue, stream_at}
use Rattle.processor.specs.Row.{memory_reply}
use Rattle.processor.specs.World.{World, world_step, after, outcome_of}
use Rattle.processor.specs.declared.steps.Step.{Step}
use Rattle.local_steps.proofs.Commuting.{put, step_there, there_same, there_other}
use Rattle.local_steps.proofs.Orders.{same_or_other}
use Rattle.commuting_requests.specs.Pairs.{DoCommute}
use Rattle.commuting_requests.specs.RequestSteps.{IsRequestIn, IsRequestStep}
use Rattle.commuting_requests.proofs.Leaving.{left_after, into, over_left, put_both}

some_same : {x y : ProcessorValue} → Some x ≡ Some y → x ≡ y
some_same e = cc

-- the two steps are of one processor, or of two
pub apart_of : (t u : Step) → u ≢ t → ((u.p ≡ t.p) × (u.s ≢ t.s)) ⊎ (u.p ≢ t.p)
apart_of t u apart = by_processor (same_or_other u.p t.p) (same_or_other u.s t.s) where
  by_processor : (u.p ≡ t.p) ⊎ (u.p ≢ t.p) → (u.s ≡ t.s) ⊎ (u.s ≢ t.s) → ((u.p ≡ t.p) × (u.s ≢ t.s)) ⊎ (u.p ≢ t.p)
  by_processor (inl same) (inl one) = absurd (apart (λ i. record { p = same i; s = one i }))
  by_processor (inl same) (inr two) = inl (same, two)
  by_processor (inr far) s = inr far

module _ (image : ImageValue) where
  -- the step of a stream that finds this instruction
  pub stepped : (w : World) (t : Step) (s : StreamValue) (q : Option Request) (f : IsRequestStep image w t s q)
      → world_step image w t
      ≡ (
        record {
          processors = set w.processors t.p (into image t.s s f.request.insn (memory_reply w.memory q).1 f.processor);
          memory = (memory_reply w.memory q).0;
        },
        (left_after image s f.request.insn (memory_reply w.memory q).1).1,
      )
  stepped w t s q f =
      step_there image w t f.processor f.there
      ∙ ap (λ e. (put w t.p e, e.0.1)) (over_left image f.processor t.s s q w.memory f.is f.request)

  pub moved : (w : World) (t : Step) (s : StreamValue) (q : Option Request) (f : IsRequestStep image w t s q)
      → after image w t
      ≡ record {
        processors = set w.processors t.p (into image t.s s f.request.insn (memory_reply w.memory q).1 f.processor);
        memory = (memory_reply w.memory q).0;
      }
  moved w t s q f = ap (λ (e : World × Outcome). e.0) (stepped w t s q f)

  -- Of one processor.
  module _ (w : World) (t u : Step) (s x : StreamValue) (q r : Option Request)
      (f : IsRequestStep image w t s q) (g : IsRequestStep image w u x r)
      (same : u.p ≡ t.p) (two : u.s ≢ t.s) where
    abbrev pub to : ProcessorValue
    to = into image t.s s f.request.insn (memory_reply w.memory q).1 f.processor

    pub one_processor : g.processor ≡ f.processor
    one_processor = some_same (sym g.there ∙ ap (slice_get w.processors) same ∙ f.there)

    beside : IsRequestStep image (after image w t) u x r
    beside = record {
      processor = to;
      there =
          ap (λ (v : World). slice_get v.processors u.p) (moved w t s q f)
          ∙ ap (slice_get (set w.processors t.p to)) same
          ∙ there_same w.processors t.p f.processor to f.there;
      is =
          get_or-set_other f.processor.streams t.s u.s _ idle two
          ∙ ap (λ (p : ProcessorValue). stream_at p.streams u.s) (sym one_processor)
          ∙ g.is;
      request = g.request;
    }

    -- whatever the second one gets
    pub both_beside : after image (after image w t) u
        ≡ record {
          processors =
              set w.processors t.p (into image u.s x g.request.insn (memory_reply (memory_reply w.memory q).0 r).1 to);
          memory = (memory_reply (memory_reply w.memory q).0 r).0;
        }
    unfolding beside
    both_beside =
        let got = (memory_reply (memory_reply w.memory q).0 r).1 in
        moved (after image w t) u x r beside
        ∙ ap
        (λ (v : World). record {
          processors = set v.processors u.p (into image u.s x g.request.insn (memory_reply v.memory r).1 to);
          memory = (memory_reply v.memory r).0;
        })
        (moved w t s q f)
        ∙ (λ k. record {
          processors = set (set w.processors t.p to) (same k) (into image u.s x g.request.insn got to);
          memory = (memory_reply (memory_reply w.memory q).0 r).0;
        })
        ∙ (λ k. record {
          processors = set-set w.processors t.p to (into image u.s x g.request.insn got to) k;
          memory = (memory_reply (memory_reply w.memory q).0 r).0;
        })

    order_beside : (memory_reply (memory_reply w.memory q).0 r).1 ≡ (memory_reply w.memory r).1
        → after image (after image w t) u
        ≡ record {
          processors = set w.processors t.p (into image u.s x g.request.insn (memory_reply w.memory r).1 to);
          memory = (memory_reply (memory_reply w.memory q).0 r).0;
        }
    order_beside past =
        both_beside
        ∙ (λ k. record {
          processors = set w.processors t.p (into image u.s x g.request.insn (past k) to);
          memory = (memory_reply (memory_reply w.memory q).0 r).0;
        })

  -- Of two processors.
  module _ (w : World) (t u : Step) (s x : StreamValue) (q r : Option Request)
      (f : IsRequestStep image w t s q) (g : IsRequestStep image w u x r)
      (far : u.p ≢ t.p) where
    abbrev pub there_to : ProcessorValue
    there_to = into image t.s s f.request.insn (memory_reply w.memory q).1 f.processor

    beyond : IsRequestStep image (after image w t) u x r
    beyond = record {
      processor = g.processor;
      there =
          ap (λ (v : World). slice_get v.processors u.p) (moved w t s q f)
          ∙ there_other w.processors t.p u.p g.processor there_to far g.there;
      is = g.is;
      request = g.request;
    }

    -- whatever the second one gets
    pub both_beyond : after image (after image w t) u
        ≡ record {
          processors =
              set (set w.processors t.p there_to) u.p
              (into image u.s x g.request.insn (memory_reply (memory_reply w.memory q).0 r).1 g.processor);
          memory = (memory_reply (memory_reply w.memory q).0 r).0;
        }
    unfolding beyond
    both_beyond =
        moved (after image w t) u x r beyond
        ∙ ap
        (λ (v : World). record {
          processors = set v.processors u.p (into image u.s x g.request.insn (memory_reply v.memory r).1 g.processor);
          memory = (memory_reply v.memory r).0;
        })
        (moved w t s q f)

    order_beyond : (memory_reply (memory_reply w.memory q).0 r).1 ≡ (memory_reply w.memory r).1
        → after image (after image w t) u
        ≡ record {
          processors =
              set (set w.processors t.p there_to) u.p (into image u.s x g.request.insn (memory_reply w.memory r).1 g.processor);
          memory = (memory_reply (memory_reply w.memory q).0 r).0;
        }
    order_beyond past =
        both_beyond
        ∙ (λ k. record {
          processors =
              set (set w.processors t.p there_to) u.p (into image u.s x g.request.insn (past k) g.processor);
          memory = (memory_reply (memory_reply w.memory q).0 r).0;
        })

  -- Both.
  module _ (w : World) (t u : Step) (s x : StreamValue) (q r : Option Request) (f : IsRequestStep image w t s q)
      (g : IsRequestStep image w u x r) where
    stays_by : ((u.p ≡ t.p) × (u.s ≢ t.s)) ⊎ (u.p ≢ t.p) → IsRequestStep image (after image w t) u x r
    stays_by (inl near) = beside w t u s x q r f g near.0 near.1
    stays_by (inr far) = beyond w t u s x q r f g far

    pub stays : u ≢ t → IsRequestStep image (after image w t) u x r
    stays apart = stays_by (apart_of t u apart)

    outcome_is : (v : World) (h : IsRequestStep image v u x r)
        → outcome_of image v u ≡ (left_after image x h.request.insn (memory_reply v.memory r).1).1
    outcome_is v h = ap (λ (e : World × Outcome). e.1) (stepped v u x r h)

    -- behind the step of t the step of u finds the same instruction
    same_insn : (place : ((u.p ≡ t.p) × (u.s ≢ t.s)) ⊎ (u.p ≢ t.p)) → (stays_by place).request.insn ≡ g.request.insn
    unfolding stays_by beside beyond
    same_insn (inl near) = refl
    same_insn (inr far) = refl

    pub same_outcome : u ≢ t → DoCommute w.memory q r → outcome_of image (after image w t) u ≡ outcome_of image w u
    unfolding stays
    same_outcome apart pair =
        outcome_is (after image w t) (stays apart)
        ∙ ap (λ i. (left_after image x i (memory_reply (after image w t).memory r).1).1) (same_insn (apart_of t u apart))
        ∙ ap (λ (v : World). (left_after image x g.request.insn (memory_reply v.memory r).1).1) (moved w t s q f)
        ∙ ap (λ y. (left_after image x g.request.insn y).1) pair.second
        ∙ sym (outcome_is w g)

    commutes_by : ((u.p ≡ t.p) × (u.s ≢ t.s)) ⊎ (u.p ≢ t.p) → DoCommute w.memory q r
        → after image (after image w t) u ≡ after image (after image w u) t
    commutes_by (inl near) pair =
        let i = f.request.insn in
        let j = g.request.insn in
        let one = one_processor w t u s x q r f g near.0 near.1 in
        let mine = into image t.s s f.request.insn (memory_reply w.memory q).1 in
        let other = into image u.s x g.request.insn (memory_reply w.memory r).1 in
        order_beside w t u s x q r f g near.0 near.1 pair.second
        ∙ (λ k. record {
          processors =
              set w.processors (sym near.0 k)
              (put_both f.processor t.s u.s (control_of s i) (control_of x j) (left_after image s f.request.insn (memory_reply w.memory q).1).0
              (left_after image x g.request.insn (memory_reply w.memory r).1).0 (left_after image s f.request.insn (memory_reply w.memory q).1).1
              (left_after image x g.request.insn (memory_reply w.memory r).1).1 (λ e. near.1 (sym e)) k);
          memory = pair.memory k;
        })
        ∙ (λ k. record {
          processors = set w.processors u.p (mine (other (sym one k)));
          memory = (memory_reply (memory_reply w.memory r).0 q).0;
        })
        ∙ sym (order_beside w u t x s r q g f (sym near.0) (λ e. near.1 (sym e)) pair.first)
    commutes_by (inr far) pair =
        let i = f.request.insn in
        let j = g.request.insn in
        let mine = into image t.s s f.request.insn (memory_reply w.memory q).1 f.processor in
        let other = into image u.s x g.request.insn (memory_reply w.memory r).1 g.processor in
        order_beyond w t u s x q r f g far pair.second
        ∙ (λ k. record {
          processors = set_comm w.processors t.p u.p mine other (λ e. far (sym e)) k;
          memory = pair.memory k;
        })
        ∙ sym (order_beyond w u t x s r q g f (λ e. far (sym e)) pair.first)

    pub commutes : u ≢ t → DoCommute w.memory q r → after image (after image w t) u ≡ after image (after image w u) t
    commutes apart pair = commutes_by (apart_of t u apart) pair
