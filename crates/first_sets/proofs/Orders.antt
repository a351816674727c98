-- Two steps in both orders, where nobody reads what they load, and their requests commute but for that.
use Rattle.std.proofs.Common.{◌≡◌, ◌≢◌, ℕ, ◌<◌, ◌⊎◌, inl, inr, false, sym, ap, ◌∙◌, subst, arith}
use Rattle.std.proofs.Common.{List, [], length, set, Option, Some, slice_get}
use Rattle.std.proofs.lemmas.Bool.{cases_lt}
use Rattle.std.proofs.lemmas.List.{length-set, get_or-set_same, get_or_past, set_comm, set-set}
use Rattle.insn_word.specs.declared.insn.Insn.{Insn}
use Rattle.tag_memory.specs.Storage.{TaggedMemory}
use Rattle.tag_memory.specs.Answer.{answer}
use Rattle.tag_memory.specs.declared.requests.Request.{Request}
use Rattle.tag_memory.specs.declared.requests.Reply.{Reply}
use Rattle.image_file.specs.ImageValue.{ImageValue}
use Rattle.stream_core.specs.Streams.{StreamValue, idle}
use Rattle.stream_core.specs.StreamRow.{control_of}
use Rattle.stream_core.specs.declared.steps.Status.TheVariants.{Idle, Running}
use Rattle.stream_core.specs.declared.steps.Outcome.{Outcome}
use Rattle.processor.specs.Processors.{ProcessorValue, is_idle, stream_at}
use Rattle.processor.specs.World.{World, after}
use Rattle.processor.specs.declared.steps.Step.{Step}
use Rattle.program_flow.specs.Agreeing.{StreamsAgree}
use Rattle.local_steps.specs.NeverAsking.{left_by}
use Rattle.local_steps.proofs.Commuting.{there_same, there_other}
use Rattle.agreeing_ends.specs.SameFutures.Links.{WorldsAgree}
use Rattle.agreeing_ends.proofs.SameFutures.Chains.{agree_link, agree_next}
use Rattle.commuting_requests.specs.RequestSteps.{IsRequestStep}
use Rattle.commuting_requests.proofs.Leaving.{left_after, put_left, into, put_both}
use Rattle.commuting_requests.proofs.Swapping.{apart_of, one_processor, both_beside, both_beyond}
use Rattle.tag_memory.specs.Adds.{AreAlike, DoCommuteButForNumbers}
use Rattle.first_sets.specs.UnreadLoads.{IsUnreadBy}
use Rattle.first_sets.proofs.LoadedNumbers.{runs_of, AreLeftAlike, left_alike}

alike_back : (x y : Reply) → AreAlike x y → AreAlike y x
alike_back x y (inl same) = inl (sym same)
alike_back x y (inr (n, (k, (first, second)))) = inr (k, (n, (second, first)))

-- a stream that runs stands in its processor
within_of : (streams : List StreamValue) (n : ℕ) (s : StreamValue) → stream_at streams n ≡ s → s.status ≡ Running
    → n < length streams
within_of streams n s is runs = elim (cases_lt n (length streams)) [
  | inl within ↦ within
  | inr past ↦
      let none : Idle ≡ Running =
      ap (λ (x : StreamValue). x.status) (sym (get_or_past streams n idle past) ∙ is) ∙ runs in
      cc
]

module _ (image : ImageValue) (named : ℕ → Type 0) (live asked : ℕ → ℕ → Type 0) where
  abbrev Agree : World → World → Type 0
  Agree = WorldsAgree named live asked

  same_agree : (a b : World) → a ≡ b → Agree a b
  same_agree a b e = ([], sym e)

  -- Worlds in which the stream that stepped last was left by two replies.
  module _ (ps : List ProcessorValue) (p : ℕ) (proc other : ProcessorValue) (m : TaggedMemory) (n : ℕ) (s : StreamValue)
      (i : Insn) (x y : Option Reply) (there : slice_get ps p ≡ Some proc) (within : n < length other.streams)
      (alike : AreLeftAlike named live asked image s i x y) where
    abbrev c : StreamValue × Outcome
    c = left_after image s i x

    abbrev d : StreamValue × Outcome
    d = left_after image s i y

    abbrev from : ProcessorValue
    from = into image n s i x other

    abbrev to : ProcessorValue
    to = into image n s i y other

    abbrev put : StreamValue
    put = left_by (control_of s i) (d.0, c.1)

    put_is : put ≡ left_by (control_of s i) d
    put_is = ap (λ o. left_by (control_of s i) (d.0, o)) (sym alike.outcome)

    -- what the second one leaves, by the outcome of the first one
    to_is : to ≡ record from { streams = set other.streams n put }
    to_is = ap (put_left other n (control_of s i) d.0) alike.outcome

    abbrev world_with : ProcessorValue → World
    world_with q = record { processors = set ps p q; memory = m }

    left_over : Agree (world_with from) (world_with to)
    left_over = by alike.stream where
      by : (left_by (control_of s i) d ≡ left_by (control_of s i) c)
          ⊎ ((is_idle (left_by (control_of s i) c) ≡ false)
          × StreamsAgree named live asked (left_by (control_of s i) c) (left_by (control_of s i) d))
          → Agree (world_with from) (world_with to)
      by (inl same) =
          same_agree (world_with from) (world_with to)
          (ap world_with (sym (to_is ∙ (λ j. record from { streams = set other.streams n ((put_is ∙ same) j) }))))
      by (inr (awake, agrees)) =
          let stands : stream_at from.streams n ≡ left_by (control_of s i) c =
          get_or-set_same other.streams n (left_by (control_of s i) c) idle within in
          agree_link named live asked (world_with from) (world_with to)
          (record {
            p = p;
            k = n;
            from = from;
            to = to;
            there = there_same ps p proc from there;
            moved = record {
              within = omega (arith, within, length-set other.streams n (left_by (control_of s i) c));
              awake = ap is_idle stands ∙ awake;
              stream = put;
              agrees =
                  subst (λ z. StreamsAgree named live asked z put) (sym stands)
                  (subst (StreamsAgree named live asked (left_by (control_of s i) c)) (sym put_is) agrees);
              is =
                  to_is
                  ∙ (λ j. record from { streams = sym (set-set other.streams n (left_by (control_of s i) c) put) j });
            };
            is = λ j. record { processors = sym (set-set ps p from to) j; memory = m };
          })

  module _ (w : World) (t u : Step) (s x : StreamValue) (q r : Request) (f : IsRequestStep image w t s (Some q))
      (g : IsRequestStep image w u x (Some r)) (unread : IsUnreadBy image named live s)
      (unread_too : IsUnreadBy image named live x) (pair : DoCommuteButForNumbers w.memory q r) where
    abbrev i : Insn
    i = f.request.insn

    abbrev j : Insn
    j = g.request.insn

    abbrev first : Option Reply
    first = Some (answer w.memory q).1

    abbrev first_late : Option Reply
    first_late = Some (answer (answer w.memory r).0 q).1

    abbrev second : Option Reply
    second = Some (answer w.memory r).1

    abbrev second_late : Option Reply
    second_late = Some (answer (answer w.memory q).0 r).1

    abbrev whole : TaggedMemory
    whole = (answer (answer w.memory q).0 r).0

    within_first : t.s < length f.processor.streams
    within_first = within_of f.processor.streams t.s s f.is (runs_of image s i f.request.found)

    within_second : u.s < length g.processor.streams
    within_second = within_of g.processor.streams u.s x g.is (runs_of image x j g.request.found)

    first_alike : AreLeftAlike named live asked image s i first first_late
    first_alike =
        left_alike named live asked image s i q f.request.found f.request.asked f.request.none
        (unread i f.request.found) (answer w.memory q).1 (answer (answer w.memory r).0 q).1
        (alike_back (answer (answer w.memory r).0 q).1 (answer w.memory q).1 pair.first)

    second_alike : AreLeftAlike named live asked image x j second_late second
    second_alike =
        left_alike named live asked image x j r g.request.found g.request.asked g.request.none
        (unread_too j g.request.found) (answer (answer w.memory q).0 r).1 (answer w.memory r).1 pair.second

    -- Of one processor.
    module _ (same : u.p ≡ t.p) (two : u.s ≢ t.s) where
      abbrev proc : ProcessorValue
      proc = f.processor

      one : g.processor ≡ proc
      one = one_processor image w t u s x (Some q) (Some r) f g same two

      abbrev mine : Option Reply → ProcessorValue → ProcessorValue
      mine = into image t.s s i

      abbrev theirs : Option Reply → ProcessorValue → ProcessorValue
      theirs = into image u.s x j

      abbrev near_world : ProcessorValue → World
      near_world v = record { processors = set w.processors t.p v; memory = whole }

      -- the second stream by its reply before the first step, and not after it
      second_over : Agree (near_world (theirs second_late (mine first proc))) (near_world (theirs second (mine first proc)))
      second_over =
          left_over w.processors t.p proc (mine first proc) whole u.s x j second_late second f.there
          (omega (
            arith,
            ap (λ (v : ProcessorValue). length v.streams) one,
            within_second,
            length-set proc.streams t.s (left_by (control_of s i) (left_after image s i first)),
          ))
          second_alike

      first_over : Agree (near_world (mine first (theirs second proc))) (near_world (mine first_late (theirs second proc)))
      first_over =
          left_over w.processors t.p proc (theirs second proc) whole t.s s i first first_late f.there
          (omega (
            arith,
            within_first,
            length-set proc.streams u.s (left_by (control_of x j) (left_after image x j second)),
          ))
          first_alike

      turned : near_world (theirs second (mine first proc)) ≡ near_world (mine first (theirs second proc))
      turned =
          ap near_world
          (put_both proc t.s u.s (control_of s i) (control_of x j) (left_after image s i first).0 (left_after image x j second).0
          (left_after image s i first).1 (left_after image x j second).1 (λ e. two (sym e)))

      near_begin : after image (after image w t) u ≡ near_world (theirs second_late (mine first proc))
      near_begin = both_beside image w t u s x (Some q) (Some r) f g same two

      near_end : near_world (mine first_late (theirs second proc)) ≡ after image (after image w u) t
      near_end =
          (λ k. record {
            processors = set w.processors (sym same k) (mine first_late (theirs second (sym one k)));
            memory = pair.memory k;
          })
          ∙ sym (both_beside image w u t x s (Some r) (Some q) g f (sym same) (λ e. two (sym e)))

      near : Agree (after image (after image w t) u) (after image (after image w u) t)
      near =
          let a = near_world (theirs second_late (mine first proc)) in
          let b = near_world (theirs second (mine first proc)) in
          let c = near_world (mine first (theirs second proc)) in
          let d = near_world (mine first_late (theirs second proc)) in
          subst (λ v. Agree v (after image (after image w u) t)) (sym near_begin)
          (subst (Agree a) near_end
          (agree_next named live asked a b d second_over (subst (λ v. Agree v d) (sym turned) first_over)))

    -- Of two processors.
    module _ (far : u.p ≢ t.p) where
      abbrev mine_far : Option Reply → ProcessorValue
      mine_far v = into image t.s s i v f.processor

      abbrev theirs_far : Option Reply → ProcessorValue
      theirs_far v = into image u.s x j v g.processor

      abbrev ends_theirs : Option Reply → World
      ends_theirs v =
          record { processors = set (set w.processors t.p (mine_far first)) u.p (theirs_far v); memory = whole }

      abbrev ends_mine : Option Reply → World
      ends_mine v =
          record { processors = set (set w.processors u.p (theirs_far second)) t.p (mine_far v); memory = whole }

      far_second : Agree (ends_theirs second_late) (ends_theirs second)
      far_second =
          left_over (set w.processors t.p (mine_far first)) u.p g.processor g.processor whole u.s x j second_late second
          (there_other w.processors t.p u.p g.processor (mine_far first) far g.there) within_second second_alike

      far_first : Agree (ends_mine first) (ends_mine first_late)
      far_first =
          left_over (set w.processors u.p (theirs_far second)) t.p f.processor f.processor whole t.s s i first first_late
          (there_other w.processors u.p t.p f.processor (theirs_far second) (λ e. far (sym e)) f.there) within_first first_alike

      far_turned : ends_theirs second ≡ ends_mine first
      far_turned = λ k. record {
        processors = set_comm w.processors t.p u.p (mine_far first) (theirs_far second) (λ e. far (sym e)) k;
        memory = whole;
      }

      far_end : ends_mine first_late ≡ after image (after image w u) t
      far_end =
          (λ k. record {
            processors = set (set w.processors u.p (theirs_far second)) t.p (mine_far first_late);
            memory = pair.memory k;
          })
          ∙ sym (both_beyond image w u t x s (Some r) (Some q) g f (λ e. far (sym e)))

      beyond : Agree (after image (after image w t) u) (after image (after image w u) t)
      beyond =
          subst (λ v. Agree v (after image (after image w u) t))
          (sym (both_beyond image w t u s x (Some q) (Some r) f g far))
          (subst (Agree (ends_theirs second_late)) far_end
          (agree_next named live asked (ends_theirs second_late) (ends_theirs second) (ends_mine first_late) far_second
          (subst (λ v. Agree v (ends_mine first_late)) (sym far_turned) far_first)))

    in_both : ((u.p ≡ t.p) × (u.s ≢ t.s)) ⊎ (u.p ≢ t.p)
        → Agree (after image (after image w t) u) (after image (after image w u) t)
    in_both (inl (same, two)) = near same two
    in_both (inr far) = beyond far

  pub both_orders : (w : World) (t u : Step) (s x : StreamValue) (q r : Request)
      → IsRequestStep image w t s (Some q) → IsRequestStep image w u x (Some r) → u ≢ t
      → DoCommuteButForNumbers w.memory q r → IsUnreadBy image named live s → IsUnreadBy image named live x
      → Agree (after image (after image w t) u) (after image (after image w u) t)
  both_orders w t u s x q r f g apart pair unread unread_too =
      in_both w t u s x q r f g unread unread_too pair (apart_of t u apart)
