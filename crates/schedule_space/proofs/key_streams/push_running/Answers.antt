use Rattle.std.proofs.Common.{◌≡◌, ◌+◌, ◌*◌, ◌⊎◌, inl, inr, refl, ◌++◌, ◌∷◌, [], ℕ, Some, sym, subst, arith, rules, List, slice_get}
use Rattle.std.specs.List.{Contains}
use Rattle.std.proofs.lemmas.Bool.{cases_lt}
use Rattle.std.proofs.lemmas.List.Elements.{Contains-append_left, Contains-push}
use Rattle.processor.specs.declared.steps.Step.{Step}
use Rattle.world_keys.specs.WorldKeys.{processor_numbers}
use Rattle.schedule_space.proofs.Different.{different_push, different_same}
use Rattle.schedule_space.proofs.KeyStreams.{running_mark, read_there, IsMarkedBefore, own_more, own_later, own_of, mark_new}
use Rattle.schedule_space.proofs.key_streams.push_running.Goals as goal
use Rattle.schedule_space.proofs.key_streams.push_running.Goals.{in-Some-running_by_mark+in_ok-push, in_default-running_by_mark}

pub returns-in_err-push-clause-others : goal.returns-in_err-push-clause-others
returns-in_err-push-clause-others c = λ t has.
    let same : c.push.new.self.items ≡ c.loop-mark.running.items = search rules in
    subst (λ (xs : List Step). Contains xs t) (sym same) (c.loop-mark.invariant.others t has)

pub returns-in_err-push-clause-own : goal.returns-in_err-push-clause-own
returns-in_err-push-clause-own c = λ t has.
    let same : c.push.new.self.items ≡ c.loop-mark.running.items = search rules in
    own_of c.args.running.now.items c.in-Some.marks.now c.args.p c.loop-mark.mark t
    (c.loop-mark.invariant.own t (subst (λ (xs : List Step). Contains xs t) same has))

pub loop-mark-preserved : goal.loop-mark-preserved
loop-mark-preserved c =
    let t = c.args.contents.now in
    let n = c.loop-mark.mark in
    let marks = c.in-Some.marks.now in
    let old = c.loop-mark.running.items in
    let new = c.match-running_by_mark.running.items in
    let others : (u : Step) → Contains old u → Contains new u =
    elim c.match-running_by_mark.branch [
      | in-Some-running_by_mark+in_ok-push w ↦ λ u has.
          let here : Step = record { p = c.args.p; s = w.in-Some-running_by_mark.s } in
          let pushed : new ≡ old ++ here ∷ [] = search rules in
          subst (λ (xs : List Step). Contains xs u) (sym pushed) (Contains-append_left old (here ∷ []) u has)
      | in_default-running_by_mark w ↦ λ u has.
          let same : new ≡ old = search rules in subst (λ (xs : List Step). Contains xs u) (sym same) has
    ] in
    let last : (s : ℕ) → c.running_by_mark.result ≡ Some s → Contains new (record { p = c.args.p; s = s }) =
    elim c.match-running_by_mark.branch [
      | in-Some-running_by_mark+in_ok-push w ↦ λ s is.
          let here : Step = record { p = c.args.p; s = w.in-Some-running_by_mark.s } in
          let pushed : new ≡ old ++ here ∷ [] = search rules in
          let same : w.in-Some-running_by_mark.s ≡ s = cc in
          subst (λ (xs : List Step). Contains xs (record { p = c.args.p; s = s })) (sym pushed)
          (subst (λ (j : ℕ). Contains (old ++ here ∷ []) (record { p = c.args.p; s = j })) same (Contains-push old here))
      | in_default-running_by_mark w ↦ λ s is. absurd cc
    ] in
    let own : (u : Step) → Contains new u → Contains c.args.running.now.items u ⊎ IsMarkedBefore marks c.args.p (n + 1) u =
    elim c.match-running_by_mark.branch [
      | in-Some-running_by_mark+in_ok-push w ↦ λ u has.
          let here : Step = record { p = c.args.p; s = w.in-Some-running_by_mark.s } in
          let pushed : new ≡ old ++ here ∷ [] = search rules in
          let of : slice_get marks (2 * n + 1) ≡ Some w.in-Some-running_by_mark.s = search rules in
          own_more c.args.running.now.items old new marks c.args.p n here u pushed refl of c.loop-mark.invariant.own has
      | in_default-running_by_mark w ↦ λ u has.
          let same : new ≡ old = search rules in
          own_later c.args.running.now.items marks c.args.p n u
          (c.loop-mark.invariant.own u (subst (λ (xs : List Step). Contains xs u) same has))
    ] in
    record {
      own = own;
      once = λ proc known at others all.
          let read =
          read_there t (processor_numbers t proc) c.args.content c.list.result c.in-Some.marks known.numbers at c.list.ensures
          c.in-Some.is in
          let before = c.loop-mark.invariant.once proc known at others all in
          elim c.match-running_by_mark.branch [
            | in-Some-running_by_mark+in_ok-push w ↦
                let here : Step = record { p = c.args.p; s = w.in-Some-running_by_mark.s } in
                let pushed : new ≡ old ++ here ∷ [] = search rules in
                let of : slice_get marks (2 * n + 1) ≡ Some w.in-Some-running_by_mark.s = search rules in
                different_same (old ++ here ∷ []) new pushed
                (different_push old here before
                (mark_new t proc c.args.running.now.items old marks c.args.p n here read refl of others c.loop-mark.invariant.own))
            | in_default-running_by_mark w ↦
                let same : new ≡ old = search rules in different_same old new same before
          ];
      each = λ proc known at s runs k below is.
          elim (cases_lt k n) [
            | inl less ↦ others (record { p = c.args.p; s = s }) (c.loop-mark.invariant.each proc known at s runs k less is)
            | inr past ↦
                let same : k ≡ n = omega (arith, past, below) in
                let read =
                read_there t (processor_numbers t proc) c.args.content c.list.result c.in-Some.marks known.numbers at c.list.ensures
                c.in-Some.is in
                last s
                (c.running_by_mark.ensures.runs proc known.held read s (subst (λ j. slice_get marks (2 * j + 1) ≡ Some s) same is) runs)
          ];
      others = λ u has. others u (c.loop-mark.invariant.others u has);
    }

pub returns-clause-each : goal.returns-clause-each
returns-clause-each c = λ proc known at s runs.
    let t = c.args.contents.now in
    let read =
    read_there t (processor_numbers t proc) c.args.content c.list.result c.in-Some.marks known.numbers at c.list.ensures
    c.in-Some.is in
    let mark = running_mark t proc c.in-Some.marks.now s read runs in
    c.loop-mark.invariant.each proc known at s runs mark.number
    (omega (arith, mark.within, c.saturating_sub-mark-end.ensures, c.loop-mark-test.false)) mark.is

pub returns-clause-own : goal.returns-clause-own
returns-clause-own c = λ t has.
    own_of c.args.running.now.items c.in-Some.marks.now c.args.p c.loop-mark.mark t (c.loop-mark.invariant.own t has)
