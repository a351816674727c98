use Rattle.std.proofs.Common.{◌≡◌, ◌+◌, ◌<◌, inl, inr, ℕ, refl, ap, subst, arith, get_or, length}
use Rattle.std.specs.List.{Contains}
use Rattle.std.proofs.lemmas.Bool.{cases_lt}
use Rattle.world_keys.specs.DeadRegisters.Clearing.{cleared}
use Rattle.world_keys.specs.WorldKeys.{processor_in}
use Rattle.schedule_space.proofs.KeyStreams.{runs_cleared, processor_known, place_by_key, as_many_entries}
use Rattle.schedule_space.proofs.key_streams.push_running_by.Goals as goal

pub loop-p-preserved : goal.loop-p-preserved
loop-p-preserved c = record {
  own = λ none t has.
      elim (c.in_ok-push_running.ensures.own t has) [
        | inl before ↦ let less = c.loop-p.invariant.own none t before in omega (arith, less)
        | inr same ↦ omega (arith, same)
      ];
  once = λ none live w known is.
      let image = c.args.image.now in
      let table = c.args.contents.now in
      let key = c.args.key.now in
      let n = c.loop-p.p in
      let there : n < length w.processors =
      omega (arith, as_many_entries image live table w known, c.processors-p-end.ensures.is, c.loop-p-test.true) in
      c.in_ok-push_running.ensures.once (processor_in (cleared live w) n) (processor_known image live table w n known there)
      (place_by_key image live table w key n (get_or key (n + 1) 0) known is there refl)
      (λ t has same. let less = c.loop-p.invariant.own none t has in absurd (omega (arith, less, same)))
      (c.loop-p.invariant.once none live w known is);
  each = λ live w known is t below runs.
      let image = c.args.image.now in
      let table = c.args.contents.now in
      let key = c.args.key.now in
      let n = c.loop-p.p in
      elim (cases_lt t.p n) [
        | inl less ↦ c.in_ok-push_running.ensures.others t (c.loop-p.invariant.each live w known is t less runs)
        | inr past ↦
            let same : n ≡ t.p = omega (arith, past, below) in
            let there = runs_cleared live w t runs in
            let has =
            c.in_ok-push_running.ensures.each (processor_in (cleared live w) t.p)
            (processor_known image live table w t.p known there.processor)
            (place_by_key image live table w key t.p (get_or key (n + 1) 0) known is there.processor
            (ap (λ j. get_or key (j + 1) 0) same))
            t.s there.runs in
            subst (λ (j : ℕ). Contains c.push_running.new.running.items (record { p = j; s = t.s })) same has
      ];
}

pub returns-clause-all : goal.returns-clause-all
returns-clause-all c = λ live w known is t runs.
    c.loop-p.invariant.each live w known is t
    (omega (
      arith,
      (runs_cleared live w t runs).processor,
      as_many_entries c.args.image.now live c.args.contents.now w known,
      c.processors-p-end.ensures.is,
      c.loop-p-test.false,
    ))
    runs
