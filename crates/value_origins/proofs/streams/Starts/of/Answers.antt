use Rattle.std.proofs.Common.{◌≡◌, ◌+◌, ◌<◌, arith, length, subst}
use Rattle.value_origins.specs.Tables.{AreStartsTo}
use Rattle.value_origins.proofs.Noted.{first_used, first_starts, used_more, starts_pushed, seen_as}
use Rattle.value_origins.proofs.streams.Starts.of.Goals as goal

pub loop-step-init : goal.loop-step-init
loop-step-init c = record {
  used = first_used c.args.actions.now c.in_ok-moved.moved.items c.in_ok-moved.ensures.count c.in_ok-moved.ensures.is;
  starts = first_starts c.args.actions.now c.new-streams.result.items c.new-streams.ensures.items;
}

pub note-requires-clause-started : goal.note-requires-clause-started
note-requires-clause-started c =
    seen_as c.args.actions.now c.loop-step.step _ c.deref.result.now c.loop-step.moved.items c.started_by-started.result
    c.deref.ensures.value c.started_by-started.ensures.is

pub loop-step-preserved : goal.loop-step-preserved
loop-step-preserved c =
    let ds = c.args.actions.now in
    let n = c.loop-step.step in
    let within : n < length ds = omega arith in
    record {
      used =
          used_more ds n (n + 1) _ c.loop-step.moved.items c.note.new.moved.items (omega arith) within
          c.loop-step.invariant.used c.note.ensures.count c.note.ensures.is;
      starts =
          starts_pushed ds n (n + 1) _ c.loop-step.moved.items c.loop-step.streams.items c.push.new.self.items
          c.started_by-started.result (omega arith) within c.started_by-started.ensures.named
          c.loop-step.invariant.used c.loop-step.invariant.starts
          (seen_as ds n _ c.deref.result.now c.loop-step.moved.items c.started_by-started.result c.deref.ensures.value
          c.started_by-started.ensures.is) c.in_ok-push.ensures.items;
    }

pub returns : goal.returns
returns c =
    let all : c.loop-step.step ≡ length c.args.actions.now = omega arith in
    subst (λ n. AreStartsTo c.args.actions.now n c.loop-step.streams.items) all c.loop-step.invariant.starts
