use Rattle.std.proofs.Common.{◌||◌, sym, ap, ◌∙◌}
use Rattle.std.specs.List.{list_any}
use Rattle.replay_debugger.specs.StopFinders.{has_place, slot_breaks_at, breaks_at}
use Rattle.replay_debugger.proofs.Entries.{entry_breaks_at, entries_break, or_moves, or_none}
use Rattle.replay_debugger.proofs.breakpoints.Breakpoints.of.Goals as goal

pub loop-key-init : goal.loop-key-init
loop-key-init c =
    let all = c.into_iter-key-iterator.ensures.into_iter_gives ∙ c.iter-key-items.ensures.rest in
    record {
      can = tt;
      finite = tt;
      places = λ p pc.
          (λ i. has_place (c.new.ensures.empty i) p pc || list_any (entry_breaks_at p pc) (all i))
          ∙ entries_break p pc 0 c.points.inside.slots.slots
          ∙ ap (list_any (slot_breaks_at p pc)) c.points.view_is;
    }

pub loop-key-preserved : goal.loop-key-preserved
loop-key-preserved c = record {
  can = tt;
  finite = tt;
  places = λ p pc.
      ap (λ b. b || list_any (entry_breaks_at p pc) c.next.new.self) (c.in_ok-add.ensures p pc)
      ∙ or_moves (breaks_at p pc c.in-Some.point.now) (has_place c.loop-key.breakpoints p pc)
      (list_any (entry_breaks_at p pc) c.next.new.self)
      ∙ sym (ap (λ es. has_place c.loop-key.breakpoints p pc || list_any (entry_breaks_at p pc) es)
      c.in-Some.ensures.steps)
      ∙ c.loop-key.invariant.places p pc;
}

pub returns : goal.returns
returns c = λ p pc.
    sym (or_none (has_place c.loop-key.breakpoints p pc))
    ∙ sym (ap (λ es. has_place c.loop-key.breakpoints p pc || list_any (entry_breaks_at p pc) es)
    c.in-None.ensures.steps.0)
    ∙ c.loop-key.invariant.places p pc
