use Rattle.std.proofs.Common.{rules, ◌∙◌}
use Rattle.std.proofs.lemmas.List.{with_items_is, places}
use Rattle.replay_debugger.proofs.Meeting.{stop_changed, stop_unchanged, words_again}
use Rattle.replay_debugger.proofs.stop_finder.StopFinder.meet.Goals as goal

pub returns-then-changed-clause-stop : goal.returns-then-changed-clause-stop
returns-then-changed-clause-stop g c = λ points before looks.
    stop_changed before c.args.machine.now.world c.args.next points c.args.self.now
    c.deref_mut.result.now c.look_again-changed.result looks c.deref_mut.ensures.value
    c.look_again-changed.ensures.changed c.if-changed.true

pub returns-then-changed-clause-looks : goal.returns-then-changed-clause-looks
returns-then-changed-clause-looks g c = λ points m looks. record {
  breakpoints = looks.breakpoints;
  words =
      with_items_is c.args.self.now.words c.look_again-changed.new.words (search (rules, places))
      ∙ words_again m c.args.machine.now.world.memory points c.args.self.now c.deref_mut.result.now
      c.look_again-changed.new.words looks c.deref_mut.ensures.value c.look_again-changed.ensures.seen;
}

pub returns-else-changed-clause-stop : goal.returns-else-changed-clause-stop
returns-else-changed-clause-stop g c = λ points before looks.
    stop_unchanged before c.args.machine.now.world c.args.next points c.args.self.now
    c.deref_mut.result.now c.look_again-changed.result c.are_met.result looks c.deref_mut.ensures.value
    c.look_again-changed.ensures.changed c.if-changed.false c.are_met.ensures

pub returns-else-changed-clause-looks : goal.returns-else-changed-clause-looks
returns-else-changed-clause-looks g c = λ points m looks. record {
  breakpoints = looks.breakpoints;
  words =
      with_items_is c.args.self.now.words c.look_again-changed.new.words (search (rules, places))
      ∙ words_again m c.args.machine.now.world.memory points c.args.self.now c.deref_mut.result.now
      c.look_again-changed.new.words looks c.deref_mut.ensures.value c.look_again-changed.ensures.seen;
}
