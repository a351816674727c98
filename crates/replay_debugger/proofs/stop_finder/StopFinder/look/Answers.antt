use Rattle.std.proofs.Common.{rules, ◌∙◌}
use Rattle.std.proofs.lemmas.List.{with_items_is, places}
use Rattle.replay_debugger.proofs.Meeting.{words_again}
use Rattle.replay_debugger.proofs.stop_finder.StopFinder.look.Goals as goal

pub returns : goal.returns
returns g c = λ points m looks. record {
  breakpoints = looks.breakpoints;
  words =
      with_items_is c.args.self.now.words c.look_again.new.words (search (rules, places))
      ∙ words_again m c.args.machine.now.world.memory points c.args.self.now c.deref_mut.result.now
      c.look_again.new.words looks c.deref_mut.ensures.value c.look_again.ensures.seen;
}
