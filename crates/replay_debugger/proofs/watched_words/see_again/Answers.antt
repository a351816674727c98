use Rattle.std.proofs.Common.{◌<◌, length, arith}
use Rattle.replay_debugger.proofs.FindsAgain.{word_written}
use Rattle.replay_debugger.proofs.watched_words.see_again.Goals as goal

pub loop-place-preserved : goal.loop-place-preserved
loop-place-preserved g c =
    let old = c.args.words.now in
    let i = c.loop-place.place in
    let below : i < length old = omega (arith, c.loop-place-test.true, c.loop-place.auto.words) in
    record {
      words =
          word_written c.args.machine.now.world.memory old c.loop-place.words i c.index-words-place.result
          c.again.result below c.loop-place.invariant.words c.again.ensures;
    }
