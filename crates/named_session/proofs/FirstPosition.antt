-- To the first position no step led, so none filled or emptied a word there.
use Rattle.std.proofs.Common.{◌≡◌, ℕ, Bool, true, false, refl, ap, ◌∙◌, arith, Option, Some, None}
use Rattle.tag_memory.specs.Cell.{Cell}
use Rattle.tag_memory.specs.Storage.{cell_at}
use Rattle.replay_debugger.specs.Sessions.{SessionValue, world_at}
use Rattle.replay_debugger.specs.Stops.{NoneBelow}
use Rattle.named_session.specs.WordTurns.{bits_differ, is_turned, turns_word}

same_bit : (b : Bool) → bits_differ b b ≡ false
same_bit true = refl
same_bit false = refl

not_turned : (c : Option Cell) → is_turned c c ≡ false
not_turned None = refl
not_turned (Some c) = same_bit c.full

pub none_at_first : (s : SessionValue) (a : ℕ) → NoneBelow (turns_word s a) 1
none_at_first s a j below =
    let first : j ≡ 0 = omega (arith, below) in
    ap (turns_word s a) first ∙ not_turned (cell_at (world_at s.image s.schedule 0).memory a)
