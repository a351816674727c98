use Rattle.std.proofs.Common.{◌≡◌, ◌++◌, take, string_bytes}
use Rattle.std.specs.List.{flat_map}
use Rattle.schedule_turns.specs.LinkTurns.{next_link_turn}
use Rattle.schedule_turns.proofs.link_turns.push_others.Given as goal

abbrev pub invariant-loop-turn : goal.invariant-loop-turn
invariant-loop-turn l =
    string_bytes l.out ≡ string_bytes l.initial.out ++ flat_map next_link_turn (take l.turn-index l.turns)
