use Rattle.std.proofs.Common.{◌≢◌, ◌/◌, ◌<◌, ℕ, get_or}
use Rattle.tag_memory.specs.Address.{address_of}
use Rattle.schedule_space.proofs.unseen.asks_for_one.Given as goal

abbrev pub invariant-loop-address : goal.invariant-loop-address
invariant-loop-address l =
    (k d : ℕ) → k < l.address-index → get_or l.words k d / 8 ≢ address_of l.request.pointer / 8
