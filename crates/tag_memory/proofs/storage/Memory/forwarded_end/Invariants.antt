-- At each turn the word at one pointer forwards the reference to the next, and from the one pointer, with the hops
-- that are left, the end is the chain's.
use Rattle.std.proofs.Common.{◌≡◌, ◌-◌}
use Rattle.tag_memory.specs.Chain.{probe, end_from}
use Rattle.tag_memory.specs.declared.chain.Probe.TheVariants.{Forward}
use Rattle.tag_memory.proofs.storage.Memory.forwarded_end.Given as goal

abbrev pub invariant-loop : goal.invariant-loop
invariant-loop l =
    (probe l.self l.request l.forwarding ≡ Forward l.pointer)
    × (end_from l.self l.request (l.self.chain_limit - l.counter) l.forwarding
    ≡ end_from l.self l.request l.self.chain_limit l.fn.first)
