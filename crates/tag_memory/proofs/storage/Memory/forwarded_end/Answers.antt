-- Each probe moves the invariant on, or says the end.
use Rattle.std.proofs.Common.{◌≡◌, ℕ, zero, suc, ◌-◌, ◌+◌, ◌<◌, sym, ◌∙◌, ap, arith}
use Rattle.tag_memory.specs.Storage.{TaggedMemory}
use Rattle.tag_memory.specs.Chain.{probe, end_from}
use Rattle.tag_memory.specs.declared.requests.Request.{Request}
use Rattle.tag_memory.specs.declared.chain.Probe.TheVariants.{Forward}
use Rattle.tag_memory.proofs.Ends.{trap_ends, reach_ends, forward_goes, forward_stops}
use Rattle.tag_memory.proofs.storage.Memory.forwarded_end.Goals as goal

-- with a hop left, the chain has its end from the next pointer on
onward : (m : TaggedMemory) (q : Request) (limit hops first from next : ℕ) → hops < limit
    → (probe m q from ≡ Forward next) × (end_from m q (limit - hops) from ≡ end_from m q limit first)
    → end_from m q (limit - (hops + 1)) next ≡ end_from m q limit first
onward m q limit hops first from next room here =
    let left : suc (limit - (hops + 1)) ≡ limit - hops = omega arith in
    forward_goes m q _ from next (sym here.0) ∙ ap (λ n. end_from m q n from) left ∙ here.1

pub returns-in-Trap : goal.returns-in-Trap
returns-in-Trap c =
    let m = c.args.self.now in
    let q = c.args.request.now in
    trap_ends m q _ c.loop.pointer _ _ c.in-Trap.ensures c.address.ensures
    ∙ onward m q m.chain_limit c.loop.counter c.args.first c.loop.forwarding c.loop.pointer
    (omega (arith, c.chain_limit-end.ensures.is)) c.loop.invariant

pub returns-in-Reach : goal.returns-in-Reach
returns-in-Reach c =
    let m = c.args.self.now in
    let q = c.args.request.now in
    reach_ends m q _ c.loop.pointer _ c.in-Reach.ensures
    ∙ onward m q m.chain_limit c.loop.counter c.args.first c.loop.forwarding c.loop.pointer
    (omega (arith, c.chain_limit-end.ensures.is)) c.loop.invariant

pub loop-preserved : goal.loop-preserved
loop-preserved c =
    let m = c.args.self.now in
    let q = c.args.request.now in (
      sym c.in-Forward.ensures,
      onward m q m.chain_limit c.loop.counter c.args.first c.loop.forwarding c.loop.pointer
          (omega (arith, c.chain_limit-end.ensures.is)) c.loop.invariant,
    )

pub returns : goal.returns
returns c =
    let m = c.args.self.now in
    let q = c.args.request.now in
    let none_left : zero ≡ m.chain_limit - c.loop.counter = omega (arith, c.chain_limit-end.ensures.is) in
    forward_stops m q c.loop.forwarding _ c.loop.pointer (sym c.loop.invariant.0) c.address-2.ensures
    ∙ ap (λ n. end_from m q n c.loop.forwarding) none_left
    ∙ c.loop.invariant.1
