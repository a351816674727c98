use Rattle.std.proofs.Common.{subst, sym, ◌<◌, length, arith}
use Rattle.processor.specs.declared.steps.Entry.{Entry}
use Rattle.shared_history.specs.SharedMemory.{SharedValue}
use Rattle.shared_history.proofs.Sharing.{replayed-more}
use Rattle.shared_history.proofs.shared_memory.SharedMemory.ask.Goals as goal

pub invariant_of-self : goal.invariant_of-self
invariant_of-self c =
    let m = c.self.inside in
    let Below : SharedValue → Type 0 = λ v. c.args.p < length v.image.entries in
    let below = subst Below (sym c.self.view_is) c.requires in
    let q = c.args.request.now in
    let e : Entry = record { p = c.args.p; s = c.args.s; request = q; reply = c.serve-reply.result } in (
      rw c.push_reserved.ensures.items (replayed-more m.image.now m.history.items m.memory c.serve-reply.new.self e
          c.self.invariant.0 below c.serve-reply.ensures),
      omega (
        arith,
        c.self.invariant.1,
        c.if-self-eq0.false,
        c.push_reserved.ensures.len,
        c.push_reserved.ensures.capacity,
      ),
    )
