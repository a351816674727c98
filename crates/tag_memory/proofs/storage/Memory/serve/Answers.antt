-- The first probe ends the chain, or forwards it.
use Rattle.std.proofs.Common.{◌∙◌, ap, sym}
use Rattle.tag_memory.specs.Answer.{at_end}
use Rattle.tag_memory.proofs.Ends.{trap_ends, reach_ends, cell_at-reached}
use Rattle.tag_memory.proofs.storage.Memory.serve.Goals as goal

pub serve_word-requires : goal.serve_word-requires
serve_word-requires c =
    cell_at-reached c.args.self.now c.args.request.now c.args.request.now.pointer c.in-Reach.word (sym c.in-Reach.ensures)

pub returns-in-Trap : goal.returns-in-Trap
returns-in-Trap c =
    let m = c.args.self.now in
    let q = c.args.request.now in
    ap (at_end m q) (trap_ends m q _ q.pointer _ _ c.in-Trap.ensures c.address.ensures)

pub returns-in-Reach : goal.returns-in-Reach
returns-in-Reach c =
    let m = c.args.self.now in
    let q = c.args.request.now in
    c.serve_word.ensures ∙ ap (at_end m q) (reach_ends m q _ q.pointer _ c.in-Reach.ensures)
