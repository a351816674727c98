-- There is a word where the chain ends at one.
use Rattle.std.proofs.Common.{sym}
use Rattle.tag_memory.proofs.Ends.{cell_at-last}
use Rattle.tag_memory.proofs.storage.Memory.serve_forwarded.Goals as goal

pub serve_word-requires : goal.serve_word-requires
serve_word-requires c =
    let m = c.args.self.now in
    cell_at-last m c.args.request.now m.chain_limit c.args.first c.in-Last.last c.in-Last.word (sym c.in-Last.ensures)
