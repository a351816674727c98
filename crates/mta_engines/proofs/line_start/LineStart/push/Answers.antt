use Rattle.std.proofs.Common.{◌∷◌, ◌++◌, [], sym, ◌∙◌, arith, length-append}
use Rattle.std.proofs.lemmas.List.{take_all, take_at}
use Rattle.mta_engines.proofs.line_start.LineStart.push.Goals as goal

pub returns-then-len-lt-MOST_KEPT : goal.returns-then-len-lt-MOST_KEPT
returns-then-len-lt-MOST_KEPT c =
    let longer = c.args.self.now.bytes.items ++ c.args.byte ∷ [] in
    c.push_reserved.ensures.items
    ∙ sym (take_all 257 longer (omega (arith, length-append c.args.self.now.bytes.items (c.args.byte ∷ []))))

pub returns-else-len-lt-MOST_KEPT : goal.returns-else-len-lt-MOST_KEPT
returns-else-len-lt-MOST_KEPT c =
    sym (take_at c.args.self.now.bytes.items (c.args.byte ∷ []) 257 (omega arith))
