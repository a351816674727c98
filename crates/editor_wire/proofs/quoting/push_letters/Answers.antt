use Rattle.std.proofs.Common.{◌++◌, string_bytes, flat_map, sym, ap, ◌∙◌, map-id}
use Rattle.std.proofs.lemmas.Iterator.{YieldsList-from_chars}
use Rattle.std.proofs.lemmas.Iterator.Consumers.{YieldsList-end}
use Rattle.editor_wire.specs.JsonStrings.{string_char}
use Rattle.editor_wire.proofs.quoting.push_letters.Goals as goal

-- at the end those are all characters of the text
pub returns : goal.returns
returns c =
    let end = YieldsList-end (YieldsList-from_chars c.args.text.now c.utf8.text cc) c.loop-letter.yielded _
    c.loop-letter.yielded_by _ _ c.in-None.is c.next.ensures.steps in
    c.loop-letter.invariant
    ∙ ap (λ cs. string_bytes c.args.out.now ++ flat_map string_char cs) (sym (map-id c.loop-letter.yielded) ∙ end.0)
