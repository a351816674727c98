-- The element is written by a mask and a shift.
use Rattle.std.proofs.Common.{◌∙◌, ap}
use Rattle.tag_memory.specs.Banks.{element_tags}
use Rattle.tag_memory.proofs.PackedTags.{packed, element_tags-packed_same, element_tags-packed_other}
use Rattle.tag_memory.proofs.packed_tags.with_element_tags.Goals as goal

pub returns-clause-here : goal.returns-clause-here
returns-clause-here c =
    ap (λ n. element_tags (packed c.args.element n c.args.i) c.args.i) c.from.ensures
    ∙ element_tags-packed_same c.args.element c.args.tags c.args.i c.requires.few c.requires.within

pub returns-clause-others : goal.returns-clause-others
returns-clause-others c = λ j within other.
    ap (λ n. element_tags (packed c.args.element n c.args.i) j) c.from.ensures
    ∙ element_tags-packed_other c.args.element c.args.tags c.args.i j c.requires.few c.requires.within within other
