-- Whether two images are the same, by computing.
use Rattle.std.specs.Prelude.{Bool, true, false, ◌&&◌, ◌==◌}
use Rattle.insn_word.specs.declared.profiles.Profile.{Profile}
use Rattle.insn_word.specs.declared.profiles.Profile.TheVariants.{One, Two}
use Rattle.tag_memory.specs.Cell.{Cell, tag_number}
use Rattle.image_file.specs.ImageValue.{ImageValue}
use lib.Pointwise.{pointwise}

-- whether two words have the same value and tags
abbrev pub same_cell : Cell → Cell → Bool
same_cell c d = (c.value == d.value) && (tag_number c == tag_number d)

abbrev pub same_profile : Profile → Profile → Bool
same_profile One One = true
same_profile One Two = false
same_profile Two One = false
same_profile Two Two = true

abbrev pub same_image : ImageValue → ImageValue → Bool
same_image a b =
    same_profile a.profile b.profile
    && (pointwise ◌==◌ a.entries b.entries
    && ((a.slim == b.slim)
    && ((a.chain_limit == b.chain_limit)
    && ((a.retry_limit == b.retry_limit)
    && ((a.trap_entry == b.trap_entry)
    && (pointwise ◌==◌ a.program b.program && pointwise same_cell a.cells b.cells))))))
