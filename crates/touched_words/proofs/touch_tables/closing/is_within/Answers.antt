use Rattle.std.proofs.Common.{Option, sym, subst}
use Rattle.touched_words.specs.declared.few.Few.{Few}
use Rattle.touched_words.specs.TouchTables.{IsKnownWithin}
use Rattle.touched_words.proofs.touch_tables.closing.is_within.Goals as goal

pub returns-in-Some : goal.returns-in-Some
returns-in-Some c =
    λ yes. subst (λ (o : Option Few). IsKnownWithin o c.args.all) (sym c.in-Some.is) (c.is_among.ensures yes)
