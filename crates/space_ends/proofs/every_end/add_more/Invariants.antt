-- What is known of the ends stays; those so far name the claim that is broken.
use Rattle.std.proofs.Common.{◌≡◌, map}
use Rattle.std.specs.List.{AllWithin}
use Rattle.space_ends.specs.BrokenClaims.{value_of}
use Rattle.space_ends.specs.EndsOfSpace.{listed_of}
use Rattle.space_ends.specs.FirstBroken.{IsBrokenSo}
use Rattle.space_ends.specs.Loops.{looping_of}
use Rattle.space_ends.specs.Shown.{shown_of}
use Rattle.space_ends.proofs.every_end.add_more.Given as goal

abbrev pub invariant-loop-index : goal.invariant-loop-index
invariant-loop-index g l =
    record {
      values : map value_of l.ends ≡ map value_of l.initial.ends;
      listed : map listed_of l.ends ≡ map listed_of l.initial.ends;
      shown : map shown_of l.ends ≡ map shown_of l.initial.ends;
      looping : map looping_of l.ends ≡ map looping_of l.initial.ends;
      first_broken : AllWithin (IsBrokenSo l.space l.claims) l.ends 0 l.index;
    }
