use Rattle.std.specs.Prelude.{All}
use Rattle.source_slips.specs.Codes.{AsksNoCode}
use Rattle.source_slips.specs.MostCodes.{MostMade}
use Rattle.source_slips.proofs.unmade.unmade_by.Given as goal

abbrev pub invariant-loop-place : goal.invariant-loop-place
invariant-loop-place l = record {
  codes : All (λ u. AsksNoCode l.image u.place) l.found.items;
  most : All (λ u. MostMade l.image u.place u.most) l.found.items;
}
