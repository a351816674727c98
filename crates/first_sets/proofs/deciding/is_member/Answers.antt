use Rattle.std.proofs.Common.{Bool, subst}
use Rattle.first_sets.specs.ApartSets.{KeepsOff}
use Rattle.first_sets.proofs.deciding.is_member.Goals as goal

pub returns-in-Some : goal.returns-in-Some
returns-in-Some g c =
    λ yes.
    let made = c.in-Some.ensures in
    record {
      stream = made.0;
      request = c.in-Some.request;
      makes = made.1;
      apart = λ u none.
          subst (λ (quiet : Bool). KeepsOff c.args.tables.now c.args.machine.now.world u quiet c.in-Some.request)
          (c.is_quiet_add-is_quiet.ensures made.0 made.1) (c.are_kept_off.ensures yes u none);
    }
