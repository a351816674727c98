use Rattle.std.proofs.Common.{subst, List}
use Rattle.expectations.specs.declared.expectation.Expectation.{Expectation}
use Rattle.space_ends.specs.ScheduleSpace.Answers.{space_in}
use Rattle.space_ends.specs.ScheduleVerdicts.NamedRegisters.{AreNamed}
use Rattle.space_ends.specs.ScheduleVerdicts.RightSpaces.{IsFollowedForClaims}
use Rattle.program_searches.proofs.Knowing.{of_ends, shown_by, names_known}
use Rattle.program_searches.proofs.spaces.needed_worlds.Goals as goal

pub returns-in-Ok-clause-searched : goal.returns-in-Ok-clause-searched
returns-in-Ok-clause-searched g c =
    let v = space_in c.in-Ok.exploration in
    of_ends c.args.asked.now c.most_worlds-most.result c.in-Ok.exploration c.ended_by.result.0 c.ended_by.result.1
    c.ended_by.ensures.space c.ended_by.ensures.bound c.most_worlds-most.ensures.is c.in-Ok.ensures.within
    c.in-Ok.ensures.full c.requires
    (λ on. record {
      ends = c.in-Ok.ensures.ends on;
      shortest = c.in-Ok.ensures.shortest on;
      tells = c.in-Ok.ensures.tells on;
      followed = c.in-Ok.ensures.followed on;
      named =
          subst (λ (es : List Expectation). AreNamed es v.live.names) c.ends.ensures
          (names_known c.ends.result.now c.named_registers-names.result v.live.names c.in-Ok.ensures.names
          c.named_registers-names.ensures);
      claimed =
          subst (IsFollowedForClaims v) c.claims-claims.ensures
          (shown_by v c.claims-claims.result.now c.in_ok-places.places.items c.deref.result.now c.in_ok-words.words.items
          c.deref-2.result.now c.deref.ensures.value c.deref-2.ensures.value c.in_ok-places.ensures c.in_ok-words.ensures (c.in-Ok.ensures.quiet on));
    })
