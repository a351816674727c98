use Rattle.std.proofs.Common.{◌<◌, ◌≤◌, refl, ◌∙◌, length, arith, rules}
use Rattle.space_ends.specs.BrokenClaims.{value_of}
use Rattle.space_ends.specs.EndsOfSpace.{listed_of}
use Rattle.space_ends.specs.Loops.{looping_of}
use Rattle.space_ends.specs.Shown.{shown_of}
use Rattle.space_ends.proofs.Broken.{map-set_same, broken_more, all_broken}
use Rattle.space_ends.proofs.every_end.add_more.Goals as goal

pub loop-index-preserved : goal.loop-index-preserved
loop-index-preserved g c =
    record {
      values =
          map-set_same value_of c.loop-index.ends c.loop-index.index _ c.index-ends-index.result refl
          ∙ c.loop-index.invariant.values;
      listed =
          map-set_same listed_of c.loop-index.ends c.loop-index.index _ c.index-ends-index.result refl
          ∙ c.loop-index.invariant.listed;
      shown =
          map-set_same shown_of c.loop-index.ends c.loop-index.index _ c.index-ends-index.result refl
          ∙ c.loop-index.invariant.shown;
      looping =
          map-set_same looping_of c.loop-index.ends c.loop-index.index _ c.index-ends-index.result refl
          ∙ c.loop-index.invariant.looping;
      first_broken =
          let below : c.loop-index.index < length c.loop-index.ends = first_of (search rules, grind arith) in
          broken_more c.args.space.now c.args.claims.now c.loop-index.ends c.loop-index.index _ below
          c.loop-index.invariant.first_broken c.in_ok-end.ensures;
    }

pub returns-clause-first_broken : goal.returns-clause-first_broken
returns-clause-first_broken g c =
    let past : length c.loop-index.ends ≤ c.loop-index.index = first_of (search rules, grind arith) in
    all_broken c.args.space.now c.args.claims.now c.loop-index.ends c.loop-index.index past
    c.loop-index.invariant.first_broken
