use Rattle.std.proofs.Common.{◌≡◌, ◌∙◌, Some, false, length, refl, sym, subst, arith, slice_get}
use Rattle.std.proofs.lemmas.Option.{same_Some, slice_get_read, slice_get_within}
use Rattle.seed_outcomes.proofs.ScheduleVerdicts.Every.{below_more}
use Rattle.seed_outcomes.specs.SpaceEndsTypes.SpaceEnd.{SpaceEnd}
use Rattle.judgements.specs.Flaws.{shows}
use Rattle.judgements.proofs.end_flaws.found_of.Goals as goal

pub returns-then-is_of : goal.returns-then-is_of
returns-then-is_of c =
    let ends = c.args.ends.now in
    let end = c.index-ends-end.result in (
      refl,
      record {
        end = end;
        there = slice_get_read ends (length ends) c.loop-end.end end refl c.loop-end-test.true c.index-ends-end.is;
        is_shown = sym c.is_of.ensures ∙ c.if-is_of.true;
        before = λ k other below read. c.loop-end.invariant k below other read;
      },
    )

pub loop-end-preserved : goal.loop-end-preserved
loop-end-preserved c =
    let ends = c.args.ends.now in
    let end = c.index-ends-end.result in
    let there = slice_get_read ends (length ends) c.loop-end.end end refl c.loop-end-test.true c.index-ends-end.is in
    below_more (λ k. (e : SpaceEnd) → slice_get ends k ≡ Some e → shows c.args.flaw e ≡ false) c.loop-end.end
    c.loop-end.invariant
    (λ e read. subst (λ (x : SpaceEnd). shows c.args.flaw x ≡ false) (same_Some end e (sym there ∙ read))
    (sym c.is_of.ensures ∙ c.if-is_of.false))

pub returns : goal.returns
returns c = λ k e read.
    let within = slice_get_within c.args.ends.now k e read in
    c.loop-end.invariant k (omega (arith, within, c.loop-end-test.false)) e read
