use Rattle.std.specs.Prelude.{IsTrue, IfSome, None, List, map, not}
use Rattle.std.specs.List.{position}
use Rattle.std.proofs.Common.{◌≡◌, sym, ap, ◌∙◌, subst, inl, inr, is_some}
use Rattle.claims.specs.declared.claim.Claim.{Claim}
use Rattle.expectations.specs.declared.expectation.Expectation.{Expectation}
use Rattle.program_rules.specs.Keeping.{is_kept}
use Rattle.space_ends.specs.ScheduleVerdicts.RightSpaces.{IsRightOnEachWay}
use Rattle.space_ends.specs.ScheduleVerdicts.ShownClaims.{IsRightThroughout}
use Rattle.space_ends.specs.BrokenClaims.{value_of, HasBrokenEnds}
use Rattle.space_ends.specs.FirstBroken.{AreBrokenSo}
use Rattle.space_ends.specs.Loops.{busy_in, loop_of}
use Rattle.space_ends.specs.ScheduleSpace.Spaces.{count}
use Rattle.space_ends.specs.Shown.{AreShownSo}
use Rattle.space_ends.specs.EndsOfSpace.{ends_in, AreEndsOf}
use Rattle.endless_waits.specs.Waits.{HasExtent, why_not, why_not_in}
use Rattle.endless_waits.specs.declared.extents.SearchExtent.{SearchExtent}
use Rattle.program_searches.proofs.Knowing.{known, taken, tells, all_ends, all_if_never_busy, none_if, if_none, none_found}
use Rattle.program_searches.proofs.Listed.{one_listed, none_listed, either_way, if_not_found, if_none_listed}
use Rattle.endless_waits.specs.Kept.{why_not_kept}
use Rattle.program_searches.proofs.AllAreKept.{kept_of_program, all_kept}
use Rattle.program_searches.proofs.Waiting.{has_extent, so_of_program, nobody_said, nobody_waits}
use Rattle.program_searches.proofs.searches.explore_on.Goals as goal

pub returns : goal.returns
returns g c =
    let asked = c.args.asked.now in
    let required = asked.required.now in
    let expected = required.ends.items in
    let claims = required.claims.items in
    let alone = is_some required.never_busy in
    let v = c.in_ok-space.space in
    let b = c.in_ok-space.bound in
    let s = c.in_ok-space.ensures.searched in
    let image = c.in_ok-space.ensures.image in
    let begin = c.in_ok-space.ensures.begin in
    let none : IsTrue c.is_none-is_complete.result → b ≡ None = none_if b _ c.is_none-is_complete.ensures in
    let found = c.in_ok-are_right.ensures in
    let unless = c.unless_endless-is_right.ensures in
    let kept = c.in_ok-kept.kept in
    let waits = c.in_ok-waits.waits in
    let has =
    subst (λ (x : SearchExtent). HasExtent x v) (sym c.extent_by-extent.ensures)
    (has_extent asked v b s c.takes_all-is_of_all_worlds.result c.is_none-is_complete.result
    c.takes_all-is_of_all_worlds.ensures none) in
    let so = so_of_program c.args.image.now asked.begin.now required.rests.items v waits image begin (c.in_ok-waits.ensures.so has) in
    let conditions = kept_of_program c.args.image.now asked.begin.now required.rests.items v required.run_conditions.items kept image begin (c.in_ok-kept.ensures.so has) in
    let judged = c.judges-is_judged.ensures in
    let busy = c.in_ok-busy.ensures in
    let loops = busy_in c.in_ok-ends.ends.items in
    let listed = c.in_ok-ends.ensures.busy in
    record {
      image = image;
      begin = begin;
      all_worlds = c.takes_all-is_of_all_worlds.ensures;
      searched = s;
      bound = (if_none b _ c.is_none-is_complete.ensures, none);
      complete = λ on. all_ends asked v b s (none on);
      ends =
          subst (λ (es : List Expectation). AreEndsOf v es (ends_in c.in_ok-ends.ends.items)) c.ends.ensures
          c.in_ok-ends.ensures.ends;
      spinning = c.in_ok-ends.ensures.spinning;
      listed =
          subst (λ (es : List Expectation). AreShownSo v es c.in_ok-ends.ends.items) c.ends.ensures
          c.in_ok-ends.ensures.shown;
      unknown = c.in_ok-ends.ensures.unknown;
      broken =
          subst (λ (cs : List Claim). HasBrokenEnds v cs (map value_of c.in_ok-ends.ends.items)) c.claims.ensures
          c.in_ok-ends.ensures.broken;
      first_broken =
          subst (λ (cs : List Claim). AreBrokenSo v cs c.in_ok-ends.ends.items) c.claims.ensures
          c.in_ok-ends.ensures.first_broken;
      loops = record {
        first = λ some on.
            either_way c.in_ok-busy.busy listed (busy.first on some (s.worlds (none on) (all_if_never_busy asked some)))
            (λ b there first. one_listed v b.place b.stream b.steps loops (there first.there) first)
            (λ is first. none_listed v loops is first);
        never = λ some on.
            let worlds = s.worlds (none on) (all_if_never_busy asked some) in
            let known = busy.first on some worlds in
            let says = busy.asked on some worlds in (
              λ is.
                  says.0
                  (if_none_listed _ c.in_ok-busy.busy loops listed known
                  (λ b there first. (loop_of v b.place b.stream b.steps, there first.there)) is),
              λ is. if_not_found _ c.in_ok-busy.busy listed (says.1 is),
            );
        unasked = λ off. if_not_found _ c.in_ok-busy.busy listed (busy.unasked off);
        unknown = λ off. if_not_found _ c.in_ok-busy.busy listed (busy.unknown off);
      };
      rule = c.first_broken.ensures ∙ ap (position (λ r. not (is_kept c.args.image.now r))) c.rules.ensures;
      unshown = c.in_ok-unshown.ensures.unshown;
      shown = c.in_ok-unshown.ensures.shown;
      waits = record {
        required = c.in_ok-waits.ensures.asked;
        why =
            subst (λ (x : SearchExtent). IfSome waits (λ w. why_not_in w ≡ why_not x (count v))) c.extent_by-extent.ensures
            c.in_ok-waits.ensures.why;
        so = so;
        right = λ yes some.
            nobody_waits c.args.image.now asked.begin.now required.rests.items waits so
            (nobody_said required.never_starved waits some (unless.0 yes).1);
      };
      conditions = record {
        required = c.in_ok-kept.ensures.asked;
        why =
            subst (λ (x : SearchExtent). IfSome kept (λ l. why_not_kept l ≡ why_not x (count v))) c.extent_by-extent.ensures
            c.in_ok-kept.ensures.why;
        so = conditions;
        right = λ yes. all_kept c.args.image.now asked.begin.now required.rests.items required.run_conditions.items kept conditions (unless.0 yes).2;
      };
      right = (
        λ said.
            let yes = (unless.0 said).0 in
            let so = judged.0 (found.judged yes) in
            let right : IsRightOnEachWay v.image v.begin expected claims =
            elim (known asked v b s (none so.0)) [
              | inl all ↦ found.each_way yes all
              | inr needed ↦ found.shown yes needed.0 needed.1
            ] in
            let here : IsRightThroughout v.image v.begin expected claims alone =
            record {
              right = right;
              before = found.before yes;
              shown = c.in_ok-unshown.ensures.shown so.2;
              busy = λ some. (busy.asked so.0 some (s.worlds (none so.0) (all_if_never_busy asked some))).0 so.3;
            } in (
              so.0,
              so.1,
              subst (λ i. IsRightThroughout i asked.begin.now expected claims alone) image
                  (subst (λ ts. IsRightThroughout v.image ts expected claims alone) begin here),
              (unless.0 said).1,
              (unless.0 said).2,
            ),
        λ all.
            let right : IsRightThroughout v.image v.begin expected claims alone =
            subst (λ ts. IsRightThroughout v.image ts expected claims alone) (sym begin)
            (subst (λ i. IsRightThroughout i asked.begin.now expected claims alone) (sym image) all.2) in
            let no_claim = c.in_ok-unshown.ensures.only (tells asked v b s (none all.0)) right.shown in
            let no_stream =
            none_found required.never_busy c.in_ok-busy.busy busy.unasked
            (λ some. (busy.asked all.0 some (s.worlds (none all.0) (all_if_never_busy asked some))).1 (right.busy some)) in
            unless.1 (
              found.only (judged.1 (all.0, all.1, no_claim, no_stream)) (taken asked v b s (none all.0)) right,
              all.3,
              all.4,
            ),
      );
    }
