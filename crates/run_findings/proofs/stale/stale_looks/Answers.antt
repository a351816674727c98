use Rattle.std.proofs.Common.{◌≡◌, ◌+◌, ◌<◌, [], length, sym, ap, ◌∙◌, subst, arith}
use Rattle.run_findings.specs.Found.{found_to}
use Rattle.run_findings.specs.TornReads.{torn_by_read}
use Rattle.run_findings.specs.Rounds.{is_stale_look}
use Rattle.run_findings.specs.Stale.{found_in, AreWithin, HasEarliestFirst}
use Rattle.run_findings.proofs.Parted.{none_by_read, found_begin, found_rest}
use Rattle.run_findings.proofs.Looks.{AreBelow, look_more, within_more, below_more, first_more}
use Rattle.run_findings.proofs.stale.stale_looks.Goals as goal

pub loop-read-init : goal.loop-read-init
loop-read-init c =
    let ds = c.args.actions.now in
    let g = c.args.glimpse.now in
    let none : c.new-looks.result.items ≡ [] = c.new-looks.ensures.items in
    record {
      within = λ n other below.
          let count : length c.new-looks.result.items ≡ 0 = ap length none in absurd (omega (arith, below, count));
      below = λ n other below.
          let count : length c.new-looks.result.items ≡ 0 = ap length none in absurd (omega (arith, below, count));
      first = λ n other below.
          let count : length c.new-looks.result.items ≡ 0 = ap length none in absurd (omega (arith, below, count));
      all = λ a k half.
          ap (found_in (torn_by_read ds g a k)) none
          ∙ sym (found_begin (torn_by_read ds g a k) c.start-start.result
          (λ i h. none_by_read ds g a k i (c.start-start.ensures.parted a i h)));
    }

pub loop-read-preserved : goal.loop-read-preserved
loop-read-preserved c =
    let ds = c.args.actions.now in
    let g = c.args.glimpse.now in
    let read = c.loop-read.read in
    let looks = c.loop-read.looks.items in
    let inside : read < length ds = omega arith in
    let more = sym c.in_ok-note_look.ensures in
    record {
      within = subst (AreWithin ds) more (within_more ds looks (is_stale_look ds g read) read inside c.loop-read.invariant.within);
      below = subst (λ ks. AreBelow ks (read + 1)) more
          (below_more looks (is_stale_look ds g read) read (read + 1) (omega arith) c.loop-read.invariant.below);
      first = subst HasEarliestFirst more
          (first_more looks (is_stale_look ds g read) read c.loop-read.invariant.below c.loop-read.invariant.first);
      all = λ a k half.
          ap (found_in (torn_by_read ds g a k)) c.in_ok-note_look.ensures
          ∙ look_more ds g a k read (read + 1) looks (omega arith) half (c.loop-read.invariant.all a k half);
    }

pub returns : goal.returns
returns c =
    let ds = c.args.actions.now in
    let g = c.args.glimpse.now in
    let end : c.loop-read.read ≡ c.end-end.result = omega arith in
    record {
      within = c.loop-read.invariant.within;
      first = c.loop-read.invariant.first;
      all = λ a k half.
          c.loop-read.invariant.all a k half
          ∙ ap (found_to (torn_by_read ds g a k)) end
          ∙ found_rest (torn_by_read ds g a k) c.end-end.result (length ds) c.end-end.ensures.within
          (λ i low high. none_by_read ds g a k i (c.end-end.ensures.parted a i low high));
    }
