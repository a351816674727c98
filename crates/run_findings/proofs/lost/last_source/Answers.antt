use Rattle.std.proofs.Common.{◌<◌, length, sym, ◌∙◌, arith}
use Rattle.std.proofs.lemmas.Option.{slice_get-get_or}
use Rattle.run_findings.proofs.Needed.{none_needed}
use Rattle.run_findings.proofs.SourceSteps.{first_walk, no_walk, end_walk, found_walk, next_walk}
use Rattle.run_findings.proofs.lost.last_source.Goals.{else-own-end-via-then-own-end+else-is_needed_read, else-own-end-via-else-own-end}
use Rattle.run_findings.proofs.lost.last_source.Goals as goal

pub loop-own-init : goal.loop-own-init
loop-own-init c =
    first_walk c.args.actions.now c.args.stored c.args.action.now c.args.word c.args.end _ _ c.requires.end_in
    c.requires.stands c.marks_before.ensures c.needed_to_store-needed.ensures

pub returns-then-not-are_any : goal.returns-then-not-are_any
returns-then-not-are_any c =
    no_walk c.args.actions.now c.args.stored c.args.action.now c.args.word c.args.end c.loop-own.step c.loop-own.needed
    c.loop-own.invariant (λ marks. none_needed marks c.loop-own.needed (sym c.are_any.ensures ∙ c.if-not-are_any.true))

pub returns-then-is_needed_read : goal.returns-then-is_needed_read
returns-then-is_needed_read c =
    let ds = c.args.actions.now in
    let p = c.in-Some.own in
    let below : p < c.loop-own.step = c.in-Some.ensures.below in
    let low = c.loop-own.invariant.within in
    let inside : p < length ds = omega arith in
    found_walk ds c.args.stored c.args.action.now c.args.word c.args.end c.loop-own.step p _ c.loop-own.needed
    c.requires.stored_in c.loop-own.invariant (sym c.own_before.ensures.is ∙ c.in-Some.is)
    (slice_get-get_or ds p _ inside) c.if-own-end.true (sym c.is_needed_read.ensures ∙ c.if-is_needed_read.true)

pub loop-own-preserved : goal.loop-own-preserved
loop-own-preserved c =
    let ds = c.args.actions.now in
    let p = c.in-Some.own in
    let below : p < c.loop-own.step = c.in-Some.ensures.below in
    let low = c.loop-own.invariant.within in
    let inside : p < length ds = omega arith in
    let stands = slice_get-get_or ds p _ inside in
    let own = sym c.own_before.ensures.is ∙ c.in-Some.is in
    next_walk ds c.args.stored c.args.action.now c.args.word c.args.end c.loop-own.step p _ _ c.loop-own.needed _
    c.requires.stored_in c.loop-own.invariant own stands c.marks_before-in-Some.ensures
    c.needed_before-needed.ensures (elim c.else-own-end.branch [
      | else-own-end-via-then-own-end+else-is_needed_read w ↦ (λ below_end. sym w.is_needed_read.ensures ∙ w.if-is_needed_read.false)
      | else-own-end-via-else-own-end w ↦ (λ below_end. absurd (omega (arith, below_end, w.if-own-end.false)))
    ])

pub returns : goal.returns
returns c =
    end_walk c.args.actions.now c.args.stored c.args.action.now c.args.word c.args.end c.loop-own.step c.loop-own.needed
    c.loop-own.invariant (sym c.own_before.ensures.is ∙ c.in_default.is)
