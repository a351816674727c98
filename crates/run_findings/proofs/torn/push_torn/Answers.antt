use Rattle.std.proofs.Common.{◌≡◌, ◌++◌, length, sym, ap, ◌∙◌, arith, append-nil, ⊎_elim}
use Rattle.std.proofs.lemmas.Bool.{cases_lt}
use Rattle.run_findings.specs.Found.{lists_to}
use Rattle.run_findings.specs.TornReads.{torn_by_write}
use Rattle.run_findings.proofs.Parted.{none_by_write, lists_begin, lists_rest}
use Rattle.run_findings.proofs.Looks.{empty_from, none_looked_at, none_before_looks}
use Rattle.run_findings.proofs.torn.push_torn.Goals as goal

pub loop-write-init : goal.loop-write-init
loop-write-init c =
    let ds = c.args.actions.now in
    let g = c.args.glimpse.now in
    let before = c.args.found.now.items in
    let latest = c.max.ensures in
    let start = c.min-start.ensures in
    sym (append-nil before)
    ∙ ap (λ x. before ++ x) (sym (lists_begin (torn_by_write ds g) c.min-start.result
    (λ k h. ⊎_elim
    (λ low. none_by_write ds g k (λ a. c.start-first.ensures.parted a k low))
    (λ high. none_before_looks ds g c.args.looks.now c.requires.looks k (omega (arith, h, high, latest, start)))
    (cases_lt k c.start-first.result))))

pub returns-then-is_empty : goal.returns-then-is_empty
returns-then-is_empty c =
    let ds = c.args.actions.now in
    let before = c.args.found.now.items in
    let g = c.args.glimpse.now in
    let none = empty_from c.args.looks.now (sym c.is_empty.ensures ∙ c.if-is_empty.true) in
    sym (append-nil before)
    ∙ ap (λ x. before ++ x) (sym (lists_begin (torn_by_write ds g) (length ds)
    (λ k h. none_looked_at ds g c.args.looks.now c.requires.looks none k)))

pub returns : goal.returns
returns c =
    let ds = c.args.actions.now in
    let g = c.args.glimpse.now in
    let before = c.args.found.now.items in
    let start = c.min-start.ensures in
    let all : c.loop-write.write ≡ c.end-end.result = omega (arith, start) in
    c.loop-write.invariant
    ∙ ap (λ n. before ++ lists_to (torn_by_write ds g) n) all
    ∙ ap (λ x. before ++ x) (lists_rest (torn_by_write ds g) c.end-end.result (length ds) c.end-end.ensures.within
    (λ k low high. none_by_write ds g k (λ a. c.end-end.ensures.parted a k low high)))
