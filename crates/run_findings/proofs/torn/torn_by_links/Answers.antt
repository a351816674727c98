use Rattle.std.proofs.Common.{◌≡◌, length, sym, ap, ◌∙◌, arith}
use Rattle.run_findings.specs.Found.{lists_to}
use Rattle.run_findings.specs.TornReads.{torn_in_glimpse, torn_at}
use Rattle.run_findings.proofs.TornReads.{torn-exact}
use Rattle.run_findings.proofs.Parted.{lists_begin}
use Rattle.run_findings.proofs.torn.torn_by_links.Goals as goal

pub returns-then-not-is_any_glimpse-clause-is : goal.returns-then-not-is_any_glimpse-clause-is
returns-then-not-is_any_glimpse-clause-is c =
    let ds = c.args.actions.now in
    c.new-found.ensures.items
    ∙ sym (lists_begin (torn_at ds) (length ds)
    (λ j below. ap (torn_in_glimpse ds) (c.is_any_glimpse.ensures c.if-not-is_any_glimpse.true j below)))

pub returns-then-not-is_any_glimpse-clause-exact : goal.returns-then-not-is_any_glimpse-clause-exact
returns-then-not-is_any_glimpse-clause-exact c =
    let ds = c.args.actions.now in
    torn-exact ds c.new-found.result.items
    (c.new-found.ensures.items
    ∙ sym (lists_begin (torn_at ds) (length ds)
    (λ j below. ap (torn_in_glimpse ds) (c.is_any_glimpse.ensures c.if-not-is_any_glimpse.true j below))))

pub returns-clause-exact : goal.returns-clause-exact
returns-clause-exact c =
    let all : c.loop-read.read ≡ length c.args.actions.now = omega arith in
    torn-exact c.args.actions.now c.loop-read.found.items
    (c.loop-read.invariant ∙ ap (lists_to (torn_at c.args.actions.now)) all)
