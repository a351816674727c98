use Rattle.std.proofs.Common.{◌+◌, sym, ◌∙◌, arith}
use Rattle.run_findings.specs.TornReads.{parts_at}
use Rattle.run_findings.proofs.Between.{none-between, one-between, fewer-between}
use Rattle.run_findings.proofs.parting.Pair.is_parted_between.Goals as goal

pub loop-place-init : goal.loop-place-init
loop-place-init c =
    let s = c.args.self.now in
    none-between (parts_at c.args.actions.now s.way s.stream s.one s.other c.args.first) c.args.first (c.args.first + 1)
    (omega arith)

pub returns-then-is_parted_by : goal.returns-then-is_parted_by
returns-then-is_parted_by c =
    let s = c.args.self.now in
    sym (one-between (parts_at c.args.actions.now s.way s.stream s.one s.other c.args.first) c.args.first
    c.loop-place.place c.args.last (omega arith) (omega arith) (sym c.is_parted_by.ensures ∙ c.if-is_parted_by.true))

pub returns : goal.returns
returns c =
    let s = c.args.self.now in
    sym (fewer-between (parts_at c.args.actions.now s.way s.stream s.one s.other c.args.first) c.args.first c.args.last
    c.loop-place.place (omega arith) c.loop-place.invariant)
