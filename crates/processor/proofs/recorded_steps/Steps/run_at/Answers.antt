-- The search finds the run of the step.
use Rattle.std.proofs.Common.{◌≡◌, ℕ, ◌+◌, ◌<◌, sym, subst, arith, rules, Bool, true, false, leb, List}
use Rattle.std.specs.List.Sorted.{IsPartitionedBy, IsPartitionPoint}
use Rattle.std.proofs.lemmas.List.Sorted.{IsPartitionPoint-from_clause}
use Rattle.processor.specs.declared.recorded_steps.StreamRun.{StreamRun}
use Rattle.processor.specs.Records.{StepsValue}
use Rattle.processor.specs.StreamRuns.{AreStreamRuns, IsStreamRun, step_numbers}
use Rattle.processor.proofs.StreamRuns.{IsFound, ended_in_order, found, goes_on, run_over, run_going_on}
use Rattle.processor.proofs.recorded_steps.Steps.run_at.Goals as goal

-- whether a run is over by step i
abbrev is_over : ℕ → StreamRun → Bool
is_over i r = leb r.end i

order_of : (runs asked : List StreamRun) (before s count i : ℕ) → AreStreamRuns runs before s count → asked ≡ runs
    → IsPartitionedBy (is_over i) asked
order_of runs asked before s count i are same =
    subst (λ (rs : List StreamRun). IsPartitionedBy (is_over i) rs) (sym same) (ended_in_order runs 0 i are.ended)

-- what the search says of the runs
run_of : (runs asked : List StreamRun) (before s count i k : ℕ) (d : StreamRun) → AreStreamRuns runs before s count → i < before
    → asked ≡ runs → IsPartitionPoint (λ r. is_over i r ≡ true) (λ r. is_over i r ≡ false) asked k
    → IsFound runs s count 0 i k d
run_of runs asked before s count i k d are h same point =
    let moved = subst
    (λ (rs : List StreamRun). IsPartitionPoint (λ r. is_over i r ≡ true) (λ r. is_over i r ≡ false) rs k) same point in
    found runs s count 0 i k d are.ended are.apart (goes_on runs before s count i are h) (omega arith) (omega (arith, h, are.length)) moved.0 moved.1

pub index-run-requires : goal.index-run-requires
index-run-requires c =
    let s = c.self.inside in
    let d : StreamRun = record { stream = 0; end = 0 } in
    let are = c.self.invariant.0 in
    let same = c.deref.ensures.value in
    let order = order_of s.runs.items _ s.before s.stream s.count c.args.i are same in
    let clause = c.partition_point-over.ensures.partitioned in
    let point = IsPartitionPoint-from_clause (is_over c.args.i) _ _ clause order (λ a r q k. search rules) in
    let run = run_of s.runs.items _ s.before s.stream s.count c.args.i _ d are c.if-i-self.true same point in
    omega (arith, run.there, s.runs.ok.0)

pub returns-then-i-self-clause-run : goal.returns-then-i-self-clause-run
returns-then-i-self-clause-run c =
    let s = c.self.inside in
    let d = c.index-run.result.now in
    let are = c.self.invariant.0 in
    let same = c.deref.ensures.value in
    let order = order_of s.runs.items _ s.before s.stream s.count c.args.i are same in
    let clause = c.partition_point-over.ensures.partitioned in
    let point = IsPartitionPoint-from_clause (is_over c.args.i) _ _ clause order (λ a r q k. search rules) in
    let run = run_of s.runs.items _ s.before s.stream s.count c.args.i _ d are c.if-i-self.true same point in
    let here = run_over s.runs.items s.before s.stream s.count c.args.i _ d are c.if-i-self.true run in
    subst (λ (v : StepsValue). IsStreamRun v.numbers c.args.i d.stream d.end) c.self.view_is
    (subst (λ (r : StreamRun). IsStreamRun (step_numbers s.runs.items s.stream s.count) c.args.i r.stream r.end)
    (sym c.index-run.ensures) here)

pub returns-then-i-self-2-clause-run : goal.returns-then-i-self-2-clause-run
returns-then-i-self-2-clause-run c =
    let s = c.self.inside in
    subst (λ (v : StepsValue). IsStreamRun v.numbers c.args.i s.stream (s.before + s.count)) c.self.view_is
    (run_going_on s.runs.items s.before s.stream s.count c.args.i c.self.invariant.0 c.if-i-self.false (omega arith))
