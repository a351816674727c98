use Rattle.std.proofs.Common.{◌+◌, arith}
use Rattle.seed_work.proofs.Chunks.{all_meet, first_missed_at}
use Rattle.seed_work.proofs.first_missed.first_missed_by_seeds.Goals as goal

pub returns-in-Some-clause-judged : goal.returns-in-Some-clause-judged
returns-in-Some-clause-judged g c =
    let fair = c.in_ok-fair_length_of.field-0 in
    let begin = c.loop-begin.begin in
    let first = rw c.deref.ensures.value at c.in-Some.ensures.first in
    record {
      fair = fair;
      is_fair = c.in_ok-fair_length_of.ensures.is;
      known =
          first_missed_at c.args.image.now c.args.rules.now fair c.args.seeds begin (begin + c.min.result)
          c.in_ok-found.found.items c.in_ok-found.ensures.known c.loop-begin.invariant.meet c.in-Some.missed.0
          c.in-Some.missed.1 (omega arith) first.0 first.1;
    }

pub loop-begin-preserved : goal.loop-begin-preserved
loop-begin-preserved g c =
    let begin = c.loop-begin.begin in
    let none = rw c.deref.ensures.value at c.in_default.ensures.first in
    record {
      within = omega arith;
      some = omega arith;
      few = omega arith;
      meet =
          all_meet c.args.image.now c.args.rules.now c.in_ok-fair_length_of.field-0 c.args.seeds begin
          (begin + c.min.result) c.in_ok-found.found.items c.in_ok-found.ensures.known c.loop-begin.invariant.meet none;
    }
