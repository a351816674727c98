use Rattle.std.proofs.Common.{◌+◌, arith}
use Rattle.seed_verdicts.proofs.Chunks.{all_right, first_flaw_at}
use Rattle.seed_verdicts.proofs.first_flaws.first_flaw.Goals as goal

pub returns-in-Some-clause-judged : goal.returns-in-Some-clause-judged
returns-in-Some-clause-judged g c =
    let fair = c.in_ok-fair_length_of.field-0 in
    let seeds = c.args.seeds in
    let begin = c.loop-begin.begin in
    let first = rw c.deref.ensures.value at c.in-Some.ensures.first in
    record {
      fair = fair;
      is_fair = c.in_ok-fair_length_of.ensures.is;
      told =
          first_flaw_at c.args.image.now c.args.expected.now c.args.claims.now fair seeds begin (begin + c.min.result)
          c.in_ok-known.known.items c.in_ok-known.ensures.known c.loop-begin.invariant.right c.in-Some.place c.in-Some.flaw
          (omega arith) first.0 first.1;
    }

pub loop-begin-preserved : goal.loop-begin-preserved
loop-begin-preserved g c =
    let begin = c.loop-begin.begin in
    let none = rw c.deref.ensures.value at c.in_default.ensures.first in
    record {
      within = omega arith;
      some = omega arith;
      few = omega arith;
      right =
          all_right c.args.image.now c.args.expected.now c.args.claims.now c.in_ok-fair_length_of.field-0 c.args.seeds
          begin (begin + c.min.result) c.in_ok-known.known.items c.in_ok-known.ensures.known c.loop-begin.invariant.right
          none;
    }
