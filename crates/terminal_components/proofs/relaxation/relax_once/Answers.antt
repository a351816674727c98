use Rattle.std.proofs.Common.{◌≡◌, ◌+◌, ◌-◌, ◌<◌, arith, get_or, length}
use Rattle.terminal_components.specs.Ways.{link_at}
use Rattle.terminal_components.proofs.Values.{reached_more, kept_more, near_more, sum_less}
use Rattle.terminal_components.proofs.relaxation.relax_once.Goals as goal

pub loop-number-preserved-in-Some : goal.loop-number-preserved-in-Some
loop-number-preserved-in-Some c =
    let links = c.args.links.now in
    let cost = c.args.cost in
    let vs = c.loop-number.values in
    let i = c.loop-number.number - 1 in
    let l = link_at links i in
    let w = c.in-Some.value in
    let there : i < length links = omega arith in
    let from_in : l.from < length vs = c.in-Some.ensures.0 in
    let to_in : l.to < length vs = c.in-Some.ensures.1 in
    let is : w ≡ get_or vs l.to 0 + cost = c.in-Some.ensures.2 in
    let lower : w < get_or vs l.from 0 = c.in-Some.ensures.3 in
    let less = sum_less vs l.from w from_in lower in
    record {
      reached = λ start first.
          reached_more links cost start vs i w there from_in to_in is (c.loop-number.invariant.reached start first);
      kept = kept_more c.args.values.now vs l.from w from_in (omega (arith, lower)) c.loop-number.invariant.kept;
      near = λ small first.
          near_more vs l.from l.to w cost from_in to_in is lower c.in-Some.ensures.4 small
          (c.loop-number.invariant.near small first);
      no_more = omega (arith, less, c.loop-number.invariant.no_more);
      less = λ _. omega (arith, less, c.loop-number.invariant.no_more);
      low = λ none. absurd cc;
    }
