use Rattle.std.proofs.Common.{arith, ap, length}
use Rattle.std.proofs.lemmas.Grind.{common_steps}
use Rattle.reachable_places.proofs.Searches.{first_begun, next_begun, none_begun, all_begun}
use Rattle.reachable_places.proofs.search.begun.Goals as goal
use Rattle.reachable_places.proofs.search.begun.Goals.{in-Some+in_ok-reach-2, in_default}

pub loop-processor-init : goal.loop-processor-init
loop-processor-init c =
    first_begun c.args.image.now (length c.program.result.now) c.in_ok-vec.field-0.items c.reach.new.self.places.items
    c.new.result.items c.reach.new.self.left.items c.trap_entry.result (ap length c.program.ensures.is)
    (grind (arith, common_steps)) (grind (arith, common_steps)) (grind (arith, common_steps))
    (grind (arith, common_steps)) (grind (arith, common_steps))

pub loop-processor-preserved : goal.loop-processor-preserved
loop-processor-preserved c = elim c.match-entry.branch [
  | in-Some+in_ok-reach-2 w ↦
      next_begun c.args.image.now c.loop-processor.search.places.items c.match-entry.search.places.items
      c.loop-processor.search.left.items c.match-entry.search.left.items c.loop-processor.processor w.in-Some.entry
      (grind (arith, common_steps)) (grind (arith, common_steps)) (grind (arith, common_steps)) c.loop-processor.invariant
  | in_default w ↦
      none_begun c.args.image.now c.match-entry.search.places.items c.match-entry.search.left.items c.loop-processor.processor
      (grind (arith, common_steps)) (grind (arith, common_steps))
]

pub returns-clause-begins : goal.returns-clause-begins
returns-clause-begins c =
    all_begun c.args.image.now c.loop-processor.search.places.items c.loop-processor.search.left.items
    c.loop-processor.processor (grind (arith, common_steps)) c.loop-processor.invariant
