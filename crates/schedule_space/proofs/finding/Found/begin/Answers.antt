use Rattle.std.proofs.Common.{rules, arith, sym, ap, ◌∙◌, subst}
use Rattle.machine.specs.MachineValue.{MachineValue}
use Rattle.world_keys.specs.DeadRegisters.Clearing.{LiveValue}
use Rattle.schedule_space.specs.Spaces.{machine_after}
use Rattle.schedule_space.specs.Finding.{space_of, IsFound}
use Rattle.schedule_space.specs.StreamSteps.{AreAllLeft}
use Rattle.world_keys.specs.WorldKeys.{IsMemoryOf}
use Rattle.schedule_space.proofs.Memories.{memory_of_run}
use Rattle.schedule_space.proofs.StreamSteps.{all_none}
use Rattle.schedule_space.proofs.Keys.{found_begun}
use Rattle.schedule_space.proofs.finding.Found.begin.Goals as goal

pub world_key-requires : goal.world_key-requires
world_key-requires g c = (
  omega arith,
  subst (λ (m : MachineValue). IsMemoryOf m.image m.world.memory) (sym c.requires.machine)
      (memory_of_run c.args.first.now.image c.args.begin.now),
)

pub invariant_of-result : goal.invariant_of-result
invariant_of-result g c = record {
  found =
      subst (λ (l : LiveValue). IsFound (space_of c.image.result.now l c.in_ok-from_slice.field-0.items c.new.result.items c.new-2.result.items)
      c.push-2.new.self.items c.world_key.new.contents c.push.new.self) (sym c.live.view_is)
      (found_begun c.image.result.now c.args.live c.in_ok-from_slice.field-0.items c.new.result.items c.new-2.result.items
      c.fate_of-fate.result c.push-2.new.self.items c.world_key.new.contents c.push.new.self c.in_ok-key.key.items
      c.args.first.now c.image.ensures.is c.requires.live c.new.ensures.items c.new-2.ensures.items
      (c.requires.machine ∙ ap (machine_after c.args.first.now.image) (sym c.in_ok-from_slice.ensures.items)) c.fate_of-fate.ensures
      (search rules) c.in_ok-key.ensures.known c.in_ok-key.ensures.is (search rules));
  left =
      subst (λ (l : LiveValue). AreAllLeft c.image.result.now l c.world_key.new.contents c.new-3.result) (sym c.live.view_is)
      (all_none c.image.result.now c.args.live c.world_key.new.contents c.new-3.result c.new-3.ensures);
}
