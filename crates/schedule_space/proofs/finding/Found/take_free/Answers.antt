use Rattle.std.proofs.Common.{sym, subst, rules, IsTrue}
use Rattle.machine.specs.MachineValue.{MachineValue}
use Rattle.agreeing_ends.specs.LocalSteps.SettledEndings.{AreSettled}
use Rattle.agreeing_ends.specs.LocalSteps.FreeSteps.{IsFreeStep}
use Rattle.schedule_space.specs.Spaces.{schedule_of, machine_after}
use Rattle.schedule_space.proofs.Alone.{quiet_at}
use Rattle.schedule_space.proofs.Placing.{lent_is}
use Rattle.schedule_space.proofs.finding.Found.take_free.Goals as goal

pub is_quiet_step-requires : goal.is_quiet_step-requires
is_quiet_step-requires g c =
    let v = c.args.self.now in
    let from = c.args.link.from in
    let at =
    lent_is c.here.result c.unwrap-here.result c.make_here.new.machines.here (machine_after v.image (schedule_of v from))
    c.here.ensures c.unwrap-here.ensures c.in_ok-make_here.ensures.made in
    let free : IsTrue c.is_free_step.result
    → IsFreeStep c.unwrap-here.result.now.image c.unwrap-here.result.now.world c.args.link.step =
    c.is_free_step.ensures.free
    (subst (λ (m : MachineValue). AreSettled m.image c.args.shortcuts.settled.now) (sym at) c.requires.settled) in
    search rules

pub returns-clause-alone : goal.returns-clause-alone
returns-clause-alone g c = λ later.
    let v = c.args.self.now in
    let from = c.args.link.from in
    let at =
    lent_is c.here.result c.unwrap-here.result c.make_here.new.machines.here (machine_after v.image (schedule_of v from))
    c.here.ensures c.unwrap-here.ensures c.in_ok-make_here.ensures.made in
    let free =
    c.is_free_step.ensures.free
    (subst (λ (m : MachineValue). AreSettled m.image c.args.shortcuts.settled.now) (sym at) c.requires.settled) (search rules) in
    quiet_at c.args.shortcuts.observation.places.now c.args.shortcuts.observation.words.now v c.take.new.self from c.in_ok-to.to c.unwrap-here.result.now c.args.link.step
    c.take.ensures.grown c.requires.expanding.there at free (search rules) c.in_ok-to.ensures.to (search rules)
