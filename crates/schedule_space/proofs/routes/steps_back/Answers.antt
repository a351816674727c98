use Rattle.std.proofs.Common.{◌-◌, ◌≤◌, ◌<◌, arith, rules, length, get_or, []}
use Rattle.schedule_space.specs.declared.links.Link.{Link}
use Rattle.schedule_space.specs.Spaces.{schedules}
use Rattle.schedule_space.proofs.Reading.{read_more, read_all, same_link}
use Rattle.schedule_space.proofs.routes.steps_back.Goals as goal

pub returns-then-here-eq0 : goal.returns-then-here-eq0
returns-then-here-eq0 c =
    let r = c.args.route in
    read_all r.begin.now r.links.now c.loop-taken.here c.loop-taken.steps.items
    (get_or (schedules r.begin.now r.links.now) r.place []) c.loop-taken.invariant.read (omega arith)

pub loop-taken-preserved : goal.loop-taken-preserved
loop-taken-preserved c =
    let r = c.args.route in
    let here = c.loop-taken.here in
    let none : Link = record { from = 0; step = record { p = 0; s = 0 } } in
    let link = get_or r.links.now (here - 1) none in
    let below : here - 1 < length r.links.now = omega (arith, c.requires.there) in
    let earlier : link.from ≤ here - 1 = c.requires.earlier (here - 1) none below in
    record {
      read =
          read_more r.begin.now r.links.now here (here - 1) c.loop-taken.steps.items c.push.new.self.items
          (get_or (schedules r.begin.now r.links.now) r.place []) link c.loop-taken.invariant.read (omega arith) below
          (same_link r.links.now (here - 1) none link below) earlier (search rules);
      low = omega (arith, earlier);
    }

pub returns : goal.returns
returns c =
    let r = c.args.route in
    read_all r.begin.now r.links.now c.loop-taken.here c.loop-taken.steps.items
    (get_or (schedules r.begin.now r.links.now) r.place []) c.loop-taken.invariant.read (omega arith)
