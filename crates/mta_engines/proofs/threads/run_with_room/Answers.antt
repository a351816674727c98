use Rattle.std.proofs.Common.{◌∙◌, ap, arith, Err}
use Rattle.trace_text.specs.Runs.{schedule_text}
use Rattle.mta_engines.proofs.Ends.{shape}
use Rattle.mta_engines.proofs.Histories.{report_is}
use Rattle.mta_engines.proofs.Refusals.{told_of}
use Rattle.mta_engines.proofs.threads.run_with_room.Goals as goal

pub returns-in_err-woven-clause-fault : goal.returns-in_err-woven-clause-fault
returns-in_err-woven-clause-fault g c =
    let found = c.in_err-woven.field-0.0 in
    let told = c.in_err-woven.ensures in
    told_of c.from_residual.result found c.args.image.now c.args.fuel c.from_residual.ensures.1
    (λ is. let past = told.streams.0 (ap Err is) in let fits = c.requires.room in absurd (omega arith))
    (λ is. (told.too_long.0 (ap Err is)).1)
    (λ left fault is. told.gather left fault (ap Err is)) (λ both left p is. told.two both left p (ap Err is))

pub returns-clause-texts : goal.returns-clause-texts
returns-clause-texts g c =
    let w = c.in_ok-woven.woven in record {
      run_is = w;
      threaded = c.in_ok-woven.ensures.ok;
      schedule_is =
          c.in_ok-schedule.ensures ∙ ap schedule_text (c.deref-2.ensures.value ∙ c.into_schedule.ensures);
      text =
          report_is c.args.image.now w c.history.result.now c.deref.result.now _
          c.in_ok-woven.ensures.ok.image_is c.history.ensures.made
          (c.deref.ensures ∙ c.in_ok-world.ensures) c.in_ok-report.ensures;
    }

pub world_text_of_readers-requires : goal.world_text_of_readers-requires
world_text_of_readers-requires g c =
    shape g.row.S c.args.image.now c.in_ok-woven.woven c.in_ok-woven.ensures.ok.image_is c.requires.room
