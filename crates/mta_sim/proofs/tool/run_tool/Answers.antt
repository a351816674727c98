use Rattle.std.proofs.Common.{◌≡◌, ◌∙◌, sym, Result, Ok, Err, OnOk, MatchResult, Some}
use Rattle.command_line.specs.CommandLine.{CommandValue, debug_image, run_threads, value_of_command}
use Rattle.mta_sim.specs.declared.status.ExitStatus.{ExitStatus}
use Rattle.mta_sim.specs.declared.status.ExitStatus.TheVariants.{Done, Fault}
use Rattle.mta_sim.proofs.tool.run_tool.Goals as goal

-- a command of status Done ended well
when_done : {A E P : Type 0} (r : Result A E) (s : ExitStatus) → MatchResult r (λ _. s ≡ Done) (λ _. s ≡ Fault) → s ≡ Done
    → OnOk r P → P
when_done (Ok x) s told done h = h
when_done (Err e) s told done h = absurd (let never : Fault ≡ Done = sym told ∙ done in cc)

same_value : (a b : CommandValue) → Some a ≡ Some b → a ≡ b
same_value a b e = cc

pub returns-in-Ok-clause-threads : goal.returns-in-Ok-clause-threads
returns-in-Ok-clause-threads g c = λ image schedule fuel line done.
    let is = same_value (value_of_command c.in-Ok.command) (run_threads image fuel schedule)
    (sym c.in-Ok.ensures.command ∙ line) in
    when_done c.run_command.result c.report.result c.report.ensures.status done
    (c.run_command.ensures.threads image schedule fuel is)

pub returns-in-Ok-clause-debug : goal.returns-in-Ok-clause-debug
returns-in-Ok-clause-debug g c = λ image schedule line done.
    let is = same_value (value_of_command c.in-Ok.command) (debug_image image schedule)
    (sym c.in-Ok.ensures.command ∙ line) in
    when_done c.run_command.result c.report.result c.report.ensures.status done
    (c.run_command.ensures.debug image schedule is)
