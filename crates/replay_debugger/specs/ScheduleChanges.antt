-- A session whose schedule goes on otherwise from a position.
use Rattle.std.specs.Prelude.{ℕ, List, ◌++◌, take, min}
use Rattle.processor.specs.declared.steps.Step.{Step}
use Rattle.replay_debugger.specs.Sessions.{SessionValue}

-- the session with so many steps of its schedule and then these, at its position or, where that is behind them, at the
-- first of the new steps
abbrev pub with_steps_from : SessionValue → ℕ → List Step → SessionValue
with_steps_from s k ts = record s { schedule = take k s.schedule ++ ts; position = min s.position k }
