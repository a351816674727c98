-- Who waits for what.
use Rattle.std.specs.Prelude.{◌≡◌, ◌↔◌, ◌⊎◌, IsTrue, List, [], ◌∷◌, map, MatchOption}
use Rattle.std.specs.List.{All}
use Rattle.processor.specs.declared.steps.Step.{Step}
use Rattle.machine.specs.MachineValue.{MachineValue}
use Rattle.waiting.specs.Running.{running_steps}
use Rattle.waiting.specs.Stuck.{IsStuck}
use Rattle.waiting.specs.Waits.{IsWaitOf, IsAskedInVain}
use Rattle.step_views.specs.Places.{used_stream}
use Rattle.step_views.specs.StepViews.{pc_of}
use Rattle.step_views.specs.declared.step_views.StepView.{StepView}
use Rattle.stream_waits.specs.Tries.{IsSince}
use Rattle.stream_waits.specs.Turns.{NoneTurns, IsLastTurn}
use Rattle.stream_waits.specs.declared.waits.StreamWait.{StreamWait}

-- What is told of a stream that waits, in the world of a machine that these steps led to: where it stands, the word
-- that it waits for, its first try, the last step that turned the word, and whether it is stuck.
pub record IsStreamWait (m : MachineValue) (views : List StepView) (t : Step) (w : StreamWait) : Type 0 where
  pub stream : w.stream ≡ t
  pub pc : w.pc ≡ pc_of (used_stream m.world t.p t.s)
  pub waits : IsWaitOf m t w.wait
  pub since : IsSince views t w.since
  pub turn : MatchOption w.turn (NoneTurns views w.wait.address) (IsLastTurn views w.wait.address)
  pub stuck : IsTrue w.is_stuck ↔ IsStuck m.image m.world t

-- those of a list of which something holds, in their order
abbrev pub AreSelected : (Step → Type 0) → List Step → List Step → Type 0
AreSelected P [] ys = ys ≡ []
AreSelected P (x ∷ xs) ys =
    ((¬ (P x)) × AreSelected P xs ys) ⊎ (P x × ((rest : List Step) × (ys ≡ x ∷ rest) × AreSelected P xs rest))

-- Of these streams those whose next step asks the memory and would be blocked, in their order, and what is told of each.
pub record AreWaitsOf (m : MachineValue) (views : List StepView) (streams : List Step) (ws : List StreamWait) :
    Type 0 where
  pub selected : AreSelected (IsAskedInVain m) streams (map (λ (w : StreamWait). w.stream) ws)
  pub each : All (λ (w : StreamWait). IsStreamWait m views w.stream w) ws

-- the same of all streams that run, in the order of processor and stream
abbrev pub AreStreamWaits : MachineValue → List StepView → List StreamWait → Type 0
AreStreamWaits m views ws = AreWaitsOf m views (running_steps m.world) ws
