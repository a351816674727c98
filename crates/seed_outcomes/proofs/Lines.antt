-- Outcomes of one line, and runs that end as an outcome says.
use Rattle.std.proofs.Common.{ℕ, refl, sym, ◌∙◌, subst}
use Rattle.space_ends.specs.EndStates.EndStates.{AreSameStates}
use Rattle.space_ends.specs.EndStatesTypes.EndJudgement.{EndJudgement}
use Rattle.space_ends.specs.EndStatesTypes.EndState.{EndState}
use Rattle.seed_outcomes.specs.SeedRuns.{SurveyedProgram, IsSeedRun, EndsSo}
use Rattle.seed_outcomes.specs.Outcomes.{AreOfOneLine}
use Rattle.seed_outcomes.specs.declared.outcomes.SeedOutcome.{SeedOutcome}

pub same_sym : (s t : EndState) → AreSameStates s t → AreSameStates t s
same_sym s t a = record { stopped = sym a.stopped; waiting = sym a.waiting; changed = sym a.changed }

pub line_self : (o : SeedOutcome) → AreOfOneLine o o
line_self o = record { judgement = refl; state = record { stopped = refl; waiting = refl; changed = refl } }

pub line_sym : (o p : SeedOutcome) → AreOfOneLine o p → AreOfOneLine p o
line_sym o p a = record { judgement = sym a.judgement; state = same_sym o.state p.state a.state }

pub line_trans : (o p q : SeedOutcome) → AreOfOneLine o p → AreOfOneLine p q → AreOfOneLine o q
line_trans o p q a b = record {
  judgement = a.judgement ∙ b.judgement;
  state = record {
    stopped = a.state.stopped ∙ b.state.stopped;
    waiting = a.state.waiting ∙ b.state.waiting;
    changed = a.state.changed ∙ b.state.changed;
  };
}

run_of_state : (p : SurveyedProgram) (seed steps : ℕ) (j : EndJudgement) (s t : EndState) → AreSameStates t s
    → IsSeedRun p seed steps j s → IsSeedRun p seed steps j t
run_of_state p seed steps j s t same run = record {
  machine = run.machine;
  schedule = run.schedule;
  end = run.end;
  made = run.made;
  count = run.count;
  kind = run.kind;
  missed = run.missed;
  broken = run.broken;
  trapped = run.trapped;
  state = record {
    stopped = same.stopped ∙ run.state.stopped;
    waiting = same.waiting ∙ run.state.waiting;
    changed = same.changed ∙ run.state.changed;
  };
}

-- a run that ends as an outcome says ends as each of the same line says
pub ends_by_line : (p : SurveyedProgram) (old o : SeedOutcome) (seed : ℕ) → AreOfOneLine old o
    → EndsSo p o.judgement o.state seed → EndsSo p old.judgement old.state seed
ends_by_line p old o seed line ends = (
  ends.0,
  subst (λ j. IsSeedRun p seed ends.0 j old.state) (sym line.judgement)
      (run_of_state p seed ends.0 o.judgement o.state old.state line.state ends.1),
)
