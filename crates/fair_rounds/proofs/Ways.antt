-- Places that no way leads out of, and ways to them.
use Rattle.std.proofs.Common.{◌≡◌, inl, inr, ℕ, refl, sym, subst, Bool, false, ◌&&◌, not, List, [], ◌∷◌, map, length, slice_index_or, Contains}
use Rattle.std.specs.List.{list_any}
use Rattle.std.proofs.lemmas.Bool.{cases_Bool}
use Rattle.fair_rounds.specs.declared.graphs.Edge.{Edge}
use Rattle.fair_rounds.specs.declared.graphs.Standing.{Standing}
use Rattle.fair_rounds.specs.declared.graphs.Answer.TheVariants.{Absent}
use Rattle.fair_rounds.specs.declared.lassos.LassoAnswer.{LassoAnswer}
use Rattle.fair_rounds.specs.declared.lassos.LassoAnswer.TheVariants as answer
use Rattle.fair_rounds.specs.declared.lassos.Tail.{Tail}
use Rattle.fair_rounds.specs.Rounds.{IsIn, IsWalk, IsRound, IsFairByWords, IsAnswer}
use Rattle.fair_rounds.specs.Classes.{AreMarksAt, place_of}
use Rattle.fair_rounds.specs.Lassos.{IsStop, IsTailAt, HasNoLasso, IsLassoAnswer, AreAmong, leads_out, IsClosed, IsShownWay}
use Rattle.fair_rounds.proofs.Lists.{apart, none_here, mapped, mapped_from}
use Rattle.fair_rounds.proofs.Bypassing.{inside_by}
use Rattle.fair_rounds.proofs.Removal.{below_of}

module _ (edges : List Edge) (set marks : List Bool) where
  pub closed_by : (begins : List Bool) → AreAmong marks set → AreAmong begins marks
      → list_any (leads_out set marks) edges ≡ false → IsClosed edges set begins marks
  closed_by begins within begun none = record {
    within = within;
    begun = begun;
    stays = λ e there inside from. elim (cases_Bool (slice_index_or marks e.to false)) [
      | inl marked ↦ marked
      | inr out ↦
          absurd (apart (leads_out set marks e) (none_here (leads_out set marks) edges e none there)
          (λ i. inside i && (from i && not (out i))))
    ];
  }

  -- a walk within the marks is one within the set
  pub walk_wider : (es : List Edge) (k j : ℕ) → AreAmong marks set → IsWalk edges marks k es j → IsWalk edges set k es j
  walk_wider [] k j among walk = walk
  walk_wider (e ∷ es) k j among walk = (
    record {
      there = walk.0.there;
      from_is = walk.0.from_is;
      from_in = among k walk.0.from_in;
      to_in = among e.to walk.0.to_in;
    },
    walk_wider es e.to j among walk.1,
  )

  pub round_wider : (es : List Edge) (k : ℕ) → AreAmong marks set → IsRound edges marks k es → IsRound edges set k es
  round_wider es k among around = record { walk = walk_wider es k k among around.walk; some = around.some }

  module _ (begins : List Bool) (closed : IsClosed edges set begins marks) where
    -- a walk within the set from a marked place stays within the marks
    pub walk_closed : (es : List Edge) (k j : ℕ) → IsIn marks k → IsWalk edges set k es j
        → IsIn marks j × IsWalk edges marks k es j
    walk_closed [] k j here walk = (subst (IsIn marks) walk here, walk)
    walk_closed (e ∷ es) k j here walk =
        let from : IsIn marks e.from = subst (IsIn marks) (sym walk.0.from_is) here in
        let to = closed.stays e walk.0.there (inside_by edges set e k walk.0) from in
        let rest = walk_closed es e.to j to walk.1 in (
          rest.0,
          (record { there = walk.0.there; from_is = walk.0.from_is; from_in = here; to_in = to }, rest.1),
        )

    round_closed : (es : List Edge) (k : ℕ) → IsIn marks k → IsRound edges set k es → IsRound edges marks k es
    round_closed es k here around = record { walk = (walk_closed es k k here around.walk).1; some = around.some }

    module _ (standings : List Standing) (stands : List Bool)
        (are : AreMarksAt (length set) (map place_of standings) stands) where
      -- where no standing is
      pub stop_at : (k : ℕ) → IsIn marks k → ¬ (IsIn stands k) → IsStop standings k
      stop_at k here none who runs =
          none (are.all k (subst (Contains (map place_of standings)) runs.2 (mapped place_of standings runs.0 runs.1))
          (below_of set k (closed.within k here)))

      no_stop : (k : ℕ) → IsIn stands k → ¬ (IsStop standings k)
      no_stop k there stop =
          let got = mapped_from place_of standings k (are.sound k there) in stop got.0.step (got.0, got.1, got.2, refl)

      -- where no marked place lacks one, and no round is fair
      pub absent_by : AreAmong marks stands → IsAnswer edges marks (λ round. IsFairByWords standings round) Absent
          → HasNoLasso edges standings set begins
      absent_by among none k way to begun walk =
          let inner = walk_closed way k to (closed.begun k begun) walk in (
            no_stop to (among to inner.0),
            λ round around fair. none to round (round_closed round to inner.0 around) fair,
          )

-- a way that is shown, with what follows there
pub shown_way : (edges : List Edge) (standings : List Standing) (set begins : List Bool) (k : ℕ) (t : Tail)
    → IsTailAt edges standings set k t → (a : LassoAnswer) → IsShownWay edges set begins k t a
    → IsLassoAnswer edges standings set begins a
shown_way edges standings set begins k t follows (answer.Found l) shown = record {
  begins_at = shown.0;
  walk = shown.1;
  follows =
      subst (λ (u : Tail). IsTailAt edges standings set l.place u) (sym shown.3)
      (subst (λ (n : ℕ). IsTailAt edges standings set n t) (sym shown.2) follows);
}
shown_way edges standings set begins k t follows answer.Absent never = absurd never
shown_way edges standings set begins k t follows answer.Undecided known = known
