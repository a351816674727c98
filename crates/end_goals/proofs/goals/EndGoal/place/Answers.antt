use Rattle.std.proofs.Common.{◌≡◌, ◌∙◌, refl, sym, subst, inl, inr}
use Rattle.std.specs.List.{position}
use Rattle.end_goals.specs.Goals.{is_goal, place_of_goal}
use Rattle.end_goals.specs.declared.goals.EndGoal.{EndGoal}
use Rattle.end_goals.specs.declared.goals.EndGoal.TheVariants.{Right, Wrong, Finished, Stopped, Deadlock, Waiting, Spinning, Looping, Broken}
use Rattle.end_goals.proofs.goals.EndGoal.place.Goals as goal

pub returns-in-Right : goal.returns-in-Right
returns-in-Right c =
    let ends = c.args.ends.now in
    let criteria = c.args.criteria in
    let by : (g : EndGoal) → position (λ e. is_goal g criteria ends e) ends ≡ place_of_goal g criteria ends
    → c.args.self ≡ g → c.first_place.result ≡ place_of_goal c.args.self criteria ends =
    λ g is same.
    c.first_place.ensures
    ∙ subst (λ (x : EndGoal). position (λ e. is_goal x criteria ends e) ends ≡ place_of_goal x criteria ends)
    (sym same) is in
    elim c.in-Right.is [
      | inl same ↦ by Right refl same
      | inr (inl same) ↦ by Wrong refl same
      | inr (inr (inl same)) ↦ by Finished refl same
      | inr (inr (inr (inl same))) ↦ by Stopped refl same
      | inr (inr (inr (inr (inl same)))) ↦ by Deadlock refl same
      | inr (inr (inr (inr (inr (inl same))))) ↦ by Waiting refl same
      | inr (inr (inr (inr (inr (inr (inl same)))))) ↦ by Spinning refl same
      | inr (inr (inr (inr (inr (inr (inr (inl same))))))) ↦ by Looping refl same
      | inr (inr (inr (inr (inr (inr (inr (inr same))))))) ↦ by Broken refl same
    ]
