-- Runs of equal things, each as long as it can be.
use Rattle.std.specs.Prelude.{ℕ, ◌+◌, Bool, if◌then◌else◌, List, [], ◌∷◌, replicate, ◌≢◌, ⊤}
use Rattle.std.specs.List.{prefix_len}

-- a thing, so many times in a row
pub record Run (T : Type 0) : Type 0 where
  pub thing : T
  pub times : ℕ

-- a thing in front of runs: it joins the first one where that is of the same thing
abbrev pub before_runs : {T : Type 0} → (T → T → Bool) → T → List (Run T) → List (Run T)
before_runs same x [] = record { thing = x; times = 1 } ∷ []
before_runs same x (r ∷ rs) =
    if same r.thing x then record { thing = x; times = r.times + 1 } ∷ rs
    else record { thing = x; times = 1 } ∷ r ∷ rs

-- the runs of things, by a test of which are the same
unfoldable pub runs_of : {T : Type 0} → (T → T → Bool) → List T → List (Run T)
runs_of same [] = []
runs_of same (x ∷ xs) = before_runs same x (runs_of same xs)

-- how many things in front are this one
abbrev pub run_length : {T : Type 0} → (T → T → Bool) → T → List T → ℕ
run_length same x xs = prefix_len (λ y. same y x) xs

-- the things that a run stands for
abbrev pub run_things : {T : Type 0} → Run T → List T
run_things r = replicate r.times r.thing

-- no two runs that follow each other are of one thing
abbrev pub NeighboursDiffer : {T : Type 0} → List (Run T) → Type 0
NeighboursDiffer [] = ⊤
NeighboursDiffer (r ∷ []) = ⊤
NeighboursDiffer (r ∷ s ∷ rs) = (r.thing ≢ s.thing) × NeighboursDiffer (s ∷ rs)
