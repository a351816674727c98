-- The worlds of two runs, position after position.
use Rattle.std.proofs.Common.{◌≡◌, ℕ, zero, suc, ◌+◌, ◌<◌, ◌≤◌, refl, sym, ap, ◌∙◌, subst, arith, ◌⊎◌, inl, inr}
use Rattle.std.proofs.Common.{List, [], ◌∷◌, ◌++◌, length, take, append-nil, slice_get}
use Rattle.std.specs.Option.{option_to_list}
use Rattle.std.proofs.lemmas.Bool.{cases_lt}
use Rattle.std.proofs.lemmas.List.{take_more, take_all}
use Rattle.std.proofs.lemmas.Option.{slice_get_past, slice_get-get_or}
use Rattle.image_file.specs.ImageValue.{ImageValue}
use Rattle.processor.specs.World.{World, start, steps, run}
use Rattle.processor.specs.declared.steps.Step.{Step}
use Rattle.processor.proofs.Histories.{steps-append}
use Rattle.machine.specs.MachineValue.{MachineValue}
use Rattle.whole_runs.specs.Differences.{AreOfOneImage}
use Rattle.whole_runs.specs.FirstDifferences.{world_at, AreAlike}
use Rattle.whole_runs.specs.SameWorlds.{machine_next}
use Rattle.whole_runs.proofs.RunMemories.{memory_of_run}

-- Schedules.

first_step : Step
first_step = record { p = 0; s = 0 }

-- the steps up to the next position
take_next : (ts : List Step) (k : ℕ) → take k ts ++ option_to_list (slice_get ts k) ≡ take (k + 1) ts
take_next ts k =
    elim (cases_lt k (length ts)) [
      | inl below ↦
          ap (λ o. take k ts ++ option_to_list o) (slice_get-get_or ts k first_step below)
          ∙ sym (take_more ts k first_step below)
      | inr past ↦
          ap (λ o. take k ts ++ option_to_list o) (slice_get_past ts k past)
          ∙ append-nil (take k ts)
          ∙ take_all k ts past
          ∙ sym (take_all (k + 1) ts (omega arith))
    ]

take_twice : (ts : List Step) (k n : ℕ) → k ≤ n → take k (take n ts) ≡ take k ts
take_twice ts zero n within = refl
take_twice [] (suc k) zero within = absurd (omega arith)
take_twice [] (suc k) (suc n) within = refl
take_twice (t ∷ ts) (suc k) zero within = absurd (omega arith)
take_twice (t ∷ ts) (suc k) (suc n) within = ap (λ xs. t ∷ xs) (take_twice ts k n (omega arith))

-- Machines at a position.

-- the machine of the image is in the world of the run at a position
pub record IsAt (image : ImageValue) (ts : List Step) (k : ℕ) (m : MachineValue) : Type 0 where
  pub image_is : m.image ≡ image
  pub world : m.world ≡ world_at image ts k

pub at_next : (image : ImageValue) (ts : List Step) (k : ℕ) (m n : MachineValue) → IsAt image ts k m
    → n ≡ machine_next m ts k → IsAt image ts (k + 1) n
at_next image ts k m n at is = record {
  image_is = ap (λ (x : MachineValue). x.image) is ∙ at.image_is;
  world =
      ap (λ (x : MachineValue). x.world) is
      ∙ (λ i. steps (at.image_is i) (at.world i) (option_to_list (slice_get ts k)))
      ∙ sym (steps-append image (start image) (take k ts) (option_to_list (slice_get ts k)))
      ∙ ap (run image) (take_next ts k);
}

pub of_one_image : (image : ImageValue) (one other : List Step) (k : ℕ) (m n : MachineValue) → IsAt image one k m
    → IsAt image other k n → AreOfOneImage m n
of_one_image image one other k m n at to = record {
  image = to.image_is ∙ sym at.image_is;
  memory =
      let memory = memory_of_run image (take k one) in
      record {
        cells = ap (λ (w : World). length w.memory.cells) at.world ∙ memory.cells
            ∙ ap (λ (i : ImageValue). length i.cells) (sym at.image_is);
        chain = ap (λ (w : World). w.memory.chain_limit) at.world ∙ memory.chain
            ∙ ap (λ (i : ImageValue). i.chain_limit) (sym at.image_is);
      };
  other_memory =
      let memory = memory_of_run image (take k other) in
      record {
        cells = ap (λ (w : World). length w.memory.cells) to.world ∙ memory.cells
            ∙ ap (λ (i : ImageValue). length i.cells) (sym at.image_is);
        chain = ap (λ (w : World). w.memory.chain_limit) to.world ∙ memory.chain
            ∙ ap (λ (i : ImageValue). i.chain_limit) (sym at.image_is);
      };
}

-- Alike up to a position.

abbrev pub AreAlikeTo : ImageValue → List Step → List Step → ℕ → Type 0
AreAlikeTo image one other n = (k : ℕ) → k ≤ n → world_at image one k ≡ world_at image other k

-- runs that begin with the same steps
pub alike_shared : (image : ImageValue) (one other : List Step) (n : ℕ) → take n one ≡ take n other
    → AreAlikeTo image one other n
alike_shared image one other n same k within =
    ap (run image) (sym (take_twice one k n within) ∙ ap (take k) same ∙ take_twice other k n within)

pub alike_next : (image : ImageValue) (one other : List Step) (n : ℕ) → AreAlikeTo image one other n
    → world_at image one (n + 1) ≡ world_at image other (n + 1) → AreAlikeTo image one other (n + 1)
alike_next image one other n alike next k within = by_case (cases_lt k (n + 1)) where
  by_case : (k < n + 1) ⊎ (n + 1 ≤ k) → world_at image one k ≡ world_at image other k
  by_case (inl less) = alike k (omega arith)
  by_case (inr most) =
      let here : n + 1 ≡ k = omega arith in
      subst (λ j. world_at image one j ≡ world_at image other j) here next

-- past both runs nothing changes
pub alike_end : (image : ImageValue) (one other : List Step) (n : ℕ) → length one ≤ n → length other ≤ n
    → AreAlikeTo image one other n → AreAlike image one other
alike_end image one other n first second alike k =
    elim (cases_lt n k) [
      | inr within ↦ alike k within
      | inl past ↦
          ap (run image) (take_all k one (omega arith) ∙ sym (take_all n one first))
          ∙ alike n (omega arith)
          ∙ ap (run image) (take_all n other second ∙ sym (take_all k other (omega arith)))
    ]
