-- Machines that have taken the steps of schedules of one image.
use Rattle.std.proofs.Common.{◌≡◌, ℕ, zero, suc, ◌<◌, ◌==◌, arith, true, false, ap, sym, ◌∙◌, List, length}
use Rattle.image_file.specs.ImageValue.{ImageValue}
use Rattle.processor.specs.World.{World, start, steps, run}
use Rattle.processor.specs.declared.steps.Step.{Step}
use Rattle.machine.specs.MachineValue.{MachineValue}
use Rattle.whole_runs.specs.Differences.{AreOfOneImage}
use Rattle.whole_runs.proofs.RunMemories.{memory_of_run}

-- the machine of the image is in the world after the steps
pub record IsAfter (image : ImageValue) (ts : List Step) (m : MachineValue) : Type 0 where
  pub image_is : m.image ≡ image
  pub world : m.world ≡ run image ts

-- a machine that was loaded and then took them
pub after_run : (image : ImageValue) (ts : List Step) (m n : MachineValue)
    → m ≡ record { image = image; world = start image } → n ≡ record m { world = steps m.image m.world ts }
    → IsAfter image ts n
after_run image ts m n loaded is = record {
  image_is = ap (λ (x : MachineValue). x.image) is ∙ ap (λ (x : MachineValue). x.image) loaded;
  world =
      ap (λ (x : MachineValue). x.world) is
      ∙ ap (λ (x : MachineValue). steps x.image x.world ts) loaded;
}

pub of_one_image : (image : ImageValue) (one other : List Step) (m n : MachineValue) → IsAfter image one m
    → IsAfter image other n → AreOfOneImage m n
of_one_image image one other m n at to = record {
  image = to.image_is ∙ sym at.image_is;
  memory =
      let memory = memory_of_run image one in
      record {
        cells = ap (λ (w : World). length w.memory.cells) at.world ∙ memory.cells
            ∙ ap (λ (i : ImageValue). length i.cells) (sym at.image_is);
        chain = ap (λ (w : World). w.memory.chain_limit) at.world ∙ memory.chain
            ∙ ap (λ (i : ImageValue). i.chain_limit) (sym at.image_is);
      };
  other_memory =
      let memory = memory_of_run image other in
      record {
        cells = ap (λ (w : World). length w.memory.cells) to.world ∙ memory.cells
            ∙ ap (λ (i : ImageValue). length i.cells) (sym at.image_is);
        chain = ap (λ (w : World). w.memory.chain_limit) to.world ∙ memory.chain
            ∙ ap (λ (i : ImageValue). i.chain_limit) (sym at.image_is);
      };
}

-- what is not 0 is more
pub more_than_none : (n : ℕ) → false ≡ (n == 0) → 0 < n
more_than_none zero is =
    let f : true ≡ false = sym is in
    let z : ⊥ = cc in absurd z
more_than_none (suc n) is = omega arith
