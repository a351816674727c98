-- Machines whose worlds can be told apart place by place.
use Rattle.std.specs.Prelude.{◌≡◌, length}
use Rattle.tag_memory.specs.Storage.{TaggedMemory}
use Rattle.image_file.specs.ImageValue.{ImageValue}
use Rattle.machine.specs.MachineValue.{MachineValue}

-- a memory of the image: as many words and the chain limit of the image
pub record IsMemoryOf (image : ImageValue) (m : TaggedMemory) : Type 0 where
  pub cells : length m.cells ≡ length image.cells
  pub chain : m.chain_limit ≡ image.chain_limit

-- machines of one image, each with a memory of it: what machines have that were loaded from it and took steps
pub record AreOfOneImage (one other : MachineValue) : Type 0 where
  pub image : other.image ≡ one.image
  pub memory : IsMemoryOf one.image one.world.memory
  pub other_memory : IsMemoryOf one.image other.world.memory
