-- A memory that keeps its history, as contracts see it.
use Rattle.std.specs.Prelude.{ℕ, ◌≡◌, ◌<◌, List, Some, slice_get, length}
use Rattle.tag_memory.specs.Storage.{TaggedMemory}
use Rattle.image_file.specs.ImageValue.{ImageValue}
use Rattle.processor.specs.Histories.{replay, IsLegal}
use Rattle.processor.specs.declared.steps.Entry.{Entry}

-- the image whose memory it was at first, what was asked of it, and for how many more entries it has room
pub record SharedValue : Type 0 where
  pub image : ImageValue
  pub history : List Entry
  pub spare : ℕ

-- each entry is of a processor of the image
abbrev pub HaveProcessors : ImageValue → List Entry → Type 0
HaveProcessors image es = (k : ℕ) (e : Entry) → slice_get es k ≡ Some e → e.p < length image.entries

-- What holds of the memory: it is what the history makes of the image's; each reply is the one that it gave; and each
-- entry is of a processor of the image.
pub record IsReplayed (image : ImageValue) (history : List Entry) (memory : TaggedMemory) : Type 0 where
  pub replays : memory ≡ replay image history
  pub legal : IsLegal image history
  pub processors : HaveProcessors image history

-- what holds of the history alone
abbrev pub IsKeptHistory : SharedValue → Type 0
IsKeptHistory m = IsReplayed m.image m.history (replay m.image m.history)
