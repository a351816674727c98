-- General and target registers, as lists by number.
use Rattle.std.specs.Prelude.{ℕ, ◌==◌, List, if◌then◌else◌, slice_index_or, slice_set}
use Rattle.stream_core.specs.StatusWords.{status_at}
use Rattle.stream_core.specs.declared.status_words.StatusWord.{StatusWord}

-- what a register holds
abbrev pub register_at : List ℕ → ℕ → ℕ
register_at rs r = slice_index_or rs r 0

-- what is written to r0 is discarded
abbrev pub with_register : List ℕ → ℕ → ℕ → List ℕ
with_register rs r v = if r == 0 then rs else slice_set rs r v

-- what a target register holds
abbrev pub target_at : List StatusWord → ℕ → StatusWord
target_at ts t = slice_index_or ts t (status_at 0)

-- the target registers after one of them is written
abbrev pub with_target : List StatusWord → ℕ → StatusWord → List StatusWord
with_target ts t s = slice_set ts t s
