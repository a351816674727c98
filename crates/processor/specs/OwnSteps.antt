-- What a processor does by itself, given the memory's replies: its own steps.
use Rattle.std.specs.Prelude.{ℕ, ◌≡◌, ◌<◌, ◌+◌, List, [], ◌∷◌, Option, Some, None, length, take, slice_get}
use Rattle.tag_memory.specs.declared.requests.Request.{Request}
use Rattle.image_file.specs.ImageValue.{ImageValue}
use Rattle.processor.specs.Processors.{ProcessorValue, opening}
use Rattle.processor.specs.Row.{request, row}
use Rattle.processor.specs.declared.steps.Asked.{Asked}

-- A step of stream s, which makes this request if any: a step with a request takes the next pair, whose stream and
-- request are its own. What follows holds of the processor after it and of the pairs that are left.
abbrev pub IsOwnStep : ImageValue → ProcessorValue → ℕ → Option Request → List Asked
    → (ProcessorValue → List Asked → Type 0) → Type 0
IsOwnStep image proc s None rs follows = follows (row image proc s None).0 rs
IsOwnStep image proc s (Some q) [] follows = ⊥
IsOwnStep image proc s (Some q) (r ∷ rs) follows =
    (r.s ≡ s) × (r.request ≡ q) × follows (row image proc s (Some r.reply)).0 rs

-- these steps with these pairs lead from one state of a processor to another, with no pair left over
abbrev pub IsOwnFrom : ImageValue → ProcessorValue → List ℕ → List Asked → ProcessorValue → Type 0
IsOwnFrom image proc [] rs to = (rs ≡ []) × (to ≡ proc)
IsOwnFrom image proc (s ∷ ss) rs to =
    IsOwnStep image proc s (request image proc s) rs (λ next rest. IsOwnFrom image next ss rest to)

-- processor p of the image comes to this state by these steps of its own with these pairs
pub record IsOwn (image : ImageValue) (p : ℕ) (ss : List ℕ) (rs : List Asked) (state : ProcessorValue) : Type 0 where
  pub entry : ℕ
  pub stands : slice_get image.entries p ≡ Some entry
  pub leads : IsOwnFrom image (opening image entry) ss rs state

-- n of the steps come before the one that took pair k: they take just the first k pairs, and with the next step one
-- pair more
pub record IsPlace (image : ImageValue) (p : ℕ) (ss : List ℕ) (rs : List Asked) (k n : ℕ) : Type 0 where
  pub within : n < length ss
  pub before : (state : ProcessorValue) × IsOwn image p (take n ss) (take k rs) state
  pub upto : (state : ProcessorValue) × IsOwn image p (take (n + 1) ss) (take (k + 1) rs) state
