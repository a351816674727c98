-- What is seen before a step.
use Rattle.std.proofs.Common.{◌≡◌, ℕ, ◌<◌, ◌≤◌, true, false, inl, inr, refl, sym, ap, ◌∙◌, subst, arith}
use Rattle.std.proofs.Common.{Option, Some, None}
use Rattle.std.proofs.Common.{length, get_or, nat_lt, if◌then◌else◌, slice_get}
use Rattle.std.specs.List.{position_or_len}
use Rattle.std.proofs.lemmas.List.Sums.{position_or_len_is}
use Rattle.std.proofs.lemmas.Bool.{cases_lt, cond_below, cond_above}
use Rattle.std.proofs.lemmas.Option.{slice_get_within, slice_get-get_or, get_or_from_slice_get, same_Some}
use Rattle.stream_core.specs.Streams.{StreamValue, idle}
use Rattle.machine.specs.Processor.Processors.{ProcessorValue, is_idle}
use Rattle.machine.specs.MachineValue.{MachineValue, IsMachine}
use Rattle.step_views.specs.Places.{used_stream_in}
use Rattle.step_views.specs.Comparing.{idle_in}

-- each processor of a machine has as many streams as the image says
pub slim_of : (size : ℕ) (m : MachineValue) (p : ℕ) (proc : ProcessorValue) → IsMachine size m
    → slice_get m.world.processors p ≡ Some proc → length proc.streams ≡ m.image.slim
slim_of size m p proc is there =
    ap (λ (x : ProcessorValue). length x.streams) (sym (get_or_from_slice_get m.world.processors p proc proc there))
    ∙ is.slims p proc (slice_get_within m.world.processors p proc there)

-- none of the streams below this one is idle
abbrev pub NoneIdleBelow : Option ProcessorValue → ℕ → Type 0
NoneIdleBelow o n = (k : ℕ) → k < n → (v : StreamValue) → used_stream_in o k ≡ Some v → is_idle v ≡ false

below_none : (proc : ProcessorValue) (n : ℕ) → n ≤ length proc.streams → NoneIdleBelow (Some proc) n
    → (k : ℕ) → k < n → is_idle (get_or proc.streams k idle) ≡ false
below_none proc n within none k below =
    none k below (get_or proc.streams k idle) (slice_get-get_or proc.streams k idle (omega arith))

pub first_idle : (o : Option ProcessorValue) (n : ℕ) (v : StreamValue) → Some v ≡ used_stream_in o n → is_idle v ≡ true
    → NoneIdleBelow o n → Some n ≡ idle_in o
first_idle None n v there rests none = cc
first_idle (Some proc) n v there rests none =
    let within = slice_get_within proc.streams n v (sym there) in
    let here : is_idle (get_or proc.streams n idle) ≡ true =
    ap is_idle (get_or_from_slice_get proc.streams n v idle (sym there)) ∙ rests in
    let first : position_or_len is_idle proc.streams ≡ n =
    position_or_len_is is_idle proc.streams n idle (omega arith) (below_none proc n (omega arith) none) (λ _. here) in
    let Q : ℕ → Type 0 = λ k. Some n ≡ (if nat_lt k (length proc.streams) then Some k else None) in
    subst Q (sym first) (cond_below n (length proc.streams) (Some n) None within)

-- the streams end before this one
abbrev pub EndsBefore : Option ProcessorValue → ℕ → Type 0
EndsBefore o n = (proc : ProcessorValue) → o ≡ Some proc → length proc.streams ≤ n

pub ends_at_none : (o : Option ProcessorValue) (n : ℕ) → used_stream_in o n ≡ None → EndsBefore o n
ends_at_none None n none proc e = absurd (let f : ⊥ = cc in f)
ends_at_none (Some other) n none proc e =
    let same = same_Some _ _ e in
    elim (cases_lt n (length proc.streams)) [
      | inl below ↦
          let stands = slice_get-get_or proc.streams n idle below in
          let f : ⊥ = cc (ap (λ (x : ProcessorValue). slice_get x.streams n) same) in absurd f
      | inr past ↦ past
    ]

pub none_idle : (o : Option ProcessorValue) (n : ℕ) → EndsBefore o n → NoneIdleBelow o n → None ≡ idle_in o
none_idle None n ends none = refl
none_idle (Some proc) n ends none =
    let within = ends proc refl in
    let last : position_or_len is_idle proc.streams ≡ length proc.streams =
    position_or_len_is is_idle proc.streams (length proc.streams) idle (omega arith)
    (below_none proc (length proc.streams) (omega arith) (λ k below. none k (omega arith)))
    (λ more. absurd (omega arith)) in
    let Q : ℕ → Type 0 = λ k. None ≡ (if nat_lt k (length proc.streams) then Some k else None) in
    let count = length proc.streams in
    subst Q (sym last) (cond_above count count (Some count) None None (omega arith) refl)
