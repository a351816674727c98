-- A step of a stream that asks for no stream, where another one of its processor has ended: it is the same step.
use Rattle.std.proofs.Common.{◌≡◌, ◌≢◌, ℕ, ◌-◌, ◌<◌, ◌⊎◌, inl, inr, refl, sym, ap, ◌∙◌, arith, subst}
use Rattle.std.proofs.Common.{if◌then◌else◌, List, [], ◌∷◌, length, set, Option, Some, None, slice_get, unwrap_or}
use Rattle.std.proofs.Common.{false}
use Rattle.std.proofs.lemmas.List.{length-set, get_or-set_same, get_or-set_other, set_comm}
use Rattle.std.proofs.lemmas.Option.{unwrap_or-slice_get}
use Rattle.tag_memory.specs.declared.requests.Reply.{Reply}
use Rattle.tag_memory.specs.Storage.{TaggedMemory}
use Rattle.image_file.specs.ImageValue.{ImageValue}
use Rattle.stream_core.specs.Streams.{StreamValue, idle, after_trap}
use Rattle.stream_core.specs.Effects.{request_of}
use Rattle.stream_core.specs.StreamRow.{fetch_of, control_of, control_from, control_at, row_asking, row_from, stream_row}
use Rattle.stream_core.specs.declared.traps.TrapKind.TheVariants as kind
use Rattle.stream_core.specs.declared.steps.Outcome.{Outcome}
use Rattle.stream_core.specs.declared.steps.Outcome.TheVariants as outcome
use Rattle.stream_core.specs.declared.steps.Fetch.{Fetch}
use Rattle.stream_core.specs.declared.steps.Fetch.TheVariants as fetch
use Rattle.stream_core.specs.declared.steps.Control.{Control}
use Rattle.stream_core.specs.declared.steps.Control.TheVariants as asks
use Rattle.processor.specs.Processors.{ProcessorValue, stream_at}
use Rattle.processor.specs.Row.{lacks_stream, image_fetch, step_fetch_from, step_fetch, step_fetch_at, step_fetch_of}
use Rattle.processor.specs.Row.{request_on_fetch, grant_of, with_stream, after_control, after_control_if_done, row_on_fetch, memory_reply, row_over_memory}
use Rattle.processor.proofs.Begun.{rests, awake, row_over_memory_begun}
use Rattle.local_steps.specs.NeverAsking.{AsksForNone, left_by, own_step, NeverAsks}
use Rattle.local_steps.specs.EndingSteps.{IsEnding}
use Rattle.local_steps.proofs.Ended.{others_kept}

-- the stream asks for none now
pub asks_now : (image : ImageValue) (s : StreamValue) → NeverAsks image s
    → AsksForNone (control_at image.profile image.program s)
asks_now image s never = never []

-- It finds what stands at its pc.

lacks_none : (proc : ProcessorValue) (c : Control) → AsksForNone c → lacks_stream proc c ≡ false
lacks_none proc (asks.Create child) none = absurd none
lacks_none proc c e = refl

found_from : (proc : ProcessorValue) (s : StreamValue) (f : Fetch) → AsksForNone (control_from s f)
    → step_fetch_from proc s f ≡ f
found_from proc s fetch.Rest none = refl
found_from proc s (fetch.Trap k) none = refl
found_from proc s (fetch.Instruction i) none =
    ap (λ b. if b then fetch.Trap kind.Create else fetch.Instruction i) (lacks_none proc (control_of s i) none)

found_at : (image : ImageValue) (proc : ProcessorValue) (s : StreamValue) (o : Option StreamValue) → unwrap_or o idle ≡ s
    → AsksForNone (control_from s (image_fetch image s)) → step_fetch_at image proc o ≡ image_fetch image s
unfolding step_fetch fetch_of
found_at image proc s None e none = ap (image_fetch image) e
found_at image proc s (Some x) e none =
    ap (step_fetch image proc) e ∙ found_from proc s (image_fetch image s) none

pub finds : (image : ImageValue) (proc : ProcessorValue) (m : ℕ) (s : StreamValue) → stream_at proc.streams m ≡ s
    → AsksForNone (control_at image.profile image.program s) → step_fetch_of image proc m ≡ image_fetch image s
unfolding step_fetch_of control_at
finds image proc m s e none =
    found_at image proc s (slice_get proc.streams m) (unwrap_or-slice_get proc.streams m idle ∙ e) none

grants_none : (image : ImageValue) (proc : ProcessorValue) (c : Control) → AsksForNone c → grant_of image proc c ≡ 0
grants_none image proc asks.Plain none = refl
grants_none image proc (asks.Reserve n) none = absurd none
grants_none image proc (asks.Create child) none = absurd none
grants_none image proc asks.Quit none = refl
grants_none image proc asks.QuitKeep none = refl

-- the processor after stream n, left so by its instruction, has ended
abbrev pub without : ℕ → StreamValue → Control → ProcessorValue → ProcessorValue
without n x c proc = after_control (with_stream proc n x) n 0 c

moved : (ss : List StreamValue) (n m : ℕ) (x y : StreamValue) → n ≢ m
    → set (set (set ss n x) n idle) m y ≡ set (set (set ss m y) n x) n idle
moved ss n m x y apart = set_comm (set ss n x) n m idle y apart ∙ ap (λ qs. set qs n idle) (set_comm ss n m x y apart)

-- The step of stream m where stream n has ended.
module _ (n m : ℕ) (x : StreamValue) (apart : n ≢ m) where
  put_apart : (proc : ProcessorValue) (c : Control) (y : StreamValue) → IsEnding c
      → with_stream (without n x c proc) m y ≡ without n x c (with_stream proc m y)
  put_apart proc asks.Plain y none = absurd none
  put_apart proc (asks.Reserve k) y none = absurd none
  put_apart proc (asks.Create child) y none = absurd none
  put_apart proc asks.Quit y e =
      λ i. record { streams = moved proc.streams n m x y apart i; scur = proc.scur - 1; sres = proc.sres - 1 }
  put_apart proc asks.QuitKeep y e =
      λ i. record { streams = moved proc.streams n m x y apart i; scur = proc.scur - 1; sres = proc.sres }

  both_end : (ss : List StreamValue) (y : StreamValue)
      → set (set (set (set ss n x) n idle) m y) m idle ≡ set (set (set (set ss m y) m idle) n x) n idle
  both_end ss y = ap (λ qs. set qs m idle) (moved ss n m x y apart) ∙ moved (set ss m y) n m x idle apart

  control_apart : (proc : ProcessorValue) (c : Control) (y : StreamValue) (d : Control) → IsEnding c → AsksForNone d
      → after_control (with_stream (without n x c proc) m y) m 0 d
      ≡ without n x c (after_control (with_stream proc m y) m 0 d)
  control_apart proc c y asks.Plain e none = put_apart proc c y e
  control_apart proc c y (asks.Reserve k) e none = absurd none
  control_apart proc c y (asks.Create child) e none = absurd none
  control_apart proc asks.Plain y asks.Quit e none = absurd e
  control_apart proc (asks.Reserve k) y asks.Quit e none = absurd e
  control_apart proc (asks.Create child) y asks.Quit e none = absurd e
  control_apart proc asks.Quit y asks.Quit e none =
      λ i. record { streams = both_end proc.streams y i; scur = proc.scur - 1 - 1; sres = proc.sres - 1 - 1 }
  control_apart proc asks.QuitKeep y asks.Quit e none =
      λ i. record { streams = both_end proc.streams y i; scur = proc.scur - 1 - 1; sres = proc.sres - 1 }
  control_apart proc asks.Plain y asks.QuitKeep e none = absurd e
  control_apart proc (asks.Reserve k) y asks.QuitKeep e none = absurd e
  control_apart proc (asks.Create child) y asks.QuitKeep e none = absurd e
  control_apart proc asks.Quit y asks.QuitKeep e none =
      λ i. record { streams = both_end proc.streams y i; scur = proc.scur - 1 - 1; sres = proc.sres - 1 }
  control_apart proc asks.QuitKeep y asks.QuitKeep e none =
      λ i. record { streams = both_end proc.streams y i; scur = proc.scur - 1 - 1; sres = proc.sres }

  done_apart : (proc : ProcessorValue) (c : Control) (y : StreamValue) (d : Control) (o : Outcome) → IsEnding c
      → AsksForNone d
      → after_control_if_done (with_stream (without n x c proc) m y) m 0 d o
      ≡ without n x c (after_control_if_done (with_stream proc m y) m 0 d o)
  done_apart proc c y d outcome.Skipped e none = put_apart proc c y e
  done_apart proc c y d outcome.Done e none = control_apart proc c y d e none
  done_apart proc c y d outcome.Blocked e none = put_apart proc c y e
  done_apart proc c y d (outcome.Trapped k) e none = put_apart proc c y e
  done_apart proc c y d (outcome.Stopped k) e none = put_apart proc c y e

  fetch_apart : (image : ImageValue) (proc : ProcessorValue) (c : Control) (r : Option Reply) (s : StreamValue) (f : Fetch)
      → IsEnding c → AsksForNone (control_from s f)
      → row_on_fetch image (without n x c proc) m r s f
      ≡ (without n x c (row_on_fetch image proc m r s f).0, (row_on_fetch image proc m r s f).1)
  fetch_apart image proc c r s fetch.Rest e none = refl
  fetch_apart image proc c r s (fetch.Trap k) e none =
      ap (λ p. (p, (after_trap k 0 s).1)) (put_apart proc c (after_trap k 0 s).0 e)
  fetch_apart image proc c r s (fetch.Instruction i) e none =
      let d = control_of s i in
      let by : ProcessorValue → ℕ → ProcessorValue × Outcome =
      λ p g. (let e = row_asking image.retry_limit s i g r (request_of s i) in
      (after_control_if_done (with_stream p m e.0) m g d e.1, e.1)) in
      let left = row_asking image.retry_limit s i 0 r (request_of s i) in
      ap (by (without n x c proc)) (grants_none image (without n x c proc) d none)
      ∙ ap (λ p. (p, left.1)) (done_apart proc c left.0 d left.1 e none)
      ∙ ap (λ (z : ProcessorValue × Outcome). (without n x c z.0, z.1)) (sym (ap (by proc) (grants_none image proc d none)))

  pub over_memory_apart : (image : ImageValue) (proc : ProcessorValue) (c : Control) (mem : TaggedMemory) → IsEnding c
      → AsksForNone (control_at image.profile image.program (stream_at proc.streams m))
      → row_over_memory image (without n x c proc) m mem
      ≡ (
        (without n x c (row_over_memory image proc m mem).0.0, (row_over_memory image proc m mem).0.1),
        (row_over_memory image proc m mem).1,
      )
  unfolding control_at
  over_memory_apart image proc c mem e none =
      sym (row_over_memory_begun image to m mem a.0 f a.1 (finds image to m s same none)
      (ap (λ y. memory_reply mem (request_on_fetch y f)) (sym same)))
      ∙ ap (λ y. (row_on_fetch image to m a.1 y f, a.0)) same
      ∙ ap (λ z. (z, a.0)) (fetch_apart image proc c a.1 s f e none)
      ∙ ap (λ (z : (ProcessorValue × Outcome) × TaggedMemory). ((without n x c z.0.0, z.0.1), z.1))
      (row_over_memory_begun image proc m mem a.0 f a.1 (finds image proc m s refl none) refl)
    where
      s : StreamValue
      s = stream_at proc.streams m

      f : Fetch
      f = image_fetch image s

      a : TaggedMemory × Option Reply
      a = memory_reply mem (request_on_fetch s f)

      to : ProcessorValue
      to = without n x c proc

      same : stream_at to.streams m ≡ s
      same = others_kept proc n m 0 x c e (λ z. apart (sym z))

-- What such a step leaves of the streams of its processor.
module _ (proc : ProcessorValue) (m : ℕ) where
  kept_control : (y : StreamValue) (d : Control) (k : ℕ) → AsksForNone d → k ≢ m
      → stream_at (after_control (with_stream proc m y) m 0 d).streams k ≡ stream_at proc.streams k
  kept_control y asks.Plain k none apart = get_or-set_other proc.streams m k y idle apart
  kept_control y (asks.Reserve g) k none apart = absurd none
  kept_control y (asks.Create child) k none apart = absurd none
  kept_control y asks.Quit k none apart =
      get_or-set_other (set proc.streams m y) m k idle idle apart ∙ get_or-set_other proc.streams m k y idle apart
  kept_control y asks.QuitKeep k none apart =
      get_or-set_other (set proc.streams m y) m k idle idle apart ∙ get_or-set_other proc.streams m k y idle apart

  kept_done : (y : StreamValue) (d : Control) (o : Outcome) (k : ℕ) → AsksForNone d → k ≢ m
      → stream_at (after_control_if_done (with_stream proc m y) m 0 d o).streams k ≡ stream_at proc.streams k
  kept_done y d outcome.Skipped k none apart = get_or-set_other proc.streams m k y idle apart
  kept_done y d outcome.Done k none apart = kept_control y d k none apart
  kept_done y d outcome.Blocked k none apart = get_or-set_other proc.streams m k y idle apart
  kept_done y d (outcome.Trapped t) k none apart = get_or-set_other proc.streams m k y idle apart
  kept_done y d (outcome.Stopped t) k none apart = get_or-set_other proc.streams m k y idle apart

  kept_fetch : (image : ImageValue) (r : Option Reply) (s : StreamValue) (f : Fetch) (k : ℕ)
      → AsksForNone (control_from s f) → k ≢ m
      → stream_at (row_on_fetch image proc m r s f).0.streams k ≡ stream_at proc.streams k
  kept_fetch image r s fetch.Rest k none apart = refl
  kept_fetch image r s (fetch.Trap t) k none apart = get_or-set_other proc.streams m k (after_trap t 0 s).0 idle apart
  kept_fetch image r s (fetch.Instruction i) k none apart =
      let d = control_of s i in
      let left = row_asking image.retry_limit s i 0 r (request_of s i) in
      ap
      (λ g. (let e = row_asking image.retry_limit s i g r (request_of s i) in
      stream_at (after_control_if_done (with_stream proc m e.0) m g d e.1).streams k))
      (grants_none image proc d none)
      ∙ kept_done left.0 d left.1 k none apart

  own_put : (y : StreamValue) → m < length proc.streams → stream_at (set proc.streams m y) m ≡ y
  own_put y within = get_or-set_same proc.streams m y idle within

  own_end : (y : StreamValue) → m < length proc.streams → stream_at (set (set proc.streams m y) m idle) m ≡ idle
  own_end y within =
      get_or-set_same (set proc.streams m y) m idle idle (omega (arith, within, length-set proc.streams m y))

  own_done : (y : StreamValue) (d : Control) (o : Outcome) → AsksForNone d → m < length proc.streams
      → stream_at (after_control_if_done (with_stream proc m y) m 0 d o).streams m ≡ left_by d (y, o)
  own_done y (asks.Reserve g) o none within = absurd none
  own_done y (asks.Create child) o none within = absurd none
  own_done y asks.Plain outcome.Skipped none within = own_put y within
  own_done y asks.Plain outcome.Done none within = own_put y within
  own_done y asks.Plain outcome.Blocked none within = own_put y within
  own_done y asks.Plain (outcome.Trapped k) none within = own_put y within
  own_done y asks.Plain (outcome.Stopped k) none within = own_put y within
  own_done y asks.Quit outcome.Skipped none within = own_put y within
  own_done y asks.Quit outcome.Done none within = own_end y within
  own_done y asks.Quit outcome.Blocked none within = own_put y within
  own_done y asks.Quit (outcome.Trapped k) none within = own_put y within
  own_done y asks.Quit (outcome.Stopped k) none within = own_put y within
  own_done y asks.QuitKeep outcome.Skipped none within = own_put y within
  own_done y asks.QuitKeep outcome.Done none within = own_end y within
  own_done y asks.QuitKeep outcome.Blocked none within = own_put y within
  own_done y asks.QuitKeep (outcome.Trapped k) none within = own_put y within
  own_done y asks.QuitKeep (outcome.Stopped k) none within = own_put y within

  own_fetch : (image : ImageValue) (r : Option Reply) (f : Fetch) → step_fetch_of image proc m ≡ f
      → AsksForNone (control_from (stream_at proc.streams m) f)
      → stream_at (row_on_fetch image proc m r (stream_at proc.streams m) f).0.streams m
      ≡ left_by (control_from (stream_at proc.streams m) f) (row_from image.retry_limit (stream_at proc.streams m) 0 r f)
  own_fetch image r fetch.Rest e none = refl
  own_fetch image r (fetch.Trap t) e none =
      own_put (after_trap t 0 (stream_at proc.streams m)).0 (awake image proc m (ap rests e)).0
  own_fetch image r (fetch.Instruction i) e none =
      let s = stream_at proc.streams m in
      let d = control_of s i in
      let left = row_asking image.retry_limit s i 0 r (request_of s i) in
      ap
      (λ g. (let e = row_asking image.retry_limit s i g r (request_of s i) in
      stream_at (after_control_if_done (with_stream proc m e.0) m g d e.1).streams m))
      (grants_none image proc d none)
      ∙ own_done left.0 d left.1 none (awake image proc m (ap rests e)).0

-- so no stream of its processor that never asks for one does after it
pub never_after : (image : ImageValue) (proc : ProcessorValue) (m : ℕ) (mem : TaggedMemory) (k : ℕ)
    → NeverAsks image (stream_at proc.streams m) → NeverAsks image (stream_at proc.streams k) → (k ≡ m) ⊎ (k ≢ m)
    → NeverAsks image (stream_at (row_over_memory image proc m mem).0.0.streams k)
unfolding control_at stream_row
never_after image proc m mem k here there place = by_place place where
  s : StreamValue
  s = stream_at proc.streams m

  none : AsksForNone (control_at image.profile image.program s)
  none = asks_now image s here

  f : Fetch
  f = image_fetch image s

  a : TaggedMemory × Option Reply
  a = memory_reply mem (request_on_fetch s f)

  begun : (row_on_fetch image proc m a.1 s f, a.0) ≡ row_over_memory image proc m mem
  begun = row_over_memory_begun image proc m mem a.0 f a.1 (finds image proc m s refl none) refl

  at : (j : ℕ) → stream_at (row_on_fetch image proc m a.1 s f).0.streams j
      ≡ stream_at (row_over_memory image proc m mem).0.0.streams j
  at j = ap (λ (z : (ProcessorValue × Outcome) × TaggedMemory). stream_at z.0.0.streams j) begun

  own : own_step image s a.1 ≡ stream_at (row_over_memory image proc m mem).0.0.streams m
  own = sym (own_fetch proc m image a.1 f (finds image proc m s refl none) none) ∙ at m

  next : NeverAsks image (own_step image s a.1)
  next rs = here (a.1 ∷ rs)

  by_place : (k ≡ m) ⊎ (k ≢ m) → NeverAsks image (stream_at (row_over_memory image proc m mem).0.0.streams k)
  by_place (inl same) =
      subst (λ j. NeverAsks image (stream_at (row_over_memory image proc m mem).0.0.streams j)) (sym same)
      (subst (NeverAsks image) own next)
  by_place (inr apart) =
      subst (NeverAsks image) (sym (kept_fetch proc m image a.1 s f k none apart) ∙ at k) there
