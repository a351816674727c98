-- The stream that a CREATE would start.
use Rattle.std.proofs.Common.{◌≡◌, ℕ, ◌<◌, Bool, true, false, refl, sym, ap, ◌∙◌, subst, arith}
use Rattle.std.proofs.Common.{Option, Some, None, length, get_or, nat_lt, if◌then◌else◌, slice_get}
use Rattle.std.specs.List.{position, position_or_len}
use Rattle.std.proofs.lemmas.Bool.{ltb-true, cond_below}
use Rattle.std.proofs.lemmas.List.Sums.{passes_at_first}
use Rattle.std.proofs.lemmas.Option.{slice_get-get_or, same_Some}
use Rattle.stream_core.specs.Streams.{idle}
use Rattle.machine.specs.Processor.Processors.{ProcessorValue, is_idle, IsCounted}
use Rattle.machine.specs.Processor.Row.{lowest_idle}
use Rattle.machine.proofs.Processor.Counting.{idle_there}
use Rattle.step_views.specs.Comparing.{free_in}

some_if : (b : Bool) (o : Option ℕ) (j : ℕ) → (if b then o else None) ≡ Some j → (b ≡ true) × (o ≡ Some j)
some_if true o j e = (refl, e)
some_if false o j e = absurd (let f : ⊥ = cc in f)

-- it is there, and holds zeros only
pub free_is_idle : (proc : ProcessorValue) (j : ℕ) → IsCounted proc → free_in (Some proc) ≡ Some j
    → (is_idle (get_or proc.streams j idle) ≡ true) × (slice_get proc.streams j ≡ Some idle)
free_is_idle proc j counted e =
    let first = position_or_len is_idle proc.streams in
    let found = (some_if (nat_lt proc.scur proc.sres) (position is_idle proc.streams) j e).1 in
    let inside = some_if (nat_lt first (length proc.streams)) (Some first) j found in
    let below = ltb-true first (length proc.streams) inside.0 in
    let same : first ≡ j = same_Some _ _ inside.1 in
    let rests : is_idle (get_or proc.streams j idle) ≡ true =
    ap (λ k. is_idle (get_or proc.streams k idle)) (sym same) ∙ passes_at_first is_idle proc.streams idle below in
    let within : j < length proc.streams = subst (λ k. k < length proc.streams) same below in
    (rests, slice_get-get_or proc.streams j idle within ∙ ap Some (counted.zeros j rests))

-- the lowest idle stream is, where a reserved one is not in use
pub lowest_is_free : (proc : ProcessorValue) → IsCounted proc → proc.scur < proc.sres
    → free_in (Some proc) ≡ Some (lowest_idle proc)
lowest_is_free proc counted below =
    let some = idle_there proc.streams (omega (arith, counted.counts, counted.within_slim)) in
    sym (cond_below proc.scur proc.sres (position is_idle proc.streams) None below)
    ∙ sym (cond_below (lowest_idle proc) (length proc.streams) (Some (lowest_idle proc)) None some)
