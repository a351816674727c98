-- When all streams are idle.
use Rattle.std.proofs.Common.{◌≡◌, ℕ, zero, suc, ◌+◌, ◌<◌, Bool, true, false, cond, eqb, List, [], ◌∷◌, length, drop}
use Rattle.std.proofs.Common.{refl, ap, ◌∙◌, arith, ne_eqb, Option, Some, None, ◌&&◌}
use Rattle.std.specs.List.{list_all, slice_get}
use Rattle.stream_core.specs.Streams.{StreamValue}
use Rattle.machine.specs.Processor.Processors.{ProcessorValue, is_idle, count_current, IsCounted}
use Rattle.machine.specs.Processor.World.{counts_at}
use Rattle.expectations.specs.Meeting.{all_idle, all_idle_at}

-- Of a processor just where none is current.

none_more : (idle : Bool) (ss : List StreamValue) → eqb (count_current ss) 0 ≡ list_all is_idle ss
    → eqb (cond idle 0 1 + count_current ss) 0 ≡ (idle && list_all is_idle ss)
none_more true ss h = let same : 0 + count_current ss ≡ count_current ss = omega arith in rw same h
none_more false ss h = ne_eqb (1 + count_current ss) 0 (λ e. omega arith)

none_current : (ss : List StreamValue) → eqb (count_current ss) 0 ≡ list_all is_idle ss
none_current [] = refl
none_current (s ∷ ss) = none_more (is_idle s) ss (none_current ss)

abbrev current_in : Option (ℕ × ℕ) → ℕ
current_in None = 0
current_in (Some counts) = counts.0

pub at_rest : (o : Option ProcessorValue) (current reserved : ℕ) → Some (current, reserved) ≡ counts_at o
    → ((d : ProcessorValue) → o ≡ Some d → IsCounted d) → eqb current 0 ≡ all_idle_at o
at_rest None current reserved e counted = cc
at_rest (Some d) current reserved e counted =
    let same : current ≡ d.scur = ap current_in e in
    ap (λ n. eqb n 0) (same ∙ (counted d refl).counts) ∙ none_current d.streams

-- Of processors, one after another.

pub rest_more : (ds : List ProcessorValue) (p : ℕ) → p < length ds → all_idle_at (slice_get ds p) ≡ true
    → list_all all_idle (drop (p + 1) ds) ≡ list_all all_idle (drop p ds)
rest_more [] p within rest = absurd (omega arith)
rest_more (d ∷ ds) zero within rest = rw rest refl
rest_more (d ∷ ds) (suc p) within rest =
    let next : suc p + 1 ≡ suc (p + 1) = omega arith in
    rw next (rest_more ds p (omega arith) rest)

pub rest_fails : (ds : List ProcessorValue) (p : ℕ) → p < length ds → all_idle_at (slice_get ds p) ≡ false
    → list_all all_idle (drop p ds) ≡ false
rest_fails [] p within runs = absurd (omega arith)
rest_fails (d ∷ ds) zero within runs = rw runs refl
rest_fails (d ∷ ds) (suc p) within runs = rest_fails ds p (omega arith) runs
