-- What is read of a machine, as its world is cleared.
use Rattle.std.proofs.Common.{◌≡◌, ℕ, ◌<◌, ◌≤◌, sym, ap, ◌∙◌, subst, arith, Bool, true, false, cond, ltb, length, get_or}
use Rattle.std.proofs.Common.{List, Some, None, slice_get}
use Rattle.std.proofs.lemmas.Bool.{lt-ltb}
use Rattle.std.proofs.lemmas.List.{length-map}
use Rattle.std.proofs.lemmas.Option.{slice_get-get_or}
use Rattle.stream_core.specs.Streams.{StreamValue, idle}
use Rattle.processor.specs.Processors.{ProcessorValue, IsCounted, stream_at}
use Rattle.processor.specs.World.{World, stream_of, stream_seen_at, counts_of, counts_at}
use Rattle.machine.specs.MachineValue.{MachineValue, IsMachine}
use Rattle.dead_registers.specs.Clearing.{LiveValue, cleared_stream, cleared}
use Rattle.world_keys.specs.WorldKeys.{processor_in, no_processor, IsHeld}
use Rattle.world_keys.proofs.Clearings.{counted_cleared, processor_cleared, stream_in_cleared}
use Rattle.world_keys.proofs.Marks.{AreKnownBelow}

pub slims : (l : LiveValue) (size : ℕ) (m : MachineValue) (p : ℕ) → IsMachine size m → p < length m.world.processors
    → length (processor_in (cleared l m.world) p).streams ≡ m.image.slim
slims l size m p machine below =
    ap (λ (q : ProcessorValue). length q.streams) (processor_cleared l m.world p)
    ∙ length-map (processor_in m.world p).streams (cleared_stream l)
    ∙ machine.slims p no_processor below

seen_real : (size : ℕ) (m : MachineValue) (p s : ℕ) (x : StreamValue) → IsMachine size m
    → p < length m.world.processors → s < m.image.slim → stream_of size m.world p s ≡ Some x
    → x ≡ stream_at (processor_in m.world p).streams s
seen_real size m p s x machine below within is =
    let there = slice_get-get_or m.world.processors p no_processor below in
    let room : ltb s size ≡ true = lt-ltb s size (omega (arith, machine.within)) in
    let at : stream_of size m.world p s ≡ Some (stream_at (processor_in m.world p).streams s) =
    ap (stream_seen_at size s) there
    ∙ ap (λ b. cond b (Some (stream_at (processor_in m.world p).streams s)) None) room in
    let both : Some x ≡ Some (stream_at (processor_in m.world p).streams s) = sym is ∙ at in
    cc

-- a stream as it is cleared is that of the cleared world
pub seen : (l : LiveValue) (size : ℕ) (m : MachineValue) (p s : ℕ) (x : StreamValue) → IsMachine size m
    → p < length m.world.processors → s < m.image.slim → stream_of size m.world p s ≡ Some x
    → cleared_stream l x ≡ get_or (processor_in (cleared l m.world) p).streams s idle
seen l size m p s x machine below within is =
    ap (cleared_stream l) (seen_real size m p s x machine below within is) ∙ sym (stream_in_cleared l m.world p s)

by_room : (b : Bool) (x y : StreamValue) → cond b (Some y) None ≡ Some x → x ≡ y
by_room true x y is = let same : y ≡ x = cc in sym same
by_room false x y is = absurd cc

-- the same of a stream of any number that is seen
pub seen_any : (l : LiveValue) (size : ℕ) (w : World) (p s : ℕ) (x : StreamValue) → p < length w.processors
    → stream_of size w p s ≡ Some x → cleared_stream l x ≡ stream_at (processor_in (cleared l w) p).streams s
seen_any l size w p s x below is =
    let there = slice_get-get_or w.processors p no_processor below in
    let same =
    by_room (ltb s size) x (stream_at (processor_in w p).streams s) (sym (ap (stream_seen_at size s) there) ∙ is) in
    ap (cleared_stream l) same ∙ sym (stream_in_cleared l w p s)

pub reserved : (l : LiveValue) (w : World) (p : ℕ) (c : ℕ × ℕ) → p < length w.processors → counts_of w p ≡ Some c
    → c.1 ≡ (processor_in (cleared l w) p).sres
reserved l w p c below is =
    let there = slice_get-get_or w.processors p no_processor below in
    let both : Some c ≡ Some ((processor_in w p).scur, (processor_in w p).sres) = sym is ∙ ap counts_at there in
    let same : c ≡ ((processor_in w p).scur, (processor_in w p).sres) = cc in
    ap (λ (x : ℕ × ℕ). x.1) same ∙ sym (ap (λ (q : ProcessorValue). q.sres) (processor_cleared l w p))

pub counted : (l : LiveValue) (w : World) (p : ℕ) → p < length w.processors
    → ((d : ProcessorValue) → slice_get w.processors p ≡ Some d → IsCounted d) → IsCounted (processor_in (cleared l w) p)
counted l w p below all =
    subst IsCounted (sym (processor_cleared l w p))
    (counted_cleared l (processor_in w p) (all (processor_in w p) (slice_get-get_or w.processors p no_processor below)))

pub held : (l : LiveValue) (size : ℕ) (m : MachineValue) (p n : ℕ) (table : List (List ℕ)) → IsMachine size m
    → p < length m.world.processors → IsCounted (processor_in (cleared l m.world) p) → m.image.slim ≤ n
    → AreKnownBelow table (processor_in (cleared l m.world) p).streams n
    → IsHeld table m.image (processor_in (cleared l m.world) p)
held l size m p n table machine below counts past known = record {
  slim = slims l size m p machine below;
  counts = counts.counts;
  streams = λ k less. known k (omega (arith, less, past, slims l size m p machine below));
}
