-- A machine over a step, and over the steps of a schedule.
use Rattle.std.proofs.Common.{◌≡◌, ℕ, zero, suc, ◌+◌, ◌<◌, ◌≤◌, sym, ap, ◌∙◌, arith, add-one, List, []}
use Rattle.std.proofs.Common.{◌∷◌, length, drop, get_or, set, slice_get}
use Rattle.std.proofs.Math.Seq.{drop-cons, drop-nil}
use Rattle.std.proofs.lemmas.Option.{slice_get_past, slice_get_read}
use Rattle.processor.specs.TagMemory.Storage.{TaggedMemory}
use Rattle.processor.specs.ImageFile.ImageValue.{ImageValue}
use Rattle.processor.specs.StreamCoreTypes.Outcome.{Outcome}
use Rattle.processor.specs.StreamCoreTypes.Outcome.TheVariants.{Skipped}
use Rattle.processor.specs.Processors.{ProcessorValue}
use Rattle.processor.specs.Row.{row_over_memory}
use Rattle.processor.specs.World.{World, world_step, after, steps}
use Rattle.processor.specs.declared.steps.Step.{Step}
use Rattle.processor.proofs.World.{world_step-absent, world_step-present}
use Rattle.machine.specs.MachineValue.{MachineValue, machine_of}

-- One step.

pub absent : (now : MachineValue) (image : ImageValue) (ps : List ProcessorValue) (m : TaggedMemory) (t : Step)
    → machine_of image ps m ≡ now → length ps ≤ t.p → (now.world, Skipped) ≡ world_step now.image now.world t
absent now image ps m t same past =
    let none = ap (λ (v : MachineValue). slice_get v.world.processors t.p) (sym same) ∙ slice_get_past ps t.p past in
    world_step-absent now.image now.world t none

pub present : (now : MachineValue) (image : ImageValue) (ps : List ProcessorValue) (m mem : TaggedMemory) (t : Step)
    (count : ℕ) (proc next : ProcessorValue) (o : Outcome) → machine_of image ps m ≡ now → count ≡ length ps
    → t.p < count → proc ≡ get_or ps t.p proc → ((next, o), mem) ≡ row_over_memory image proc t.s m
    → (record { processors = set ps t.p next; memory = mem }, o) ≡ world_step now.image now.world t
present now image ps m mem t count proc next o same all below read is =
    let there = slice_get_read ps count t.p proc all below read in
    world_step-present image (record { processors = ps; memory = m }) t proc next mem o there is
    ∙ ap (λ (v : MachineValue). world_step v.image v.world t) same

-- A schedule.

-- the machine after steps
abbrev pub ran : MachineValue → List Step → MachineValue
ran m ts = record m { world = steps m.image m.world ts }

ran_first : (old new : MachineValue) (o : Outcome) (t : Step) (ts : List Step)
    → (new.world, o) ≡ world_step old.image old.world t → new.image ≡ old.image → ran new ts ≡ ran old (t ∷ ts)
ran_first old new o t ts is same =
    let world : new.world ≡ after old.image old.world t = ap (λ (x : World × Outcome). x.0) is in
    λ i. record { image = same i; world = steps (same i) (world i) ts }

pub ran_step : (old new : MachineValue) (o : Outcome) (t : Step) (ts : List Step) (i : ℕ) → i < length ts
    → t ≡ get_or ts i t → (new.world, o) ≡ world_step old.image old.world t → new.image ≡ old.image
    → ran new (drop (i + 1) ts) ≡ ran old (drop i ts)
ran_step old new o t ts i below read is same =
    let rest : drop (i + 1) ts ≡ drop (suc i) ts = ap (λ k. drop k ts) (add-one i) in
    let front : t ∷ drop (suc i) ts ≡ drop i ts = ap (λ x. x ∷ drop (suc i) ts) read ∙ sym (drop-cons ts i t below) in
    ap (ran new) rest ∙ ran_first old new o t (drop (suc i) ts) is same ∙ ap (ran old) front

drop_past : (ts : List Step) (i : ℕ) → length ts ≤ i → drop i ts ≡ []
drop_past [] i past = drop-nil i
drop_past (t ∷ ts) zero past = absurd (omega arith)
drop_past (t ∷ ts) (suc i) past = drop_past ts i (omega arith)

pub ran_end : (m : MachineValue) (ts : List Step) (i : ℕ) → length ts ≤ i → ran m (drop i ts) ≡ m
ran_end m ts i past = ap (ran m) (drop_past ts i past)
