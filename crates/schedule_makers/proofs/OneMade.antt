-- What a rule makes of a machine is one schedule.
use Rattle.std.proofs.Common.{◌≡◌, ℕ, suc, ◌-◌, ◌≤◌, refl, sym, ap, ◌∙◌, subst, arith}
use Rattle.std.proofs.Common.{List, [], ◌∷◌, length}
use Rattle.std.proofs.lemmas.Option.{same_Some}
use Rattle.image_file.specs.ImageValue.{ImageValue}
use Rattle.processor.specs.World.{World, after, steps}
use Rattle.processor.specs.declared.steps.Step.{Step}
use Rattle.machine.specs.MachineValue.{MachineValue}
use Rattle.schedule_makers.specs.Rules.{Rule}
use Rattle.schedule_makers.specs.Made.{IsTaken, AreTaken, IsEnd, IsMade}
use Rattle.schedule_makers.specs.declared.made.MadeEnd.{MadeEnd}
use Rattle.schedule_makers.specs.declared.made.MadeEnd.TheVariants as reason

-- The end of a world.

one_end : (image : ImageValue) (w : World) (a b : MadeEnd) → IsEnd image w a → IsEnd image w b → a ≡ b
one_end image w reason.NobodyRuns reason.NobodyRuns x y = refl
one_end image w reason.NobodyRuns reason.Standstill x y = absurd (x y.some)
one_end image w reason.NobodyRuns reason.OutOfSteps x y = absurd (x y.0)
one_end image w reason.Standstill reason.NobodyRuns x y = absurd (y x.some)
one_end image w reason.Standstill reason.Standstill x y = refl
one_end image w reason.Standstill reason.OutOfSteps x y = absurd (y.1 x)
one_end image w reason.OutOfSteps reason.NobodyRuns x y = absurd (y x.0)
one_end image w reason.OutOfSteps reason.Standstill x y = absurd (x.1 y)
one_end image w reason.OutOfSteps reason.OutOfSteps x y = refl

-- where a step is taken, nothing ends but for want of steps
no_end : (rule : Rule) (image : ImageValue) (w : World) (before : List Step) (t : Step) (end : MadeEnd)
    → IsTaken rule image w before t → IsEnd image w end → end ≡ reason.OutOfSteps
no_end rule image w before t reason.NobodyRuns taken ends = absurd (ends (t, taken.runs))
no_end rule image w before t reason.Standstill taken ends = absurd (taken.going ends)
no_end rule image w before t reason.OutOfSteps taken ends = refl

-- The steps behind the first.

behind : Rule → Step → Rule
behind rule t before image w = rule (t ∷ before) image w

taken_behind : (rule : Rule) (image : ImageValue) (w : World) (t : Step) (ts : List Step)
    → AreTaken rule image w (t ∷ ts) → AreTaken (behind rule t) image (after image w t) ts
unfolding behind
taken_behind rule image w t ts all k u there =
    let one = all (suc k) u there in
    record { ruled = one.ruled; runs = one.runs; going = one.going }

-- Steps by a rule from a world, at most so many, and why there are no more.
record IsRun (rule : Rule) (image : ImageValue) (w : World) (most : ℕ) (ts : List Step) (end : MadeEnd) : Type 0 where
  taken : AreTaken rule image w ts
  within : length ts ≤ most
  ends : IsEnd image (steps image w ts) end
  all : end ≡ reason.OutOfSteps → length ts ≡ most

run_behind : (rule : Rule) (image : ImageValue) (w : World) (most : ℕ) (t : Step) (ts : List Step) (end : MadeEnd)
    → IsRun rule image w most (t ∷ ts) end → IsRun (behind rule t) image (after image w t) (most - 1) ts end
run_behind rule image w most t ts end run = record {
  taken = taken_behind rule image w t ts run.taken;
  within = omega (arith, run.within);
  ends = run.ends;
  all = λ out. omega (arith, run.all out);
}

first_taken : (rule : Rule) (image : ImageValue) (w : World) (t : Step) (ts : List Step)
    → AreTaken rule image w (t ∷ ts) → IsTaken rule image w [] t
first_taken rule image w t ts all = all 0 t refl

-- none of two runs ends before the other
longer : (rule : Rule) (image : ImageValue) (w : World) (most : ℕ) (t : Step) (ts : List Step) (end last : MadeEnd)
    → IsRun rule image w most [] end → IsRun rule image w most (t ∷ ts) last → ⊥
longer rule image w most t ts end last short long =
    let out = no_end rule image w [] t end (first_taken rule image w t ts long.taken) short.ends in
    omega (arith, short.all out, long.within)

one_run : (rule : Rule) (image : ImageValue) (w : World) (most : ℕ) (ts us : List Step) (end last : MadeEnd)
    → IsRun rule image w most ts end → IsRun rule image w most us last → ts ≡ us
one_run rule image w most [] [] end last x y = refl
one_run rule image w most [] (u ∷ us) end last x y = absurd (longer rule image w most u us end last x y)
one_run rule image w most (t ∷ ts) [] end last x y = absurd (longer rule image w most t ts last end y x)
one_run rule image w most (t ∷ ts) (u ∷ us) end last x y =
    let first = first_taken rule image w t ts x.taken in
    let other = first_taken rule image w u us y.taken in
    let same : u ≡ t = same_Some u t (sym other.ruled ∙ first.ruled) in
    let beside = subst (λ s. IsRun rule image w most (s ∷ us) last) same y in
    let rest = one_run (behind rule t) image (after image w t) (most - 1) ts us end last
    (run_behind rule image w most t ts end x) (run_behind rule image w most t us last beside) in
    λ i. sym same i ∷ rest i

-- Machines.

run_of : (rule : Rule) (old new : MachineValue) (most : ℕ) (ts : List Step) (end : MadeEnd)
    → IsMade rule old new most ts end → IsRun rule old.image old.world most ts end
run_of rule old new most ts end made = record {
  taken = made.taken;
  within = made.within;
  ends = subst (λ i. IsEnd i (steps old.image old.world ts) end) made.image
      (subst (λ w. IsEnd new.image w end) made.world made.ends);
  all = made.all;
}

pub one_made : (rule : Rule) (old new other : MachineValue) (most : ℕ) (ts us : List Step) (end last : MadeEnd)
    → IsMade rule old new most ts end → IsMade rule old other most us last → (ts ≡ us) × (end ≡ last) × (new ≡ other)
one_made rule old new other most ts us end last x y =
    let run = run_of rule old new most ts end x in
    let beside = run_of rule old other most us last y in
    let same = one_run rule old.image old.world most ts us end last run beside in
    let world : new.world ≡ other.world =
    x.world ∙ ap (steps old.image old.world) same ∙ sym y.world in
    let image : new.image ≡ other.image = x.image ∙ sym y.image in
    let there = subst (λ l. IsEnd old.image (steps old.image old.world l) last) (sym same) beside.ends in (
      same,
      one_end old.image (steps old.image old.world ts) end last run.ends there,
      λ i. record { image = image i; world = world i },
    )
