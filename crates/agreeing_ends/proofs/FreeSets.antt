-- Sets that can be taken before all others, by what holds of single steps of others; and a step that can, which is one.
use Rattle.std.proofs.Common.{◌≡◌, ◌≢◌, ℕ, inl, inr, refl, sym, ap, ◌∙◌, subst, arith, List, [], ◌∷◌}
use Rattle.std.specs.Prelude.{IsTrue}
use Rattle.std.specs.List.{Contains}
use Rattle.image_file.specs.ImageValue.{ImageValue}
use Rattle.processor.specs.World.{World, after, steps}
use Rattle.processor.specs.declared.steps.Step.{Step}
use Rattle.waiting.specs.Running.{runs_in}
use Rattle.waiting.specs.Stuck.{IsStuck}
use Rattle.same_futures.specs.LocalSteps.FreeSteps.{IsFreeStep}
use Rattle.same_futures.proofs.LocalSteps.Free.{commutes, stays, not_stuck, runs}
use Rattle.agreeing_ends.specs.FirstSets.{AreOutside, IsFirstSet}
use Rattle.agreeing_ends.specs.Followed.{FoundWorlds, IsTaken, IsTakenAlone, IsTakenTogether}
use Rattle.agreeing_ends.specs.Unseen.{AreOthers, IsTakenUnseen, IsTakenTogetherUnseen}
use Rattle.agreeing_ends.proofs.Moving.{in_front, front_or_rest, MovesOn}

-- the set of one step
abbrev pub one_step : Step → List Step
one_step t = t ∷ []

pub only_one : (t u : Step) → Contains (one_step t) u → t ≡ u
only_one t u c = elim (front_or_rest t u [] c) [ inl same ↦ same | inr (k, below, is) ↦ absurd (omega (arith, below)) ]

other_step : (t u : Step) → ¬ (Contains (one_step t) u) → u ≢ t
other_step t u none same = none (0, omega arith, sym same)

-- What holds of a world, and still behind each step of others, by which the steps of the set lead to worlds that are alike
-- before such a step and behind it, and one of them runs and can go on.
pub record IsKeptBy (R : World → World → Type 0) (image : ImageValue) (set : List Step) (key : Step) (I : World → Type 0)
    : Type 0 where
  pub kept : (w : World) (u : Step) → I w → ¬ (Contains set u) → I (after image w u)
  pub commutes : (w : World) (t u : Step) → I w → Contains set t → ¬ (Contains set u)
      → R (after image (after image w t) u) (after image (after image w u) t)
  pub runs : (w : World) → I w → IsTrue (runs_in w key)
  pub free : (w : World) → I w → ¬ (IsStuck image w key)

-- Worlds are alike where they are the same, and where both are alike to a third one.
pub record IsChained (R : World → World → Type 0) : Type 0 where
  pub itself : (a : World) → R a a
  pub next : (a b c : World) → R a b → R b c → R a c

module _ (R : World → World → Type 0) (chained : IsChained R) (image : ImageValue) (set : List Step) (key : Step)
    (I : World → Type 0) (by : IsKeptBy R image set key I) where
  kept_behind : (w : World) (us : List Step) → I w → AreOutside set us → I (steps image w us)
  kept_behind w [] holds out = holds
  kept_behind w (u ∷ us) holds out = kept_behind (after image w u) us (by.kept w u holds out.0) out.1

  -- wherever the world leads, worlds that are alike still are after the same schedule
  commutes_with : (w : World) (t : Step) (us : List Step) → MovesOn R image w → I w → Contains set t → AreOutside set us
      → R (steps image (after image w t) us) (after image (steps image w us) t)
  commutes_with w t [] on holds there out = chained.itself (after image w t)
  commutes_with w t (u ∷ us) on holds there out =
      chained.next (steps image (after image (after image w t) u) us) (steps image (after image (after image w u) t) us)
      (after image (steps image (after image w u) us) t)
      (on (t ∷ u ∷ []) (after image (after image w u) t) us (by.commutes w t u holds there out.0))
      (commutes_with (after image w u) t us (λ vs. on (u ∷ vs)) (by.kept w u holds out.0) there out.1)

  pub first_by : (w : World) → MovesOn R image w → I w → Contains set key → IsFirstSet R image w set
  first_by w on holds there = record {
    each = λ t inside us out. commutes_with w t us on holds inside out;
    key = key;
    there = there;
    runs = λ us out. by.runs (steps image w us) (kept_behind w us holds out);
    free = λ us out. by.free (steps image w us) (kept_behind w us holds out);
  }

abbrev pub Same : World → World → Type 0
Same a b = a ≡ b

same_chained : IsChained Same
same_chained = record { itself = λ a. refl; next = λ a b c e f. e ∙ f }

pub same_moves : (image : ImageValue) (w : World) → MovesOn Same image w
same_moves image w us x ts e = ap (λ (y : World). steps image y ts) e

-- a set is first in whatever way it is where its steps lead to the same worlds
pub first_over : (R : World → World → Type 0) (image : ImageValue) (w : World) (set : List Step)
    → ((a : World) → R a a) → IsFirstSet Same image w set → IsFirstSet R image w set
first_over R image w set itself first = record {
  each = λ t there us out.
      subst (R (steps image (after image w t) us)) (first.each t there us out) (itself (steps image (after image w t) us));
  key = first.key;
  there = first.there;
  runs = first.runs;
  free = first.free;
}

pub first_alone : (image : ImageValue) (w : World) (t : Step) → IsFreeStep image w t → IsFirstSet Same image w (one_step t)
first_alone image w t free =
    first_by Same same_chained image (one_step t) t (λ x. IsFreeStep image x t)
    (record {
      kept = λ v u holds none. stays image v t u holds (other_step t u none);
      commutes = λ v s u holds there none.
          subst (λ (x : Step). after image (after image v x) u ≡ after image (after image v u) x) (only_one t s there)
          (commutes image v t u holds (other_step t u none));
      runs = λ v holds. runs image v t holds;
      free = λ v holds. not_stuck image v t holds;
    })
    w (same_moves image w) free (in_front t [])

-- and so in whatever way, where each world is alike to itself
pub first_alone_over : (R : World → World → Type 0) (image : ImageValue) (w : World) (t : Step) → ((a : World) → R a a)
    → IsFreeStep image w t → IsFirstSet R image w (one_step t)
first_alone_over R image w t itself free = first_over R image w (one_step t) itself (first_alone image w t free)

pub together : (R : World → World → Type 0) (v : FoundWorlds) (from : ℕ) → ((a : World) → R a a) → IsTakenAlone R v from
    → IsTakenTogether R v from
together R v from itself one = record {
  set = one_step one.step;
  first = first_alone_over R v.image (v.world from) one.step itself one.alone;
  taken = λ t there. subst (IsTaken R v from) (only_one one.step t there) one.taken;
}

others_of : (t : Step) (us : List Step) → AreOutside (one_step t) us → AreOthers t us
others_of t [] out = tt
others_of t (u ∷ us) out = (other_step t u out.0, others_of t us out.1)

pub together_unseen : (R : World → World → Type 0) (P : World → Type 0) (v : FoundWorlds) (from : ℕ) → ((a : World) → R a a)
    → IsTakenUnseen R P v from → IsTakenTogetherUnseen R P v from
together_unseen R P v from itself one = record {
  together = record {
    set = one_step one.step;
    first = first_alone_over R v.image (v.world from) one.step itself one.alone;
    taken = λ t there. subst (IsTaken R v from) (only_one one.step t there) one.taken;
  };
  step = one.step;
  there = in_front one.step [];
  taken = one.taken;
  later = one.later;
  unseen = λ us out. one.unseen us (others_of one.step us out);
}
