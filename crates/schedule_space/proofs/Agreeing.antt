-- Worlds of a space, and those that they stand for.
use Rattle.std.proofs.Common.{◌≡◌, ℕ, refl, sym, ap, ◌∙◌, subst, arith, List, [], ◌∷◌, ◌++◌}
use Rattle.std.specs.Prelude.{IsTrue}
use Rattle.processor.specs.World.{World, start, after, steps, run}
use Rattle.processor.specs.declared.steps.Step.{Step}
use Rattle.processor.proofs.Histories.{steps-append}
use Rattle.program_flow.specs.Tables.{is_live_at, is_named_by, is_asked_at}
use Rattle.agreeing_ends.specs.SameFutures.Handlers.{may_have_handlers}
use Rattle.agreeing_ends.proofs.SameFutures.Chains.{agree_itself, agree_next, agree_back, agreement_kept}
use Rattle.agreeing_ends.proofs.SameFutures.NoHandlers.{told_by}
use Rattle.world_keys.specs.DeadRegisters.Clearing.{LiveValue, IsLive, AgreeBy}
use Rattle.agreeing_ends.specs.Followed.{IsGrounded}
use Rattle.agreeing_ends.proofs.Grounded.{grounded}
use Rattle.schedule_space.specs.Spaces.{SpaceValue, schedule_of, world_of, StandsFor}
use Rattle.schedule_space.specs.Finding.{found_in}
use Rattle.schedule_space.proofs.Schedules.{first-schedule, run-push}

module _ (l : LiveValue) where
  abbrev pub Named : ℕ → Type 0
  Named r = IsTrue (is_named_by l.names r)

  abbrev pub Live : ℕ → ℕ → Type 0
  Live k r = IsTrue (is_live_at l.table k r)

  abbrev pub Asked : ℕ → ℕ → Type 0
  Asked k c = IsTrue (is_asked_at l.codes k c)

  pub agree_same : (a b : World) → a ≡ b → AgreeBy l a b
  agree_same a b same = subst (AgreeBy l a) same (agree_itself Named Live Asked a)

  pub agree_both : (a b c : World) → AgreeBy l a b → AgreeBy l b c → AgreeBy l a c
  agree_both = agree_next Named Live Asked

  pub agree_turned : (a b : World) → AgreeBy l a b → AgreeBy l b a
  agree_turned = agree_back Named Live Asked

  pub agree_moved : (a b c d : World) → a ≡ c → b ≡ d → AgreeBy l a b → AgreeBy l c d
  agree_moved a b c d first second g =
      subst (λ (x : World). AgreeBy l x d) first (subst (AgreeBy l a) second g)

module _ (v : SpaceValue) (live : IsLive v.image v.live) where
  -- schedules of the image say where a trap has a handler
  pub ground : IsGrounded (IsTrue (may_have_handlers v.image)) (Named v.live) (Live v.live) (Asked v.live) (found_in v)
  ground =
      grounded v.live.names v.live.table v.live.codes (found_in v) (schedule_of v) live.registers live.codes (omega arith)
      (λ k below. refl)

  -- one step more
  pub next_stands : (k : ℕ) (ts : List Step) (t : Step) → StandsFor v k (run v.image ts)
      → AgreeBy v.live (after v.image (world_of v k) t) (run v.image (ts ++ t ∷ []))
  next_stands k ts t g =
      subst (AgreeBy v.live (after v.image (world_of v k) t)) (sym (run-push v.image ts t))
      (agreement_kept v.image (IsTrue (may_have_handlers v.image)) (Named v.live) (Live v.live) (Asked v.live) ground.closed
      (world_of v k) (run v.image ts) t (told_by v.image (may_have_handlers v.image) refl (schedule_of v k)) g).1

-- where the beginning leads, and on from there
pub from_begin : (v : SpaceValue) (ts : List Step) → steps v.image (world_of v 0) ts ≡ run v.image (v.begin ++ ts)
from_begin v ts =
    ap (λ us. steps v.image (run v.image us) ts) (first-schedule v.begin v.links)
    ∙ sym (steps-append v.image (start v.image) v.begin ts)
