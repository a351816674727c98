-- Schedules with clearing in between.
use Rattle.std.proofs.Common.{◌≡◌, ℕ, ◌<◌, arith, inl, Bool, refl, sym, subst, List, [], ◌∷◌, ◌++◌}
use Rattle.std.specs.Prelude.{IsTrue}
use Rattle.insn_word.specs.declared.profiles.Profile.{Profile}
use Rattle.image_file.specs.ImageValue.{ImageValue}
use Rattle.stream_core.specs.Registers.{register_at}
use Rattle.processor.specs.World.{World, after, start, steps, run}
use Rattle.processor.specs.declared.steps.Step.{Step}
use Rattle.processor.proofs.Histories.{steps-append}
use Rattle.program_flow.specs.Tables.{is_live_at, is_named_by, is_asked_at, IsClosedTable, HasCodesOf}
use Rattle.program_flow.specs.Agreeing.{TellsFlow}
use Rattle.program_flow.proofs.Live.{codes_table}
use Rattle.same_futures.specs.Links.{TellsHandlers}
use Rattle.same_futures.specs.Agreeing.{stream_in, EndAlike}
use Rattle.same_futures.specs.Handlers.{may_have_handlers}
use Rattle.same_futures.proofs.Chains.{agree_itself, agree_next, agreement_kept}
use Rattle.same_futures.proofs.Alike.{agreeing_alike, agreeing_end_alike}
use Rattle.same_futures.proofs.NoHandlers.{told_by}
use Rattle.dead_registers.specs.Clearing.{LiveValue, cleared, cleared_steps, IsLive, AgreeBy}
use Rattle.dead_registers.proofs.Worlds.{cleared_agrees}

-- a table without a row has all codes
pub no_rows_tell : (profile : Profile) (program : List ℕ) (handled : Bool) → HasCodesOf profile program handled []
no_rows_tell profile program handled =
    codes_table profile program handled [] (λ k below. let none : ⊥ = omega arith in absurd none)

-- tables of the image's program
pub live_table_of : (image : ImageValue) (names : List Bool) (table codes : List (List Bool)) (profile : Profile)
    (program : List ℕ) (handled : Bool) → profile ≡ image.profile → program ≡ image.program
    → handled ≡ may_have_handlers image → IsClosedTable profile program handled names table
    → HasCodesOf image.profile image.program handled codes
    → (((r : ℕ) → r < 32 → IsTrue (is_named_by names r)) → (k c : ℕ) → IsTrue (is_asked_at codes k c))
    → IsLive image (record { names = names; table = table; codes = codes })
live_table_of image names table codes profile program handled one two three closed has all = record {
  registers = subst (λ b. IsClosedTable image.profile image.program b names table) three
      (subst (λ ws. IsClosedTable image.profile ws handled names table) two
      (subst (λ p. IsClosedTable p program handled names table) one closed));
  codes = subst (λ b. HasCodesOf image.profile image.program b codes) three has;
  all = all;
}

module _ (image : ImageValue) (l : LiveValue) (live : IsLive image l) where
  abbrev handled : Type 0
  handled = IsTrue (may_have_handlers image)

  abbrev Named : ℕ → Type 0
  Named r = IsTrue (is_named_by l.names r)

  abbrev Live : ℕ → ℕ → Type 0
  Live k r = IsTrue (is_live_at l.table k r)

  abbrev Asked : ℕ → ℕ → Type 0
  Asked k c = IsTrue (is_asked_at l.codes k c)

  tells : TellsFlow image.profile image.program handled Named Live Asked
  tells = record { registers = live.registers; codes = live.codes }

  next_cleared : (a b : World) → AgreeBy l a b → AgreeBy l a (cleared l b)
  next_cleared a b g = agree_next Named Live Asked a b (cleared l b) g (cleared_agrees l b)

  steps_cleared : (ts : List Step) (a b : World) → ((us : List Step) → TellsHandlers handled (steps image a us))
      → AgreeBy l a b → AgreeBy l (steps image a ts) (cleared_steps l image b ts)
  steps_cleared [] a b told g = next_cleared a b g
  steps_cleared (t ∷ ts) a b told g =
      steps_cleared ts (after image a t) (after image (cleared l b) t) (λ us. told (t ∷ us))
      (agreement_kept image handled Named Live Asked tells a (cleared l b) t (told []) (next_cleared a b g)).1

  -- from the image's start
  module _ (begin ts : List Step) where
    told : (us : List Step) → TellsHandlers handled (run image us)
    told us = told_by image (may_have_handlers image) refl us

    pub schedules_cleared : AgreeBy l (run image (begin ++ ts)) (cleared_steps l image (run image begin) ts)
    schedules_cleared =
        subst (λ w. AgreeBy l w (cleared_steps l image (run image begin) ts)) (sym (steps-append image (start image) begin ts))
        (steps_cleared ts (run image begin) (run image begin)
        (λ us. subst (TellsHandlers handled) (steps-append image (start image) begin us) (told (begin ++ us)))
        (agree_itself Named Live Asked (run image begin)))

    pub schedules_end_alike : EndAlike image (run image (begin ++ ts)) (cleared_steps l image (run image begin) ts)
    schedules_end_alike =
        agreeing_end_alike image handled Named Live Asked tells (run image (begin ++ ts))
        (cleared_steps l image (run image begin) ts) (told (begin ++ ts)) schedules_cleared

-- What is named is kept.
pub named_kept : (l : LiveValue) (w : World) (p k r : ℕ) → IsTrue (is_named_by l.names r)
    → register_at (stream_in (cleared l w) p k).registers r ≡ register_at (stream_in w p k).registers r
named_kept l w p k r n =
    ((agreeing_alike (λ q. IsTrue (is_named_by l.names q)) (λ j q. IsTrue (is_live_at l.table j q))
    (λ j c. IsTrue (is_asked_at l.codes j c)) w (cleared l w)
    (cleared_agrees l w)).streams p k).each r (inl n)
