-- Steps with a request that nobody sees: which they are, and that nobody sees them after whatever others do.
use Rattle.std.proofs.Common.{◌≡◌, ℕ, inl, inr, Bool, false, refl, sym, ap, ◌∙◌, List, Option, Some}
use Rattle.std.specs.List.{Contains}
use Rattle.insn_word.specs.declared.insn.Insn.{Insn}
use Rattle.insn_word.specs.declared.insn.Insn.TheVariants.{Wide, Normal}
use Rattle.tag_memory.specs.Storage.{cell_at}
use Rattle.tag_memory.specs.Answer.{answer}
use Rattle.tag_memory.specs.Adds.{AreAlike}
use Rattle.tag_memory.specs.declared.requests.Request.{Request}
use Rattle.tag_memory.specs.declared.requests.Reply.{Reply}
use Rattle.tag_memory.specs.declared.requests.Reply.TheVariants as reply
use Rattle.image_file.specs.ImageValue.{ImageValue}
use Rattle.stream_core.specs.Streams.{StreamValue}
use Rattle.stream_core.specs.Effects.{request_of, after_instruction}
use Rattle.stream_core.specs.StreamRow.{plan_of, plan_from, plan_asking, fetch_of, control_of, control_from, control_at}
use Rattle.stream_core.specs.StreamRow.{row_asking, row_from, stream_row}
use Rattle.stream_core.specs.declared.steps.Fetch.TheVariants as fetch
use Rattle.stream_core.specs.declared.steps.Outcome.{Outcome}
use Rattle.stream_core.specs.declared.steps.Outcome.TheVariants as outcome
use Rattle.stream_core.specs.declared.steps.Control.{Control}
use Rattle.stream_core.specs.declared.steps.Control.TheVariants as asks
use Rattle.stream_core.specs.declared.steps.Plan.TheVariants as plan
use Rattle.processor.specs.World.{World, steps}
use Rattle.processor.specs.declared.steps.Step.{Step}
use Rattle.program_flow.specs.Agreeing.{TellsFlow}
use Rattle.touched_words.specs.TouchTables.{TouchValue}
use Rattle.agreeing_ends.specs.SameFutures.Links.{TellsHandlers}
use Rattle.agreeing_ends.specs.FirstSets.{AreOutside}
use Rattle.first_sets.specs.ApartSets.{AreTouchTables, IsApartSet}
use Rattle.first_sets.specs.CommutingRequests.RequestSteps.{IsRequestIn, IsRequestStep}
use Rattle.first_sets.specs.LocalSteps.NeverAsking.{own_step, ended_by, left_by}
use Rattle.first_sets.proofs.Apart.{asks_still, replied_still, unforwarded_still, memory_then}
use Rattle.first_sets.proofs.OtherWords.{same_word}
use Rattle.first_sets.proofs.Resting as rest
use Rattle.schedule_space.specs.Quiet.{is_looked_at, is_seen, IsUnseenStep, IsUnseenRequest, IsUnseen}
use Rattle.schedule_space.proofs.QuietSteps.{unseen}

-- A stream is seen alike after replies that are alike.

left_seen : (looked_at : List Bool) (c : Control) (x y : StreamValue) → is_seen looked_at x ≡ is_seen looked_at y
    → is_seen looked_at (left_by c (x, outcome.Done)) ≡ is_seen looked_at (left_by c (y, outcome.Done))
left_seen looked_at asks.Plain x y same = same
left_seen looked_at (asks.Reserve m) x y same = same
left_seen looked_at (asks.Create child) x y same = same
left_seen looked_at asks.Quit x y same = refl
left_seen looked_at asks.QuitKeep x y same = refl

instruction_seen : (looked_at : List Bool) (s : StreamValue) (i : Insn) (n k : ℕ)
    → is_seen looked_at (after_instruction s i n 0) ≡ is_seen looked_at (after_instruction s i k 0)
unfolding after_instruction
instruction_seen looked_at s (Wide look op reg imm) n k = refl
instruction_seen looked_at s (Normal look m a c) n k = refl

own_found : (image : ImageValue) (s : StreamValue) (i : Insn) (r : Option Reply)
    → fetch_of image.profile image.program s ≡ fetch.Instruction i
    → own_step image s r ≡ left_by (control_of s i) (row_asking image.retry_limit s i 0 r (request_of s i))
unfolding control_at stream_row
own_found image s i r found = ap (λ f. left_by (control_from s f) (row_from image.retry_limit s 0 r f)) found

module _ (looked_at : List Bool) (image : ImageValue) (s : StreamValue) (q : Request) (f : IsRequestIn image s (Some q)) where
  abbrev c : Control
  c = control_of s f.insn

  numbered : (n : ℕ) → own_step image s (Some (reply.Done n)) ≡ left_by c (after_instruction s f.insn n 0, outcome.Done)
  numbered n =
      own_found image s f.insn (Some (reply.Done n)) f.found
      ∙ ap (λ o. left_by c (row_asking image.retry_limit s f.insn 0 (Some (reply.Done n)) o)) f.asked

  pub seen_alike : (x y : Reply) → AreAlike x y
      → is_seen looked_at (own_step image s (Some x)) ≡ is_seen looked_at (own_step image s (Some y))
  seen_alike x y (inl same) = ap (λ z. is_seen looked_at (own_step image s (Some z))) same
  seen_alike x y (inr (n, (k, (first, second)))) =
      ap (λ z. is_seen looked_at (own_step image s (Some z))) first
      ∙ ap (is_seen looked_at) (numbered n)
      ∙ left_seen looked_at c (after_instruction s f.insn n 0) (after_instruction s f.insn k 0)
      (instruction_seen looked_at s f.insn n k)
      ∙ sym (ap (is_seen looked_at) (numbered k))
      ∙ sym (ap (λ z. is_seen looked_at (own_step image s (Some z))) second)

-- A step of a set that is apart.
module _ (handled : Type 0) (named : ℕ → Type 0) (live asked : ℕ → ℕ → Type 0) (image : ImageValue)
    (tables : List TouchValue) (w : World) (set : List Step)
    (flow : TellsFlow image.profile image.program handled named live asked)
    (told : (us : List Step) → TellsHandlers handled (steps image w us))
    (tell : AreTouchTables named live image.profile image.program tables) (a : IsApartSet image tables w set)
    (t : Step) (c : Contains set t) (looked_at : List Bool) (words : List ℕ)
    (none : IsUnseen looked_at words image w t) where
  -- nobody sees it after schedules of others
  pub unseen_after : (us : List Step) → AreOutside set us
      → IsUnseenStep looked_at words image (steps image w us) t
  unseen_after us out =
      let m = a.members t c in
      let h : IsUnseenRequest looked_at words image w m.stream m.request = none m.stream m.request m.makes in
      let v : World = steps image w us in
      let f : IsRequestStep image v t m.stream (Some m.request) =
      asks_still handled named live asked image tables w set flow told tell a us out t c in
      record {
        quiet = record {
          before = ap (is_seen looked_at) (rest.here image v t m.stream (Some m.request) f) ∙ h.before;
          behind =
              ap (is_seen looked_at) (rest.own image v t m.stream (Some m.request) f)
              ∙ seen_alike looked_at image m.stream m.request f.request (answer v.memory m.request).1
              (answer w.memory m.request).1
              (replied_still handled named live asked image tables w set flow told tell a us out t c)
              ∙ h.behind;
        };
        others = λ u apart. rest.others image v t m.stream (Some m.request) f u apart;
        cells = λ k there.
            ap (λ x. cell_at x k)
            (memory_then handled named live asked image tables w set flow told tell a us out t c)
            ∙ same_word v.memory m.request k
            (unforwarded_still handled named live asked image tables w set flow told tell a us out t c) (h.apart k there);
      }

-- What its own instruction leaves of a stream.

ended_unseen : (looked_at : List Bool) (s : StreamValue) (o : Outcome) → is_seen looked_at s ≡ false
    → is_seen looked_at (ended_by o s) ≡ false
ended_unseen looked_at s outcome.Skipped none = none
ended_unseen looked_at s outcome.Done none = refl
ended_unseen looked_at s outcome.Blocked none = none
ended_unseen looked_at s (outcome.Trapped k) none = none
ended_unseen looked_at s (outcome.Stopped k) none = none

left_unseen : (looked_at : List Bool) (c : Control) (s : StreamValue) (o : Outcome) → is_seen looked_at s ≡ false
    → is_seen looked_at (left_by c (s, o)) ≡ false
left_unseen looked_at asks.Plain s o none = none
left_unseen looked_at (asks.Reserve m) s o none = none
left_unseen looked_at (asks.Create child) s o none = none
left_unseen looked_at asks.Quit s o none = ended_unseen looked_at s o none
left_unseen looked_at asks.QuitKeep s o none = ended_unseen looked_at s o none

-- it is not seen where what the row leaves is at no place that is looked at
pub own_unseen : (looked_at : List Bool) (image : ImageValue) (s new : StreamValue) (o : Outcome) (r : Option Reply)
    → (new, o) ≡ stream_row image.profile image.program image.retry_limit s 0 r
    → is_looked_at looked_at new.ssw.pc ≡ false → is_seen looked_at (own_step image s r) ≡ false
own_unseen looked_at image s new o r is none =
    ap (λ (e : StreamValue × Outcome). is_seen looked_at (left_by (control_at image.profile image.program s) e)) (sym is)
    ∙ left_unseen looked_at (control_at image.profile image.program s) new o (unseen looked_at new none)

-- A stream that makes a request asks for it.
asked_same : {q r : Request} → plan.Ask q ≡ plan.Ask r → q ≡ r
asked_same e = cc

pub asks_for : (image : ImageValue) (w : World) (t : Step) (s : StreamValue) (q r : Request)
    → IsRequestStep image w t s (Some q) → plan_of image.profile image.program s ≡ plan.Ask r → r ≡ q
unfolding plan_of
asks_for image w t s q r f e =
    asked_same
    (sym e ∙ ap (plan_from s) f.request.found ∙ ap plan_asking f.request.asked)
