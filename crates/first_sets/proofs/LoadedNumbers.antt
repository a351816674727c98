-- Streams that a step leaves with another number loaded, which nobody reads, agree.
use Rattle.std.proofs.Common.{◌≡◌, ◌≢◌, ℕ, ◌==◌, ◌⊎◌, inl, inr, Bool, true, false, refl, sym, ap, ◌∙◌, subst}
use Rattle.std.proofs.Common.{if◌then◌else◌, List, length, set, Option, Some}
use Rattle.std.proofs.lemmas.List.{length-set, get_or-set_other}
use Rattle.insn_word.specs.Words.{memory_destination, arithmetic_destination, control_destination}
use Rattle.insn_word.specs.declared.operations.WideOp.TheVariants as wide
use Rattle.insn_word.specs.declared.insn.Insn.{Insn}
use Rattle.insn_word.specs.declared.insn.Insn.TheVariants.{Wide, Normal}
use Rattle.tag_memory.specs.declared.requests.Request.{Request}
use Rattle.tag_memory.specs.declared.requests.Reply.{Reply}
use Rattle.tag_memory.specs.declared.requests.Reply.TheVariants as reply
use Rattle.image_file.specs.ImageValue.{ImageValue}
use Rattle.stream_core.specs.Registers.{register_at, with_register}
use Rattle.stream_core.specs.Streams.{StreamValue, idle}
use Rattle.stream_core.specs.Effects.{arithmetic_value, control_value, request_of, after_wide, after_parts, after_instruction}
use Rattle.stream_core.specs.StreamRow.{fetch_of, fetch_if, control_of, row_asking}
use Rattle.stream_core.specs.declared.steps.Status.{Status}
use Rattle.stream_core.specs.declared.steps.Status.TheVariants.{Idle, Running, Stopped}
use Rattle.stream_core.specs.declared.steps.Outcome.TheVariants as outcome
use Rattle.stream_core.specs.declared.steps.Fetch.TheVariants as fetch
use Rattle.stream_core.specs.declared.steps.Control.{Control}
use Rattle.stream_core.specs.declared.steps.Control.TheVariants as asks
use Rattle.processor.specs.Processors.{is_idle, is_idle_status}
use Rattle.program_flow.specs.Flow.{EndsStream, GoesTo, Matters}
use Rattle.program_flow.specs.Agreeing.{StreamsAgree}
use Rattle.program_flow.proofs.Agreed.{agree_itself}
use Rattle.program_flow.proofs.Asked.{same_itself}
use Rattle.program_flow.proofs.Kept.{goes_on}
use Rattle.program_flow.proofs.Writes.{Same, same_or_other, sizes_with, kept_with}
use Rattle.local_steps.specs.NeverAsking.{AsksForNone, left_by}
use Rattle.commuting_requests.proofs.Leaving.{left_after}
use Rattle.tag_memory.specs.Adds.{AreAlike}
use Rattle.first_sets.specs.UnreadLoads.{IsUnread}

size_with : (rs : List ℕ) (d v : ℕ) → length (with_register rs d v) ≡ length rs
size_with rs d v = by (d == 0) where
  by : (b : Bool) → length (if b then rs else set rs d v) ≡ length rs
  by true = refl
  by false = length-set rs d v

other_with : (rs : List ℕ) (d v r : ℕ) → r ≢ d → register_at (with_register rs d v) r ≡ register_at rs r
other_with rs d v r apart = by (d == 0) where
  by : (b : Bool) → register_at (if b then rs else set rs d v) r ≡ register_at rs r
  by true = refl
  by false = get_or-set_other rs d r v 0 apart

status_kept : (s : StreamValue) (i : Insn) (n : ℕ) → (after_instruction s i n 0).status ≡ s.status
unfolding after_instruction
status_kept s (Wide look wide.Literal reg imm) n = refl
status_kept s (Wide look wide.LiteralHigh reg imm) n = refl
status_kept s (Wide look wide.TargetLiteral reg imm) n = refl
status_kept s (Normal look m a c) n = refl

pub runs_of : (image : ImageValue) (s : StreamValue) (i : Insn)
    → fetch_of image.profile image.program s ≡ fetch.Instruction i → s.status ≡ Running
unfolding fetch_of
runs_of image s i found = by s.status refl where
  by : (st : Status) → s.status ≡ st → st ≡ Running
  by Running e = refl
  by Idle e =
      let none : fetch.Rest ≡ fetch.Instruction i =
      sym (ap (λ x. fetch_if image.profile x image.program s.ssw.pc) e) ∙ found in
      cc
  by (Stopped k) e =
      let none : fetch.Rest ≡ fetch.Instruction i =
      sym (ap (λ x. fetch_if image.profile x image.program s.ssw.pc) e) ∙ found in
      cc

module _ (named : ℕ → Type 0) (live asked : ℕ → ℕ → Type 0) where
  -- the same instruction with two numbers
  numbers_agree : (s : StreamValue) (i : Insn) (n k : ℕ) → IsUnread named live i s.ssw.pc
      → GoesTo i s.ssw.pc (after_instruction s i n 0).ssw.pc
      → StreamsAgree named live asked (after_instruction s i n 0) (after_instruction s i k 0)
  unfolding after_instruction
  numbers_agree s (Wide look op reg imm) n k unread goes = agree_itself named live asked (after_wide s op reg imm)
  numbers_agree s (Normal look m a c) n k unread goes = record {
    rest = refl;
    sizes = sizes_with once again once_sizes second (control_value s c c.op 0);
    each = each;
    codes = same_itself (asked (after_parts s m a c n 0).ssw.pc) (after_parts s m a c n 0).ssw.codes;
  }
    where
      d : ℕ
      d = memory_destination m.op m.rd

      first : ℕ
      first = arithmetic_destination a.op a.rd

      second : ℕ
      second = control_destination c.op c.rd

      loads : length (with_register s.registers d k) ≡ length (with_register s.registers d n)
      loads = size_with s.registers d k ∙ sym (size_with s.registers d n)

      once : List ℕ
      once = with_register (with_register s.registers d k) first (arithmetic_value s a)

      again : List ℕ
      again = with_register (with_register s.registers d n) first (arithmetic_value s a)

      once_sizes : length once ≡ length again
      once_sizes = sizes_with (with_register s.registers d k) (with_register s.registers d n) loads first (arithmetic_value s a)

      each : (r : ℕ) → Matters named live (after_parts s m a c n 0) r
          → Same (with_register once second (control_value s c c.op 0)) (with_register again second (control_value s c c.op 0)) r
      each r matters = by_register (same_or_other r d) matters where
        by_register : (r ≡ d) ⊎ (r ≢ d) → Matters named live (after_parts s m a c n 0) r
            → Same (with_register once second (control_value s c c.op 0)) (with_register again second (control_value s c c.op 0)) r
        by_register (inl same) (inl name) = absurd (unread.unnamed (subst named same name))
        by_register (inl same) (inr lives) =
            absurd (unread.dead (after_parts s m a c n 0).ssw.pc goes (subst (live (after_parts s m a c n 0).ssw.pc) same lives.1))
        by_register (inr apart) m =
            kept_with once again once_sizes second (control_value s c c.op 0) r
            (kept_with (with_register s.registers d k) (with_register s.registers d n) loads first (arithmetic_value s a) r
            (other_with s.registers d k r apart ∙ sym (other_with s.registers d n r apart)))

  -- What a stream's instruction leaves after two replies: the outcome is the same, and so is the stream, or both agree.
  pub record AreLeftAlike (image : ImageValue) (s : StreamValue) (i : Insn) (x y : Option Reply) : Type 0 where
    pub outcome : (left_after image s i y).1 ≡ (left_after image s i x).1
    pub stream : (left_by (control_of s i) (left_after image s i y) ≡ left_by (control_of s i) (left_after image s i x))
        ⊎ ((is_idle (left_by (control_of s i) (left_after image s i x)) ≡ false)
        × StreamsAgree named live asked (left_by (control_of s i) (left_after image s i x))
        (left_by (control_of s i) (left_after image s i y)))

  -- whether an instruction that asks so ends its stream
  ends_or_not : (c : Control) → AsksForNone c
      → ((s : StreamValue) → left_by c (s, outcome.Done) ≡ idle)
      ⊎ ((¬ (EndsStream c)) × ((s : StreamValue) → left_by c (s, outcome.Done) ≡ s))
  ends_or_not asks.Plain none = inr ((λ e. e), λ s. refl)
  ends_or_not (asks.Reserve n) none = absurd none
  ends_or_not (asks.Create child) none = absurd none
  ends_or_not asks.Quit none = inl (λ s. refl)
  ends_or_not asks.QuitKeep none = inl (λ s. refl)

  module _ (image : ImageValue) (s : StreamValue) (i : Insn) (q : Request)
      (found : fetch_of image.profile image.program s ≡ fetch.Instruction i) (asks_for : request_of s i ≡ Some q)
      (none : AsksForNone (control_of s i)) (unread : IsUnread named live i s.ssw.pc) where
    abbrev put : Option Reply → StreamValue
    put x = left_by (control_of s i) (left_after image s i x)

    done : (n : ℕ) → left_after image s i (Some (reply.Done n)) ≡ (after_instruction s i n 0, outcome.Done)
    done n = ap (λ o. row_asking image.retry_limit s i 0 (Some (reply.Done n)) o) asks_for

    two_numbers : (n k : ℕ) → AreLeftAlike image s i (Some (reply.Done n)) (Some (reply.Done k))
    two_numbers n k = record {
      outcome = ap (λ e. e.1) (done k) ∙ sym (ap (λ e. e.1) (done n));
      stream = by (ends_or_not (control_of s i) none) (goes_on s i n 0);
    }
      where
        put_is : (v : ℕ) → put (Some (reply.Done v)) ≡ left_by (control_of s i) (after_instruction s i v 0, outcome.Done)
        put_is v = ap (left_by (control_of s i)) (done v)

        by : ((x : StreamValue) → left_by (control_of s i) (x, outcome.Done) ≡ idle)
            ⊎ ((¬ (EndsStream (control_of s i))) × ((x : StreamValue) → left_by (control_of s i) (x, outcome.Done) ≡ x))
            → EndsStream (control_of s i) ⊎ GoesTo i s.ssw.pc (after_instruction s i n 0).ssw.pc
            → (put (Some (reply.Done k)) ≡ put (Some (reply.Done n)))
            ⊎ ((is_idle (put (Some (reply.Done n))) ≡ false)
            × StreamsAgree named live asked (put (Some (reply.Done n))) (put (Some (reply.Done k))))
        by (inl ends) g =
            inl (put_is k ∙ ends (after_instruction s i k 0) ∙ sym (put_is n ∙ ends (after_instruction s i n 0)))
        by (inr stays) (inl ends) = absurd (stays.0 ends)
        by (inr stays) (inr goes) =
            let first = put_is n ∙ stays.1 (after_instruction s i n 0) in
            let second = put_is k ∙ stays.1 (after_instruction s i k 0) in
            inr (
              ap is_idle first ∙ ap is_idle_status (status_kept s i n ∙ runs_of image s i found),
              subst (λ x. StreamsAgree named live asked x (put (Some (reply.Done k)))) (sym first)
                  (subst (StreamsAgree named live asked (after_instruction s i n 0)) (sym second)
                  (numbers_agree s i n k unread goes)),
            )

    pub left_alike : (x y : Reply) → AreAlike x y → AreLeftAlike image s i (Some x) (Some y)
    left_alike x y (inl same) = record {
      outcome = ap (λ z. (left_after image s i (Some z)).1) (sym same);
      stream = inl (ap (λ z. put (Some z)) (sym same));
    }
    left_alike x y (inr (n, (k, (first, second)))) =
        subst (λ z. AreLeftAlike image s i (Some z) (Some y)) (sym first)
        (subst (λ z. AreLeftAlike image s i (Some (reply.Done n)) (Some z)) (sym second) (two_numbers n k))
