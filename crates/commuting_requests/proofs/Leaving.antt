-- What a step leaves that executes an instruction and asks for no stream, by its stream and the reply alone.
use Rattle.std.proofs.Common.{◌≡◌, ◌≢◌, ℕ, ◌-◌, refl, sym, ap, ◌∙◌, subst, arith}
use Rattle.std.proofs.Common.{set, Option, Some, None}
use Rattle.std.proofs.lemmas.List.{set-set, set_comm}
use Rattle.insn_word.specs.declared.insn.Insn.{Insn}
use Rattle.tag_memory.specs.declared.requests.Request.{Request}
use Rattle.tag_memory.specs.declared.requests.Reply.{Reply}
use Rattle.tag_memory.specs.Storage.{TaggedMemory}
use Rattle.tag_memory.specs.Answer.{answer}
use Rattle.image_file.specs.ImageValue.{ImageValue}
use Rattle.stream_core.specs.Streams.{StreamValue, idle}
use Rattle.stream_core.specs.Effects.{request_of}
use Rattle.stream_core.specs.StreamRow.{plan_asking, plan_from, plan_of, control_of, control_from, control_at, row_asking}
use Rattle.stream_core.specs.declared.steps.Outcome.{Outcome}
use Rattle.stream_core.specs.declared.steps.Outcome.TheVariants as outcome
use Rattle.stream_core.specs.declared.steps.Fetch.{Fetch}
use Rattle.stream_core.specs.declared.steps.Fetch.TheVariants as fetch
use Rattle.stream_core.specs.declared.steps.Plan.TheVariants as plan
use Rattle.stream_core.specs.declared.steps.Control.{Control}
use Rattle.stream_core.specs.declared.steps.Control.TheVariants as asks
use Rattle.processor.specs.Processors.{ProcessorValue, stream_at}
use Rattle.processor.specs.Row.{image_fetch, grant_of, with_stream, after_control_if_done}
use Rattle.processor.specs.Row.{row_on_fetch, memory_reply, row_over_memory}
use Rattle.processor.proofs.Begun.{row_over_memory_begun}
use Rattle.local_steps.specs.NeverAsking.{AsksForNone, left_by}
use Rattle.local_steps.proofs.Apart.{finds}
use Rattle.commuting_requests.specs.RequestSteps.{IsRequestIn}

-- how many streams fewer are current, and reserved
abbrev gone : Outcome → ℕ → ℕ
gone outcome.Skipped n = 0
gone outcome.Done n = n
gone outcome.Blocked n = 0
gone (outcome.Trapped k) n = 0
gone (outcome.Stopped k) n = 0

abbrev current_of : Control → ℕ
current_of asks.Plain = 0
current_of (asks.Reserve n) = 0
current_of (asks.Create child) = 0
current_of asks.Quit = 1
current_of asks.QuitKeep = 1

abbrev reserved_of : Control → ℕ
reserved_of asks.Plain = 0
reserved_of (asks.Reserve n) = 0
reserved_of (asks.Create child) = 0
reserved_of asks.Quit = 1
reserved_of asks.QuitKeep = 0

-- the processor with what stream n left
abbrev pub put_left : ProcessorValue → ℕ → Control → StreamValue → Outcome → ProcessorValue
put_left proc n c y o = record {
  streams = set proc.streams n (left_by c (y, o));
  scur = proc.scur - gone o (current_of c);
  sres = proc.sres - gone o (reserved_of c);
}

less_none : (n : ℕ) → n ≡ n - 0
less_none n = omega arith

module _ (proc : ProcessorValue) (n : ℕ) (y : StreamValue) where
  same_put : with_stream proc n y ≡ record { streams = set proc.streams n y; scur = proc.scur - 0; sres = proc.sres - 0 }
  same_put = λ i. record { streams = set proc.streams n y; scur = less_none proc.scur i; sres = less_none proc.sres i }

  done_left : (c : Control) (o : Outcome) → AsksForNone c
      → after_control_if_done (with_stream proc n y) n 0 c o ≡ put_left proc n c y o
  done_left (asks.Reserve g) o none = absurd none
  done_left (asks.Create child) o none = absurd none
  done_left asks.Plain outcome.Skipped none = same_put
  done_left asks.Plain outcome.Done none = same_put
  done_left asks.Plain outcome.Blocked none = same_put
  done_left asks.Plain (outcome.Trapped k) none = same_put
  done_left asks.Plain (outcome.Stopped k) none = same_put
  done_left asks.Quit outcome.Skipped none = same_put
  done_left asks.Quit outcome.Done none =
      λ i. record { streams = set-set proc.streams n y idle i; scur = proc.scur - 1; sres = proc.sres - 1 }
  done_left asks.Quit outcome.Blocked none = same_put
  done_left asks.Quit (outcome.Trapped k) none = same_put
  done_left asks.Quit (outcome.Stopped k) none = same_put
  done_left asks.QuitKeep outcome.Skipped none = same_put
  done_left asks.QuitKeep outcome.Done none =
      λ i. record { streams = set-set proc.streams n y idle i; scur = proc.scur - 1; sres = less_none proc.sres i }
  done_left asks.QuitKeep outcome.Blocked none = same_put
  done_left asks.QuitKeep (outcome.Trapped k) none = same_put
  done_left asks.QuitKeep (outcome.Stopped k) none = same_put

grants_none : (image : ImageValue) (proc : ProcessorValue) (c : Control) → AsksForNone c → grant_of image proc c ≡ 0
grants_none image proc asks.Plain none = refl
grants_none image proc (asks.Reserve n) none = absurd none
grants_none image proc (asks.Create child) none = absurd none
grants_none image proc asks.Quit none = refl
grants_none image proc asks.QuitKeep none = refl

-- the stream after its instruction and this reply, and the outcome
abbrev pub left_after : ImageValue → StreamValue → Insn → Option Reply → StreamValue × Outcome
left_after image s i r = row_asking image.retry_limit s i 0 r (request_of s i)

-- the processor with what stream n left, which found instruction i and got this reply
abbrev pub into : ImageValue → ℕ → StreamValue → Insn → Option Reply → ProcessorValue → ProcessorValue
into image n s i r proc =
    put_left proc n (control_of s i) (left_after image s i r).0 (left_after image s i r).1

row_left : (image : ImageValue) (proc : ProcessorValue) (n : ℕ) (s : StreamValue) (i : Insn) (r : Option Reply)
    → AsksForNone (control_of s i)
    → row_on_fetch image proc n r s (fetch.Instruction i) ≡ (into image n s i r proc, (left_after image s i r).1)
row_left image proc n s i r none =
    let c = control_of s i in
    let left = left_after image s i r in
    ap
    (λ g. (let e = row_asking image.retry_limit s i g r (request_of s i) in
    (after_control_if_done (with_stream proc n e.0) n g c e.1, e.1)))
    (grants_none image proc c none)
    ∙ ap (λ p. (p, left.1)) (done_left proc n left.0 c left.1 none)

pub over_left : (image : ImageValue) (proc : ProcessorValue) (n : ℕ) (s : StreamValue) (q : Option Request)
    (m : TaggedMemory) → stream_at proc.streams n ≡ s → (a : IsRequestIn image s q)
    → row_over_memory image proc n m
    ≡ ((into image n s a.insn (memory_reply m q).1 proc, (left_after image s a.insn (memory_reply m q).1).1), (memory_reply m q).0)
unfolding control_at
over_left image proc n s q m same a =
    let e = memory_reply m q in
    sym (row_over_memory_begun image proc n m e.0 (fetch.Instruction a.insn) e.1
    (finds image proc n s same (subst (λ f. AsksForNone (control_from s f)) (sym a.found) a.none) ∙ a.found)
    (ap (memory_reply m) (sym (ap (λ y. request_of y a.insn) same ∙ a.asked))))
    ∙ ap (λ z. (z, e.0))
    (ap (λ y. row_on_fetch image proc n e.1 y (fetch.Instruction a.insn)) same
    ∙ row_left image proc n s a.insn e.1 a.none)

less_both : (n a b : ℕ) → n - a - b ≡ n - b - a
less_both n a b = omega arith

-- what two streams left
pub put_both : (proc : ProcessorValue) (n k : ℕ) (c d : Control) (y z : StreamValue) (o p : Outcome) → n ≢ k
    → put_left (put_left proc n c y o) k d z p ≡ put_left (put_left proc k d z p) n c y o
put_both proc n k c d y z o p apart = λ i. record {
  streams = set_comm proc.streams n k (left_by c (y, o)) (left_by d (z, p)) apart i;
  scur = less_both proc.scur (gone o (current_of c)) (gone p (current_of d)) i;
  sres = less_both proc.sres (gone o (reserved_of c)) (gone p (reserved_of d)) i;
}
