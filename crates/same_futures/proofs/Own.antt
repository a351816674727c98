-- The step of the stream that differs.
use Rattle.std.proofs.Common.{◌≡◌, ◌≢◌, ℕ, ◌+◌, ◌-◌, ◌<◌, ◌⊎◌, inl, inr, Bool, true, false, refl, sym, ap, ◌∙◌, arith, subst}
use Rattle.std.proofs.Common.{if◌then◌else◌, length, set, Option, Some}
use Rattle.std.proofs.lemmas.List.{length-set, get_or-set_same, get_or-set_other, set_comm, set-set}
use Rattle.std.proofs.lemmas.List.Folds.{position_or_len-set}
use Rattle.std.proofs.lemmas.Option.{slice_get-get_or}
use Rattle.insn_word.specs.declared.operations.MemoryOp.{MemoryOp}
use Rattle.insn_word.specs.declared.operations.MemoryOp.TheVariants as memory
use Rattle.insn_word.specs.declared.operations.ControlOp.{ControlOp}
use Rattle.insn_word.specs.declared.operations.ControlOp.TheVariants as control
use Rattle.insn_word.specs.declared.insn.CPart.{CPart}
use Rattle.insn_word.specs.declared.insn.Insn.{Insn}
use Rattle.insn_word.specs.declared.insn.Insn.TheVariants.{Wide, Normal}
use Rattle.tag_memory.specs.declared.requests.Reply.{Reply}
use Rattle.tag_memory.specs.Storage.{TaggedMemory}
use Rattle.image_file.specs.ImageValue.{ImageValue}
use Rattle.stream_core.specs.Streams.{StreamValue, idle, cannot_trap, after_trap}
use Rattle.stream_core.specs.Children.{child_stream}
use Rattle.stream_core.specs.Effects.{request_of}
use Rattle.stream_core.specs.StreamRow.{fetch_of, control_by, control_of, control_from, row_from}
use Rattle.stream_core.specs.declared.traps.TrapKind.TheVariants as kind
use Rattle.stream_core.specs.declared.steps.Status.TheVariants.{Running}
use Rattle.stream_core.specs.declared.steps.Outcome.{Outcome}
use Rattle.stream_core.specs.declared.steps.Outcome.TheVariants as outcome
use Rattle.stream_core.specs.declared.steps.Fetch.{Fetch}
use Rattle.stream_core.specs.declared.steps.Fetch.TheVariants as fetch
use Rattle.stream_core.specs.declared.steps.Control.{Control}
use Rattle.stream_core.specs.declared.steps.Control.TheVariants as asks
use Rattle.processor.specs.Processors.{ProcessorValue, is_idle, stream_at}
use Rattle.processor.specs.Row.{lacks_stream, image_fetch, step_fetch_from, step_fetch, step_fetch_at, step_fetch_of}
use Rattle.processor.specs.Row.{request_on_fetch, next_asking, next_on_fetch, next_of, grant_of, with_stream, lowest_idle, after_control}
use Rattle.processor.specs.Row.{after_control_if_done, row_on_fetch, memory_reply, row_over_memory}
use Rattle.processor.proofs.Begun.{next_begun, row_over_memory_begun}
use Rattle.processor.proofs.Awake.{awake-trapped, awake-row_asking}
use Rattle.local_steps.proofs.Beside.{never_first, lacks_same, grant_same, over_memory_beside}
use Rattle.local_steps.proofs.Commuting.{kept_stream}
use Rattle.processor.proofs.OtherStreams.{kept_row_over_memory}
use Rattle.program_flow.specs.Flow.{MayTrap, MayTrapWith, EndsStream, IsClosedAt}
use Rattle.program_flow.specs.Codes.{HasCodesAt}
use Rattle.program_flow.specs.Agreeing.{StreamsAgree}
use Rattle.program_flow.proofs.Agreed.{request_agrees, control_agrees, row_agrees}
use Rattle.same_futures.specs.Links.{HasOtherStream}

-- A CREATE that finds no stream may trap.

lacks_by : (proc : ProcessorValue) (s : StreamValue) (c : CPart) (m : MemoryOp) (o : ControlOp)
    → lacks_stream proc (control_by s c o) ≡ true → MayTrapWith m o
lacks_by proc s c memory.Nop control.Create e = tt
lacks_by proc s c m control.Create e = by m where
  by : (n : MemoryOp) → MayTrapWith n control.Create
  by memory.Nop = tt
  by n = tt
lacks_by proc s c m o e = cc

lacks_may_trap : (proc : ProcessorValue) (s : StreamValue) (i : Insn) → lacks_stream proc (control_of s i) ≡ true
    → MayTrap (fetch.Instruction i)
unfolding control_of
lacks_may_trap proc s (Wide look o reg imm) e = cc
lacks_may_trap proc s (Normal look m a c) e = lacks_by proc s c m.op c.op e

-- what may be read and asked for from a place on is told there
abbrev pub Told : Type 0 → (ℕ → ℕ → Type 0) → (ℕ → ℕ → Type 0) → ℕ → Fetch → Type 0
Told handled live asked pc f = IsClosedAt handled live pc f × HasCodesAt handled asked pc f

told_begun : (handled : Type 0) (live asked : ℕ → ℕ → Type 0) (pc : ℕ) (proc : ProcessorValue) (s : StreamValue) (f : Fetch)
    → Told handled live asked pc f → Told handled live asked pc (step_fetch_from proc s f)
told_begun handled live asked pc proc s fetch.Rest told = told
told_begun handled live asked pc proc s (fetch.Trap k) told = told
told_begun handled live asked pc proc s (fetch.Instruction i) told = by (lacks_stream proc (control_of s i)) refl where
  by : (b : Bool) → lacks_stream proc (control_of s i) ≡ b
      → Told handled live asked pc (if b then fetch.Trap kind.Create else fetch.Instruction i)
  by true e = (
    record {
      reads = tt;
      goes = λ j is to r g l. (let none : fetch.Trap kind.Create ≡ fetch.Instruction j = is in absurd (cc));
      traps = λ m h r. told.0.traps (lacks_may_trap proc s i e) h r;
    },
    record {
      asks = tt;
      goes = λ j is to c below g l. (let none : fetch.Trap kind.Create ≡ fetch.Instruction j = is in absurd (cc));
      traps = λ m h c. told.1.traps (lacks_may_trap proc s i e) h c;
    },
  )
  by false e = told

-- What the control operation leaves where another stream stands in place k.

pub ended_own : (proc : ProcessorValue) (k g : ℕ) (y : StreamValue) (c : Control) → EndsStream c
    → after_control (with_stream proc k y) k g c ≡ after_control proc k g c
ended_own proc k g y asks.Plain none = absurd none
ended_own proc k g y (asks.Reserve n) none = absurd none
ended_own proc k g y (asks.Create child) none = absurd none
ended_own proc k g y asks.Quit e =
    ap (λ ss. record { streams = ss; scur = proc.scur - 1; sres = proc.sres - 1 }) (set-set proc.streams k y idle)
ended_own proc k g y asks.QuitKeep e =
    ap (λ ss. record { streams = ss; scur = proc.scur - 1; sres = proc.sres }) (set-set proc.streams k y idle)

pub record Follows (k : ℕ) (y : StreamValue) (old from to : ProcessorValue) : Type 0 where
  pub is : to ≡ with_stream from k y
  pub stays : stream_at from.streams k ≡ stream_at old.streams k
  pub as_many : length from.streams ≡ length old.streams

control_own : (proc : ProcessorValue) (k g : ℕ) (y : StreamValue) (c : Control)
    → is_idle (stream_at proc.streams k) ≡ false → is_idle y ≡ false
    → (after_control (with_stream proc k y) k g c ≡ after_control proc k g c)
    ⊎ Follows k y proc (after_control proc k g c) (after_control (with_stream proc k y) k g c)
control_own proc k g y asks.Plain here new = inr (record { is = refl; stays = refl; as_many = refl })
control_own proc k g y (asks.Reserve n) here new = inr (record { is = refl; stays = refl; as_many = refl })
control_own proc k g y (asks.Create child) here new =
    inr (record {
      is = λ i. record { streams = both i; scur = proc.scur + 1; sres = proc.sres };
      stays = get_or-set_other proc.streams j k (child_stream child) idle apart;
      as_many = length-set proc.streams j (child_stream child);
    })
  where
    j : ℕ
    j = lowest_idle proc

    apart : k ≢ j
    apart = never_first proc.streams k here

    lowest : lowest_idle (with_stream proc k y) ≡ j
    lowest = position_or_len-set is_idle proc.streams k y idle (new ∙ sym here)

    both : set (set proc.streams k y) (lowest_idle (with_stream proc k y)) (child_stream child)
        ≡ set (set proc.streams j (child_stream child)) k y
    both =
        ap (λ n. set (set proc.streams k y) n (child_stream child)) lowest
        ∙ set_comm proc.streams k j y (child_stream child) apart
control_own proc k g y asks.Quit here new = inl (ended_own proc k g y asks.Quit tt)
control_own proc k g y asks.QuitKeep here new = inl (ended_own proc k g y asks.QuitKeep tt)

done_own : (proc : ProcessorValue) (k g : ℕ) (y : StreamValue) (c : Control) (o : Outcome)
    → is_idle (stream_at proc.streams k) ≡ false → is_idle y ≡ false
    → (after_control_if_done (with_stream proc k y) k g c o ≡ after_control_if_done proc k g c o)
    ⊎ Follows k y proc (after_control_if_done proc k g c o) (after_control_if_done (with_stream proc k y) k g c o)
done_own proc k g y c outcome.Done here new = control_own proc k g y c here new
done_own proc k g y c o here new = inr (record { is = refl; stays = refl; as_many = refl })

plain_own : (proc : ProcessorValue) (k : ℕ) (o : Outcome) → after_control_if_done proc k 0 asks.Plain o ≡ proc
plain_own proc k outcome.Done = refl
plain_own proc k o = refl

module _ (image : ImageValue) (handled : Type 0) (named : ℕ → Type 0) (live asked : ℕ → ℕ → Type 0) (proc : ProcessorValue)
    (k : ℕ) (within : k < length proc.streams) (here : is_idle (stream_at proc.streams k) ≡ false) (x : StreamValue)
    (agree : StreamsAgree named live asked (stream_at proc.streams k) x) where
  abbrev s : StreamValue
  s = stream_at proc.streams k

  abbrev px : ProcessorValue
  px = with_stream proc k x

  up_too : is_idle x ≡ false
  up_too = ap is_idle agree.rest ∙ here

  -- streams put in place, and what the control operation then does
  own_put : (e : StreamValue × Outcome) (g : ℕ) (c : Control) (y : StreamValue) → is_idle e.0 ≡ false
      → ((e.1 ≡ outcome.Done) × EndsStream c) ⊎ StreamsAgree named live asked e.0 y
      → (after_control_if_done (with_stream px k y) k g c e.1 ≡ after_control_if_done (with_stream proc k e.0) k g c e.1)
      ⊎ HasOtherStream named live asked k (after_control_if_done (with_stream proc k e.0) k g c e.1)
      (after_control_if_done (with_stream px k y) k g c e.1)
  own_put e g c y up kept = by_kept kept where
    one : ProcessorValue
    one = with_stream proc k e.0

    got : stream_at one.streams k ≡ e.0
    got = get_or-set_same proc.streams k e.0 idle within

    again : with_stream px k y ≡ with_stream one k y
    again =
        ap (λ ss. record { streams = ss; scur = proc.scur; sres = proc.sres })
        (set-set proc.streams k x y ∙ sym (set-set proc.streams k e.0 y))

    A : ProcessorValue
    A = after_control_if_done one k g c e.1

    B : ProcessorValue
    B = after_control_if_done (with_stream px k y) k g c e.1

    by_kept : ((e.1 ≡ outcome.Done) × EndsStream c) ⊎ StreamsAgree named live asked e.0 y
        → (B ≡ A) ⊎ HasOtherStream named live asked k A B
    by_kept (inl ends) = inl (
        ap (λ q. after_control_if_done q k g c e.1) again
        ∙ ap (after_control_if_done (with_stream one k y) k g c) ends.0
        ∙ ended_own one k g y c ends.1
        ∙ sym (ap (after_control_if_done one k g c) ends.0)
        )
    by_kept (inr same) = elim (done_own one k g y c e.1 (ap is_idle got ∙ up) (ap is_idle same.rest ∙ up)) [
      | inl one_left ↦ inl (ap (λ q. after_control_if_done q k g c e.1) again ∙ one_left)
      | inr f ↦ inr (
          let held : stream_at A.streams k ≡ e.0 = f.stays ∙ got in
          record {
            within = omega (arith, within, f.as_many, length-set proc.streams k e.0);
            awake = ap is_idle held ∙ up;
            stream = y;
            agrees = subst (λ (z : StreamValue). StreamsAgree named live asked z y) (sym held) same;
            is = ap (λ q. after_control_if_done q k g c e.1) again ∙ f.is;
          }
          )
    ]

  -- the processors are one, or differ so
  abbrev Near : ProcessorValue → ProcessorValue → Type 0
  Near from to = (to ≡ from) ⊎ HasOtherStream named live asked k from to

  -- Steps come out the same, and leave one memory and such processors.
  abbrev pub Close : (ProcessorValue × Outcome) × TaggedMemory → (ProcessorValue × Outcome) × TaggedMemory → Type 0
  Close e z = (z.0.1 ≡ e.0.1) × ((z.1 ≡ e.1) × Near e.0.0 z.0.0)

  module _ (runs : s.status ≡ Running) (names : (r : ℕ) → named r → live s.ssw.pc r) (zero : live s.ssw.pc 0)
      (handler : cannot_trap s ≡ false → handled) (told : Told handled live asked s.ssw.pc (image_fetch image s)) where
    -- what a step leaves of the stream
    kept : (g : ℕ) (r : Option Reply) (f : Fetch) → Told handled live asked s.ssw.pc f
        → ((row_from image.retry_limit x g r f).1 ≡ (row_from image.retry_limit s g r f).1)
        × ((((row_from image.retry_limit s g r f).1 ≡ outcome.Done) × EndsStream (control_from s f))
        ⊎ StreamsAgree named live asked (row_from image.retry_limit s g r f).0 (row_from image.retry_limit x g r f).0)
    kept g r f c =
        row_agrees handled named live asked s x agree runs names zero handler image.retry_limit g r f c.0 c.1

    own_fetch : (r : Option Reply) (f : Fetch) → Told handled live asked s.ssw.pc f
        → ((row_on_fetch image px k r x f).1 ≡ (row_on_fetch image proc k r s f).1)
        × Near (row_on_fetch image proc k r s f).0 (row_on_fetch image px k r x f).0
    own_fetch r fetch.Rest c = (
      refl,
      inr (record {
        within = within;
        awake = here;
        stream = x;
        agrees = agree;
        is = refl;
      }),
    )
    own_fetch r (fetch.Trap kd) c =
        let e : StreamValue × Outcome = after_trap kd 0 s in
        let z : StreamValue × Outcome = after_trap kd 0 x in
        let leaves = kept 0 r (fetch.Trap kd) c in
        let near = own_put e 0 asks.Plain z.0 (awake-trapped kd 0 s here) leaves.1 in (
          leaves.0,
          subst (λ q. Near q (with_stream px k z.0)) (plain_own (with_stream proc k e.0) k e.1)
              (subst (λ q. Near (after_control_if_done (with_stream proc k e.0) k 0 asks.Plain e.1) q)
              (plain_own (with_stream px k z.0) k e.1) near),
        )
    own_fetch r (fetch.Instruction i) c =
        let f = fetch.Instruction i in
        let a = control_of s i in
        let g = grant_of image proc a in
        let e : StreamValue × Outcome = row_from image.retry_limit s g r f in
        let z : StreamValue × Outcome = row_from image.retry_limit x g r f in
        let leaves = kept g r f c in
        let by : Control → ℕ → ProcessorValue × Outcome =
        λ b h. (let y = row_from image.retry_limit x h r f in
        (after_control_if_done (with_stream px k y.0) k h b y.1, y.1)) in
        let is : row_on_fetch image px k r x f ≡ (after_control_if_done (with_stream px k z.0) k g a e.1, e.1) =
        ap (λ b. by b (grant_of image px b)) (control_agrees handled named live asked s x agree runs i c.0)
        ∙ ap (by a) (grant_same image proc k x a)
        ∙ ap (λ o. (after_control_if_done (with_stream px k z.0) k g a o, o)) leaves.0 in (
          ap (λ (y : ProcessorValue × Outcome). y.1) is,
          subst (λ (y : ProcessorValue × Outcome). Near (after_control_if_done (with_stream proc k e.0) k g a e.1) y.0) (sym is)
              (own_put e g a z.0 (awake-row_asking image.retry_limit s i g r (request_of s i) here) leaves.1),
        )

    fetch_moved : (f : Fetch) → Told handled live asked s.ssw.pc f → step_fetch_from px x f ≡ step_fetch_from proc s f
    fetch_moved fetch.Rest c = refl
    fetch_moved (fetch.Trap kd) c = refl
    fetch_moved (fetch.Instruction i) c =
        ap (λ b. if b then fetch.Trap kind.Create else fetch.Instruction i)
        (lacks_same proc k x (control_of x i)
        ∙ ap (lacks_stream proc) (control_agrees handled named live asked s x agree runs i c.0))

    request_moved : (f : Fetch) → Told handled live asked s.ssw.pc f → request_on_fetch x f ≡ request_on_fetch s f
    request_moved fetch.Rest c = refl
    request_moved (fetch.Trap kd) c = refl
    request_moved (fetch.Instruction i) c = request_agrees handled named live asked s x agree runs i c.0

    abbrev f : Fetch
    f = step_fetch_from proc s (image_fetch image s)

    f_told : Told handled live asked s.ssw.pc f
    f_told = told_begun handled live asked s.ssw.pc proc s (image_fetch image s) told

    begins_s : step_fetch_of image proc k ≡ f
    unfolding step_fetch_of step_fetch fetch_of
    begins_s = ap (step_fetch_at image proc) (slice_get-get_or proc.streams k idle within)

    got : stream_at px.streams k ≡ x
    got = get_or-set_same proc.streams k x idle within

    fetched : image_fetch image x ≡ image_fetch image s
    unfolding fetch_of
    fetched = ap (image_fetch image) agree.rest

    begins_x : step_fetch_of image px k ≡ f
    unfolding step_fetch_of step_fetch fetch_of
    begins_x =
        ap (step_fetch_at image px)
        (slice_get-get_or px.streams k idle (omega (arith, within, length-set proc.streams k x)) ∙ ap Some got)
        ∙ ap (step_fetch_from px x) fetched
        ∙ fetch_moved (image_fetch image s) told

    pub own_close : (m : TaggedMemory) → Close (row_over_memory image proc k m) (row_over_memory image px k m)
    own_close m =
        let e = memory_reply m (request_on_fetch s f) in
        let same : request_on_fetch s f ≡ request_on_fetch (stream_at px.streams k) f =
        sym (request_moved f f_told) ∙ ap (λ z. request_on_fetch z f) (sym got) in
        let left_s : (row_on_fetch image proc k e.1 s f, e.0) ≡ row_over_memory image proc k m =
        row_over_memory_begun image proc k m e.0 f e.1 begins_s refl in
        let left_x : (row_on_fetch image px k e.1 x f, e.0) ≡ row_over_memory image px k m =
        ap (λ z. (row_on_fetch image px k e.1 z f, e.0)) (sym got)
        ∙ row_over_memory_begun image px k m e.0 f e.1 begins_x (ap (memory_reply m) same) in
        let own = own_fetch e.1 f f_told in
        subst (λ v. Close (row_over_memory image proc k m) v) left_x
        (subst (λ v. Close v (row_on_fetch image px k e.1 x f, e.0)) left_s (own.0, (refl, own.1)))

    next_moved : (h : Fetch) → Told handled live asked s.ssw.pc h → next_on_fetch x h ≡ next_on_fetch s h
    next_moved fetch.Rest c = refl
    next_moved (fetch.Trap kd) c = refl
    next_moved (fetch.Instruction i) c = ap next_asking (request_agrees handled named live asked s x agree runs i c.0)

    -- its step needs the same
    pub own_next : next_of image px k ≡ next_of image proc k
    own_next =
        sym (next_begun image px k f begins_x)
        ∙ ap (λ z. next_on_fetch z f) got
        ∙ next_moved f f_told
        ∙ next_begun image proc k f begins_s

  -- a step of another stream of the processor
  pub beside_close : (n : ℕ) → n ≢ k → (m : TaggedMemory)
      → Close (row_over_memory image proc n m) (row_over_memory image px n m)
  beside_close n apart m =
      let e = row_over_memory image proc n m in
      let held : stream_at e.0.0.streams k ≡ s = kept_stream image proc k n m (λ q. apart (sym q)) here in
      subst (λ v. Close e v) (sym (over_memory_beside proc k n x apart here up_too image m)) (
        refl,
        (
          refl,
          inr (record {
            within = omega (arith, within, (kept_row_over_memory image proc n m).as_many);
            awake = ap is_idle held ∙ here;
            stream = x;
            agrees = subst (λ (z : StreamValue). StreamsAgree named live asked z x) (sym held) agree;
            is = refl;
          }),
        ),
      )
