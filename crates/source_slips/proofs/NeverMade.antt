-- Where a table of codes is closed, each running stream of each world that a schedule leads to has made no more codes than
-- the table says of its place.
use Rattle.std.proofs.Common.{◌≡◌, ◌≢◌, ℕ, zero, suc, ◌<◌, ◌≤◌, ◌⊎◌, inl, inr, Bool, true, false, refl, sym, ap}
use Rattle.std.proofs.Common.{◌∙◌, subst, if◌then◌else◌, List, [], ◌∷◌, map, length, set, replicate, Option, Some, None, slice_get, unwrap_or}
use Rattle.std.specs.Prelude.{⊤}
use Rattle.std.proofs.lemmas.Bool.{cases_lt, cases_eq}
use Rattle.std.proofs.lemmas.List.{get_or-set_same, get_or-set_other, get_or_past, length-set}
use Rattle.std.proofs.lemmas.Option.{unwrap_or-slice_get, slice_get_past, slice_get_within, slice_get-get_or}
use Rattle.insn_word.specs.declared.operations.WideOp.{WideOp}
use Rattle.insn_word.specs.declared.operations.WideOp.TheVariants as wide
use Rattle.insn_word.specs.declared.operations.ControlOp.{ControlOp}
use Rattle.insn_word.specs.declared.operations.ControlOp.TheVariants as control
use Rattle.insn_word.specs.declared.insn.CPart.{CPart}
use Rattle.insn_word.specs.declared.insn.Insn.{Insn}
use Rattle.insn_word.specs.declared.insn.Insn.TheVariants.{Wide, Normal}
use Rattle.tag_memory.specs.declared.requests.Reply.{Reply}
use Rattle.tag_memory.specs.Storage.{TaggedMemory}
use Rattle.image_file.specs.ImageValue.{ImageValue}
use Rattle.stream_core.specs.Registers.{register_at, target_at}
use Rattle.stream_core.specs.declared.status_words.Codes.{Codes}
use Rattle.stream_core.specs.StatusWords.{status_at, no_code, no_codes, no_mask}
use Rattle.stream_core.specs.Streams.{StreamValue, idle}
use Rattle.stream_core.specs.Effects.{code_at, next_pc, request_of}
use Rattle.stream_core.specs.StreamRow.{fetch_word, fetch_of, fetch_if, control_by, control_of, row_asking}
use Rattle.stream_core.specs.Streams.{after_trap}
use Rattle.stream_core.specs.declared.traps.TrapKind.{TrapKind}
use Rattle.stream_core.specs.declared.traps.TrapKind.TheVariants as kind
use Rattle.stream_core.specs.declared.steps.Status.{Status}
use Rattle.stream_core.specs.declared.steps.Status.TheVariants.{Idle, Running, Stopped}
use Rattle.stream_core.specs.declared.steps.Outcome.{Outcome}
use Rattle.stream_core.specs.declared.steps.Outcome.TheVariants as outcome
use Rattle.stream_core.specs.declared.steps.Fetch.{Fetch}
use Rattle.stream_core.specs.declared.steps.Fetch.TheVariants as fetch
use Rattle.stream_core.specs.declared.steps.Control.{Control}
use Rattle.stream_core.specs.declared.steps.Control.TheVariants as asks
use Rattle.processor.specs.Processors.{ProcessorValue, stream_at, first_stream, opening}
use Rattle.processor.specs.Records.{is_running, is_running_status}
use Rattle.processor.specs.Row.{lacks_stream, image_fetch, step_fetch_from, step_fetch, step_fetch_at, step_fetch_of, request_on_fetch}
use Rattle.processor.specs.Row.{grant_of, with_stream, lowest_idle, after_control, after_control_if_done, row_on_fetch, memory_reply, row_over_memory}
use Rattle.processor.specs.World.{World, start, after, steps}
use Rattle.processor.specs.declared.steps.Step.{Step}
use Rattle.processor.proofs.Begun.{row_over_memory_begun}
use Rattle.processor.proofs.World.{world_step-present}
use Rattle.processor.proofs.Histories.{after-absent, get_set_other}
use Rattle.program_flow.specs.Flow.{EndsStream}
use Rattle.source_slips.specs.Places.{insn_of, insn_at}
use Rattle.source_slips.specs.Codes.{IsNeverMade, AsksNoCode}
use Rattle.source_slips.specs.Made.{AllowsBy, IsAimed, count_after, ControlLeads, WideAims, Leads, IsClosedTable}
use Rattle.source_slips.specs.Made.{most_of, most_at, LeadsIf, LeadsWhere, AsksIf}
use Rattle.source_slips.specs.MostCodes.{IsLeast, MostMade}
use Rattle.source_slips.proofs.MadeCodes.{nothing, missing_past, NoneFrom, none_at_start, none_after, StandsBy, GoesWith, allowed, allowed_any, most_is, no_insn, fetched_insn}
use Rattle.source_slips.proofs.MadeStreams.{codes_after, IsSteady, KeepsTo, IsLed, IsAiming, IsLedBy, started, trapped, lost_trapped, asked}

inside : {u v : ProcessorValue} → Some u ≡ Some v → u ≡ v
inside e = cc

there_same : (xs : List ProcessorValue) (p : ℕ) (x y : ProcessorValue) → slice_get xs p ≡ Some x
    → slice_get (set xs p y) p ≡ Some y
there_same xs p x y got =
    let within = slice_get_within xs p x got in
    slice_get-get_or (set xs p y) p y (subst (λ n. p < n) (sym (length-set xs p y)) within)
    ∙ ap Some (get_or-set_same xs p y y within)

idle_streams : (n k : ℕ) → stream_at (replicate n idle) k ≡ idle
idle_streams zero k = refl
idle_streams (suc n) zero = refl
idle_streams (suc n) (suc k) = idle_streams n k

module _ (image : ImageValue) (table : List (Option ℕ)) (anywhere : Option ℕ) (closed : IsClosedTable image table anywhere) where
  abbrev Stands : ℕ → Codes → Type 0
  Stands k cs = StandsBy (slice_get table k) cs

  abbrev Goes : Codes → Type 0
  Goes cs = GoesWith anywhere cs

  abbrev IsPast : ℕ → Type 0
  IsPast k = length table ≤ k

  abbrev IsSteadyHere : StreamValue → Type 0
  IsSteadyHere s = IsSteady Stands Goes IsPast s

  abbrev Keeps : StreamValue → Type 0
  Keeps s = KeepsTo Stands Goes IsPast s

  abbrev IsLedHere : ℕ → Codes → Insn → Type 0
  IsLedHere k cs i = IsLedBy Stands Goes IsPast k cs i

  -- The table's numbers, and codes.

  aimed : (o : Option ℕ) (k : ℕ) → IsAimed table o k → (cs : Codes) → GoesWith o cs → Stands k cs
  aimed None k is cs goes = absurd goes
  aimed (Some most) k is cs goes = allowed (slice_get table k) most cs is goes

  aimed_past : (k : ℕ) → IsPast k → (cs : Codes) → Goes cs → Stands k cs
  aimed_past k past cs goes = subst (λ o. StandsBy o cs) (sym (slice_get_past table k past)) tt

  led_by : (k n : ℕ) (cs : Codes) (makes : Bool) (c : CPart) (o : ControlOp) → NoneFrom n cs
      → ControlLeads table anywhere k (count_after makes n) c o → IsLed Stands Goes IsPast k cs makes c o
  led_by k n cs makes c o none to = record {
    straight = λ j e x. allowed (slice_get table j) (count_after makes n) (codes_after makes x cs) (to.straight j e) (none_after makes n x cs none);
    jumps = λ e x. allowed_any anywhere (count_after makes n) (codes_after makes x cs) (to.jumps e) (none_after makes n x cs none);
    starts = λ e. allowed_any anywhere 0 no_codes (to.starts e) (λ d below from. none_at_start d);
    returns = λ e. aimed anywhere (next_pc k) (to.returns e);
    handler = to.handler;
  }

  wide_led : (o : WideOp) (reg imm : ℕ) → WideAims table anywhere o reg imm → IsAiming Stands Goes IsPast o reg imm
  wide_led wide.Literal reg imm to = tt
  wide_led wide.LiteralHigh reg imm to = tt
  wide_led wide.TargetLiteral reg imm to = (aimed anywhere imm to.0, to.1)

  led : (k n : ℕ) (cs : Codes) (i : Insn) → NoneFrom n cs → Leads table anywhere k n i → IsLedHere k cs i
  led k n cs (Wide look o reg imm) none to =
      (allowed (slice_get table (next_pc k)) n cs to.0 none, wide_led o reg imm to.1)
  led k n cs (Normal look m a c) none to = led_by k n cs a.test c c.op none to

  -- a stream that stands at an instruction is led by it
  led_at : (k : ℕ) (cs : Codes) (i : Insn) → Stands k cs → insn_at image k ≡ Some i → IsLedHere k cs i
  led_at k cs i stands at = by (slice_get table k) refl stands where
    by : (o : Option (Option ℕ)) → slice_get table k ≡ o → StandsBy o cs → IsLedHere k cs i
    by None e none = absurd (nothing (sym (ap (insn_of image.profile) gone) ∙ at)) where
      gone : slice_get image.program k ≡ None
      gone = slice_get_past image.program k (subst (λ n. n ≤ k) closed.size (missing_past table k e))
    by (Some None) e none = absurd none
    by (Some (Some n)) e none =
        led k n cs i none
        (subst (LeadsIf table anywhere k n) at
        (subst (λ o. LeadsWhere image table anywhere k (most_of o)) e (closed.each k)))

  -- Processors.

  abbrev IsFine : StreamValue → Type 0
  IsFine s = is_running s ≡ true → Keeps s

  abbrev AreFine : ProcessorValue → Type 0
  AreFine proc = (k : ℕ) → IsFine (stream_at proc.streams k)

  -- so do all but stream n
  abbrev OthersFine : ℕ → List StreamValue → Type 0
  OthersFine n ss = (k : ℕ) → (k ≢ n) → IsFine (stream_at ss k)

  rests_here : IsFine idle
  rests_here e = cc

  others_placed : (ss : List StreamValue) (n : ℕ) (x : StreamValue) → OthersFine n ss → OthersFine n (set ss n x)
  others_placed ss n x all k apart = subst IsFine (sym (get_or-set_other ss n k x idle apart)) (all k apart)

  placed : (ss : List StreamValue) (n : ℕ) (x : StreamValue) → OthersFine n ss → IsFine x
      → (k : ℕ) → IsFine (stream_at (set ss n x) k)
  placed ss n x all fine k = by (cases_eq k n) (cases_lt n (length ss)) where
    by : (k ≡ n) ⊎ (k ≡ n → ⊥) → (n < length ss) ⊎ (length ss ≤ n) → IsFine (stream_at (set ss n x) k)
    by (inr apart) place = others_placed ss n x all k apart
    by (inl same) (inl within) =
        subst (λ j. IsFine (stream_at (set ss n x) j)) (sym same)
        (subst IsFine (sym (get_or-set_same ss n x idle within)) fine)
    by (inl same) (inr past) =
        let long : length (set ss n x) ≤ n = subst (λ m. m ≤ n) (sym (length-set ss n x)) past in
        subst (λ j. IsFine (stream_at (set ss n x) j)) (sym same)
        (subst IsFine (sym (get_or_past (set ss n x) n idle long)) rests_here)

  -- what QUIT and QUITP leave
  ended : (proc : ProcessorValue) (n grant : ℕ) (c : Control) → EndsStream c → OthersFine n proc.streams
      → AreFine (after_control proc n grant c)
  ended proc n grant asks.Plain e all = absurd e
  ended proc n grant (asks.Reserve m) e all = absurd e
  ended proc n grant (asks.Create child) e all = absurd e
  ended proc n grant asks.Quit e all = placed proc.streams n idle all rests_here
  ended proc n grant asks.QuitKeep e all = placed proc.streams n idle all rests_here

  -- the stream that CREATE starts begins where a target register of its creator leads, and has its t0
  controlled : (s : StreamValue) (makes : Bool) (c : CPart) (o : ControlOp) → IsSteadyHere s
      → IsLed Stands Goes IsPast s.ssw.pc s.ssw.codes makes c o
      → (proc : ProcessorValue) (n grant : ℕ) → AreFine proc → AreFine (after_control proc n grant (control_by s c o))
  controlled s makes c control.Create keeps to proc n grant all =
      placed proc.streams (lowest_idle proc) _ (λ k apart. all k)
      (λ runs. inl (started Stands Goes IsPast (record {
        pc = (target_at s.targets c.t).pc;
        value = register_at s.registers c.ra;
        t0 = target_at s.targets 0;
        mask = s.ssw.mask;
      }) (keeps.targets c.t no_codes (to.starts tt)) keeps.handler (keeps.targets 0) (aimed anywhere 0 closed.unset)))
  controlled s makes c control.Reserve keeps to proc n grant all = all
  controlled s makes c control.Quit keeps to proc n grant all =
      placed proc.streams n idle (λ k apart. all k) rests_here
  controlled s makes c control.QuitKeep keeps to proc n grant all =
      placed proc.streams n idle (λ k apart. all k) rests_here
  controlled s makes c o keeps to proc n grant all = all

  asks_fine : (s : StreamValue) (i : Insn) → IsSteadyHere s → IsLedHere s.ssw.pc s.ssw.codes i
      → (proc : ProcessorValue) (n grant : ℕ) → AreFine proc → AreFine (after_control proc n grant (control_of s i))
  unfolding control_of
  asks_fine s (Wide look o reg imm) keeps to proc n grant all = all
  asks_fine s (Normal look m a c) keeps to proc n grant all = controlled s a.test c c.op keeps to proc n grant all

  done_fine : (s : StreamValue) (i : Insn) → IsSteadyHere s → IsLedHere s.ssw.pc s.ssw.codes i
      → (proc : ProcessorValue) (n grant : ℕ) (o : Outcome) → AreFine proc
      → AreFine (after_control_if_done proc n grant (control_of s i) o)
  done_fine s i keeps to proc n grant outcome.Done all = asks_fine s i keeps to proc n grant all
  done_fine s i keeps to proc n grant o all = all

  -- what a step of the stream begins with: it runs, and its instruction leads it on
  abbrev Fits : StreamValue → Fetch → Type 0
  Fits s fetch.Rest = ⊤
  Fits s (fetch.Trap k) = is_running s ≡ true
  Fits s (fetch.Instruction i) =
      (is_running s ≡ true) × (IsSteadyHere s × IsLedHere s.ssw.pc s.ssw.codes i)

  trapped_so : (s : StreamValue) → Keeps s → (k : TrapKind) (a : ℕ) → Keeps (after_trap k a s).0
  trapped_so s (inl steady) k a = trapped Stands Goes IsPast s steady k a
  trapped_so s (inr lost) k a = lost_trapped Stands Goes IsPast s lost k a

  module _ (proc : ProcessorValue) (n : ℕ) (all : AreFine proc) where
    abbrev s : StreamValue
    s = stream_at proc.streams n

    others : OthersFine n proc.streams
    others k apart = all k

    row_fine : (r : Option Reply) (f : Fetch) → Fits s f → AreFine (row_on_fetch image proc n r s f).0
    row_fine r fetch.Rest fits = all
    row_fine r (fetch.Trap k) runs = placed proc.streams n _ others (λ e. trapped_so s (all n runs) k 0)
    row_fine r (fetch.Instruction i) fits =
        by (asked Stands Goes IsPast s fits.1.0 image.retry_limit i grant r (request_of s i) fits.1.1) where
          grant : ℕ
          grant = grant_of image proc (control_of s i)

          x : StreamValue × Outcome
          x = row_asking image.retry_limit s i grant r (request_of s i)

          by : ((x.1 ≡ outcome.Done) × EndsStream (control_of s i)) ⊎ Keeps x.0
              → AreFine (after_control_if_done (with_stream proc n x.0) n grant (control_of s i) x.1)
          by (inl e) =
              subst (λ o. AreFine (after_control_if_done (with_stream proc n x.0) n grant (control_of s i) o)) (sym e.0)
              (ended (with_stream proc n x.0) n grant (control_of s i) e.1 (others_placed proc.streams n x.0 others))
          by (inr kept) =
              done_fine s i fits.1.0 fits.1.1 (with_stream proc n x.0) n grant x.1
              (placed proc.streams n x.0 others (λ e. kept))

  -- Worlds.

  AllKeep : World → Type 0
  AllKeep w = (p : ℕ) (proc : ProcessorValue) → slice_get w.processors p ≡ Some proc → AreFine proc

  -- what stands where a stream does; past the end no word
  fits_by : (s : StreamValue) → is_running s ≡ true → Keeps s → (f : Fetch)
      → fetch_word image.profile (slice_get image.program s.ssw.pc) ≡ f → Fits s f
  fits_by s runs keeps fetch.Rest e = tt
  fits_by s runs keeps (fetch.Trap k) e = runs
  fits_by s runs (inl steady) (fetch.Instruction i) e = (
    runs,
    (steady, led_at s.ssw.pc s.ssw.codes i steady.here (fetched_insn image (slice_get image.program s.ssw.pc) i e)),
  )
  fits_by s runs (inr lost) (fetch.Instruction i) e =
      let gone : slice_get image.program s.ssw.pc ≡ None =
      slice_get_past image.program s.ssw.pc (subst (λ n. n ≤ s.ssw.pc) closed.size lost.0) in
      absurd (no_insn (sym (ap (fetch_word image.profile) gone) ∙ e))

  fetched : (s : StreamValue) (st : Status) → s.status ≡ st → IsFine s
      → Fits s (fetch_if image.profile st image.program s.ssw.pc)
  fetched s Running e fine =
      let runs : is_running s ≡ true = ap is_running_status e in
      fits_by s runs (fine runs) _ refl
  fetched s Idle e fine = tt
  fetched s (Stopped k) e fine = tt

  begun : (proc : ProcessorValue) (s : StreamValue) (f : Fetch) → Fits s f → Fits s (step_fetch_from proc s f)
  begun proc s fetch.Rest fits = fits
  begun proc s (fetch.Trap k) fits = fits
  begun proc s (fetch.Instruction i) fits = by (lacks_stream proc (control_of s i)) where
    by : (b : Bool) → Fits s (if b then fetch.Trap kind.Create else fetch.Instruction i)
    by true = fits.0
    by false = fits

  step_fits : (proc : ProcessorValue) (o : Option StreamValue) (s : StreamValue) → unwrap_or o idle ≡ s → IsFine s
      → Fits s (step_fetch_at image proc o)
  unfolding step_fetch fetch_of
  step_fits proc None s e fine = tt
  step_fits proc (Some x) s e fine =
      subst (λ y. IsFine y → Fits y (step_fetch image proc x)) e
      (λ fine_x. begun proc x (image_fetch image x) (fetched x x.status refl fine_x)) fine

  over_fine : (proc : ProcessorValue) (n : ℕ) (m : TaggedMemory) → AreFine proc
      → AreFine (row_over_memory image proc n m).0.0
  unfolding step_fetch_of
  over_fine proc n m all =
      subst (λ (x : (ProcessorValue × Outcome) × TaggedMemory). AreFine x.0.0)
      (row_over_memory_begun image proc n m e.0 f e.1 refl refl)
      (row_fine proc n all e.1 f
      (step_fits proc (slice_get proc.streams n) (stream_at proc.streams n) (unwrap_or-slice_get proc.streams n idle) (all n)))
    where
      f : Fetch
      f = step_fetch_of image proc n

      e : TaggedMemory × Option Reply
      e = memory_reply m (request_on_fetch (stream_at proc.streams n) f)

  after_kept : (w : World) (t : Step) → AllKeep w → AllKeep (after image w t)
  unfolding AllKeep
  after_kept w t all = by (slice_get w.processors t.p) refl where
    by : (o : Option ProcessorValue) → slice_get w.processors t.p ≡ o → AllKeep (after image w t)
    by None none = subst AllKeep (sym (after-absent image w t none)) all
    by (Some proc) there = subst AllKeep is put_fine where
      row : (ProcessorValue × Outcome) × TaggedMemory
      row = row_over_memory image proc t.s w.memory

      put : World
      put = record { processors = set w.processors t.p row.0.0; memory = row.1 }

      is : put ≡ after image w t
      is = ap (λ (x : World × Outcome). x.0) (world_step-present image w t proc row.0.0 row.1 row.0.1 there refl)

      put_fine : AllKeep put
      put_fine p q got = at_place (cases_eq p t.p) where
        at_place : (p ≡ t.p) ⊎ (p ≡ t.p → ⊥) → AreFine q
        at_place (inr apart) = all p q (sym (get_set_other w.processors t.p p row.0.0 apart) ∙ got)
        at_place (inl same) =
            let here : Some row.0.0 ≡ Some q =
            sym (there_same w.processors t.p proc row.0.0 there) ∙ ap (slice_get (set w.processors t.p row.0.0)) (sym same) ∙ got in
            subst AreFine (inside here) (over_fine proc t.s w.memory (all t.p proc there))

  -- At the start.

  opening_fine : (entry : ℕ) → AllowsBy (slice_get table entry) 0 → AreFine (opening image entry)
  unfolding opening
  opening_fine entry at =
      placed (replicate image.slim idle) 0 (first_stream image entry)
      (λ k apart. subst IsFine (sym (idle_streams image.slim k)) rests_here)
      (λ runs. inl (started Stands Goes IsPast (record { pc = entry; value = 0; t0 = status_at image.trap_entry; mask = no_mask })
      (allowed (slice_get table entry) 0 no_codes at (λ d below from. none_at_start d)) closed.handler
      (aimed_past image.trap_entry closed.handler) (aimed anywhere 0 closed.unset)))

  opened_fine : (es : List ℕ) → ((p e : ℕ) → slice_get es p ≡ Some e → AllowsBy (slice_get table e) 0)
      → (p : ℕ) (proc : ProcessorValue) → slice_get (map (opening image) es) p ≡ Some proc → AreFine proc
  opened_fine [] each p proc got = let none : ⊥ = cc in absurd none
  opened_fine (e ∷ es) each zero proc got = subst AreFine (inside got) (opening_fine e (each zero e refl))
  opened_fine (e ∷ es) each (suc p) proc got = opened_fine es (λ q. each (suc q)) p proc got

  start_kept : AllKeep (start image)
  unfolding start AllKeep
  start_kept p proc got = opened_fine image.entries closed.begins p proc got

  steps_kept : (ts : List Step) (w : World) → AllKeep w → AllKeep (steps image w ts)
  steps_kept [] w all = all
  steps_kept (t ∷ ts) w all = steps_kept ts (after image w t) (after_kept w t all)

  -- what the table says of a place holds of each stream that runs there
  never_from : (k n c : ℕ) → most_at table k ≡ Some n → c < 4 → n ≤ c → IsNeverMade image k c
  unfolding IsNeverMade AllKeep
  never_from k n c at below from ts p m proc there runs here =
      by (steps_kept ts (start image) start_kept p proc there m runs) where
        s : StreamValue
        s = stream_at proc.streams m

        is : slice_get table s.ssw.pc ≡ Some (Some n)
        is = ap (slice_get table) here ∙ most_is (slice_get table k) n at

        by : Keeps s → code_at s.ssw.codes c ≡ no_code
        by (inl steady) =
            let none : NoneFrom n s.ssw.codes = subst (λ o. StandsBy o s.ssw.codes) is steady.here in
            none c below from
        by (inr lost) = absurd (nothing (sym (slice_get_past table s.ssw.pc lost.0) ∙ is))

  pub asks_no_code : (k n : ℕ) → most_at table k ≡ Some n → AsksIf n (insn_at image k) → AsksNoCode image k
  asks_no_code k n at = by (insn_at image k) refl where
    by : (o : Option Insn) → insn_at image k ≡ o → AsksIf n o → AsksNoCode image k
    by None e asks = absurd asks
    by (Some (Wide look o reg imm)) e asks = absurd asks
    by (Some (Normal look m a c)) e asks = record {
      look = look;
      m = m;
      a = a;
      c = c;
      stands = e;
      operation = asks.0;
      conditional = asks.1.0;
      never = never_from k n c.code at asks.1.1.1 asks.1.1.0;
    }

  -- the same of all later codes, where no closed table says less
  pub most_made : (k n : ℕ) → most_at table k ≡ Some n → IsLeast image table anywhere → MostMade image k n
  most_made k n at least = record {
    table = table;
    anywhere = anywhere;
    closed = closed;
    least = least;
    says = at;
    none_later = λ c from below. never_from k n c at below from;
  }
