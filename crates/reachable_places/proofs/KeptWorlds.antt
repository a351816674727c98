-- Where reached places lead to reached places only, each running stream of each world that a schedule leads to stands at
-- one.
use Rattle.std.proofs.Common.{◌≡◌, ◌≢◌, ℕ, zero, suc, ◌<◌, ◌≤◌, ◌⊎◌, inl, inr, Bool, true, false, refl, sym, ap}
use Rattle.std.proofs.Common.{◌∙◌, ◌++◌, subst, if◌then◌else◌, List, [], ◌∷◌, map, length, set, replicate, Option, Some, None, slice_get, unwrap_or}
use Rattle.std.specs.Prelude.{⊤, All}
use Rattle.std.proofs.lemmas.List.Elements.{All-nil, All-cons, All-append}
use Rattle.std.proofs.lemmas.Bool.{cases_lt, cases_eq}
use Rattle.std.proofs.lemmas.List.{get_or-set_same, get_or-set_other, get_or_past, length-set}
use Rattle.std.proofs.lemmas.Option.{unwrap_or-slice_get, slice_get_within, slice_get-get_or}
use Rattle.insn_word.specs.declared.operations.ControlOp.{ControlOp}
use Rattle.insn_word.specs.declared.operations.ControlOp.TheVariants as control
use Rattle.insn_word.specs.declared.insn.CPart.{CPart}
use Rattle.insn_word.specs.declared.insn.Insn.{Insn}
use Rattle.insn_word.specs.declared.insn.Insn.TheVariants.{Wide, Normal}
use Rattle.tag_memory.specs.declared.requests.Reply.{Reply}
use Rattle.tag_memory.specs.Storage.{TaggedMemory}
use Rattle.image_file.specs.ImageValue.{ImageValue}
use Rattle.stream_core.specs.Registers.{register_at, target_at}
use Rattle.stream_core.specs.StatusWords.{status_at, no_mask}
use Rattle.stream_core.specs.Streams.{StreamValue, idle}
use Rattle.stream_core.specs.Effects.{request_of}
use Rattle.stream_core.specs.StreamRow.{fetch_of, fetch_if, control_by, control_of, row_asking}
use Rattle.stream_core.specs.declared.traps.TrapKind.TheVariants as kind
use Rattle.stream_core.specs.declared.steps.Status.{Status}
use Rattle.stream_core.specs.declared.steps.Status.TheVariants.{Idle, Running, Stopped}
use Rattle.stream_core.specs.declared.steps.Outcome.{Outcome}
use Rattle.stream_core.specs.declared.steps.Outcome.TheVariants as outcome
use Rattle.stream_core.specs.declared.steps.Fetch.{Fetch}
use Rattle.stream_core.specs.declared.steps.Fetch.TheVariants as fetch
use Rattle.stream_core.specs.declared.steps.Control.{Control}
use Rattle.stream_core.specs.declared.steps.Control.TheVariants as asks
use Rattle.processor.specs.Processors.{ProcessorValue, stream_at, first_stream, opening}
use Rattle.processor.specs.Records.{is_running, is_running_status}
use Rattle.processor.specs.Row.{lacks_stream, image_fetch, step_fetch_from, step_fetch, step_fetch_at, step_fetch_of, request_on_fetch}
use Rattle.processor.specs.Row.{grant_of, with_stream, lowest_idle, after_control, after_control_if_done, row_on_fetch, memory_reply, row_over_memory}
use Rattle.processor.specs.World.{World, start, after, steps, run}
use Rattle.processor.specs.declared.steps.Step.{Step}
use Rattle.processor.proofs.Begun.{row_over_memory_begun}
use Rattle.processor.proofs.World.{world_step-present}
use Rattle.processor.proofs.Histories.{after-absent, get_set_other}
use Rattle.reachable_places.specs.Successors.{unset_target, control_successors, successors_of, successors_at, IsSuccessor}
use Rattle.reachable_places.specs.Ways.{IsBeginning, LeadsTo, IsReachable, is_reached, AreReachable}
use Rattle.reachable_places.specs.Reached.{AllStandIn, CoversRuns, IsNeverReached}
use Rattle.reachable_places.proofs.KeptStreams.{Ends, KeepsTo, started, trapped, held, asked}

inside : {u v : ProcessorValue} → Some u ≡ Some v → u ≡ v
inside e = cc

there_same : (xs : List ProcessorValue) (p : ℕ) (x y : ProcessorValue) → slice_get xs p ≡ Some x
    → slice_get (set xs p y) p ≡ Some y
there_same xs p x y got =
    let within = slice_get_within xs p x got in
    slice_get-get_or (set xs p y) p y (subst (λ n. p < n) (sym (length-set xs p y)) within)
    ∙ ap Some (get_or-set_same xs p y y within)

idle_streams : (n k : ℕ) → stream_at (replicate n idle) k ≡ idle
idle_streams zero k = refl
idle_streams (suc n) zero = refl
idle_streams (suc n) (suc k) = idle_streams n k

-- The program leads to reached places only, from where streams begin and from reached places.
pub record IsClosedReach (image : ImageValue) (reached : ℕ → Type 0) : Type 0 where
  pub begins : (k : ℕ) → IsBeginning image k → reached k
  pub each : (k : ℕ) → reached k → (j : ℕ) → LeadsTo image k j → reached j

reachable_closed : (image : ImageValue) → IsClosedReach image (IsReachable image)
unfolding IsReachable
reachable_closed image = record {
  begins = λ k b. ([], b);
  each = λ k way j to. (k ∷ way.0, (way.1, to));
}

module _ (reached : ℕ → Type 0) where
  -- Processors.

  -- a stream that runs keeps to places that are reached
  abbrev IsFine : StreamValue → Type 0
  IsFine s = is_running s ≡ true → KeepsTo reached s

  abbrev AreFine : ProcessorValue → Type 0
  AreFine proc = (k : ℕ) → IsFine (stream_at proc.streams k)

  -- so do all but stream n
  abbrev OthersFine : ℕ → List StreamValue → Type 0
  OthersFine n ss = (k : ℕ) → (k ≢ n) → IsFine (stream_at ss k)

  rests_here : IsFine idle
  rests_here e = cc

  others_placed : (ss : List StreamValue) (n : ℕ) (x : StreamValue) → OthersFine n ss → OthersFine n (set ss n x)
  others_placed ss n x all k apart = subst IsFine (sym (get_or-set_other ss n k x idle apart)) (all k apart)

  placed : (ss : List StreamValue) (n : ℕ) (x : StreamValue) → OthersFine n ss → IsFine x
      → (k : ℕ) → IsFine (stream_at (set ss n x) k)
  placed ss n x all fine k = by (cases_eq k n) (cases_lt n (length ss)) where
    by : (k ≡ n) ⊎ (k ≡ n → ⊥) → (n < length ss) ⊎ (length ss ≤ n) → IsFine (stream_at (set ss n x) k)
    by (inr apart) place = others_placed ss n x all k apart
    by (inl same) (inl within) =
        subst (λ j. IsFine (stream_at (set ss n x) j)) (sym same)
        (subst IsFine (sym (get_or-set_same ss n x idle within)) fine)
    by (inl same) (inr past) =
        let long : length (set ss n x) ≤ n = subst (λ m. m ≤ n) (sym (length-set ss n x)) past in
        subst (λ j. IsFine (stream_at (set ss n x) j)) (sym same)
        (subst IsFine (sym (get_or_past (set ss n x) n idle long)) rests_here)

  -- what QUIT and QUITP leave
  ended : (proc : ProcessorValue) (n grant : ℕ) (c : Control) → Ends c → OthersFine n proc.streams
      → AreFine (after_control proc n grant c)
  ended proc n grant asks.Plain e all = absurd e
  ended proc n grant (asks.Reserve m) e all = absurd e
  ended proc n grant (asks.Create child) e all = absurd e
  ended proc n grant asks.Quit e all = placed proc.streams n idle all rests_here
  ended proc n grant asks.QuitKeep e all = placed proc.streams n idle all rests_here

  -- the stream that CREATE starts begins where a target register of its creator leads, and has its t0
  controlled : (s : StreamValue) (c : CPart) (o : ControlOp) → KeepsTo reached s
      → ((j : ℕ) → IsSuccessor (control_successors c o s.ssw.pc) j → reached j)
      → (proc : ProcessorValue) (n grant : ℕ) → AreFine proc → AreFine (after_control proc n grant (control_by s c o))
  controlled s c control.Create keeps to proc n grant all =
      placed proc.streams (lowest_idle proc) _ (λ k apart. all k)
      (λ runs. started reached (record {
        pc = (target_at s.targets c.t).pc;
        value = register_at s.registers c.ra;
        t0 = target_at s.targets 0;
        mask = s.ssw.mask;
      }) (held reached s keeps c.t (to unset_target (inr refl))) keeps.handler)
  controlled s c control.Reserve keeps to proc n grant all = all
  controlled s c control.Quit keeps to proc n grant all = placed proc.streams n idle (λ k apart. all k) rests_here
  controlled s c control.QuitKeep keeps to proc n grant all = placed proc.streams n idle (λ k apart. all k) rests_here
  controlled s c o keeps to proc n grant all = all

  asks_fine : (s : StreamValue) (i : Insn) → KeepsTo reached s
      → ((j : ℕ) → IsSuccessor (successors_of i s.ssw.pc) j → reached j)
      → (proc : ProcessorValue) (n grant : ℕ) → AreFine proc → AreFine (after_control proc n grant (control_of s i))
  unfolding control_of
  asks_fine s (Wide look o reg imm) keeps to proc n grant all = all
  asks_fine s (Normal look m a c) keeps to proc n grant all = controlled s c c.op keeps to proc n grant all

  done_fine : (s : StreamValue) (i : Insn) → KeepsTo reached s
      → ((j : ℕ) → IsSuccessor (successors_of i s.ssw.pc) j → reached j)
      → (proc : ProcessorValue) (n grant : ℕ) (o : Outcome) → AreFine proc
      → AreFine (after_control_if_done proc n grant (control_of s i) o)
  done_fine s i keeps to proc n grant outcome.Done all = asks_fine s i keeps to proc n grant all
  done_fine s i keeps to proc n grant o all = all

  -- what a step of the stream begins with: it runs, and its instruction leads to places that are reached
  abbrev Fits : StreamValue → Fetch → Type 0
  Fits s fetch.Rest = ⊤
  Fits s (fetch.Trap k) = is_running s ≡ true
  Fits s (fetch.Instruction i) =
      (is_running s ≡ true) × ((j : ℕ) → IsSuccessor (successors_of i s.ssw.pc) j → reached j)

  module _ (image : ImageValue) (proc : ProcessorValue) (n : ℕ) (all : AreFine proc) where
    abbrev s : StreamValue
    s = stream_at proc.streams n

    others : OthersFine n proc.streams
    others k apart = all k

    row_fine : (r : Option Reply) (f : Fetch) → Fits s f → AreFine (row_on_fetch image proc n r s f).0
    row_fine r fetch.Rest fits = all
    row_fine r (fetch.Trap k) runs = placed proc.streams n _ others (λ e. trapped reached s (all n runs) k 0)
    row_fine r (fetch.Instruction i) fits =
        by (asked reached s (all n fits.0) image.retry_limit i grant r (request_of s i) fits.1) where
          grant : ℕ
          grant = grant_of image proc (control_of s i)

          x : StreamValue × Outcome
          x = row_asking image.retry_limit s i grant r (request_of s i)

          by : ((x.1 ≡ outcome.Done) × Ends (control_of s i)) ⊎ KeepsTo reached x.0
              → AreFine (after_control_if_done (with_stream proc n x.0) n grant (control_of s i) x.1)
          by (inl e) =
              subst (λ o. AreFine (after_control_if_done (with_stream proc n x.0) n grant (control_of s i) o)) (sym e.0)
              (ended (with_stream proc n x.0) n grant (control_of s i) e.1 (others_placed proc.streams n x.0 others))
          by (inr kept) =
              done_fine s i (all n fits.0) fits.1 (with_stream proc n x.0) n grant x.1
              (placed proc.streams n x.0 others (λ e. kept))

  -- Worlds.

  AllKeepTo : World → Type 0
  AllKeepTo w = (p : ℕ) (proc : ProcessorValue) → slice_get w.processors p ≡ Some proc → AreFine proc

  module _ (image : ImageValue) (closed : IsClosedReach image reached) where
    fits_if : (s : StreamValue) (f : Fetch) → is_running s ≡ true → ((j : ℕ) → IsSuccessor (successors_at f s.ssw.pc) j → reached j) → Fits s f
    fits_if s fetch.Rest runs to = tt
    fits_if s (fetch.Trap k) runs to = runs
    fits_if s (fetch.Instruction i) runs to = (runs, to)

    fetched : (s : StreamValue) (st : Status) → s.status ≡ st → IsFine s
        → Fits s (fetch_if image.profile st image.program s.ssw.pc)
    fetched s Running e fine =
        let runs : is_running s ≡ true = ap is_running_status e in
        fits_if s _ runs (closed.each s.ssw.pc (fine runs).pc)
    fetched s Idle e fine = tt
    fetched s (Stopped k) e fine = tt

    begun : (proc : ProcessorValue) (s : StreamValue) (f : Fetch) → Fits s f → Fits s (step_fetch_from proc s f)
    begun proc s fetch.Rest fits = fits
    begun proc s (fetch.Trap k) fits = fits
    begun proc s (fetch.Instruction i) fits = by (lacks_stream proc (control_of s i)) where
      by : (b : Bool) → Fits s (if b then fetch.Trap kind.Create else fetch.Instruction i)
      by true = fits.0
      by false = fits

    step_fits : (proc : ProcessorValue) (o : Option StreamValue) (s : StreamValue) → unwrap_or o idle ≡ s → IsFine s
        → Fits s (step_fetch_at image proc o)
    unfolding step_fetch fetch_of
    step_fits proc None s e fine = tt
    step_fits proc (Some x) s e fine =
        subst (λ y. IsFine y → Fits y (step_fetch image proc x)) e
        (λ fine_x. begun proc x (image_fetch image x) (fetched x x.status refl fine_x)) fine

    over_fine : (proc : ProcessorValue) (n : ℕ) (m : TaggedMemory) → AreFine proc
        → AreFine (row_over_memory image proc n m).0.0
    unfolding step_fetch_of
    over_fine proc n m all =
        subst (λ (x : (ProcessorValue × Outcome) × TaggedMemory). AreFine x.0.0)
        (row_over_memory_begun image proc n m e.0 f e.1 refl refl)
        (row_fine image proc n all e.1 f
        (step_fits proc (slice_get proc.streams n) (stream_at proc.streams n) (unwrap_or-slice_get proc.streams n idle) (all n)))
      where
        f : Fetch
        f = step_fetch_of image proc n

        e : TaggedMemory × Option Reply
        e = memory_reply m (request_on_fetch (stream_at proc.streams n) f)

    after_kept : (w : World) (t : Step) → AllKeepTo w → AllKeepTo (after image w t)
    unfolding AllKeepTo
    after_kept w t all = by (slice_get w.processors t.p) refl where
      by : (o : Option ProcessorValue) → slice_get w.processors t.p ≡ o → AllKeepTo (after image w t)
      by None none = subst AllKeepTo (sym (after-absent image w t none)) all
      by (Some proc) there = subst AllKeepTo is put_fine where
        row : (ProcessorValue × Outcome) × TaggedMemory
        row = row_over_memory image proc t.s w.memory

        put : World
        put = record { processors = set w.processors t.p row.0.0; memory = row.1 }

        is : put ≡ after image w t
        is = ap (λ (x : World × Outcome). x.0) (world_step-present image w t proc row.0.0 row.1 row.0.1 there refl)

        put_fine : AllKeepTo put
        put_fine p q got = at_place (cases_eq p t.p) where
          at_place : (p ≡ t.p) ⊎ (p ≡ t.p → ⊥) → AreFine q
          at_place (inr apart) = all p q (sym (get_set_other w.processors t.p p row.0.0 apart) ∙ got)
          at_place (inl same) =
              let here : Some row.0.0 ≡ Some q =
              sym (there_same w.processors t.p proc row.0.0 there) ∙ ap (slice_get (set w.processors t.p row.0.0)) (sym same) ∙ got in
              subst AreFine (inside here) (over_fine proc t.s w.memory (all t.p proc there))

    -- At the start.

    opening_fine : (entry : ℕ) → reached entry → AreFine (opening image entry)
    unfolding opening
    opening_fine entry at =
        placed (replicate image.slim idle) 0 (first_stream image entry)
        (λ k apart. subst IsFine (sym (idle_streams image.slim k)) rests_here)
        (λ runs. started reached (record { pc = entry; value = 0; t0 = status_at image.trap_entry; mask = no_mask }) at (closed.begins image.trap_entry (inr refl)))

    opened_fine : (es : List ℕ) → ((p e : ℕ) → slice_get es p ≡ Some e → reached e) → (p : ℕ) (proc : ProcessorValue)
        → slice_get (map (opening image) es) p ≡ Some proc → AreFine proc
    opened_fine [] each p proc got = let none : ⊥ = cc in absurd none
    opened_fine (e ∷ es) each zero proc got = subst AreFine (inside got) (opening_fine e (each zero e refl))
    opened_fine (e ∷ es) each (suc p) proc got = opened_fine es (λ q. each (suc q)) p proc got

    start_kept : AllKeepTo (start image)
    unfolding start AllKeepTo
    start_kept p proc got = opened_fine image.entries (λ q e there. closed.begins e (inl (q, there))) p proc got

    steps_kept : (ts : List Step) (w : World) → AllKeepTo w → AllKeepTo (steps image w ts)
    steps_kept [] w all = all
    steps_kept (t ∷ ts) w all = steps_kept ts (after image w t) (after_kept w t all)

    pub run_stands : (ts : List Step) → AllStandIn reached (run image ts)
    unfolding AllKeepTo
    run_stands ts p k proc there runs = (steps_kept ts (start image) start_kept p proc there k runs).pc

-- a list that has all places to which ways lead covers all runs
pub reachable_covers : (image : ImageValue) (places : List Bool) → AreReachable image places → CoversRuns image places
reachable_covers image places are ts p k proc there runs =
    are.all (stream_at proc.streams k).ssw.pc
    (run_stands (IsReachable image) image (reachable_closed image) ts p k proc there runs)

-- no stream comes to a place of which the list says so
pub not_covered : (image : ImageValue) (places : List Bool) (k : ℕ) → CoversRuns image places → is_reached places k ≡ false
    → IsNeverReached image k
unfolding IsNeverReached
not_covered image places k covers not ts p n proc there runs same =
    let stands : is_reached places (stream_at proc.streams n).ssw.pc ≡ true = covers ts p n proc there runs in
    let both : false ≡ true = sym not ∙ ap (is_reached places) (sym same) ∙ stands in
    cc

-- one row more of such places
pub row_added : (image : ImageValue) (places : List Bool) (rows : List ℕ) (k : ℕ) → CoversRuns image places
    → is_reached places k ≡ false → All (IsNeverReached image) rows → All (IsNeverReached image) (rows ++ k ∷ [])
row_added image places rows k covers not all =
    All-append (IsNeverReached image) rows (k ∷ []) all
    (All-cons (IsNeverReached image) k [] (not_covered image places k covers not) (All-nil (IsNeverReached image)))
