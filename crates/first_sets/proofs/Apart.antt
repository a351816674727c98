-- A set of steps that is apart from those of all others can be taken before all of them, and leads to worlds that agree.
use Rattle.std.proofs.Common.{◌≡◌, ◌≢◌, ℕ, ◌⊎◌, inl, inr, Bool, true, false, refl, sym, ap, ◌∙◌, subst}
use Rattle.std.proofs.Common.{List, [], ◌∷◌, ◌++◌, Option, Some, None, slice_get}
use Rattle.std.specs.List.{Contains}
use Rattle.insn_word.specs.declared.insn.Insn.{Insn}
use Rattle.tag_memory.specs.Unforwarded.{IsUnforwarded}
use Rattle.tag_memory.specs.Answer.{answer}
use Rattle.tag_memory.specs.Adds.{is_add, AreAlike}
use Rattle.tag_memory.specs.declared.requests.Request.{Request}
use Rattle.tag_memory.specs.declared.requests.Reply.{Reply}
use Rattle.tag_memory.proofs.TwoAdds.{adds_commute}
use Rattle.image_file.specs.ImageValue.{ImageValue}
use Rattle.stream_core.specs.Streams.{StreamValue}
use Rattle.stream_core.specs.Effects.{request_of}
use Rattle.stream_core.specs.StreamRow.{fetch_of, control_of, control_from, control_at}
use Rattle.stream_core.specs.declared.steps.Outcome.{Outcome}
use Rattle.stream_core.specs.declared.steps.Fetch.TheVariants as fetch
use Rattle.processor.specs.Processors.{ProcessorValue, stream_at}
use Rattle.processor.specs.Records.{is_running, is_running_status}
use Rattle.processor.specs.Row.{memory_reply}
use Rattle.processor.specs.World.{World, after, steps}
use Rattle.processor.specs.declared.steps.Step.{Step}
use Rattle.processor.proofs.Histories.{steps-append}
use Rattle.program_flow.specs.Agreeing.{TellsFlow}
use Rattle.waiting.specs.Running.{streams_at}
use Rattle.local_steps.specs.NeverAsking.{AsksForNone}
use Rattle.local_steps.specs.SettledEndings.{stream_in}
use Rattle.agreeing_ends.specs.FirstSets.{AreOutside, IsFirstSet}
use Rattle.local_steps.proofs.Settled.{fetch_runs}
use Rattle.agreeing_ends.specs.SameFutures.Links.{TellsHandlers, WorldsAgree}
use Rattle.agreeing_ends.proofs.SameFutures.Chains.{agree_itself, agree_next, schedules_agree}
use Rattle.agreeing_ends.proofs.FreeSets.{IsChained, first_by}
use Rattle.agreeing_ends.proofs.Moving.{MovesOn, same_step}
use Rattle.touched_words.specs.TouchTables.{TouchValue, is_unread_at}
use Rattle.touched_words.specs.ClosedTables.{is_quiet_add, IsNamed, IsClosedAt}
use Rattle.touched_words.specs.Standing.{IsStandingFrom, IsHeldFrom, IsPassedFrom}
use Rattle.touched_words.proofs.Staying.{finds, stays, never}
use Rattle.commuting_requests.specs.Pairs.{DoCommute}
use Rattle.commuting_requests.specs.RequestSteps.{IsRequestStep}
use Rattle.commuting_requests.proofs.Swapping as swap
use Rattle.first_sets.specs.UnreadLoads.{IsUnreadBy}
use Rattle.first_sets.proofs.LoadedNumbers.{runs_of}
use Rattle.first_sets.proofs.Orders.{both_orders}
use Rattle.first_sets.specs.ApartSets.{table_at, KeepsOff, AreTouchTables, IsApartSet}
use Rattle.first_sets.proofs.Resting as rest
use Rattle.first_sets.proofs.Meeting.{AreQuietAdds, passed_meets, still_unforwarded}
use Rattle.first_sets.proofs.Replies.{alike_next, and_first, and_second, still_goes}

-- A stream that runs is there.

found_at : (o : Option ProcessorValue) (k : ℕ) → is_running (stream_at (streams_at o) k) ≡ true
    → (proc : ProcessorValue) × (o ≡ Some proc)
found_at None k e = absurd (none_runs k e) where
  none_runs : (k : ℕ) → is_running (stream_at (streams_at None) k) ≡ true → ⊥
  none_runs k e = cc
found_at (Some proc) k e = (proc, refl)

runs_or_not : (b : Bool) → (b ≡ false) ⊎ (b ≡ true)
runs_or_not true = inr refl
runs_or_not false = inl refl

some_reply : {x y : Reply} → Some x ≡ Some y → x ≡ y
some_reply e = cc

module _ (handled : Type 0) (named : ℕ → Type 0) (live asked : ℕ → ℕ → Type 0) (image : ImageValue)
    (tables : List TouchValue) (w : World) (set : List Step)
    (flow : TellsFlow image.profile image.program handled named live asked)
    (told : (us : List Step) → TellsHandlers handled (steps image w us))
    (tell : AreTouchTables named live image.profile image.program tables) (a : IsApartSet image tables w set) where
  abbrev Agree : World → World → Type 0
  Agree = WorldsAgree named live asked

  abbrev table : Step → TouchValue
  table u = table_at tables u.p

  abbrev place : Step → ℕ
  place u = (stream_in w u.p u.s).ssw.pc

  -- whether the request of a member is an add that loads what nobody reads
  abbrev quiet : (t : Step) → Contains set t → Bool
  quiet t c = is_quiet_add (table t) (a.members t c).stream.ssw.pc (a.members t c).request

  same_agree : (x y : World) → x ≡ y → Agree x y
  same_agree x y same = subst (Agree x) same (agree_itself named live asked x)

  -- what holds of the world and behind each step of others
  record Holds (v : World) : Type 0 where
    unforwarded : IsUnforwarded v.memory
    members : (t : Step) (c : Contains set t)
        → IsRequestStep image v t (a.members t c).stream (Some (a.members t c).request)
    held : (u : Step) → ¬ (Contains set u) → IsHeldFrom (table u) (place u) (stream_in v u.p u.s)
    ran : (u : Step) → ¬ (Contains set u) → is_running (stream_in v u.p u.s) ≡ true
        → is_running (stream_in w u.p u.s) ≡ true
    replies : (t : Step) (c : Contains set t)
        → AreAlike (answer v.memory (a.members t c).request).1 (answer w.memory (a.members t c).request).1

  -- Of a stream of others that runs.
  module _ (v : World) (u : Step) (runs : is_running (stream_in v u.p u.s) ≡ true)
      (held : IsHeldFrom (table u) (place u) (stream_in v u.p u.s)) where
    abbrev s : StreamValue
    s = stream_in v u.p u.s

    standing : IsStandingFrom (table u) (place u) s
    standing = by held where
      by : IsHeldFrom (table u) (place u) s → IsStandingFrom (table u) (place u) s
      by (inl none) = let both : true ≡ false = sym runs ∙ none in cc
      by (inr h) = h

    found : (i : Insn) × ((fetch_of image.profile image.program s ≡ fetch.Instruction i) × IsClosedAt (table u) s.ssw.pc i)
    found = finds image (table u) (tell.closed u.p) s standing.stands runs

    asks_none : AsksForNone (control_of s found.0)
    unfolding control_at
    asks_none =
        subst (λ f. AsksForNone (control_from s f)) found.1.0 (never image (table u) (tell.closed u.p) (place u) s held [])

    abbrev asked_for : Option Request
    asked_for = request_of s found.0

    there : (proc : ProcessorValue) × (slice_get v.processors u.p ≡ Some proc)
    there = found_at (slice_get v.processors u.p) u.s runs

    makes : IsRequestStep image v u s asked_for
    makes = record {
      processor = there.0;
      there = there.1;
      is = ap (λ o. stream_at (streams_at o) u.s) (sym there.1);
      request = record { insn = found.0; found = found.1.0; asked = refl; none = asks_none };
    }

    named_there : (r : Request) → asked_for ≡ Some r → IsNamed (table u) s.ssw.pc r
    named_there r e = found.1.1.asks s r standing.stands.known e

  -- its request commutes with that of a member, or both are adds that load what nobody reads
  meets : (v : World) → IsUnforwarded v.memory → (u : Step) (runs : is_running (stream_in v u.p u.s) ≡ true)
      (held : IsHeldFrom (table u) (place u) (stream_in v u.p u.s)) (is_quiet : Bool) (q : Request)
      → IsPassedFrom (table u) (place u) is_quiet q
      → DoCommute v.memory (asked_for v u runs held) (Some q)
      ⊎ AreQuietAdds (table u) (stream_in v u.p u.s).ssw.pc (asked_for v u runs held) is_quiet
  meets v un u runs held is_quiet q passed =
      let standing_there = standing v u runs held in
      passed_meets (table u) (place u) (stream_in v u.p u.s).ssw.pc is_quiet q (asked_for v u runs held) passed
      (named_there v u runs held) standing_there.touches standing_there.changes standing_there.uses v.memory un

  -- it keeps off each member where it ran in the world
  off : (t : Step) (c : Contains set t) (u : Step) → ¬ (Contains set u) → is_running (stream_in w u.p u.s) ≡ true
      → IsPassedFrom (table u) (place u) (quiet t c) (a.members t c).request
  off t c u none ran = by ((a.members t c).apart u none) where
    by : KeepsOff tables w u (quiet t c) (a.members t c).request
        → IsPassedFrom (table u) (place u) (quiet t c) (a.members t c).request
    by (inl rests) = let both : true ≡ false = sym ran ∙ rests in cc
    by (inr h) = h.1

  other : (t u : Step) → Contains set t → ¬ (Contains set u) → t ≢ u
  other t u there none e = none (subst (λ (x : Step). Contains set x) e there)

  -- Of a stream of others that runs, and a member.
  module _ (v : World) (h : Holds v) (u : Step) (none : ¬ (Contains set u))
      (runs : is_running (stream_in v u.p u.s) ≡ true) (held : IsHeldFrom (table u) (place u) (stream_in v u.p u.s))
      (t : Step) (c : Contains set t) where
    abbrev theirs : StreamValue
    theirs = stream_in v u.p u.s

    abbrev mine : StreamValue
    mine = (a.members t c).stream

    abbrev q : Request
    q = (a.members t c).request

    abbrev o : Option Request
    o = asked_for v u runs held

    pair : DoCommute v.memory o (Some q) ⊎ AreQuietAdds (table u) theirs.ssw.pc o (quiet t c)
    pair = meets v h.unforwarded u runs held (quiet t c) q (off t c u none (h.ran u none runs))

    -- behind the other step the member's reply is alike
    reply_behind : AreAlike (answer (memory_reply v.memory o).0 q).1 (answer v.memory q).1
    reply_behind = by pair where
      by : DoCommute v.memory o (Some q) ⊎ AreQuietAdds (table u) theirs.ssw.pc o (quiet t c)
          → AreAlike (answer (memory_reply v.memory o).0 q).1 (answer v.memory q).1
      by (inl commute) = inl (some_reply commute.second)
      by (inr adds) =
          subst (λ p. AreAlike (answer (memory_reply v.memory p).0 q).1 (answer v.memory q).1) (sym adds.is)
          (adds_commute v.memory adds.other q h.unforwarded
          (and_first (is_add adds.other) (is_unread_at (table u) theirs.ssw.pc) adds.other_quiet)
          (and_first (is_add q) (is_unread_at (table t) mine.ssw.pc) adds.this_quiet)).second

    unread_at : (p : ℕ) (x : StreamValue) → is_unread_at (table_at tables p) x.ssw.pc ≡ true
        → IsUnreadBy image named live x
    unread_at p x marked i stands =
        tell.unread p x.ssw.pc i marked
        (sym (fetch_runs image x (ap is_running_status (runs_of image x i stands))) ∙ stands)

    both_quiet : (adds : AreQuietAdds (table u) theirs.ssw.pc o (quiet t c))
        → Agree (after image (after image v t) u) (after image (after image v u) t)
    both_quiet adds =
        both_orders image named live asked v t u mine theirs q adds.other (h.members t c)
        (subst (IsRequestStep image v u theirs) adds.is (makes v u runs held))
        (λ e. other t u c none (sym e))
        (adds_commute v.memory q adds.other h.unforwarded
        (and_first (is_add q) (is_unread_at (table t) mine.ssw.pc) adds.this_quiet)
        (and_first (is_add adds.other) (is_unread_at (table u) theirs.ssw.pc) adds.other_quiet))
        (unread_at t.p mine (and_second (is_add q) (is_unread_at (table t) mine.ssw.pc) adds.this_quiet))
        (unread_at u.p theirs
        (and_second (is_add adds.other) (is_unread_at (table u) theirs.ssw.pc) adds.other_quiet))

    agrees : Agree (after image (after image v t) u) (after image (after image v u) t)
    agrees = by pair where
      by : DoCommute v.memory o (Some q) ⊎ AreQuietAdds (table u) theirs.ssw.pc o (quiet t c)
          → Agree (after image (after image v t) u) (after image (after image v u) t)
      by (inl commute) =
          same_agree (after image (after image v t) u) (after image (after image v u) t)
          (sym (swap.commutes image v u t theirs mine o (Some q) (makes v u runs held) (h.members t c) (other t u c none)
          commute))
      by (inr adds) = both_quiet adds

  kept_running : (v : World) (u : Step) → Holds v → ¬ (Contains set u)
      → (runs : is_running (stream_in v u.p u.s) ≡ true) → (held : IsHeldFrom (table u) (place u) (stream_in v u.p u.s))
      → Holds (after image v u)
  kept_running v u h none runs held =
      let s = stream_in v u.p u.s in
      let o = asked_for v u runs held in
      let f = makes v u runs held in
      let next = after image v u in record {
        unforwarded =
            subst IsUnforwarded (sym (ap (λ (x : World). x.memory) (swap.moved image v u s o f)))
            (still_unforwarded (table u) s.ssw.pc o (named_there v u runs held) v.memory h.unforwarded);
        members = λ t c.
            swap.stays image v u t s (a.members t c).stream o (Some (a.members t c).request) f (h.members t c)
            (other t u c none);
        held = λ x out. elim (same_step x u) [
          | inl same ↦
              subst (λ (y : Step). IsHeldFrom (table y) (place y) (stream_in next y.p y.s)) (sym same)
              (subst (IsHeldFrom (table u) (place u)) (sym (rest.own image v u s o f))
              (stays image (table u) (tell.closed u.p) (place u) s (memory_reply v.memory o).1 held))
          | inr apart ↦
              subst (IsHeldFrom (table x) (place x)) (sym (rest.others image v u s o f x apart)) (h.held x out)
        ];
        ran = λ x out goes. elim (same_step x u) [
          | inl same ↦
              subst (λ (y : Step). is_running (stream_in w y.p y.s) ≡ true) (sym same) (h.ran u none runs)
          | inr apart ↦ h.ran x out (sym (ap is_running (rest.others image v u s o f x apart)) ∙ goes)
        ];
        replies = λ t c.
            let q = (a.members t c).request in
            alike_next (answer next.memory q).1 (answer v.memory q).1 (answer w.memory q).1
            (subst (λ (x : World). AreAlike (answer x.memory q).1 (answer v.memory q).1)
            (sym (swap.moved image v u s o f)) (reply_behind v h u none runs held t c))
            (h.replies t c);
      }

  kept : (v : World) (u : Step) → Holds v → ¬ (Contains set u) → Holds (after image v u)
  kept v u h none = by (runs_or_not (is_running (stream_in v u.p u.s))) where
    by : (is_running (stream_in v u.p u.s) ≡ false) ⊎ (is_running (stream_in v u.p u.s) ≡ true) → Holds (after image v u)
    by (inl rests) = subst Holds (sym (rest.rested image v u (rest.runs_there v u ∙ rests))) h
    by (inr runs) = kept_running v u h none runs (h.held u none)

  agree : (v : World) (t u : Step) → Holds v → Contains set t → ¬ (Contains set u)
      → Agree (after image (after image v t) u) (after image (after image v u) t)
  agree v t u h c none = by (runs_or_not (is_running (stream_in v u.p u.s))) where
    by : (is_running (stream_in v u.p u.s) ≡ false) ⊎ (is_running (stream_in v u.p u.s) ≡ true)
        → Agree (after image (after image v t) u) (after image (after image v u) t)
    by (inl rests) =
        same_agree (after image (after image v t) u) (after image (after image v u) t)
        (rest.rests_behind image v t (a.members t c).stream (Some (a.members t c).request) (h.members t c) u
        (λ e. other t u c none (sym e)) (rest.runs_there v u ∙ rests)
        ∙ sym (ap (λ x. after image x t) (rest.rested image v u (rest.runs_there v u ∙ rests))))
    by (inr runs) = agrees v h u none runs (h.held u none) t c

  begins : Holds w
  begins = record {
    unforwarded = a.unforwarded;
    members = λ t c. (a.members t c).makes;
    held = λ u none. elim ((a.members a.key a.there).apart u none) [
      | inl rests ↦ inl rests
      | inr h ↦ inr (record { stands = h.0; touches = λ n m. m; changes = λ n m. m; uses = λ n m. m })
    ];
    ran = λ u none runs. runs;
    replies = λ t c. inl refl;
  }

  -- so it is after each schedule of others
  holds_after : (v : World) (us : List Step) → Holds v → AreOutside set us → Holds (steps image v us)
  holds_after v [] h out = h
  holds_after v (u ∷ us) h out = holds_after (after image v u) us (kept v u h out.0) out.1

  module _ (us : List Step) (out : AreOutside set us) (t : Step) (c : Contains set t) where
    abbrev there_now : World
    there_now = steps image w us

    -- a step of the set asks for the same, and gets a reply that is alike
    pub asks_still : IsRequestStep image there_now t (a.members t c).stream (Some (a.members t c).request)
    asks_still = (holds_after w us begins out).members t c

    pub replied_still : AreAlike (answer there_now.memory (a.members t c).request).1
        (answer w.memory (a.members t c).request).1
    replied_still = (holds_after w us begins out).replies t c

    -- its step leaves the memory that this request leaves
    pub memory_then : (after image there_now t).memory ≡ (memory_reply there_now.memory (Some (a.members t c).request)).0
    memory_then =
        ap (λ (x : World). x.memory)
        (swap.moved image there_now t (a.members t c).stream (Some (a.members t c).request) asks_still)

    pub unforwarded_still : IsUnforwarded there_now.memory
    unforwarded_still = (holds_after w us begins out).unforwarded

  moves_on : MovesOn Agree image w
  moves_on us x ts =
      schedules_agree image handled named live asked flow ts (steps image w us) x
      (λ vs. subst (TellsHandlers handled) (steps-append image w us vs) (told (us ++ vs)))

  chained : IsChained Agree
  chained = record { itself = agree_itself named live asked; next = agree_next named live asked }

  pub first_apart : IsFirstSet Agree image w set
  first_apart =
      first_by Agree chained image set a.key Holds
      (record {
        kept = kept;
        commutes = agree;
        runs = λ v h.
            rest.runs image v a.key (a.members a.key a.there).stream (Some (a.members a.key a.there).request)
            (h.members a.key a.there);
        free = λ v h stuck.
            still_goes image w v a.key (a.members a.key a.there).stream (a.members a.key a.there).request
            (a.members a.key a.there).makes (h.members a.key a.there) (h.replies a.key a.there) a.goes
            (ap (λ (e : World × Outcome). e.1) stuck.stays);
      })
      w moves_on begins a.there
