-- A world agrees with the one in which registers and condition codes that do not matter hold 0: stream by stream, processor by processor.
use Rattle.std.proofs.Common.{◌≡◌, ℕ, zero, suc, Bool, true, false, refl, sym, ap, ◌∙◌, arith, subst, if◌then◌else◌, nat_lt}
use Rattle.std.proofs.Common.{List, [], ◌∷◌, ◌++◌, length, map, set, Option, Some, None, slice_get, append_assoc, length-append}
use Rattle.std.specs.Prelude.{IsTrue}
use Rattle.std.proofs.lemmas.List.{get_or_at, set_at, map-set, set-get_or}
use Rattle.std.proofs.lemmas.Option.{get_or_from_slice_get}
use Rattle.tag_memory.specs.Storage.{TaggedMemory}
use Rattle.stream_core.specs.Streams.{StreamValue, idle}
use Rattle.processor.specs.Processors.{ProcessorValue, is_idle, stream_at, stream_seen}
use Rattle.processor.specs.World.{World, stream_of, stream_seen_at}
use Rattle.waiting.specs.Running.{streams_at}
use Rattle.program_flow.specs.Agreeing.{StreamsAgree}
use Rattle.program_flow.specs.Tables.{is_live_at, is_named_by, is_asked_at}
use Rattle.same_futures.specs.Links.{HasOtherStream, IsLinked, AreLinked, WorldsAgree}
use Rattle.same_futures.specs.Agreeing.{stream_in}
use Rattle.same_futures.proofs.Chains.{agree_itself, agree_next, agree_link, agree_back}
use Rattle.dead_registers.specs.Clearing.{LiveValue, kept_registers, cleared_stream, cleared_processor, cleared, registers_seen, AgreeBy}
use Rattle.dead_registers.proofs.Registers.{idle_same, stream_agrees as clearing_agrees, stream_twice, stream_same}

-- Lists.

get_behind : {X : Type 0} (xs : List X) (x : X) (ys : List X) → slice_get (xs ++ x ∷ ys) (length xs) ≡ Some x
get_behind [] x ys = refl
get_behind (z ∷ zs) x ys = get_behind zs x ys

map_twice : {X : Type 0} (f : X → X) → ((x : X) → f (f x) ≡ f x) → (xs : List X) → map f (map f xs) ≡ map f xs
map_twice f once [] = refl
map_twice f once (x ∷ xs) = λ i. once x i ∷ map_twice f once xs i

set_itself : {X : Type 0} (xs : List X) (p : ℕ) (x : X) → slice_get xs p ≡ Some x → set xs p x ≡ xs
set_itself xs p x got = ap (set xs p) (sym (get_or_from_slice_get xs p x x got)) ∙ set-get_or xs p x

-- Clearing twice.

processor_twice : (l : LiveValue) (proc : ProcessorValue)
    → cleared_processor l (cleared_processor l proc) ≡ cleared_processor l proc
processor_twice l proc =
    ap (λ ss. record proc { streams = ss }) (map_twice (cleared_stream l) (stream_twice l) proc.streams)

pub cleared_twice : (l : LiveValue) (w : World) → cleared l (cleared l w) ≡ cleared l w
unfolding cleared
cleared_twice l w =
    ap (λ ps. record { processors = ps; memory = w.memory })
    (map_twice (cleared_processor l) (processor_twice l) w.processors)

-- What is seen of it.

stream_cleared : (l : LiveValue) (ss : List StreamValue) (k : ℕ)
    → stream_at (map (cleared_stream l) ss) k ≡ cleared_stream l (stream_at ss k)
stream_cleared l [] k = refl
stream_cleared l (s ∷ ss) zero = refl
stream_cleared l (s ∷ ss) (suc k) = stream_cleared l ss k

streams_cleared : (l : LiveValue) (ps : List ProcessorValue) (p : ℕ)
    → streams_at (slice_get (map (cleared_processor l) ps) p) ≡ map (cleared_stream l) (streams_at (slice_get ps p))
streams_cleared l [] p = refl
streams_cleared l (q ∷ ps) zero = refl
streams_cleared l (q ∷ ps) (suc p) = streams_cleared l ps p

pub stream_in_cleared : (l : LiveValue) (w : World) (p k : ℕ)
    → stream_in (cleared l w) p k ≡ cleared_stream l (stream_in w p k)
unfolding cleared
stream_in_cleared l w p k =
    ap (λ ss. stream_at ss k) (streams_cleared l w.processors p)
    ∙ stream_cleared l (streams_at (slice_get w.processors p)) k

-- the registers of a stream that may be missing
abbrev live_seen : LiveValue → Option StreamValue → Option (List ℕ)
live_seen l None = None
live_seen l (Some s) = Some (kept_registers l s)

seen_cleared : (l : LiveValue) (size s : ℕ) (ss : List StreamValue)
    → registers_seen (stream_seen size (map (cleared_stream l) ss) s) ≡ live_seen l (stream_seen size ss s)
seen_cleared l size s ss = by (nat_lt s size) where
  by : (b : Bool)
      → registers_seen (if b then Some (stream_at (map (cleared_stream l) ss) s) else None)
      ≡ live_seen l (if b then Some (stream_at ss s) else None)
  by true = ap (λ (x : StreamValue). Some x.registers) (stream_cleared l ss s)
  by false = refl

seen_among : (l : LiveValue) (size s : ℕ) (ps : List ProcessorValue) (p : ℕ)
    → registers_seen (stream_seen_at size s (slice_get (map (cleared_processor l) ps) p))
    ≡ live_seen l (stream_seen_at size s (slice_get ps p))
seen_among l size s [] p = refl
seen_among l size s (q ∷ ps) zero = seen_cleared l size s q.streams
seen_among l size s (q ∷ ps) (suc p) = seen_among l size s ps p

pub seen_of : (l : LiveValue) (size : ℕ) (w : World) (p s : ℕ)
    → registers_seen (stream_of size (cleared l w) p s) ≡ live_seen l (stream_of size w p s)
unfolding cleared
seen_of l size w p s = seen_among l size s w.processors p

pub seen_none : (l : LiveValue) (size : ℕ) (w : World) (p s : ℕ) → stream_of size w p s ≡ None
    → None ≡ registers_seen (stream_of size (cleared l w) p s)
seen_none l size w p s e = sym (seen_of l size w p s ∙ ap (live_seen l) e)

pub seen_some : (l : LiveValue) (size : ℕ) (w : World) (p s : ℕ) (x : StreamValue) (rs : List ℕ)
    → stream_of size w p s ≡ Some x → rs ≡ kept_registers l x
    → Some rs ≡ registers_seen (stream_of size (cleared l w) p s)
seen_some l size w p s x rs e is = ap Some is ∙ sym (seen_of l size w p s ∙ ap (live_seen l) e)

-- The chain of links.

module _ (l : LiveValue) where
  abbrev Named : ℕ → Type 0
  Named r = IsTrue (is_named_by l.names r)

  abbrev Live : ℕ → ℕ → Type 0
  Live k r = IsTrue (is_live_at l.table k r)

  abbrev Asked : ℕ → ℕ → Type 0
  Asked k c = IsTrue (is_asked_at l.codes k c)

  -- one processor, between others
  module _ (before behind : List ProcessorValue) (scur sres : ℕ) (m : TaggedMemory) where
    abbrev made : List StreamValue → ProcessorValue
    made ss = record { streams = ss; scur = scur; sres = sres }

    abbrev world : List StreamValue → World
    world ss = record { processors = before ++ made ss ∷ behind; memory = m }

    stream_linked : (xs : List StreamValue) (s : StreamValue) (ys : List StreamValue) → is_idle s ≡ false
        → IsLinked Named Live Asked (world (xs ++ s ∷ ys)) (world (xs ++ cleared_stream l s ∷ ys))
    stream_linked xs s ys here = record {
      p = length before;
      k = length xs;
      from = from;
      to = made (xs ++ cleared_stream l s ∷ ys);
      there = get_behind before from behind;
      moved = record {
        within = omega (arith, length-append xs (s ∷ ys));
        awake = ap is_idle held ∙ here;
        stream = cleared_stream l s;
        agrees = subst (λ (x : StreamValue). StreamsAgree Named Live Asked x (cleared_stream l s)) (sym held)
            (clearing_agrees l s);
        is = sym (ap made (set_at xs s ys (cleared_stream l s) (length xs) refl));
      };
      is =
          ap (λ ps. record { processors = ps; memory = m })
          (sym (set_at before from behind (made (xs ++ cleared_stream l s ∷ ys)) (length before) refl));
    }
      where
        from : ProcessorValue
        from = made (xs ++ s ∷ ys)

        held : stream_at (xs ++ s ∷ ys) (length xs) ≡ s
        held = get_or_at xs s ys idle (length xs) refl

    stream_agrees : (xs : List StreamValue) (s : StreamValue) (ys : List StreamValue)
        → WorldsAgree Named Live Asked (world (xs ++ s ∷ ys)) (world (xs ++ cleared_stream l s ∷ ys))
    stream_agrees xs s ys = by (is_idle s) refl where
      by : (b : Bool) → is_idle s ≡ b
          → WorldsAgree Named Live Asked (world (xs ++ s ∷ ys)) (world (xs ++ cleared_stream l s ∷ ys))
      by false here =
          agree_link Named Live Asked (world (xs ++ s ∷ ys)) (world (xs ++ cleared_stream l s ∷ ys)) (stream_linked xs s ys here)
      by true rests =
          subst (λ x. WorldsAgree Named Live Asked (world (xs ++ s ∷ ys)) (world (xs ++ x ∷ ys)))
          (sym (idle_same l s rests)) (agree_itself Named Live Asked (world (xs ++ s ∷ ys)))

    streams_agree : (ys xs : List StreamValue)
        → WorldsAgree Named Live Asked (world (xs ++ ys)) (world (xs ++ map (cleared_stream l) ys))
    streams_agree [] xs = agree_itself Named Live Asked (world (xs ++ []))
    streams_agree (s ∷ ys) xs =
        let c = cleared_stream l s in
        agree_next Named Live Asked (world (xs ++ s ∷ ys)) (world (xs ++ c ∷ ys)) (world (xs ++ c ∷ map (cleared_stream l) ys))
        (stream_agrees xs s ys)
        (subst (λ zs. WorldsAgree Named Live Asked (world (xs ++ c ∷ ys)) (world zs))
        (append_assoc xs (c ∷ []) (map (cleared_stream l) ys))
        (subst (λ zs. WorldsAgree Named Live Asked (world zs) (world ((xs ++ c ∷ []) ++ map (cleared_stream l) ys)))
        (append_assoc xs (c ∷ []) ys) (streams_agree ys (xs ++ c ∷ []))))

  abbrev with_memory : TaggedMemory → List ProcessorValue → World
  with_memory m ps = record { processors = ps; memory = m }

  processors_agree : (m : TaggedMemory) (ps before : List ProcessorValue)
      → WorldsAgree Named Live Asked (with_memory m (before ++ ps)) (with_memory m (before ++ map (cleared_processor l) ps))
  processors_agree m [] before = agree_itself Named Live Asked (with_memory m (before ++ []))
  processors_agree m (q ∷ ps) before =
      let c = cleared_processor l q in
      agree_next Named Live Asked (with_memory m (before ++ q ∷ ps)) (with_memory m (before ++ c ∷ ps))
      (with_memory m (before ++ c ∷ map (cleared_processor l) ps))
      (streams_agree before ps q.scur q.sres m q.streams [])
      (subst (λ zs. WorldsAgree Named Live Asked (with_memory m (before ++ c ∷ ps)) (with_memory m zs))
      (append_assoc before (c ∷ []) (map (cleared_processor l) ps))
      (subst (λ zs. WorldsAgree Named Live Asked (with_memory m zs)
      (with_memory m ((before ++ c ∷ []) ++ map (cleared_processor l) ps)))
      (append_assoc before (c ∷ []) ps) (processors_agree m ps (before ++ c ∷ []))))

  pub cleared_agrees : (w : World) → AgreeBy l w (cleared l w)
  unfolding cleared
  cleared_agrees w = processors_agree w.memory w.processors []

  -- Worlds that agree are one when they are cleared.

  moved_same : (k : ℕ) (from to : ProcessorValue) → HasOtherStream Named Live Asked k from to
      → cleared_processor l to ≡ cleared_processor l from
  moved_same k from to m =
      let s = stream_at from.streams k in
      let f = cleared_stream l in
      let made : List StreamValue → ProcessorValue = λ ss. record { streams = ss; scur = from.scur; sres = from.sres } in
      ap (cleared_processor l) m.is
      ∙ ap made
      (map-set f from.streams k m.stream
      ∙ ap (set (map f from.streams) k) (stream_same l s m.stream m.awake m.agrees ∙ sym (stream_cleared l from.streams k))
      ∙ set-get_or (map f from.streams) k idle)

  processor_there : (ps : List ProcessorValue) (p : ℕ) (q : ProcessorValue) → slice_get ps p ≡ Some q
      → slice_get (map (cleared_processor l) ps) p ≡ Some (cleared_processor l q)
  processor_there [] p q got = let none : ⊥ = cc in absurd none
  processor_there (x ∷ ps) zero q got = let same : x ≡ q = cc in ap (λ y. Some (cleared_processor l y)) same
  processor_there (x ∷ ps) (suc p) q got = processor_there ps p q got

  linked_same : (a b : World) → IsLinked Named Live Asked a b → cleared l b ≡ cleared l a
  unfolding cleared
  linked_same a b k =
      let f = cleared_processor l in
      ap (cleared l) k.is
      ∙ ap (λ ps. record { processors = ps; memory = a.memory })
      (map-set f a.processors k.p k.to
      ∙ ap (set (map f a.processors) k.p) (moved_same k.k k.from k.to k.moved)
      ∙ set_itself (map f a.processors) k.p (f k.from) (processor_there a.processors k.p k.from k.there))

  chain_same : (cs : List World) (a b : World) → AreLinked Named Live Asked a cs b → cleared l b ≡ cleared l a
  chain_same [] a b e = ap (cleared l) e
  chain_same (c ∷ cs) a b g = chain_same cs c b g.1 ∙ linked_same a c g.0

  pub agreeing_same : (a b : World) → AgreeBy l a b → cleared l a ≡ cleared l b
  agreeing_same a b g = sym (chain_same g.0 a b g.1)

  pub same_agree : (a b : World) → cleared l a ≡ cleared l b → AgreeBy l a b
  same_agree a b same =
      agree_next Named Live Asked a (cleared l b) b (subst (AgreeBy l a) same (cleared_agrees a))
      (agree_back Named Live Asked b (cleared l b) (cleared_agrees b))
