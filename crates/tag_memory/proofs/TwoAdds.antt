-- Two adds leave one memory in both orders, where no word has the forward bit, and each of them still adds after the other.
use Rattle.std.proofs.Common.{◌≡◌, ◌≢◌, ℕ, ◌+◌, ◌/◌, ◌%◌, ◌^◌, ◌==◌, ◌⊎◌, inl, inr, refl, sym, ap, ◌∙◌, subst, arith}
use Rattle.std.proofs.Common.{Bool, true, false, not, ◌&&◌, if◌then◌else◌, List, length, set, Option, Some, None, slice_get}
use Rattle.std.specs.Bool.{⊤}
use Rattle.std.proofs.lemmas.Bool.{cases_lt, cases_eq}
use Rattle.std.proofs.lemmas.List.{length-set, get_or-set_same, set-set}
use Rattle.std.proofs.lemmas.Option.{slice_get-get_or, slice_get_past}
use Rattle.tag_memory.specs.Cell.{Cell, has_bit}
use Rattle.tag_memory.specs.Address.{address_of, is_reserved}
use Rattle.tag_memory.specs.Storage.{TaggedMemory, cell_at, with_cell}
use Rattle.tag_memory.specs.Access.{access_control, with_value_full, sum_of, effect}
use Rattle.tag_memory.specs.Chain.{is_tag_operation, probe_cell, probe}
use Rattle.tag_memory.specs.Answer.{answer_by_effect, at_end, answer}
use Rattle.tag_memory.specs.Distant.{last_word, AreDistant}
use Rattle.tag_memory.specs.Unforwarded.{IsUnforwarded}
use Rattle.tag_memory.specs.Adds.{adds_by, is_add, AreAlike, DoCommuteButForNumbers}
use Rattle.tag_memory.specs.declared.pointers.AccessControl.{AccessControl}
use Rattle.tag_memory.specs.declared.pointers.AccessControl.TheVariants.{Normal, Future, Sync}
use Rattle.tag_memory.specs.declared.requests.MemOp.{MemOp}
use Rattle.tag_memory.specs.declared.requests.MemOp.TheVariants.{Load, Store, Fadd, TagGet, TagSet, Purge}
use Rattle.tag_memory.specs.declared.requests.Request.{Request}
use Rattle.tag_memory.specs.declared.requests.Reply.{Reply}
use Rattle.tag_memory.specs.declared.requests.Reply.TheVariants as reply
use Rattle.tag_memory.specs.declared.requests.MemTrap.{MemTrap}
use Rattle.tag_memory.specs.declared.requests.MemTrap.TheVariants as trap
use Rattle.tag_memory.specs.declared.chain.Probe.{Probe}
use Rattle.tag_memory.specs.declared.chain.Probe.TheVariants.{Trap, Reach, Forward}
use Rattle.tag_memory.proofs.Ends.{trap_ends, reach_ends, cell_at-reached}
use Rattle.tag_memory.proofs.NoForwards.{put_there, aligned, never_on, leaves_out, ends_at_once}
use Rattle.tag_memory.proofs.TwoRequests.{get_other, probe_same, same_memory}

-- What an add does, by its first probe.

fadd_of : (o : MemOp) (k : AccessControl) → adds_by o k ≡ true → (o ≡ Fadd) × (k ≡ Normal)
fadd_of Load k e = cc
fadd_of Store k e = cc
fadd_of Fadd Normal e = (refl, refl)
fadd_of Fadd Future e = cc
fadd_of Fadd Sync e = cc
fadd_of TagGet k e = cc
fadd_of TagSet k e = cc
fadd_of Purge k e = cc

-- the word that it leaves
abbrev added : Cell → ℕ → Cell
added c v = with_value_full c (sum_of c v)

effect_added : (q : Request) (c : Cell) → is_add q ≡ true
    → effect q.op (access_control q.acc q.pointer) c q.value ≡ Some (added c q.value, c.value)
effect_added q c e =
    let it = fadd_of q.op (access_control q.acc q.pointer) e in
    λ i. effect (it.0 i) (it.1 i) c q.value

reached_answer : (m : TaggedMemory) (q : Request) (c : Cell) → is_add q ≡ true → probe m q q.pointer ≡ Reach c
    → answer m q ≡ (with_cell m (address_of q.pointer) (added c q.value), reply.Done c.value)
reached_answer m q c adds reaches =
    ap (at_end m q) (sym (reach_ends m q m.chain_limit q.pointer c (sym reaches)))
    ∙ ap (answer_by_effect m (address_of q.pointer)) (effect_added q c adds)

trapped_answer : (m : TaggedMemory) (q : Request) (kind : MemTrap) → probe m q q.pointer ≡ Trap kind
    → answer m q ≡ (m, reply.Trap kind (address_of q.pointer))
trapped_answer m q kind traps =
    ap (at_end m q) (sym (trap_ends m q m.chain_limit q.pointer (address_of q.pointer) kind (sym traps) refl))

abbrev left : TaggedMemory × Reply → TaggedMemory
left x = x.0

abbrev got : TaggedMemory × Reply → Reply
got x = x.1

-- The words behind an add.

-- the word is as it was, or has another value and is full
abbrev IsTouched : Option Cell → Option Cell → Type 0
IsTouched o p = (p ≡ o) ⊎ ((c : Cell) × ((v : ℕ) × ((o ≡ Some c) × (p ≡ Some (with_value_full c v)))))

if_touched : (t : Bool) (o p : Option Cell) → IsTouched o p → IsTouched (if t then o else None) (if t then p else None)
if_touched true o p it = it
if_touched false o p it = inl refl

put_stands : (xs : List Cell) (k : ℕ) (c d : Cell) → slice_get xs k ≡ Some c → slice_get (set xs k d) k ≡ Some d
put_stands xs k c d there = elim (cases_lt k (length xs)) [
  | inl within ↦
      slice_get-get_or (set xs k d) k d (omega (arith, within, length-set xs k d))
      ∙ ap Some (get_or-set_same xs k d d within)
  | inr past ↦
      let never : None ≡ Some c = sym (slice_get_past xs k past) ∙ there in cc
]

in_list : (m : TaggedMemory) (a : ℕ) (c : Cell) → cell_at m a ≡ Some c → slice_get m.cells (a / 8) ≡ Some c
in_list m a c stands = (aligned (a % 8 == 0) (slice_get m.cells (a / 8)) c stands).1

word_touched : (m : TaggedMemory) (a b : ℕ) (c : Cell) (v : ℕ) → cell_at m a ≡ Some c
    → IsTouched (cell_at m b) (cell_at (with_cell m a (with_value_full c v)) b)
word_touched m a b c v stands =
    if_touched (b % 8 == 0) (slice_get m.cells (b / 8)) (slice_get (set m.cells (a / 8) (with_value_full c v)) (b / 8))
    (by_word (cases_eq (b / 8) (a / 8))) where
      by_word : (b / 8 ≡ a / 8) ⊎ (b / 8 ≢ a / 8)
          → IsTouched (slice_get m.cells (b / 8)) (slice_get (set m.cells (a / 8) (with_value_full c v)) (b / 8))
      by_word (inl same) =
          let there = in_list m a c stands in
          inr (
            c,
            (
              v,
              (
                ap (slice_get m.cells) same ∙ there,
                ap (slice_get (set m.cells (a / 8) (with_value_full c v))) same
                    ∙ put_stands m.cells (a / 8) c (with_value_full c v) there,
              ),
            ),
          )
      by_word (inr apart) = inl (get_other m.cells (a / 8) (b / 8) (with_value_full c v) apart)

touched : (m : TaggedMemory) (r : Request) (b : ℕ) → IsUnforwarded m → is_add r ≡ true
    → IsTouched (cell_at m b) (cell_at (answer m r).0 b)
touched m r b un adds = by (probe m r r.pointer) refl where
  by : (x : Probe) → probe m r r.pointer ≡ x → IsTouched (cell_at m b) (cell_at (answer m r).0 b)
  by (Trap kind) e = inl (ap (λ (x : TaggedMemory × Reply). cell_at x.0 b) (trapped_answer m r kind e))
  by (Reach c) e =
      subst (λ (x : TaggedMemory × Reply). IsTouched (cell_at m b) (cell_at x.0 b)) (sym (reached_answer m r c adds e))
      (word_touched m (address_of r.pointer) b c (sum_of c r.value) (cell_at-reached m r r.pointer c e))
  by (Forward next) e = absurd (never_on m r r.pointer next un e)

-- A probe of such a word.

-- two probes that trap for one reason, or both reach a word; of those that lead on nothing is said
abbrev AreProbedAlike : Probe → Probe → Type 0
AreProbedAlike (Trap k) (Trap j) = j ≡ k
AreProbedAlike (Trap k) (Reach d) = ⊥
AreProbedAlike (Trap k) (Forward next) = ⊥
AreProbedAlike (Reach c) (Trap j) = ⊥
AreProbedAlike (Reach c) (Reach d) = ⊤
AreProbedAlike (Reach c) (Forward next) = ⊥
AreProbedAlike (Forward next) y = ⊤

alike_itself : (x : Probe) → AreProbedAlike x x
alike_itself (Trap k) = refl
alike_itself (Reach c) = tt
alike_itself (Forward next) = tt

bits_alike : (tags t0 t1 forward : Bool) (c d : Cell)
    → AreProbedAlike
    (if tags then Reach c
    else if t0 then Trap trap.Trap0
    else if t1 then Trap trap.Trap1
    else if forward then Forward c.value
    else Reach c)
    (if tags then Reach d
    else if t0 then Trap trap.Trap0
    else if t1 then Trap trap.Trap1
    else if forward then Forward d.value
    else Reach d)
bits_alike true t0 t1 forward c d = tt
bits_alike false true t1 forward c d = refl
bits_alike false false true forward c d = refl
bits_alike false false false true c d = tt
bits_alike false false false false c d = tt

-- what is decided at the pointer p of the word there
abbrev decided : Request → ℕ → Option Cell → Probe
decided q p o =
    if is_reserved p then Trap trap.Pointer
    else if not (address_of p % 8 == 0) then Trap trap.Align
    else probe_cell q p o

decided_alike : (q : Request) (p : ℕ) (c : Cell) (v : ℕ)
    → AreProbedAlike (decided q p (Some c)) (decided q p (Some (with_value_full c v)))
decided_alike q p c v = by (is_reserved p) (not (address_of p % 8 == 0)) where
  by : (reserved unaligned : Bool)
      → AreProbedAlike
      (if reserved then Trap trap.Pointer else if unaligned then Trap trap.Align else probe_cell q p (Some c))
      (if reserved then Trap trap.Pointer
      else if unaligned then Trap trap.Align
      else probe_cell q p (Some (with_value_full c v)))
  by true unaligned = refl
  by false true = refl
  by false false =
      bits_alike (is_tag_operation q.op) (c.trap0 && not (has_bit p 62) && not q.masked.trap0)
      (c.trap1 && not (has_bit p 63) && not q.masked.trap1) (c.forward && not (has_bit p 61)) c (with_value_full c v)

probes_alike : (m n : TaggedMemory) (q : Request) (p : ℕ)
    → IsTouched (cell_at m (address_of p)) (cell_at n (address_of p)) → AreProbedAlike (probe m q p) (probe n q p)
probes_alike m n q p (inl same) =
    subst (AreProbedAlike (probe m q p)) (sym (probe_same m n q p same)) (alike_itself (probe m q p))
probes_alike m n q p (inr (c, (v, (before, behind)))) =
    subst (λ o. AreProbedAlike (decided q p o) (probe n q p)) (sym before)
    (subst (λ o. AreProbedAlike (decided q p (Some c)) (decided q p o)) (sym behind) (decided_alike q p c v))

-- A request traps in both memories for one reason, or reaches a word in both.

abbrev BothTrap : TaggedMemory → TaggedMemory → Request → Type 0
BothTrap m n q = (kind : MemTrap) × ((probe m q q.pointer ≡ Trap kind) × (probe n q q.pointer ≡ Trap kind))

record BothReach (m n : TaggedMemory) (q : Request) : Type 0 where
  here : Cell
  there : Cell
  first : probe m q q.pointer ≡ Reach here
  second : probe n q q.pointer ≡ Reach there

probed : (m n : TaggedMemory) (q : Request) → IsUnforwarded m
    → IsTouched (cell_at m (address_of q.pointer)) (cell_at n (address_of q.pointer))
    → BothTrap m n q ⊎ BothReach m n q
probed m n q un it =
    by (probe m q q.pointer) (probe n q q.pointer) refl refl (probes_alike m n q q.pointer it) where
      by : (x y : Probe) → probe m q q.pointer ≡ x → probe n q q.pointer ≡ y → AreProbedAlike x y
          → BothTrap m n q ⊎ BothReach m n q
      by (Trap k) (Trap j) e f same = inl (k, (e, f ∙ ap (λ x. Trap x) same))
      by (Trap k) (Reach d) e f none = absurd none
      by (Trap k) (Forward next) e f none = absurd none
      by (Reach c) (Trap j) e f none = absurd none
      by (Reach c) (Reach d) e f both = inr (record { here = c; there = d; first = e; second = f })
      by (Reach c) (Forward next) e f none = absurd none
      by (Forward next) y e f any = absurd (never_on m q q.pointer next un e)

replies_alike : (m n : TaggedMemory) (q : Request) → is_add q ≡ true → BothTrap m n q ⊎ BothReach m n q
    → AreAlike (answer n q).1 (answer m q).1
replies_alike m n q adds (inl (kind, (first, second))) =
    inl (ap got (trapped_answer n q kind second) ∙ sym (ap got (trapped_answer m q kind first)))
replies_alike m n q adds (inr r) =
    inr (
      r.there.value,
      (
        r.here.value,
        (ap got (reached_answer n q r.there adds r.second), ap got (reached_answer m q r.here adds r.first)),
      ),
    )

-- The memory behind both.

sums : (x v w : ℕ) → ((x + v) % 2 ^ 64 + w) % 2 ^ 64 ≡ ((x + w) % 2 ^ 64 + v) % 2 ^ 64
sums x v w = omega arith

added_twice : (c : Cell) (v w : ℕ) → added (added c v) w ≡ added (added c w) v
added_twice c v w = λ i. record c { value = sums c.value v w i; full = true }

module _ (m : TaggedMemory) (q r : Request) (un : IsUnforwarded m) (q_adds : is_add q ≡ true) (r_adds : is_add r ≡ true) where
  abbrev a : ℕ
  a = address_of q.pointer

  abbrev b : ℕ
  b = address_of r.pointer

  abbrev behind_q : TaggedMemory
  behind_q = (answer m q).0

  abbrev behind_r : TaggedMemory
  behind_r = (answer m r).0

  q_probed : BothTrap m behind_r q ⊎ BothReach m behind_r q
  q_probed = probed m behind_r q un (touched m r a un r_adds)

  r_probed : BothTrap m behind_q r ⊎ BothReach m behind_q r
  r_probed = probed m behind_q r un (touched m q b un q_adds)

  distant : a / 8 ≢ b / 8 → AreDistant m q r
  distant apart = record {
    first = leaves_out m q (last_word m r) un (λ e. apart (e ∙ ends_at_once m r un));
    second = leaves_out m r (last_word m q) un (λ e. apart (sym (e ∙ ends_at_once m q un)));
  }

  put_at : ℕ → Cell → TaggedMemory
  put_at k x = record m { cells = set m.cells k x }

  put_twice : (k j : ℕ) (x y : Cell) → k ≡ j → record m { cells = set (set m.cells k x) j y } ≡ put_at j y
  unfolding put_at
  put_twice k j x y same =
      ap (λ cs. record m { cells = cs }) (ap (λ h. set (set m.cells h x) j y) same ∙ set-set m.cells j x y)

  module _ (same : a / 8 ≡ b / 8) (x : BothReach m behind_r q) (y : BothReach m behind_q r) where
    first_left : behind_q ≡ with_cell m a (added x.here q.value)
    first_left = ap left (reached_answer m q x.here q_adds x.first)

    second_left : behind_r ≡ with_cell m b (added y.here r.value)
    second_left = ap left (reached_answer m r y.here r_adds y.first)

    one_word : x.here ≡ y.here
    one_word =
        let both : Some x.here ≡ Some y.here =
        sym (in_list m a x.here (cell_at-reached m q q.pointer x.here x.first))
        ∙ ap (slice_get m.cells) same
        ∙ in_list m b y.here (cell_at-reached m r r.pointer y.here y.first) in
        cc

    second_finds : y.there ≡ added x.here q.value
    second_finds =
        put_there m.cells (a / 8) (added x.here q.value) y.there
        (sym (ap (λ (n : TaggedMemory). slice_get n.cells (a / 8)) first_left)
        ∙ ap (slice_get behind_q.cells) same
        ∙ in_list behind_q b y.there (cell_at-reached behind_q r r.pointer y.there y.second))

    first_finds : x.there ≡ added y.here r.value
    first_finds =
        put_there m.cells (b / 8) (added y.here r.value) x.there
        (sym (ap (λ (n : TaggedMemory). slice_get n.cells (b / 8)) second_left)
        ∙ ap (slice_get behind_r.cells) (sym same)
        ∙ in_list behind_r a x.there (cell_at-reached behind_r q q.pointer x.there x.second))

    first_order : (answer behind_q r).0 ≡ put_at (b / 8) (added (added x.here q.value) r.value)
    unfolding put_at
    first_order =
        ap left (reached_answer behind_q r y.there r_adds y.second)
        ∙ ap (λ (n : TaggedMemory). with_cell n b (added y.there r.value)) first_left
        ∙ put_twice (a / 8) (b / 8) (added x.here q.value) (added y.there r.value) same
        ∙ ap (λ (c : Cell). put_at (b / 8) (added c r.value)) second_finds

    second_order : (answer behind_r q).0 ≡ put_at (a / 8) (added (added y.here r.value) q.value)
    unfolding put_at
    second_order =
        ap left (reached_answer behind_r q x.there q_adds x.second)
        ∙ ap (λ (n : TaggedMemory). with_cell n a (added x.there q.value)) second_left
        ∙ put_twice (b / 8) (a / 8) (added y.here r.value) (added x.there q.value) (sym same)
        ∙ ap (λ (c : Cell). put_at (a / 8) (added c q.value)) first_finds

    one_memory : (answer behind_q r).0 ≡ (answer behind_r q).0
    one_memory =
        let both : added (added x.here q.value) r.value ≡ added (added y.here r.value) q.value =
        added_twice x.here q.value r.value ∙ ap (λ (c : Cell). added (added c r.value) q.value) one_word in
        first_order ∙ (λ i. put_at (sym same i) (both i)) ∙ sym second_order

  by_probes : BothTrap m behind_r q ⊎ BothReach m behind_r q → BothTrap m behind_q r ⊎ BothReach m behind_q r
      → a / 8 ≡ b / 8 → (answer behind_q r).0 ≡ (answer behind_r q).0
  by_probes (inl (kind, (first, second))) other same =
      ap (λ (n : TaggedMemory). (answer n r).0) (ap left (trapped_answer m q kind first))
      ∙ sym (ap left (trapped_answer behind_r q kind second))
  by_probes (inr x) (inl (kind, (first, second))) same =
      ap left (trapped_answer behind_q r kind second)
      ∙ sym (ap (λ (n : TaggedMemory). (answer n q).0) (ap left (trapped_answer m r kind first)))
  by_probes (inr x) (inr y) same = one_memory same x y

  by_words : (a / 8 ≡ b / 8) ⊎ (a / 8 ≢ b / 8) → (answer behind_q r).0 ≡ (answer behind_r q).0
  by_words (inl same) = by_probes q_probed r_probed same
  by_words (inr apart) = same_memory m q r (distant apart)

pub adds_commute : (m : TaggedMemory) (q r : Request) → IsUnforwarded m → is_add q ≡ true → is_add r ≡ true
    → DoCommuteButForNumbers m q r
adds_commute m q r un q_adds r_adds = record {
  memory = by_words m q r un q_adds r_adds (cases_eq (address_of q.pointer / 8) (address_of r.pointer / 8));
  first = replies_alike m (answer m r).0 q q_adds (q_probed m q r un q_adds r_adds);
  second = replies_alike m (answer m q).0 r r_adds (r_probed m q r un q_adds r_adds);
}
