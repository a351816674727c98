-- Requests that do not meet get the same replies in both orders, and leave the same memory.
use Rattle.std.proofs.Common.{◌≡◌, ◌≢◌, ℕ, zero, suc, ◌/◌, ◌%◌, ◌==◌, inl, inr, refl, sym, ap, ◌∙◌, arith}
use Rattle.std.proofs.Common.{not, if◌then◌else◌, List, length, set, Option, Some, None, slice_get}
use Rattle.std.proofs.lemmas.Bool.{cases_lt}
use Rattle.std.proofs.lemmas.List.{length-set, get_or-set_other, set_comm}
use Rattle.std.proofs.lemmas.Option.{slice_get-get_or, slice_get_past}
use Rattle.tag_memory.specs.Cell.{Cell}
use Rattle.tag_memory.specs.Address.{address_of, is_reserved}
use Rattle.tag_memory.specs.Storage.{TaggedMemory, cell_at}
use Rattle.tag_memory.specs.Access.{access_control, effect}
use Rattle.tag_memory.specs.Chain.{probe_cell, probe, end_by_probe, end_from, end_of}
use Rattle.tag_memory.specs.Answer.{answer_by_effect, at_end, address_at, answer}
use Rattle.tag_memory.specs.declared.requests.Request.{Request}
use Rattle.tag_memory.specs.declared.requests.MemTrap.TheVariants as trap
use Rattle.tag_memory.specs.declared.chain.Probe.{Probe}
use Rattle.tag_memory.specs.declared.chain.Probe.TheVariants.{Trap, Reach, Forward}
use Rattle.tag_memory.specs.declared.chain.End.{End}
use Rattle.tag_memory.specs.declared.chain.End.TheVariants as at
use Rattle.tag_memory.specs.Distant.{last_word, PassesBy, LeavesOut, AreDistant}

-- Memories that differ at most in word k.
pub record AreSameBut (k : ℕ) (n m : TaggedMemory) : Type 0 where
  pub chain : n.chain_limit ≡ m.chain_limit
  pub cells : (b : ℕ) → b / 8 ≢ k → cell_at n b ≡ cell_at m b

-- another place of a list stays as it is where one is put
pub get_other : {X : Type 0} (xs : List X) (k n : ℕ) (x : X) → n ≢ k → slice_get (set xs k x) n ≡ slice_get xs n
get_other xs k n x apart = elim (cases_lt n (length xs)) [
  | inl within ↦
      slice_get-get_or (set xs k x) n x (omega (arith, within, length-set xs k x))
      ∙ ap Some (get_or-set_other xs k n x x apart)
      ∙ sym (slice_get-get_or xs n x within)
  | inr past ↦
      slice_get_past (set xs k x) n (omega (arith, past, length-set xs k x)) ∙ sym (slice_get_past xs n past)
]

-- what a request leaves

by_effect_but : (m : TaggedMemory) (a : ℕ) (o : Option (Cell × ℕ)) → AreSameBut (a / 8) (answer_by_effect m a o).0 m
by_effect_but m a None = record { chain = refl; cells = λ b apart. refl }
by_effect_but m a (Some (c, n)) = record {
  chain = refl;
  cells = λ b apart. ap (λ o. if b % 8 == 0 then o else None) (get_other m.cells (a / 8) (b / 8) c apart);
}

at_end_but : (m : TaggedMemory) (q : Request) (e : End) → AreSameBut (address_at e / 8) (at_end m q e).0 m
at_end_but m q (at.Trap kind a) = record { chain = refl; cells = λ b apart. refl }
at_end_but m q (at.Last p c) =
    by_effect_but m (address_of p) (effect q.op (access_control q.acc q.pointer) c q.value)

pub answered_but : (m : TaggedMemory) (q : Request) → AreSameBut (last_word m q) (answer m q).0 m
answered_but m q = at_end_but m q (end_of m q)

-- where a request ends that leaves out word k

pub probe_same : (m n : TaggedMemory) (q : Request) (p : ℕ) → cell_at n (address_of p) ≡ cell_at m (address_of p)
    → probe n q p ≡ probe m q p
probe_same m n q p same =
    ap
    (λ c. if is_reserved p then Trap trap.Pointer
    else if not (address_of p % 8 == 0) then Trap trap.Align
    else probe_cell q p c)
    same

on_probe : (m : TaggedMemory) (q : Request) (p : ℕ) (rest other : ℕ → End) (x : Probe) → probe m q p ≡ x
    → ((next : ℕ) → probe m q p ≡ Forward next → rest next ≡ other next) → end_by_probe p x rest ≡ end_by_probe p x other
on_probe m q p rest other (Trap kind) e further = refl
on_probe m q p rest other (Reach c) e further = refl
on_probe m q p rest other (Forward next) e further = further next e

end_same : (m n : TaggedMemory) (q : Request) (k : ℕ) → AreSameBut k n m → (left p : ℕ) → PassesBy m q k left p
    → end_from n q left p ≡ end_from m q left p
unfolding end_from
end_same m n q k same zero p past =
    ap (λ x. end_by_probe p x (λ next. at.Trap trap.Forward (address_of p)))
    (probe_same m n q p (same.cells (address_of p) past))
end_same m n q k same (suc left) p past =
    ap (λ x. end_by_probe p x (λ next. end_from n q left next)) (probe_same m n q p (same.cells (address_of p) past.0))
    ∙ on_probe m q p (λ next. end_from n q left next) (λ next. end_from m q left next) (probe m q p) refl
    (λ next e. end_same m n q k same left next (past.1 next e))

end_kept : (m n : TaggedMemory) (q : Request) (k : ℕ) → AreSameBut k n m → LeavesOut m q k → end_of n q ≡ end_of m q
end_kept m n q k same past =
    ap (λ l. end_from n q l q.pointer) same.chain ∙ end_same m n q k same m.chain_limit q.pointer past

pub end_behind : (m : TaggedMemory) (q r : Request) → LeavesOut m r (last_word m q) → end_of (answer m q).0 r ≡ end_of m r
end_behind m q r past = end_kept m (answer m q).0 r (last_word m q) (answered_but m q) past

-- the replies

by_effect_reply : (m n : TaggedMemory) (a : ℕ) (o : Option (Cell × ℕ))
    → (answer_by_effect n a o).1 ≡ (answer_by_effect m a o).1
by_effect_reply m n a None = refl
by_effect_reply m n a (Some (c, v)) = refl

reply_same : (m n : TaggedMemory) (q : Request) (e : End) → (at_end n q e).1 ≡ (at_end m q e).1
reply_same m n q (at.Trap kind a) = refl
reply_same m n q (at.Last p c) =
    by_effect_reply m n (address_of p) (effect q.op (access_control q.acc q.pointer) c q.value)

pub reply_kept : (m : TaggedMemory) (q r : Request) → LeavesOut m r (last_word m q)
    → (answer (answer m q).0 r).1 ≡ (answer m r).1
reply_kept m q r past =
    let n = (answer m q).0 in
    ap (λ e. (at_end n r e).1) (end_behind m q r past)
    ∙ reply_same m n r (end_of m r)

-- the words that they end at are two

on_last : (m : TaggedMemory) (q : Request) (k p : ℕ) (rest : ℕ → End) (x : Probe) → probe m q p ≡ x
    → address_of p / 8 ≢ k → ((next : ℕ) → probe m q p ≡ Forward next → address_at (rest next) / 8 ≢ k)
    → address_at (end_by_probe p x rest) / 8 ≢ k
on_last m q k p rest (Trap kind) e apart further = apart
on_last m q k p rest (Reach c) e apart further = apart
on_last m q k p rest (Forward next) e apart further = further next e

past_last : (m : TaggedMemory) (q : Request) (k left p : ℕ) → PassesBy m q k left p
    → address_at (end_from m q left p) / 8 ≢ k
unfolding end_from
past_last m q k zero p past =
    on_last m q k p (λ next. at.Trap trap.Forward (address_of p)) (probe m q p) refl past (λ next e. past)
past_last m q k (suc left) p past =
    on_last m q k p (λ next. end_from m q left next) (probe m q p) refl past.0
    (λ next e. past_last m q k left next (past.1 next e))

-- the memory

by_effects : (m : TaggedMemory) (a b : ℕ) (o p : Option (Cell × ℕ)) → a / 8 ≢ b / 8
    → (answer_by_effect (answer_by_effect m a o).0 b p).0 ≡ (answer_by_effect (answer_by_effect m b p).0 a o).0
by_effects m a b None None apart = refl
by_effects m a b None (Some (d, v)) apart = refl
by_effects m a b (Some (c, n)) None apart = refl
by_effects m a b (Some (c, n)) (Some (d, v)) apart =
    λ i. record { cells = set_comm m.cells (a / 8) (b / 8) c d apart i; chain_limit = m.chain_limit }

at_ends : (m : TaggedMemory) (q r : Request) (e f : End) → address_at e / 8 ≢ address_at f / 8
    → (at_end (at_end m q e).0 r f).0 ≡ (at_end (at_end m r f).0 q e).0
at_ends m q r (at.Trap kind a) f apart = refl
at_ends m q r (at.Last p c) (at.Trap kind a) apart = refl
at_ends m q r (at.Last p c) (at.Last o d) apart =
    by_effects m (address_of p) (address_of o) (effect q.op (access_control q.acc q.pointer) c q.value)
    (effect r.op (access_control r.acc r.pointer) d r.value) apart

pub same_memory : (m : TaggedMemory) (q r : Request) → AreDistant m q r
    → (answer (answer m q).0 r).0 ≡ (answer (answer m r).0 q).0
same_memory m q r distant =
    ap (λ e. (at_end (answer m q).0 r e).0) (end_behind m q r distant.second)
    ∙ at_ends m q r (end_of m q) (end_of m r) (past_last m q (last_word m r) m.chain_limit q.pointer distant.first)
    ∙ ap (λ e. (at_end (answer m r).0 q e).0)
    (sym (end_behind m r q distant.first))
