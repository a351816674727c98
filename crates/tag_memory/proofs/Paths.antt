-- A path that leads to an end, from its first pointer on, and that there is one, to the computed end alone.
use Rattle.std.proofs.Common.{◌≡◌, ℕ, zero, suc, ◌+◌, ◌≤◌, Bool, true, false, nat_lt, if◌then◌else◌, refl, sym, ◌∙◌}
use Rattle.std.proofs.Common.{ap, subst, arith}
use Rattle.std.proofs.Common.{Some, None, List, [], ◌∷◌, ◌++◌, length, append_assoc, length-append}
use Rattle.std.proofs.lemmas.Bool.Decides.{nat_tests}
use Rattle.tag_memory.specs.Address.{address_of}
use Rattle.tag_memory.specs.Storage.{TaggedMemory}
use Rattle.tag_memory.specs.Chain.{probe, end_at_probe, Leads, end_from, end_of}
use Rattle.tag_memory.specs.declared.requests.Request.{Request}
use Rattle.tag_memory.specs.declared.requests.MemTrap.TheVariants as trap
use Rattle.tag_memory.specs.declared.chain.Probe.{Probe}
use Rattle.tag_memory.specs.declared.chain.Probe.TheVariants.{Trap, Reach, Forward}
use Rattle.tag_memory.specs.declared.chain.End.{End}
use Rattle.tag_memory.specs.declared.chain.End.TheVariants as at
use Rattle.tag_memory.proofs.Ends.{trap_ends, reach_ends, forward_goes, forward_stops}

-- from p on, with so many hops made, the pointers of `rest` are probed and the end is this
abbrev LeadsOn : TaggedMemory → Request → ℕ → ℕ → List ℕ → End → Type 0
LeadsOn m q hops p [] end = end_at_probe m.chain_limit hops p (probe m q p) ≡ Some end
LeadsOn m q hops p (next ∷ rest) end = (probe m q p ≡ Forward next) × LeadsOn m q (hops + 1) next rest end

-- a path that leads to an end does so from each of its pointers on
leads_on : (m : TaggedMemory) (q : Request) (path : List ℕ) (end : End) → Leads m q path end
    → (rest front : List ℕ) (hops p : ℕ) → hops ≡ length front → path ≡ front ++ p ∷ rest
    → LeadsOn m q hops p rest end
leads_on m q path end leads [] front hops p made cut =
    ap (λ h. end_at_probe m.chain_limit h p (probe m q p)) made ∙ leads.ends front p cut
leads_on m q path end leads (next ∷ rest) front hops p made cut = (
  leads.linked front rest p next cut,
  leads_on m q path end leads rest (front ++ p ∷ []) (hops + 1) next (omega (arith, length-append front (p ∷ [])))
      (cut ∙ sym (append_assoc front (p ∷ []) (next ∷ rest))),
)

at_limit : (b : Bool) (end t : End) → b ≡ false → (if b then None else Some t) ≡ Some end → end ≡ t
at_limit true end t h e = cc
at_limit false end t h e = cc

below_limit : (b : Bool) (end t : End) → b ≡ true → (if b then None else Some t) ≡ Some end → ⊥
below_limit true end t h e = cc
below_limit false end t h e = cc

not_below : (limit hops : ℕ) → hops + zero ≡ limit → nat_lt hops limit ≡ false
not_below limit hops h = grind (arith, nat_tests)

still_below : (limit hops n : ℕ) → hops + suc n ≡ limit → nat_lt hops limit ≡ true
still_below limit hops n h = grind (arith, nat_tests)

-- the last probe's end is the computed one
last_end : (m : TaggedMemory) (q : Request) (n hops p : ℕ) (end : End) (x : Probe)
    → hops + n ≡ m.chain_limit → x ≡ probe m q p → end_at_probe m.chain_limit hops p x ≡ Some end
    → end ≡ end_from m q n p
last_end m q n hops p end (Trap kind) room e f =
    let it : end ≡ at.Trap kind (address_of p) = cc in it ∙ trap_ends m q n p (address_of p) kind e refl
last_end m q n hops p end (Reach c) room e f = let it : end ≡ at.Last p c = cc in it ∙ reach_ends m q n p c e
last_end m q zero hops p end (Forward next) room e f =
    at_limit _ end (at.Trap trap.Forward (address_of p)) (not_below m.chain_limit hops room) f
    ∙ forward_stops m q p (address_of p) next e refl
last_end m q (suc n) hops p end (Forward next) room e f =
    absurd (below_limit _ end (at.Trap trap.Forward (address_of p)) (still_below m.chain_limit hops n room) f)

rest_end : (m : TaggedMemory) (q : Request) (rest : List ℕ) (n hops p : ℕ) (end : End)
    → hops + n ≡ m.chain_limit → length rest ≤ n → LeadsOn m q hops p rest end → end ≡ end_from m q n p
rest_end m q [] n hops p end room short on = last_end m q n hops p end (probe m q p) room refl on
rest_end m q (next ∷ rest) zero hops p end room short on = absurd (omega arith)
rest_end m q (next ∷ rest) (suc n) hops p end room short on =
    rest_end m q rest n (hops + 1) next end (omega arith) (omega arith) on.1 ∙ forward_goes m q n p next (sym on.0)

-- a path leads to the computed end alone
pub leads_end : (m : TaggedMemory) (q : Request) (path : List ℕ) (end : End) → Leads m q path end → end ≡ end_of m q
leads_end m q [] end leads = absurd leads.begins
leads_end m q (first ∷ rest) end leads =
    rest_end m q rest m.chain_limit 0 first end (omega arith) (omega (arith, leads.at_most))
    (leads_on m q _ end leads rest [] 0 first refl refl)
    ∙ ap (λ p. end_from m q m.chain_limit p) leads.begins

-- a probe that ends a path with hops left does not lead on
ends_here : (m : TaggedMemory) (q : Request) (hops p next : ℕ) (end : End)
    → suc hops ≤ m.chain_limit → end_at_probe m.chain_limit hops p (probe m q p) ≡ Some end
    → probe m q p ≡ Forward next → ⊥
ends_here m q hops p next end room stops on =
    let below : nat_lt hops m.chain_limit ≡ true = grind (arith, nat_tests) in
    below_limit _ end (at.Trap trap.Forward (address_of p)) below
    (ap (λ x. end_at_probe m.chain_limit hops p x) (sym on) ∙ stops)

-- from one pointer on there is one path
same_rest : (m : TaggedMemory) (q : Request) (rest other : List ℕ) (hops p : ℕ) (end last : End)
    → hops + length rest ≤ m.chain_limit → hops + length other ≤ m.chain_limit
    → LeadsOn m q hops p rest end → LeadsOn m q hops p other last → rest ≡ other
same_rest m q [] [] hops p end last short few on off = refl
same_rest m q [] (next ∷ other) hops p end last short few on off =
    absurd (ends_here m q hops p next end (omega arith) on off.0)
same_rest m q (next ∷ rest) [] hops p end last short few on off =
    absurd (ends_here m q hops p next last (omega arith) off on.0)
same_rest m q (r ∷ rest) (s ∷ other) hops p end last short few on off =
    let both : Forward r ≡ Forward s = sym on.0 ∙ off.0 in
    let here : s ≡ r = cc in
    let further : LeadsOn m q (hops + 1) r other last = subst (λ n. LeadsOn m q (hops + 1) n other last) here off.1 in
    let same : rest ≡ other = same_rest m q rest other (hops + 1) r end last (omega arith) (omega arith) on.1 further in
    cc

-- a request is led along one path
pub one_path : (m : TaggedMemory) (q : Request) (path other : List ℕ) (end last : End)
    → Leads m q path end → Leads m q other last → path ≡ other
one_path m q [] other end last leads leads_too = absurd leads.begins
one_path m q (p ∷ rest) [] end last leads leads_too = absurd leads_too.begins
one_path m q (p ∷ rest) (r ∷ other) end last leads leads_too =
    let here : r ≡ p = leads_too.begins ∙ sym leads.begins in
    let on : LeadsOn m q 0 p rest end = leads_on m q _ end leads rest [] 0 p refl refl in
    let off : LeadsOn m q 0 r other last = leads_on m q _ last leads_too other [] 0 r refl refl in
    let same : rest ≡ other = same_rest m q rest other 0 p end last (omega (arith, leads.at_most))
    (omega (arith, leads_too.at_most)) on (subst (λ n. LeadsOn m q 0 n other last) here off) in
    cc

-- some pointers lead on to the computed end
record There (m : TaggedMemory) (q : Request) (n hops p : ℕ) : Type 0 where
  rest : List ℕ
  short : length rest ≤ n
  on : LeadsOn m q hops p rest (end_from m q n p)

there_by : (m : TaggedMemory) (q : Request) (n hops p : ℕ) (x : Probe)
    → hops + n ≡ m.chain_limit → x ≡ probe m q p
    → ((k next : ℕ) → suc k ≡ n → There m q k (hops + 1) next)
    → There m q n hops p
there_by m q n hops p (Trap kind) room e further = record {
  rest = [];
  short = omega arith;
  on = ap (λ y. end_at_probe m.chain_limit hops p y) (sym e)
      ∙ ap (λ t. Some t) (trap_ends m q n p (address_of p) kind e refl);
}
there_by m q n hops p (Reach c) room e further = record {
  rest = [];
  short = omega arith;
  on = ap (λ y. end_at_probe m.chain_limit hops p y) (sym e) ∙ ap (λ t. Some t) (reach_ends m q n p c e);
}
there_by m q zero hops p (Forward next) room e further = record {
  rest = [];
  short = omega arith;
  on = ap (λ y. end_at_probe m.chain_limit hops p y) (sym e)
      ∙ ap (λ b. if b then None else Some (at.Trap trap.Forward (address_of p))) (not_below m.chain_limit hops room)
      ∙ ap (λ t. Some t) (forward_stops m q p (address_of p) next e refl);
}
there_by m q (suc n) hops p (Forward next) room e further =
    let onward : There m q n (hops + 1) next = further n next refl in
    let same = forward_goes m q n p next e in record {
      rest = next ∷ onward.rest;
      short = omega (arith, onward.short);
      on = (sym e, subst (λ end. LeadsOn m q (hops + 1) next onward.rest end) same onward.on);
    }

there : (m : TaggedMemory) (q : Request) (n hops p : ℕ) → hops + n ≡ m.chain_limit → There m q n hops p
there m q zero hops p room = there_by m q zero hops p (probe m q p) room refl (λ k next e. absurd (omega arith))
there m q (suc n) hops p room =
    there_by m q (suc n) hops p (probe m q p) room refl (λ k next e.
    let same : n ≡ k = omega arith in
    subst (λ j. There m q j (hops + 1) next) same (there m q n (hops + 1) next (omega arith)))

not_empty : (front back : List ℕ) (p : ℕ) → [] ≡ front ++ p ∷ back → ⊥
not_empty [] back p e = cc
not_empty (f ∷ front) back p e = cc

linked_of : (m : TaggedMemory) (q : Request) (rest : List ℕ) (hops p : ℕ) (end : End) → LeadsOn m q hops p rest end
    → (front back : List ℕ) (stop next : ℕ) → p ∷ rest ≡ front ++ stop ∷ next ∷ back → probe m q stop ≡ Forward next
linked_of m q [] hops p end on [] back stop next cut = cc
linked_of m q [] hops p end on (f ∷ front) back stop next cut =
    let none : [] ≡ front ++ stop ∷ next ∷ back = cc in absurd (not_empty front (next ∷ back) stop none)
linked_of m q (r ∷ rest) hops p end on [] back stop next cut =
    let here : stop ≡ p = cc in
    let there : r ≡ next = cc in
    ap (λ x. probe m q x) here ∙ on.0 ∙ ap (λ x. Forward x) there
linked_of m q (r ∷ rest) hops p end on (f ∷ front) back stop next cut =
    let further : r ∷ rest ≡ front ++ stop ∷ next ∷ back = cc in
    linked_of m q rest (hops + 1) r end on.1 front back stop next further

ends_of : (m : TaggedMemory) (q : Request) (rest : List ℕ) (hops p : ℕ) (end : End) → LeadsOn m q hops p rest end
    → (front : List ℕ) (stop total : ℕ) → p ∷ rest ≡ front ++ stop ∷ [] → hops + length front ≡ total
    → end_at_probe m.chain_limit total stop (probe m q stop) ≡ Some end
ends_of m q [] hops p end on [] stop total cut made =
    let here : stop ≡ p = cc in
    let all : total ≡ hops = omega arith in
    ap (λ h. end_at_probe m.chain_limit h stop (probe m q stop)) all
    ∙ ap (λ x. end_at_probe m.chain_limit hops x (probe m q x)) here
    ∙ on
ends_of m q [] hops p end on (f ∷ front) stop total cut made =
    let none : [] ≡ front ++ stop ∷ [] = cc in absurd (not_empty front [] stop none)
ends_of m q (r ∷ rest) hops p end on [] stop total cut made = cc
ends_of m q (r ∷ rest) hops p end on (f ∷ front) stop total cut made =
    let further : r ∷ rest ≡ front ++ stop ∷ [] = cc in
    ends_of m q rest (hops + 1) r end on.1 front stop total further (omega arith)

-- some path leads to the computed end
pub path_there : (m : TaggedMemory) (q : Request) → (path : List ℕ) × Leads m q path (end_of m q)
path_there m q =
    let found : There m q m.chain_limit 0 q.pointer = there m q m.chain_limit 0 q.pointer (omega arith) in
    let on = found.on in (
      q.pointer ∷ found.rest,
      record {
        begins = refl;
        linked = linked_of m q found.rest 0 q.pointer (end_of m q) on;
        at_most = omega (arith, found.short);
        ends = λ front p cut.
            ends_of m q found.rest 0 q.pointer (end_of m q) on front p (length front) cut (omega arith);
      },
    )
