-- How one probe moves the end of a chain, and what stands where a chain ends at a word.
use Rattle.std.proofs.Common.{◌≡◌, ℕ, zero, suc, Bool, true, false, if◌then◌else◌, refl, ◌∙◌, ap}
use Rattle.std.proofs.Common.{Option, Some, None}
use Rattle.tag_memory.specs.Cell.{Cell}
use Rattle.tag_memory.specs.Address.{address_of}
use Rattle.tag_memory.specs.Storage.{TaggedMemory, cell_at}
use Rattle.tag_memory.specs.Chain.{probe_cell, probe, end_by_probe, end_from}
use Rattle.tag_memory.specs.declared.requests.Request.{Request}
use Rattle.tag_memory.specs.declared.requests.MemTrap.{MemTrap}
use Rattle.tag_memory.specs.declared.requests.MemTrap.TheVariants as trap
use Rattle.tag_memory.specs.declared.chain.Probe.{Probe}
use Rattle.tag_memory.specs.declared.chain.Probe.TheVariants.{Trap, Reach, Forward}
use Rattle.tag_memory.specs.declared.chain.End.{End}
use Rattle.tag_memory.specs.declared.chain.End.TheVariants as at

-- a chain follows its first probe
followed_from : (m : TaggedMemory) (q : Request) (n p : ℕ) (x : Probe)
    → x ≡ probe m q p
    → (rest : ℕ → End) × (end_by_probe p x rest ≡ end_from m q n p)
unfolding end_from
followed_from m q zero p x e = (_, ap (λ y. end_by_probe p y (λ next. at.Trap trap.Forward (address_of p))) e)
followed_from m q (suc n) p x e = (_, ap (λ y. end_by_probe p y (λ next. end_from m q n next)) e)

pub trap_ends : (m : TaggedMemory) (q : Request) (n p a : ℕ) (kind : MemTrap)
    → Trap kind ≡ probe m q p → a ≡ address_of p → at.Trap kind a ≡ end_from m q n p
trap_ends m q n p a kind e here = ap (λ b. at.Trap kind b) here ∙ (followed_from m q n p (Trap kind) e).1

pub reach_ends : (m : TaggedMemory) (q : Request) (n p : ℕ) (c : Cell)
    → Reach c ≡ probe m q p → at.Last p c ≡ end_from m q n p
reach_ends m q n p c e = (followed_from m q n p (Reach c) e).1

pub forward_goes : (m : TaggedMemory) (q : Request) (n p next : ℕ)
    → Forward next ≡ probe m q p → end_from m q n next ≡ end_from m q (suc n) p
unfolding end_from
forward_goes m q n p next e = ap (λ x. end_by_probe p x (λ further. end_from m q n further)) e

pub forward_stops : (m : TaggedMemory) (q : Request) (p a next : ℕ)
    → Forward next ≡ probe m q p → a ≡ address_of p → at.Trap trap.Forward a ≡ end_from m q zero p
unfolding end_from
forward_stops m q p a next e here =
    ap (λ b. at.Trap trap.Forward b) here ∙ ap (λ x. end_by_probe p x (λ further. at.Trap trap.Forward (address_of p))) e

reached_cell : (tags trap0 trap1 forward : Bool) (c d : Cell)
    → (if tags then Reach d
    else if trap0 then Trap trap.Trap0
    else if trap1 then Trap trap.Trap1
    else if forward then Forward d.value
    else Reach d)
    ≡ Reach c
    → d ≡ c
reached_cell true _ _ _ c d e = cc
reached_cell false true _ _ c d e = cc
reached_cell false false true _ c d e = cc
reached_cell false false false true c d e = cc
reached_cell false false false false c d e = cc

reached : (q : Request) (p : ℕ) (reserved unaligned : Bool) (o : Option Cell) (c : Cell)
    → (if reserved then Trap trap.Pointer else if unaligned then Trap trap.Align else probe_cell q p o) ≡ Reach c
    → o ≡ Some c
reached q p true _ o c e = cc
reached q p false true o c e = cc
reached q p false false None c e = cc
reached q p false false (Some d) c e = ap (λ x. Some x) (reached_cell _ _ _ _ c d e)

-- a word that a probe reaches stands at its address
pub cell_at-reached : (m : TaggedMemory) (q : Request) (p : ℕ) (c : Cell)
    → probe m q p ≡ Reach c → cell_at m (address_of p) ≡ Some c
cell_at-reached m q p c e = reached q p _ _ _ c e

last_stands : (m : TaggedMemory) (q : Request) (p last : ℕ) (c : Cell) (x : Probe) (rest : ℕ → End)
    → ((next : ℕ) → rest next ≡ at.Last last c → cell_at m (address_of last) ≡ Some c)
    → probe m q p ≡ x
    → end_by_probe p x rest ≡ at.Last last c
    → cell_at m (address_of last) ≡ Some c
last_stands m q p last c (Trap kind) rest further e f = cc
last_stands m q p last c (Reach d) rest further e f =
    let here : last ≡ p = cc in
    let same : d ≡ c = cc in
    ap (λ a. cell_at m (address_of a)) here ∙ cell_at-reached m q p d e ∙ ap (λ w. Some w) same
last_stands m q p last c (Forward next) rest further e f = further next f

-- a word that a chain ends at stands at the last pointer's address
pub cell_at-last : (m : TaggedMemory) (q : Request) (n p last : ℕ) (c : Cell)
    → end_from m q n p ≡ at.Last last c → cell_at m (address_of last) ≡ Some c
unfolding end_from
cell_at-last m q zero p last c e = last_stands m q p last c _ _ (λ next f. cc) refl e
cell_at-last m q (suc n) p last c e = last_stands m q p last c _ _ (λ next f. cell_at-last m q n next last c f) refl e
