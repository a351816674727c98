-- The words of a memory over a step.
use Rattle.std.proofs.Common.{◌≡◌, ◌≢◌, ℕ, zero, suc, ◌/◌, ◌%◌, ◌==◌, ◌&&◌, not}
use Rattle.std.proofs.Common.{Bool, true, false, inl, inr, refl, arith}
use Rattle.std.proofs.Common.{List, [], ◌∷◌, length, Option, Some, None, is_some, slice_get, if◌then◌else◌}
use Rattle.std.specs.Option.{option_map}
use Rattle.std.proofs.lemmas.List.{length-set}
use Rattle.std.proofs.lemmas.Bool.{cases_Bool}
use Rattle.tag_memory.specs.Cell.{Cell, has_bit}
use Rattle.tag_memory.specs.Address.{address_of, is_reserved}
use Rattle.tag_memory.specs.Storage.{TaggedMemory, cell_at}
use Rattle.tag_memory.specs.Access.{access_control, effect}
use Rattle.tag_memory.specs.Chain.{is_tag_operation, probe_cell, end_by_probe, end_from}
use Rattle.tag_memory.specs.Answer.{answer_by_effect, at_end, answer, OthersStay}
use Rattle.tag_memory.specs.declared.requests.Request.{Request}
use Rattle.machine.specs.Processor.Row.{memory_reply}
use Rattle.step_views.specs.declared.step_views.Reference.{Reference}
use Rattle.step_views.specs.StepViews.{reference_to}

-- There are as many.

many_by_effect : (m : TaggedMemory) (a : ℕ) (o : Option (Cell × ℕ))
    → length (answer_by_effect m a o).0.cells ≡ length m.cells
many_by_effect m a None = refl
many_by_effect m a (Some e) = length-set m.cells (a / 8) e.0

-- a request that is probed at p, where this word stands
many_probed : (m : TaggedMemory) (q : Request) (p : ℕ) (rest : ℕ → _) (o : Option Cell)
    → ((next : ℕ) → length (at_end m q (rest next)).0.cells ≡ length m.cells)
    → length (at_end m q (end_by_probe p (probe_cell q p o) rest)).0.cells ≡ length m.cells
many_probed m q p rest None h = refl
many_probed m q p rest (Some c) h =
    elim (cases_Bool (is_tag_operation q.op)) [
      | inl e ↦ rw e (many_by_effect m (address_of p) (effect q.op (access_control q.acc q.pointer) c q.value))
      | inr e ↦ rw e (elim (cases_Bool (c.trap0 && not (has_bit p 62) && not q.masked.trap0)) [
        | inl f ↦ rw f refl
        | inr f ↦ rw f (elim (cases_Bool (c.trap1 && not (has_bit p 63) && not q.masked.trap1)) [
          | inl k ↦ rw k refl
          | inr k ↦ rw k (elim (cases_Bool (c.forward && not (has_bit p 61))) [
            | inl n ↦ rw n (h c.value)
            | inr n ↦ rw n (many_by_effect m (address_of p) (effect q.op (access_control q.acc q.pointer) c q.value))
          ])
        ])
      ])
    ]

many_from : (m : TaggedMemory) (q : Request) (left p : ℕ)
    → length (at_end m q (end_from m q left p)).0.cells ≡ length m.cells
unfolding end_from
many_from m q zero p =
    elim (cases_Bool (is_reserved p)) [
      | inl e ↦ rw e refl
      | inr e ↦ rw e (elim (cases_Bool (not (address_of p % 8 == 0))) [
        | inl f ↦ rw f refl
        | inr f ↦ rw f (many_probed m q p _ (cell_at m (address_of p)) (λ next. refl))
      ])
    ]
many_from m q (suc left) p =
    elim (cases_Bool (is_reserved p)) [
      | inl e ↦ rw e refl
      | inr e ↦ rw e (elim (cases_Bool (not (address_of p % 8 == 0))) [
        | inl f ↦ rw f refl
        | inr f ↦ rw f (many_probed m q p _ (cell_at m (address_of p)) (λ next. many_from m q left next))
      ])
    ]

there_as_many : (xs ys : List Cell) (i : ℕ) → length xs ≡ length ys
    → is_some (slice_get xs i) ≡ is_some (slice_get ys i)
there_as_many [] [] i e = refl
there_as_many [] (y ∷ ys) i e = absurd (omega arith)
there_as_many (x ∷ xs) [] i e = absurd (omega arith)
there_as_many (x ∷ xs) (y ∷ ys) zero e = refl
there_as_many (x ∷ xs) (y ∷ ys) (suc i) e = there_as_many xs ys i (omega arith)

there_if : (b : Bool) (o p : Option Cell) → is_some o ≡ is_some p
    → is_some (if b then o else None) ≡ is_some (if b then p else None)
there_if true o p e = e
there_if false o p e = refl

there_of_many : (m n : TaggedMemory) (a : ℕ) → length n.cells ≡ length m.cells
    → is_some (cell_at n a) ≡ is_some (cell_at m a)
there_of_many m n a e =
    there_if (a % 8 == 0) (slice_get n.cells (a / 8)) (slice_get m.cells (a / 8))
    (there_as_many n.cells m.cells (a / 8) e)

-- Over what a step asks.

-- the address is not the one at which the reference ends
abbrev pub IsElsewhere : Option Reference → ℕ → Type 0
IsElsewhere None a = Unit {0}
IsElsewhere (Some r) a = r.address ≢ a

pub record KeepsWords (m n : TaggedMemory) (r : Option Reference) : Type 0 where
  pub there : (a : ℕ) → is_some (cell_at n a) ≡ is_some (cell_at m a)
  pub others : (a : ℕ) → IsElsewhere r a → cell_at n a ≡ cell_at m a

pub replied : OthersStay → (m : TaggedMemory) (o : Option Request)
    → KeepsWords m (memory_reply m o).0 (option_map (reference_to m) o)
replied law m None = record { there = λ a. refl; others = λ a h. refl }
replied law m (Some q) = record {
  there = λ a. there_of_many m (answer m q).0 a (many_from m q m.chain_limit q.pointer);
  others = λ a h. law m q a h;
}
