-- What is told of a step that is blocked, by what it needs and the reply.
use Rattle.std.proofs.Common.{◌≡◌, ℕ, refl, sym, ap, ◌∙◌, subst, Option, Some, None, slice_get}
use Rattle.std.specs.Prelude.{IsSome, ◌↔◌, not, ◌⊎◌}
use Rattle.std.proofs.Common.{inl, inr}
use Rattle.std.proofs.lemmas.Option.{same_Some}
use Rattle.tag_memory.specs.Cell.{Cell}
use Rattle.tag_memory.specs.Storage.{TaggedMemory}
use Rattle.tag_memory.specs.Answer.{answer}
use Rattle.tag_memory.specs.declared.requests.Request.{Request}
use Rattle.tag_memory.specs.declared.requests.Reply.{Reply}
use Rattle.tag_memory.specs.declared.requests.Reply.TheVariants as reply
use Rattle.machine.specs.Processor.Processors.{ProcessorValue}
use Rattle.machine.specs.ProcessorTypes.Next.{Next}
use Rattle.machine.specs.ProcessorTypes.Next.TheVariants as next
use Rattle.machine.specs.ProcessorTypes.Step.{Step}
use Rattle.machine.specs.MachineValue.{MachineValue, next_at, next_in}
use Rattle.waiting.specs.declared.waits.Wait.{Wait}
use Rattle.waiting.specs.Stuck.{IsStuck}
use Rattle.waiting.specs.Waits.{is_full_state, Wants, IsAskedInVain, IsWaitOf}
use Rattle.waiting.specs.Deciding.{wanted_by, wait_replied}
use Rattle.waiting.proofs.StuckSteps.{stays-then, runs_nowhere}
use Rattle.waiting.proofs.Table.{wanted_there, wants_by, same_state, blocked_end, blocking_word}

abbrev pub wait_needing : TaggedMemory → Next → Option Wait
wait_needing m next.Skip = None
wait_needing m next.Local = None
wait_needing m (next.Ask q) = wait_replied q (answer m q).1

-- what is told of the next step of a stream
abbrev pub wait_in : MachineValue → Step → Option Wait
wait_in m t = wait_needing m.world.memory (next_in m t)

-- Where something is told.

record Told (q : Request) (r : Reply) (wait : Wait) : Type 0 where
  blocked : r ≡ reply.Blocked wait.address
  wanted : wait.wanted ≡ wanted_by q

told_replied : (q : Request) (r : Reply) (wait : Wait) → wait_replied q r ≡ Some wait → Told q r wait
told_replied q (reply.Done v) wait e = cc
told_replied q (reply.Blocked a) wait e =
    let same = same_Some _ _ e in
    record {
      blocked = ap (λ (x : Wait). reply.Blocked x.address) same;
      wanted = sym (ap (λ (x : Wait). x.wanted) same);
    }
told_replied q (reply.Trap k a) wait e = cc

is_wait : (m : MachineValue) (t : Step) (n : Next) (wait : Wait) → next_in m t ≡ n
    → wait_needing m.world.memory n ≡ Some wait → IsWaitOf m t wait
is_wait m t next.Skip wait needs e = cc
is_wait m t next.Local wait needs e = cc
is_wait m t (next.Ask q) wait needs e =
    let told = told_replied q (answer m.world.memory q).1 wait e in
    let at = blocking_word m.world.memory q wait.address told.blocked in
    record {
      request = q;
      asks = needs;
      blocked = told.blocked;
      ends = blocked_end m.world.memory q wait.address told.blocked;
      word = at.word;
      there = at.there;
      other = wanted_there q at.word at.blocks ∙ ap (λ x. not (is_full_state x)) (sym told.wanted);
      wants = subst (Wants q) (sym told.wanted) (wants_by q at.word at.blocks);
    }

-- what is told, where the step is blocked so
told_of : (m : MachineValue) (t : Step) (q : Request) (a : ℕ) → next_in m t ≡ next.Ask q
    → (answer m.world.memory q).1 ≡ reply.Blocked a
    → wait_in m t ≡ Some (record { address = a; wanted = wanted_by q })
told_of m t q a asks blocked =
    ap (wait_needing m.world.memory) asks ∙ ap (wait_replied q) blocked

told_wait : (m : MachineValue) (t : Step) (wait : Wait) → IsWaitOf m t wait → wait_in m t ≡ Some wait
told_wait m t wait is =
    let at = blocking_word m.world.memory is.request wait.address is.blocked in
    let same : is.word ≡ at.word = same_Some _ _ (sym is.there ∙ at.there) in
    let wanted : wanted_by is.request ≡ wait.wanted =
    same_state (wanted_by is.request) wait.wanted at.word.full (wanted_there is.request at.word at.blocks)
    (sym (ap (λ (c : Cell). c.full) same) ∙ is.other) in
    told_of m t is.request wait.address is.asks is.blocked
    ∙ ap (λ x. Some (record { address = wait.address; wanted = x })) wanted

pub wait_is : (m : MachineValue) (t : Step) (o : Option Wait) (wait : Wait) → o ≡ wait_in m t
    → (o ≡ Some wait) ↔ IsWaitOf m t wait
wait_is m t o wait is = (
  λ e. is_wait m t (next_in m t) wait refl (sym is ∙ e),
  λ w. is ∙ told_wait m t wait w,
)

-- Where anything is told.

some_told : (o : Option Wait) (wait : Wait) → o ≡ Some wait → IsSome o
some_told None wait e = cc
some_told (Some x) wait e = refl

in_vain : (m : MachineValue) (t : Step) (o : Option Wait) → wait_in m t ≡ o → IsSome o → IsAskedInVain m t
in_vain m t None is there = cc
in_vain m t (Some wait) is there =
    let found = is_wait m t (next_in m t) wait refl is in
    record { request = found.request; address = wait.address; asks = found.asks; blocked = found.blocked }

asked : (m : MachineValue) (t : Step) → IsAskedInVain m t → IsSome (wait_in m t)
asked m t is =
    some_told (wait_in m t) (record { address = is.address; wanted = wanted_by is.request })
    (told_of m t is.request is.address is.asks is.blocked)

pub wait_asked : (m : MachineValue) (t : Step) (o : Option Wait) → o ≡ wait_in m t → IsSome o ↔ IsAskedInVain m t
wait_asked m t o is = (in_vain m t o (sym is), λ vain. subst (λ x. IsSome x) (sym is) (asked m t vain))

stuck_at : (m : MachineValue) (t : Step) (o : Option ProcessorValue) → slice_get m.world.processors t.p ≡ o
    → IsStuck m.image m.world t → IsSome (wait_needing m.world.memory (next_at m.image o t.s))
stuck_at m t None there stuck = absurd (runs_nowhere m.world t there stuck.runs)
stuck_at m t (Some proc) there stuck =
    let at = stays-then m.image m.world t proc there stuck.stays in
    some_told (wait_needing m.world.memory (next_at m.image (Some proc) t.s))
    (record { address = at.refused.address; wanted = wanted_by at.refused.request })
    (ap (wait_needing m.world.memory) at.refused.asks ∙ ap (wait_replied at.refused.request) at.refused.blocked)

-- a stuck stream waits for a word
pub stuck_waits : (m : MachineValue) (t : Step) (o : Option Wait) → o ≡ wait_in m t → IsStuck m.image m.world t
    → IsSome o
stuck_waits m t o is stuck =
    subst (λ x. IsSome x) (sym is) (stuck_at m t (slice_get m.world.processors t.p) refl stuck)

-- What the code has found.

pub told_asking : (m : MachineValue) (t : Step) (q : Request) (r : Reply) (o : Option Wait)
    → next.Ask q ≡ next_in m t → r ≡ (answer m.world.memory q).1 → o ≡ wait_replied q r → o ≡ wait_in m t
told_asking m t q r o asks replied is =
    is ∙ ap (wait_replied q) replied ∙ ap (wait_needing m.world.memory) asks

pub told_unasked : (m : MachineValue) (t : Step) (n : Next) → n ≡ next_in m t → (n ≡ next.Skip) ⊎ (n ≡ next.Local)
    → None ≡ wait_in m t
told_unasked m t n is which =
    elim which [
      | inl skip ↦ ap (wait_needing m.world.memory) (sym skip ∙ is)
      | inr own ↦ ap (wait_needing m.world.memory) (sym own ∙ is)
    ]
