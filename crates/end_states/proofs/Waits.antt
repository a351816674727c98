-- For which word a stream waits, and what is added for it.
use Rattle.std.proofs.Common.{◌≡◌, ℕ, ◌+◌, ◌<◌, ◌≤◌, true, false, refl, sym, ap, ◌∙◌, subst, arith}
use Rattle.std.proofs.Common.{Option, Some, None, List, [], ◌∷◌, ◌++◌, length, drop, get_or, append_assoc, append-nil, add-one, drop-cons}
use Rattle.std.proofs.lemmas.List.{drop_all}
use Rattle.tag_memory.specs.Answer.{answer}
use Rattle.tag_memory.specs.declared.requests.Request.{Request}
use Rattle.tag_memory.specs.declared.requests.Reply.{Reply}
use Rattle.tag_memory.specs.declared.requests.Reply.TheVariants as reply
use Rattle.processor.specs.declared.steps.Next.{Next}
use Rattle.processor.specs.declared.steps.Next.TheVariants as next
use Rattle.processor.specs.declared.steps.Step.{Step}
use Rattle.machine.specs.MachineValue.{MachineValue, next_in}
use Rattle.waiting.specs.Waits.{IsAskedInVain, IsWaitOf}
use Rattle.waiting.specs.declared.waits.Wait.{Wait}
use Rattle.end_states.specs.EndStates.{blocked_address, wait_address_of, wait_address, waiting_stream, waiting_of}
use Rattle.end_states.specs.declared.states.WaitingStream.{WaitingStream}

-- a stream that waits so waits for that word
pub waits_for : (m : MachineValue) (t : Step) (wait : Wait) → IsWaitOf m t wait → wait_address m t ≡ Some wait.address
waits_for m t wait is = ap (wait_address_of m) is.asks ∙ ap blocked_address is.blocked

apart : false ≡ true → ⊥
apart e = cc

-- one that asks nothing in vain waits for none
pub waits_for_none : (m : MachineValue) (t : Step) → (IsAskedInVain m t → false ≡ true) → wait_address m t ≡ None
waits_for_none m t never = by_need (next_in m t) refl where
  by_reply : (request : Request) (r : Reply) → next_in m t ≡ next.Ask request
      → (answer m.world.memory request).1 ≡ r → blocked_address r ≡ None
  by_reply request (reply.Done value) asks replied = refl
  by_reply request (reply.Blocked address) asks replied =
      absurd (apart (never (record { request = request; address = address; asks = asks; blocked = replied })))
  by_reply request (reply.Trap kind address) asks replied = refl

  by_need : (x : Next) → next_in m t ≡ x → wait_address_of m x ≡ None
  by_need next.Skip needs = refl
  by_need next.Local needs = refl
  by_need (next.Ask request) needs = by_reply request (answer m.world.memory request).1 needs refl

-- one stream more: what is added is the word that it waits for, if it waits
pub one_more : (m : MachineValue) (ts : List Step) (n : ℕ) (d : Step) (all done more : List WaitingStream)
    → n < length ts → done ++ waiting_of m (drop n ts) ≡ all
    → more ≡ done ++ waiting_stream (get_or ts n d) (wait_address m (get_or ts n d))
    → more ++ waiting_of m (drop (n + 1) ts) ≡ all
one_more m ts n d all done more within so_far is =
    let t = get_or ts n d in
    let rest = waiting_of m (drop (n + 1) ts) in
    let next : drop n ts ≡ t ∷ drop (n + 1) ts =
    drop-cons ts n d within ∙ ap (λ (k : ℕ). t ∷ drop k ts) (sym (add-one n)) in
    ap (λ (x : List WaitingStream). x ++ rest) is
    ∙ append_assoc done (waiting_stream t (wait_address m t)) rest
    ∙ sym (ap (λ (x : List Step). done ++ waiting_of m x) next)
    ∙ so_far

-- no stream is left
pub all_looked_at : (m : MachineValue) (ts : List Step) (n : ℕ) (all done : List WaitingStream) → length ts ≤ n
    → done ++ waiting_of m (drop n ts) ≡ all → done ≡ all
all_looked_at m ts n all done past so_far =
    let none : drop n ts ≡ [] = drop_all n ts (omega arith) in
    sym (append-nil done) ∙ sym (ap (λ x. done ++ waiting_of m x) none) ∙ so_far
