use Rattle.std.proofs.Common.{arith, ◌≡◌, ◌∙◌, ◌∷◌, ◌++◌, List, get_or, map, sym, ap, subst, ℕ, Some, None}
use Rattle.atomic_table.specs.Table.{rest}
use Rattle.shared_history.specs.SharedMemory.{SharedValue}
use Rattle.processor.specs.Histories.{entry_by}
use Rattle.memory_lock.specs.declared.turns.views.View.{View}
use Rattle.memory_lock.specs.Seats.{Slot, past_of}
use Rattle.memory_lock.proofs.Keeping.{M, draws, raises}
use Rattle.memory_lock.proofs.OneCall.{told, grew, told-ok, goes-out, out-at, goes-home}
use Rattle.memory_lock.proofs.turns.asking.ask_in_turn.Goals as goal

pub fetch_add-ticket-requires : goal.fetch_add-ticket-requires
fetch_add-ticket-requires g c = (
  c.requires.table.0,
  omega (arith, c.requires.table.1),
  draws _ _ _ _ c.requires.idle.0 c.requires.idle.3,
)

pub slot_mut-requires : goal.slot_mut-requires
slot_mut-requires g c =
    let took = c.wait_turn.ensures.took in
    let held = ap (λ (m : M). m.1) took.1 in (
      c.wait_turn.ensures.same.0 ∙ c.fetch_add-ticket.ensures.0 ∙ c.requires.table.0,
      (Some took.0, held ∙ ap (λ l. (0, Some took.0) ∷ rest l) (sym held)),
    )

pub ask_slot-reply-requires : goal.ask_slot-reply-requires
ask_slot-reply-requires g c =
    let took = c.wait_turn.ensures.took in
    let held = ap (λ (m : M). m.1) took.1 in
    record { has = (took.0, ap (λ (l : List (ℕ × Slot)). (get_or l 0 (0, None)).1) (sym c.slot_mut.ensures.value ∙ held)) }

pub fetch_add-requires : goal.fetch_add-requires
fetch_add-requires g c =
    let took = c.wait_turn.ensures.took in
    let asked = c.ask_slot-reply.ensures.asked in
    let x : SharedValue = asked.0 in
    let x2 : SharedValue = asked.1 in
    let v : View = c.args.seat.now.me.0 in
    let out = goes-out c.args.seat.now.me c.fetch_add-ticket.new.seat.me c.wait_turn.new.seat.me
    c.fetch_add-ticket.result took.0 x x2 c.slot_mut.result.now c.ask_slot-reply.new.slot
    c.fetch_add-ticket.ensures.2 took.1 took.2 c.slot_mut.ensures.value asked.2 asked.3 in
    let more = told c.args.s c.args.request.now c.ask_slot-reply.result in
    let P : ℕ → Type 0 = λ n. x2.history ≡ x.history ++ map (entry_by n) more in
    let grown = grew c.ask_slot-reply.result c.args.p c.args.s c.args.request.now x x2 asked.4 asked.5 in
    let lent : M = (c.wait_turn.new.seat.me.0, (0, c.ask_slot-reply.new.slot) ∷ rest c.wait_turn.new.seat.me.1) in
    let at = out-at v lent _ x x2 out c.requires.idle.0 in (
      c.wait_turn.ensures.same.0 ∙ c.fetch_add-ticket.ensures.0 ∙ c.requires.table.0,
      omega (arith, c.requires.table.1),
      raises _ _ _ _ c.fetch_add-ticket.result (past_of x) x2 more at.0 at.1 grown.0
          (subst P (sym (at.2 ∙ c.requires.idle.2)) grown.1),
    )

pub returns-clause-ok : goal.returns-clause-ok
returns-clause-ok g c =
    let took = c.wait_turn.ensures.took in
    let asked = c.ask_slot-reply.ensures.asked in
    let x : SharedValue = asked.0 in
    let x2 : SharedValue = asked.1 in
    let v : View = c.args.seat.now.me.0 in
    let out = goes-out c.args.seat.now.me c.fetch_add-ticket.new.seat.me c.wait_turn.new.seat.me
    c.fetch_add-ticket.result took.0 x x2 c.slot_mut.result.now c.ask_slot-reply.new.slot
    c.fetch_add-ticket.ensures.2 took.1 took.2 c.slot_mut.ensures.value asked.2 asked.3 in
    let more = told c.args.s c.args.request.now c.ask_slot-reply.result in
    let P : ℕ → Type 0 = λ n. x2.history ≡ x.history ++ map (entry_by n) more in
    let grown = grew c.ask_slot-reply.result c.args.p c.args.s c.args.request.now x x2 asked.4 asked.5 in
    told-ok c.ask_slot-reply.result c.args.s c.args.request.now _ v
    (goes-home v _ _ _ x x2 more out (subst P (sym c.requires.idle.2) grown.1) c.fetch_add.ensures.2)
