use Rattle.std.proofs.Common.{List, Bool, ap, ◌∙◌, ◌/◌, arith, length}
use Rattle.tag_memory.specs.Address.{address_of}
use Rattle.tag_memory.specs.ReadRequests.{may_change}
use Rattle.touched_words.specs.TouchTables.{TouchValue, marks_at}
use Rattle.touched_words.proofs.Passing.{passed_all}
use Rattle.touched_words.proofs.touch_tables.TouchTable.is_passed.Goals as goal

pub returns : goal.returns
returns c =
    let v = c.args.self.now in
    λ yes.
    passed_all v.words c.marks_at-touches.result.now (marks_at v.touches c.args.place) c.marks_at-changes.result.now
    (marks_at v.changes c.args.place) c.marks_at-uses.result.now (marks_at v.uses c.args.place) (c.address-asked.result / 8) (address_of c.args.request.now.pointer / 8) c.loop-at.at
    c.may_change-is_changing.result (may_change c.args.request.now.op c.args.request.now.acc) c.args.is_quiet
    (c.marks_at-touches.ensures
    ∙ ap (λ (rows : List (List Bool)). marks_at rows c.args.place)
    (c.deref.ensures.value ∙ ap (λ (t : TouchValue). t.touches) c.self.view_is))
    (c.marks_at-changes.ensures
    ∙ ap (λ (rows : List (List Bool)). marks_at rows c.args.place)
    (c.deref-2.ensures.value ∙ ap (λ (t : TouchValue). t.changes) c.self.view_is))
    (c.marks_at-uses.ensures
    ∙ ap (λ (rows : List (List Bool)). marks_at rows c.args.place)
    (c.deref-3.ensures.value ∙ ap (λ (t : TouchValue). t.uses) c.self.view_is))
    (ap (λ a. a / 8) c.address-asked.ensures) c.may_change-is_changing.ensures
    (omega (arith, ap length c.deref-word-items.ensures.value, ap (λ (t : TouchValue). length t.words) c.self.view_is))
    c.loop-at.invariant
