use Rattle.std.proofs.Common.{◌≡◌, ◌/◌, inl, inr, sym, ap, ◌∙◌, subst, List, Option}
use Rattle.tag_memory.specs.Address.{address_of}
use Rattle.touched_words.specs.declared.few.Few.{Few}
use Rattle.touched_words.specs.TouchTables.{TouchValue, known_at, HoldsKnown}
use Rattle.touched_words.specs.ClosedTables.{IsMarkedWord}
use Rattle.touched_words.proofs.touch_tables.TouchTable.names_word.Goals as goal

pub returns-then-forwards_none : goal.returns-then-forwards_none
returns-then-forwards_none c =
    λ yes s q holds asks.
    let row_is : c.known_at-row.result.now ≡ known_at c.args.self.now.known c.args.place =
    c.known_at-row.ensures
    ∙ ap (λ (rows : List (List (Option Few))). known_at rows c.args.place)
    (c.deref.ensures.value ∙ ap (λ (t : TouchValue). t.known) c.self.view_is) in
    let held : HoldsKnown c.known_at-row.result.now s.registers =
    subst (λ (row : List (Option Few)). HoldsKnown row s.registers) (sym row_is) holds in
    let marked : IsMarkedWord c.args.self.now c.args.place (address_of q.pointer / 8) c.may_change.result
    c.adds_quietly-is_quiet.result =
    c.names_words.ensures yes s q
    (held.each c.args.m.now.base c.in-Some.bases (sym c.known_by.ensures ∙ c.in-Some.is)) asks in
    record {
      n = marked.n;
      word = marked.is;
      touched = marked.touched;
      changed = λ may. marked.changed (c.may_change.ensures s q asks may);
      used = elim marked.used [
        | inl quiet ↦ inl (c.adds_quietly-is_quiet.ensures quiet s q held asks)
        | inr mark ↦ inr mark
      ];
      unforwarded = c.forwards_none.ensures c.if-forwards_none.true s q held asks;
    }
