use Rattle.std.proofs.Common.{sym, subst, List}
use Rattle.std.specs.Prelude.{IsTrue}
use Rattle.touched_words.specs.TouchTables.{TouchValue}
use Rattle.touched_words.specs.ClosedTables.{AreAmong, IsClosedTable}
use Rattle.first_sets.specs.ApartSets.{table_at}
use Rattle.first_sets.proofs.OneMore.{one_table_more, none_closed, none_unread, fewer_unread}
use Rattle.first_sets.proofs.tables.touch_tables.Goals as goal

pub loop-p-preserved : goal.loop-p-preserved
loop-p-preserved c p =
    let image = c.args.image.now in
    let marks = c.args.unread.now in
    subst
    (λ (ts : List TouchValue). IsClosedTable image.profile image.program (table_at ts p)
    × AreAmong (table_at ts p).unread marks)
    (sym c.in_ok-push.ensures.items)
    (one_table_more (λ (t : TouchValue). IsClosedTable image.profile image.program t × AreAmong t.unread marks)
    c.in_ok-of.field-0 (none_closed image.profile image.program, none_unread marks)
    (c.in_ok-of.ensures.closed, c.in_ok-of.ensures.unread) c.loop-p.tables.items p c.loop-p.invariant)

pub returns : goal.returns
returns c =
    λ named live unread.
    let image = c.args.image.now in
    record {
      closed = λ p. (c.loop-p.invariant p).0;
      unread = λ p.
          fewer_unread (λ r. IsTrue (named r)) (λ k r. IsTrue (live k r)) image.profile image.program
          (table_at c.loop-p.tables.items p).unread c.args.unread.now (c.loop-p.invariant p).1 unread;
    }
