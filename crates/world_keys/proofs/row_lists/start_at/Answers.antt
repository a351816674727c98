use Rattle.std.proofs.Common.{◌-◌, sym, arith}
use Rattle.world_keys.proofs.RowLists.{start_first, start_is}
use Rattle.world_keys.proofs.row_lists.start_at.Goals as goal

pub returns-then-place-eq0 : goal.returns-then-place-eq0
returns-then-place-eq0 c = sym (start_first c.args.ends.now c.args.place c.if-place-eq0.true)

pub returns : goal.returns
returns c =
    start_is c.args.ends.now c.args.place (c.args.place - 1) (omega (arith, c.if-place-eq0.false)) c.requires
