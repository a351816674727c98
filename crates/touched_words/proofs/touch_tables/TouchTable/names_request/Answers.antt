use Rattle.touched_words.proofs.Asking.{wide_asks_none, asks_by, nop_asks_none}
use Rattle.touched_words.proofs.touch_tables.TouchTable.names_request.Goals as goal

pub returns-in-Wide : goal.returns-in-Wide
returns-in-Wide c =
    λ yes s q holds asks.
    absurd (wide_asks_none s c.args.insn.now c.in-Wide.look c.in-Wide.reg c.in-Wide.imm c.in-Wide.op q c.in-Wide.is asks)

pub returns-in-Nop : goal.returns-in-Nop
returns-in-Nop c =
    λ yes s q holds asks.
    absurd (nop_asks_none s c.in-Normal.m c.in-Normal.m.op q c.in-Nop.is
    (asks_by s c.args.insn.now c.in-Normal.look c.in-Normal.m c.in-Normal.a c.in-Normal.c q c.in-Normal.is asks))

pub returns-in-Load : goal.returns-in-Load
returns-in-Load c =
    λ yes s q holds asks.
    c.names_word.ensures yes s q holds
    (asks_by s c.args.insn.now c.in-Normal.look c.in-Normal.m c.in-Normal.a c.in-Normal.c q c.in-Normal.is asks)
