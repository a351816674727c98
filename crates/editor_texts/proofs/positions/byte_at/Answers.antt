use Rattle.editor_texts.proofs.Units.{agrees}
use Rattle.editor_texts.proofs.positions.byte_at.Goals as goal

pub returns-clause-round : goal.returns-clause-round
returns-clause-round c k in_range begins same =
    agrees c.args.line.now c.last_place.result c.args.most k c.last_place.ensures.few c.last_place.ensures.last
    in_range begins same
