use Rattle.std.proofs.Common.{ap, ◌∙◌, Some, None}
use Rattle.stream_core.specs.declared.status_words.StatusWord.{StatusWord}
use Rattle.stream_waits.proofs.Seen.{pc_seen}
use Rattle.stream_waits.proofs.places.pc_of.Goals as goal

pub returns-in-Some : goal.returns-in-Some
returns-in-Some g c =
    ap (λ (w : StatusWord). w.pc) c.ssw.ensures
    ∙ pc_seen g.row.S c.args.machine.now c.args.stream (Some c.in-Some.stream.now) c.image-image.ensures.kept
    c.in-Some.ensures

pub returns-in-None : goal.returns-in-None
returns-in-None g c =
    pc_seen g.row.S c.args.machine.now c.args.stream None c.image-image.ensures.kept c.in-None.ensures
