use Rattle.std.proofs.lemmas.List.Sums.{length-filter}
use Rattle.schedule_makers.specs.Free.{is_free_but}
use Rattle.schedule_makers.proofs.free_streams.free_by_word.Goals as goal

pub returns : goal.returns
returns g c =
    let m = c.args.machine.now in
    let count = length-filter (is_free_but c.args.out m.image m.world) c.args.steps.now in
    cc (c.free_at.ensures, c.place_by-place.ensures, c.count_free.ensures, count)
