use Rattle.std.proofs.Common.{rules, subst, sym, Bool, ◌↔◌}
use Rattle.std.specs.Prelude.{IsTrue}
use Rattle.schedule_space.specs.Spaces.{world_of}
use Rattle.schedule_space.specs.Reaching.{IsEnd}
use Rattle.schedule_space.proofs.Marking.{ends_more, fate_end}
use Rattle.schedule_space.proofs.spaces.Space.ends.Goals as goal

pub loop-place-preserved : goal.loop-place-preserved
loop-place-preserved c =
    let v = c.args.self.now in
    let n = c.loop-place.place in
    let last : IsTrue c.is_end.result ↔ IsEnd v.image (world_of v n) =
    subst (λ (b : Bool). IsTrue b ↔ IsEnd v.image (world_of v n)) (sym c.is_end.ensures)
    (fate_end v.image (world_of v n) c.fate.result c.fate.ensures) in
    record {
      each = search rules;
      ends =
          ends_more v c.loop-place.marks.items c.push.new.self.items n c.is_end.result c.loop-place.invariant.each
          c.loop-place.invariant.ends last (search rules);
    }
