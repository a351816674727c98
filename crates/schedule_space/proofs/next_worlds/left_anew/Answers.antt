use Rattle.schedule_space.proofs.Before.{all_kept, below_key, all_behind, asked_behind}
use Rattle.schedule_space.proofs.next_worlds.left_anew.Goals as goal

pub places_in-here-requires : goal.places_in-here-requires
places_in-here-requires g c =
    below_key c.args.live.now c.args.seen.now.contents c.args.seen.now.steps c.args.machine.now c.args.before.now c.args.step.p
    c.requires.before c.requires.there

pub returns-in_err-left-clause-steps : goal.returns-in_err-left-clause-steps
returns-in_err-left-clause-steps g c =
    all_kept c.args.machine.now.image c.args.live.now c.args.seen.now.contents c.places_after.new.contents c.args.seen.now.steps
    c.in_err-left.ensures.grown c.requires.before.left

pub returns-in_err-keep-clause-steps : goal.returns-in_err-keep-clause-steps
returns-in_err-keep-clause-steps g c =
    let m = c.args.machine.now in
    let live = c.args.live.now in
    let old = c.args.seen.now.contents in
    let new = c.places_after.new.contents in
    let seen = c.args.seen.now.steps in
    let key = c.args.before.now in
    let u = c.args.step in
    let here = c.places_in-here.result in
    let at = c.places_in-here.ensures in
    let below = below_key live old seen m key u.p c.requires.before c.requires.there in
    let left = c.in_ok-left.ensures in
    all_behind live old new seen m key u here c.in_ok-left.left c.keep.new.self seen.by_stream c.from.result
    c.requires.before below at.content at.memory left.grown c.from.ensures c.keep.ensures left.left
    (λ is. is)

pub returns-in_default-clause-steps : goal.returns-in_default-clause-steps
returns-in_default-clause-steps g c =
    let m = c.args.machine.now in
    let live = c.args.live.now in
    let old = c.args.seen.now.contents in
    let new = c.places_after.new.contents in
    let seen = c.args.seen.now.steps in
    let key = c.args.before.now in
    let u = c.args.step in
    let here = c.places_in-here.result in
    let at = c.places_in-here.ensures in
    let below = below_key live old seen m key u.p c.requires.before c.requires.there in
    let left = c.in_ok-left.ensures in
    all_behind live old new seen m key u here c.in_ok-left.left c.keep.new.self seen.by_stream c.from.result
    c.requires.before below at.content at.memory left.grown c.from.ensures c.keep.ensures left.left
    (λ is. is)

pub returns-in_err-keep_stream-clause-steps : goal.returns-in_err-keep_stream-clause-steps
returns-in_err-keep_stream-clause-steps g c =
    let m = c.args.machine.now in
    let live = c.args.live.now in
    let old = c.args.seen.now.contents in
    let new = c.places_after.new.contents in
    let seen = c.args.seen.now.steps in
    let key = c.args.before.now in
    let u = c.args.step in
    let here = c.places_in-here.result in
    let at = c.places_in-here.ensures in
    let below = below_key live old seen m key u.p c.requires.before c.requires.there in
    let left = c.in_ok-left.ensures in
    all_behind live old new seen m key u here c.in_ok-left.left c.keep.new.self c.keep_stream.new.steps c.from.result
    c.requires.before below at.content at.memory left.grown c.from.ensures c.keep.ensures left.left
    (λ is.
    c.keep_stream.ensures live is
    (asked_behind live old seen m key u here c.requires.before below at.content at.memory new c.in-Some.mark left.grown
    c.in-Some.ensures) left.left)

pub returns-clause-steps : goal.returns-clause-steps
returns-clause-steps g c =
    let m = c.args.machine.now in
    let live = c.args.live.now in
    let old = c.args.seen.now.contents in
    let new = c.places_after.new.contents in
    let seen = c.args.seen.now.steps in
    let key = c.args.before.now in
    let u = c.args.step in
    let here = c.places_in-here.result in
    let at = c.places_in-here.ensures in
    let below = below_key live old seen m key u.p c.requires.before c.requires.there in
    let left = c.in_ok-left.ensures in
    all_behind live old new seen m key u here c.in_ok-left.left c.keep.new.self c.keep_stream.new.steps c.from.result
    c.requires.before below at.content at.memory left.grown c.from.ensures c.keep.ensures left.left
    (λ is.
    c.keep_stream.ensures live is
    (asked_behind live old seen m key u here c.requires.before below at.content at.memory new c.in-Some.mark left.grown
    c.in-Some.ensures) left.left)
