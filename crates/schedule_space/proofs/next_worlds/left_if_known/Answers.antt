use Rattle.std.proofs.Common.{◌∷◌, [], List, ℕ, rules, refl}
use Rattle.schedule_space.specs.declared.known_steps.Places.{Places}
use Rattle.schedule_space.specs.KnownSteps.{IsSeen}
use Rattle.schedule_space.proofs.Before.{all_kept, known_behind, stream_behind, all_behind}
use Rattle.schedule_space.proofs.next_worlds.left_if_known.Goals as goal

pub returns-in-Some-clause-left : goal.returns-in-Some-clause-left
returns-in-Some-clause-left c = λ live m before.
    let seen = c.args.seen.now in
    let here = c.places_in-here.result in
    let at = c.places_in-here.ensures in
    let asked : List ℕ = here.content ∷ c.from.result ∷ here.memory ∷ [] in
    let there : IsSeen seen.steps.by_processor asked c.in-Some.left = search rules in
    known_behind live seen.contents seen.steps m c.args.before.now c.args.step here before c.requires.there at.content
    at.memory asked c.in-Some.left (λ i. here.content ∷ c.from.ensures i ∷ here.memory ∷ []) there

pub returns-in_err-content-clause-steps : goal.returns-in_err-content-clause-steps
returns-in_err-content-clause-steps c = λ live m before.
    all_kept m.image live c.args.seen.now.contents c.place_with.new.contents c.args.seen.now.steps c.place_with.ensures.grown
    before.left

pub returns-in_err-keep-clause-steps : goal.returns-in_err-keep-clause-steps
returns-in_err-keep-clause-steps c = λ live m before.
    let seen = c.args.seen.now in
    let key = c.args.before.now in
    let here = c.places_in-here.result in
    let at = c.places_in-here.ensures in
    let new = c.place_with.new.contents in
    let mark = c.in-Some-mark_in.mark in
    let l = c.in-Some-find.left in
    let more : Places = record { content = c.in_ok-content.content; memory = l.memory } in
    let marked = c.in-Some-mark_in.ensures in
    let there : IsSeen seen.steps.by_stream (mark.content ∷ here.memory ∷ []) l = search rules in
    let behind =
    stream_behind live seen.contents seen.steps m key c.args.step here before c.requires.there at.content at.memory new l
    more mark c.place_with.ensures.grown marked there (c.in_ok-content.ensures.is marked.numbers marked.there)
    (c.in_ok-content.ensures.has marked.numbers marked.there) refl in
    all_behind live seen.contents new seen.steps m key c.args.step here more c.keep.new.self seen.steps.by_stream
    c.from.result before c.requires.there at.content at.memory c.place_with.ensures.grown c.from.ensures c.keep.ensures behind
    (λ is. is)

pub returns-clause-left : goal.returns-clause-left
returns-clause-left c = λ live m before.
    let seen = c.args.seen.now in
    let here = c.places_in-here.result in
    let at = c.places_in-here.ensures in
    let mark = c.in-Some-mark_in.mark in
    let l = c.in-Some-find.left in
    let more : Places = record { content = c.in_ok-content.content; memory = l.memory } in
    let marked = c.in-Some-mark_in.ensures in
    let there : IsSeen seen.steps.by_stream (mark.content ∷ here.memory ∷ []) l = search rules in
    stream_behind live seen.contents seen.steps m c.args.before.now c.args.step here before c.requires.there at.content
    at.memory c.place_with.new.contents l more mark c.place_with.ensures.grown marked there
    (c.in_ok-content.ensures.is marked.numbers marked.there) (c.in_ok-content.ensures.has marked.numbers marked.there) refl

pub returns-clause-steps : goal.returns-clause-steps
returns-clause-steps c = λ live m before.
    let seen = c.args.seen.now in
    let key = c.args.before.now in
    let here = c.places_in-here.result in
    let at = c.places_in-here.ensures in
    let new = c.place_with.new.contents in
    let mark = c.in-Some-mark_in.mark in
    let l = c.in-Some-find.left in
    let more : Places = record { content = c.in_ok-content.content; memory = l.memory } in
    let marked = c.in-Some-mark_in.ensures in
    let there : IsSeen seen.steps.by_stream (mark.content ∷ here.memory ∷ []) l = search rules in
    let behind =
    stream_behind live seen.contents seen.steps m key c.args.step here before c.requires.there at.content at.memory new l
    more mark c.place_with.ensures.grown marked there (c.in_ok-content.ensures.is marked.numbers marked.there)
    (c.in_ok-content.ensures.has marked.numbers marked.there) refl in
    all_behind live seen.contents new seen.steps m key c.args.step here more c.keep.new.self seen.steps.by_stream
    c.from.result before c.requires.there at.content at.memory c.place_with.ensures.grown c.from.ensures c.keep.ensures behind
    (λ is. is)
