use Rattle.std.proofs.Common.{◌≡◌, ◌+◌, ◌*◌, ◌++◌, true, false, refl, take, drop, set, slice_get, sym, ap, ◌∙◌, subst, rules}
use Rattle.std.proofs.Common.{option_copied}
use Rattle.stream_core.specs.Streams.{idle}
use Rattle.processor.specs.Processors.{is_idle, is_idle_status}
use Rattle.dead_registers.specs.Clearing.{cleared_stream, cleared}
use Rattle.world_keys.specs.StreamNumbers.{stream_numbers}
use Rattle.world_keys.specs.Tables.{place_in, Has}
use Rattle.world_keys.specs.WorldKeys.{processor_in, processor_numbers, IsKnownIf}
use Rattle.world_keys.proofs.Readings.{seen_any, reserved, counted}
use Rattle.world_keys.proofs.Places.{extends_refl}
use Rattle.world_keys.proofs.Replacing.{kept_on, before_read, numbers_replaced, held_replaced}
use Rattle.world_keys.proofs.Removing.{numbers_removed, ended_is}
use Rattle.world_keys.proofs.next_keys.changed_numbers.Goals as goal

pub returns-then-is_idle-clause-is : goal.returns-then-is_idle-clause-is
returns-then-is_idle-clause-is g c =
    let old = c.args.contents.now in
    let l = c.args.live.now in
    let real = c.args.machine.now.world in
    let w = cleared l real in
    let p = c.args.change.step.p in
    let s = c.args.change.step.s in
    let b = c.requires.before in
    let x = cleared_stream l c.in-Some.stream.now in
    let numbers = c.in-Some-list.marks.now in
    let mark = c.in-Some-mark_of.mark in
    let seen = seen_any l g.row.S real p s c.in-Some.stream.now c.requires.there (sym c.stream.ensures ∙ ap option_copied c.in-Some.is) in
    let read : numbers ≡ processor_numbers old b.before =
    before_read old b.before c.args.before numbers b.known.numbers b.is_place
    (sym (ap option_copied c.in-Some-list.is) ∙ c.list.ensures) in
    let off : is_idle x ≡ true = sym (c.is_idle.ensures ∙ ap is_idle_status c.status.ensures) ∙ c.if-is_idle.true in
    let ended =
    ended_is (processor_in w p) s x (counted l real p c.requires.there c.counts.ensures.counts) seen off in
    let first : c.from-reserved.result ≡ (processor_in w p).sres =
    c.from-reserved.ensures
    ∙ reserved l real p c.unwrap-sres.result c.requires.there (sym c.counts.ensures.is ∙ c.unwrap-sres.ensures) in
    numbers_removed old b.before (processor_in w p) s mark numbers c.in_ok-rest.rest.items read
    (b.streams (kept_on c.args.change.are_others_kept c.if-not-change.false)
    ∙ ap (set b.before.streams s) (sym seen ∙ ended)) c.in-Some-mark_of.ensures.mark
    (c.in_ok-rest.ensures
    ∙ ap (λ n. set (take (2 * mark + 1) numbers ++ drop (2 * mark + 3) numbers) 0 n) first)

pub returns-then-is_idle-clause-held : goal.returns-then-is_idle-clause-held
returns-then-is_idle-clause-held g c =
    let old = c.args.contents.now in
    let l = c.args.live.now in
    let real = c.args.machine.now.world in
    let w = cleared l real in
    let p = c.args.change.step.p in
    let s = c.args.change.step.s in
    let b = c.requires.before in
    let x = cleared_stream l c.in-Some.stream.now in
    let counts = counted l real p c.requires.there c.counts.ensures.counts in
    let seen = seen_any l g.row.S real p s c.in-Some.stream.now c.requires.there (sym c.stream.ensures ∙ ap option_copied c.in-Some.is) in
    let off : is_idle x ≡ true = sym (c.is_idle.ensures ∙ ap is_idle_status c.status.ensures) ∙ c.if-is_idle.true in
    let ended = ended_is (processor_in w p) s x counts seen off in
    held_replaced old old c.args.machine.now.image b.before (processor_in w p) s idle (extends_refl old) b.known.held
    (b.streams (kept_on c.args.change.are_others_kept c.if-not-change.false)
    ∙ ap (set b.before.streams s) (sym seen ∙ ended)) (sym ended ∙ seen) refl counts.counts

pub returns-clause-is : goal.returns-clause-is
returns-clause-is g c =
    let old = c.args.contents.now in
    let new = c.place.new.self in
    let l = c.args.live.now in
    let real = c.args.machine.now.world in
    let w = cleared l real in
    let p = c.args.change.step.p in
    let s = c.args.change.step.s in
    let b = c.requires.before in
    let x = cleared_stream l c.in-Some.stream.now in
    let numbers = c.in_ok-numbers.numbers.items in
    let mark = c.in-Some-mark_of.mark in
    let place = c.in_ok-place.place in
    let seen = seen_any l g.row.S real p s c.in-Some.stream.now c.requires.there (sym c.stream.ensures ∙ ap option_copied c.in-Some.is) in
    let copied : numbers ≡ c.in-Some-list.marks.now = c.in_ok-numbers.ensures.items in
    let read : numbers ≡ processor_numbers old b.before =
    copied
    ∙ before_read old b.before c.args.before c.in-Some-list.marks.now b.known.numbers b.is_place
    (sym (ap option_copied c.in-Some-list.is) ∙ c.list.ensures) in
    let busy : is_idle x ≡ false =
    sym (c.is_idle.ensures ∙ ap is_idle_status c.status.ensures) ∙ c.if-is_idle.false in
    let place_is : place ≡ place_in new (stream_numbers x) = search rules in
    let first : c.from-reserved.result ≡ (processor_in w p).sres =
    c.from-reserved.ensures
    ∙ reserved l real p c.unwrap-sres.result c.requires.there (sym c.counts.ensures.is ∙ c.unwrap-sres.ensures) in
    numbers_replaced old new c.args.machine.now.image b.before (processor_in w p) s mark place x numbers
    (set (set numbers 0 c.from-reserved.result) (2 * mark + 2) place) c.in_ok-place.ensures.grown b.known.held read
    (b.streams (kept_on c.args.change.are_others_kept c.if-not-change.false)
    ∙ ap (set b.before.streams s) (sym seen)) busy
    (ap (λ xs. slice_get xs (2 * mark + 1)) copied ∙ c.in-Some-mark_of.ensures.mark) place_is
    (ap (λ n. set (set numbers 0 n) (2 * mark + 2) place) first)

pub returns-clause-held : goal.returns-clause-held
returns-clause-held g c =
    let old = c.args.contents.now in
    let new = c.place.new.self in
    let l = c.args.live.now in
    let real = c.args.machine.now.world in
    let w = cleared l real in
    let p = c.args.change.step.p in
    let s = c.args.change.step.s in
    let b = c.requires.before in
    let x = cleared_stream l c.in-Some.stream.now in
    let seen = seen_any l g.row.S real p s c.in-Some.stream.now c.requires.there (sym c.stream.ensures ∙ ap option_copied c.in-Some.is) in
    let busy : is_idle x ≡ false =
    sym (c.is_idle.ensures ∙ ap is_idle_status c.status.ensures) ∙ c.if-is_idle.false in
    let there : Has new (stream_numbers x) = search rules in
    held_replaced old new c.args.machine.now.image b.before (processor_in w p) s x c.in_ok-place.ensures.grown
    b.known.held
    (b.streams (kept_on c.args.change.are_others_kept c.if-not-change.false)
    ∙ ap (set b.before.streams s) (sym seen)) seen
    (subst (IsKnownIf new x) (sym busy) (there, c.in_ok-held.ensures.readable))
    (counted l real p c.requires.there c.counts.ensures.counts).counts
