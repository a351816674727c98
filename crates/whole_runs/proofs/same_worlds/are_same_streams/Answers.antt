use Rattle.std.proofs.Common.{◌≡◌, ◌<◌, ap, refl, sym, ◌∙◌, length, arith, true, false, option_copied}
use Rattle.image_file.specs.ImageValue.{ImageValue}
use Rattle.whole_runs.specs.SameWorlds.{processor_in}
use Rattle.whole_runs.proofs.SameLists.{same_more, same_end, other_at}
use Rattle.whole_runs.proofs.SameMachines.{slims, seen, seen_some}
use Rattle.whole_runs.proofs.same_worlds.are_same_streams.Goals as goal

pub unwrap-b-requires : goal.unwrap-b-requires
unwrap-b-requires g c =
    let image = c.requires.image.image in
    let end = c.slim-s-end.ensures.is ∙ ap (λ (i : ImageValue). i.slim) c.image-3.ensures.is in
    seen_some g.row.S c.args.other.now c.args.p c.loop-s.s c.stream-in-loop-s.result c.image-2.ensures.kept
    (omega (arith, c.requires.there, ap (λ (i : ImageValue). length i.entries) image))
    (omega (arith, end, c.loop-s-test.true, ap (λ (i : ImageValue). i.slim) image)) c.stream-in-loop-s.ensures

pub returns-then-not-is_same_stream : goal.returns-then-not-is_same_stream
returns-then-not-is_same_stream g c =
    let one = c.args.one.now in
    let other = c.args.other.now in
    let p = c.args.p in
    let s = c.loop-s.s in
    let image = c.requires.image.image in
    let end = c.slim-s-end.ensures.is ∙ ap (λ (i : ImageValue). i.slim) c.image-3.ensures.is in
    let first =
    seen g.row.S one p s c.unwrap-a.result.now c.image.ensures.kept c.requires.there
    (omega (arith, end, c.loop-s-test.true)) (sym c.stream.ensures ∙ ap option_copied c.unwrap-a.ensures) in
    let second =
    seen g.row.S other p s c.unwrap-b.result.now c.image-2.ensures.kept
    (omega (arith, c.requires.there, ap (λ (i : ImageValue). length i.entries) image))
    (omega (arith, end, c.loop-s-test.true, ap (λ (i : ImageValue). i.slim) image))
    (sym c.stream-in-loop-s.ensures ∙ ap option_copied c.unwrap-b.ensures) in (
      λ e. absurd (let f : ⊥ = cc in f),
      λ same. absurd (other_at (processor_in one.world p).streams (processor_in other.world p).streams s
          c.unwrap-a.result.now c.unwrap-b.result.now first second
          (λ e. let f : true ≡ false = sym (c.is_same_stream.ensures.1 e) ∙ c.if-not-is_same_stream.true in
          let z : ⊥ = cc in z) same),
    )

pub loop-s-preserved : goal.loop-s-preserved
loop-s-preserved g c =
    let one = c.args.one.now in
    let other = c.args.other.now in
    let p = c.args.p in
    let s = c.loop-s.s in
    let image = c.requires.image.image in
    let end = c.slim-s-end.ensures.is ∙ ap (λ (i : ImageValue). i.slim) c.image-3.ensures.is in
    let first =
    seen g.row.S one p s c.unwrap-a.result.now c.image.ensures.kept c.requires.there
    (omega (arith, end, c.loop-s-test.true)) (sym c.stream.ensures ∙ ap option_copied c.unwrap-a.ensures) in
    let second =
    seen g.row.S other p s c.unwrap-b.result.now c.image-2.ensures.kept
    (omega (arith, c.requires.there, ap (λ (i : ImageValue). length i.entries) image))
    (omega (arith, end, c.loop-s-test.true, ap (λ (i : ImageValue). i.slim) image))
    (sym c.stream-in-loop-s.ensures ∙ ap option_copied c.unwrap-b.ensures) in
    same_more (processor_in one.world p).streams (processor_in other.world p).streams s c.unwrap-a.result.now
    c.unwrap-b.result.now first second (c.is_same_stream.ensures.0 c.if-not-is_same_stream.false) c.loop-s.invariant

pub returns : goal.returns
returns g c =
    let one = c.args.one.now in
    let other = c.args.other.now in
    let p = c.args.p in
    let image = c.requires.image.image in
    let end = c.slim-s-end.ensures.is ∙ ap (λ (i : ImageValue). i.slim) c.image-3.ensures.is in
    let many = slims g.row.S one p c.image.ensures.kept c.requires.there in
    let below : p < length other.image.entries =
    omega (arith, c.requires.there, ap (λ (i : ImageValue). length i.entries) image) in
    let as_many = slims g.row.S other p c.image-2.ensures.kept below in (
      λ _. same_end (processor_in one.world p).streams (processor_in other.world p).streams c.loop-s.s
          (omega (arith, end, many, c.loop-s-test.false))
          (omega (arith, end, as_many, ap (λ (i : ImageValue). i.slim) image, c.loop-s-test.false))
          c.loop-s.invariant,
      λ _. refl,
    )
