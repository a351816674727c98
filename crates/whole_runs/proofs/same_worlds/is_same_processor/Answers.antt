use Rattle.std.proofs.Common.{◌≡◌, ℕ, ◌<◌, ap, sym, ◌∙◌, length, arith, true, false, Some}
use Rattle.std.proofs.lemmas.Option.{same_Some}
use Rattle.image_file.specs.ImageValue.{ImageValue}
use Rattle.processor.specs.Processors.{ProcessorValue}
use Rattle.whole_runs.specs.SameWorlds.{processor_in}
use Rattle.whole_runs.proofs.SameMachines.{counted}
use Rattle.whole_runs.proofs.same_worlds.is_same_processor.Goals as goal

pub returns-then-not-are_same_counts : goal.returns-then-not-are_same_counts
returns-then-not-are_same_counts g c =
    let one = c.args.one.now in
    let other = c.args.other.now in
    let p = c.args.p in
    let below : p < length other.image.entries =
    omega (arith, c.requires.there, ap (λ (i : ImageValue). length i.entries) c.requires.image.image) in
    let first = counted g.row.S one p c.image.ensures.kept c.requires.there in
    let second = counted g.row.S other p c.image-2.ensures.kept below in (
      λ e. absurd (let f : ⊥ = cc in f),
      λ same.
          let counts = first ∙ ap (λ (d : ProcessorValue). Some (d.scur, d.sres)) same ∙ sym second in
          let f : true ≡ false = sym (c.are_same_counts.ensures.1 counts) ∙ c.if-not-are_same_counts.true in
          absurd (let z : ⊥ = cc in z),
    )

pub returns : goal.returns
returns g c =
    let one = c.args.one.now in
    let other = c.args.other.now in
    let p = c.args.p in
    let below : p < length other.image.entries =
    omega (arith, c.requires.there, ap (λ (i : ImageValue). length i.entries) c.requires.image.image) in
    let first = counted g.row.S one p c.image.ensures.kept c.requires.there in
    let second = counted g.row.S other p c.image-2.ensures.kept below in
    let a = processor_in one.world p in
    let b = processor_in other.world p in
    let counts : Some (a.scur, a.sres) ≡ Some (b.scur, b.sres) =
    sym first ∙ c.are_same_counts.ensures.0 c.if-not-are_same_counts.false ∙ second in
    let pair = same_Some (a.scur, a.sres) (b.scur, b.sres) counts in
    let scur : a.scur ≡ b.scur = ap (λ (x : ℕ × ℕ). x.0) pair in
    let sres : a.sres ≡ b.sres = ap (λ (x : ℕ × ℕ). x.1) pair in (
      λ e. let streams = c.are_same_streams.ensures.0 e in
          λ i. record { streams = streams i; scur = scur i; sres = sres i },
      λ same. c.are_same_streams.ensures.1 (ap (λ (d : ProcessorValue). d.streams) same),
    )
