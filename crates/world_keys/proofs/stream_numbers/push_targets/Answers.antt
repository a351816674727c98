use Rattle.std.proofs.Common.{◌++◌, ◌≡◌, sym, ap, ◌∙◌, arith, length, map}
use Rattle.std.proofs.lemmas.List.{length-map}
use Rattle.stream_core.specs.StatusWords.{status_number}
use Rattle.world_keys.specs.StreamNumbers.{halves, all_halves}
use Rattle.world_keys.proofs.Digits.{exactly, one_more, no_more}
use Rattle.world_keys.proofs.Streams.{kept_more, all_kept, word_at}
use Rattle.world_keys.proofs.stream_numbers.push_targets.Goals as goal

pub loop-target-preserved : goal.loop-target-preserved
loop-target-preserved c =
    let targets = c.args.stream.now.targets in
    let there = sym c.target-in-loop-target.ensures.is ∙ c.unwrap-word.ensures in
    record {
      numbers =
          one_more (c.args.numbers.now.items ++ all_halves (map status_number targets)) c.loop-target.numbers.items
          c.push_halves.new.numbers.items (map status_number targets) c.loop-target.target
          (status_number c.unwrap-word.result) c.loop-target.invariant.numbers
          (word_at targets c.loop-target.target c.unwrap-word.result there)
          (c.in_ok-push_halves.ensures ∙ ap (λ n. c.loop-target.numbers.items ++ halves n) c.status_bits.ensures.is);
      kept =
          kept_more targets c.loop-target.target c.unwrap-word.result c.loop-target.invariant.kept there
          c.status_bits.ensures.kept;
    }

pub returns-clause-is : goal.returns-clause-is
returns-clause-is c =
    let targets = c.args.stream.now.targets in
    let all : length targets ≡ 8 =
    exactly targets 7 c.target.result c.target-2.result c.target.ensures.is c.target.ensures.there
    c.target-2.ensures.is c.target-2.ensures.there in
    no_more (c.args.numbers.now.items ++ all_halves (map status_number targets)) c.loop-target.numbers.items
    (map status_number targets) c.loop-target.target c.loop-target.invariant.numbers
    (omega (arith, length-map targets status_number))

pub returns-clause-all : goal.returns-clause-all
returns-clause-all c =
    exactly c.args.stream.now.targets 7 c.target.result c.target-2.result c.target.ensures.is
    c.target.ensures.there c.target-2.ensures.is c.target-2.ensures.there

pub returns-clause-kept : goal.returns-clause-kept
returns-clause-kept c =
    let targets = c.args.stream.now.targets in
    let all : length targets ≡ 8 =
    exactly targets 7 c.target.result c.target-2.result c.target.ensures.is c.target.ensures.there
    c.target-2.ensures.is c.target-2.ensures.there in
    all_kept targets c.loop-target.target c.loop-target.invariant.kept (omega arith)
