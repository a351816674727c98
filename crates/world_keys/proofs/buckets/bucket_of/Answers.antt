use Rattle.std.proofs.Common.{◌≡◌, ◌-◌, ◌/◌, take, length, ap, ◌∙◌, arith, bit_and}
use Rattle.std.proofs.Math.Seq.{take-length}
use Rattle.std.specs.List.{fold}
use Rattle.world_keys.specs.Buckets.{mixed, bucket_of}
use Rattle.world_keys.proofs.buckets.bucket_of.Goals as goal

pub returns-clause-is : goal.returns-clause-is
unfolding bucket_of
returns-clause-is c =
    let list = c.args.list.now in
    let all : c.loop-number.number-index ≡ length list =
    omega (arith, c.loop-number-test.false, c.loop-number.auto.number-index-end) in
    ap (λ sum. bit_and (sum / 4294967296) (c.args.size - 1))
    (c.loop-number.invariant ∙ ap (λ n. fold mixed 0 (take n list)) all ∙ ap (fold mixed 0) (take-length list))
