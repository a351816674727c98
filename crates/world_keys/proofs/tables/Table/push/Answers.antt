use Rattle.std.proofs.Common.{zero, suc, ◌≡◌, ◌+◌, ◌<◌, ◌^◌, ℕ, List, [], ◌∷◌, ◌++◌, length, get_or, set, ◌∙◌, ap, sym, subst, refl, arith}
use Rattle.world_keys.specs.Tables.{Has}
use Rattle.world_keys.specs.Buckets.{bucket_of}
use Rattle.world_keys.proofs.Linking.{linked_put}
use Rattle.world_keys.proofs.tables.Table.push.Goals as goal

any_default : (xs : List ℕ) (k d : ℕ) → k < length xs → get_or xs k d ≡ get_or xs k 0
any_default [] k d below = absurd (omega arith)
any_default (x ∷ xs) zero d below = refl
any_default (x ∷ xs) (suc k) d below = any_default xs k d (omega arith)

pub invariant_of-self-2 : goal.invariant_of-self-2
invariant_of-self-2 c =
    let ls = c.self.inside.lists in
    let hs = c.make_room.new.heads.items in
    let es = c.make_room.new.earlier.items in
    let x = c.args.list.now in
    let b = c.bucket_of-bucket.result in
    let none = subst (λ (t : List (List ℕ)). ¬ (Has t x)) (sym c.self.view_is) c.requires in
    let few : length ls + 1 < 2 ^ 32 = omega (arith, c.len-place.ensures, c.if-place.false) in
    let size : c.len.result ≡ length hs = omega (arith, c.len.ensures) in
    let within : b < length hs = omega (arith, c.bucket_of-bucket.ensures.within, size) in
    let head : c.index.result.now ≡ get_or hs b 0 = omega (arith, c.index.ensures, any_default hs b c.index.result.now within) in
    let later : c.push_reserved.new.self.items ≡ es ++ get_or hs b 0 ∷ [] =
    c.push_reserved.ensures.items ∙ (λ i. c.reserve.ensures.items i ++ head i ∷ []) in
    linked_put ls c.push.new.self hs (set hs b (c.len-place.result + 1)) es c.push_reserved.new.self.items x b
    c.in_ok-make_room.ensures.linked none c.in_ok-make_room.ensures.room few
    (c.bucket_of-bucket.ensures.is ∙ ap (λ n. bucket_of n x) size)
    within c.in_ok-push.ensures.pushed later
    (ap (λ n. set hs b (n + 1)) c.len-place.ensures)
