-- What is shared out, in another order, with more things, and with more holders.
use Rattle.std.proofs.Common.{◌≡◌, ℕ, zero, suc, refl, sym, subst, arith}
use Rattle.std.proofs.Common.{List, [], ◌∷◌, ◌++◌, length, set, Some, append_assoc, length-append}
use Rattle.std.specs.Prelude.{slice_get, IsPermutation}
use Rattle.std.specs.List.{sum_by}
use Rattle.std.proofs.lemmas.List.{append-nil}
use Rattle.std.proofs.lemmas.List.Sorted.{IsPermutation-refl, IsPermutation-sym, IsPermutation-trans, length_permutation}
use Rattle.std.proofs.lemmas.List.Sorted.{IsPermutation-append_comm, IsPermutation-append_left, IsPermutation-append_right}
use Rattle.std.proofs.lemmas.List.Sums.{sum_by-cons}
use Rattle.std.proofs.lemmas.Option.{same_Some}
use Rattle.seed_outcomes.specs.Sharing.{AreShared}
use Rattle.seed_outcomes.specs.Sharing.{none, some}

module _ {Y : Type 0} where
  pub same_lists : (xs ys : List Y) → xs ≡ ys → IsPermutation xs ys
  same_lists xs ys same = subst (λ (l : List Y). IsPermutation xs l) same (IsPermutation-refl xs)

  empty : (ys : List Y) → IsPermutation [] ys → [] ≡ ys
  empty [] p = refl
  empty (y ∷ ys) p = absurd (let h = length_permutation [] (y ∷ ys) p in omega (arith, h))

  -- what follows the first part of a list goes on after the rest, or before it
  after_rest : (all share rest more : List Y) → IsPermutation all (share ++ rest)
      → IsPermutation (all ++ more) (share ++ (rest ++ more))
  after_rest all share rest more p =
      IsPermutation-trans _ _ _ (IsPermutation-append_left more all (share ++ rest) p)
      (same_lists _ _ (append_assoc share rest more))

  after_share : (all share rest more : List Y) → IsPermutation all (share ++ rest)
      → IsPermutation (all ++ more) ((share ++ more) ++ rest)
  after_share all share rest more p =
      IsPermutation-trans _ _ _ (after_rest all share rest more p)
      (IsPermutation-trans _ _ _
      (IsPermutation-append_right share (rest ++ more) (more ++ rest) (IsPermutation-append_comm rest more))
      (same_lists _ _ (sym (append_assoc share more rest))))

module _ {Y X : Type 0} {P : X → List Y → Type 0} where
  pub in_other_order : {ys : List Y} {xs : List X} (zs : List Y) → AreShared P ys xs → IsPermutation ys zs
      → AreShared P zs xs
  in_other_order zs none p = subst (λ (l : List Y). AreShared P l []) (empty zs p) none
  in_other_order zs (some {all} {rest} {share} is more q) p =
      some is more (IsPermutation-trans zs all (share ++ rest) (IsPermutation-sym all zs p) q)

  pub shared_both : {ys zs : List Y} {xs ws : List X} → AreShared P ys xs → AreShared P zs ws
      → AreShared P (ys ++ zs) (xs ++ ws)
  shared_both none s = s
  shared_both {ys} {zs} (some {all} {rest} {share} is more q) s =
      some is (shared_both more s) (after_rest all share rest zs q)

  pub shared_one : {x : X} {share : List Y} → P x share → AreShared P share (x ∷ [])
  shared_one {x} {share} is = some is none (same_lists share (share ++ []) (sym (append-nil share)))

  pub with_more : {ys : List Y} {xs : List X} (more : List Y) (k : ℕ) (x new : X) → AreShared P ys xs
      → slice_get xs k ≡ Some x → ((share : List Y) → P x share → P new (share ++ more))
      → AreShared P (ys ++ more) (set xs k new)
  with_more more k x new none there gets = absurd (let h : ⊥ = cc in h)
  with_more more zero x new (some {all} {rest} {share} {x = z} is others q) there gets =
      some (gets share (subst (λ y. P y share) (same_Some z x there) is)) others (after_share all share rest more q)
  with_more more (suc k) x new (some {all} {rest} {share} is others q) there gets =
      some is (with_more more k x new others there gets) (after_rest all share rest more q)

  -- how many there are
  pub all_shared : {ys : List Y} {xs : List X} (n : X → ℕ)
      → ((x : X) (share : List Y) → P x share → n x ≡ length share) → AreShared P ys xs → sum_by n xs ≡ length ys
  all_shared n counts none = refl
  all_shared n counts (some {all} {rest} {share} {x} {xs} is others q) =
      let one = sum_by-cons n x xs in
      let here = counts x share is in
      let there = all_shared n counts others in
      let whole = length_permutation all (share ++ rest) q in
      let parts = length-append share rest in
      omega (arith, one, here, there, whole, parts)

-- One of the holders, and its share.
pub record IsHolder {Y X : Type 0} (P : X → List Y → Type 0) (ys : List Y) (x : X) : Type 0 where
  pub share : List Y
  pub rest : List Y
  pub is : P x share
  pub all : IsPermutation ys (share ++ rest)

module _ {Y X : Type 0} {P : X → List Y → Type 0} where
  pub holder_at : {ys : List Y} {xs : List X} (k : ℕ) (x : X) → AreShared P ys xs → slice_get xs k ≡ Some x
      → IsHolder P ys x
  holder_at k x none there = absurd (let h : ⊥ = cc in h)
  holder_at zero x (some {all} {rest} {share} {x = z} is others q) there = record {
    share = share;
    rest = rest;
    is = subst (λ y. P y share) (same_Some z x there) is;
    all = q;
  }
  holder_at (suc k) x (some {all} {rest} {share} is others q) there =
      let h = holder_at k x others there in
      record {
        share = h.share;
        rest = h.rest ++ share;
        is = h.is;
        all =
            IsPermutation-trans _ _ _ q
            (IsPermutation-trans _ _ _ (IsPermutation-append_comm share rest)
            (after_rest rest h.share h.rest share h.all));
      }

-- What the last holder has, and what the others have.
pub record IsLastShared {Y X : Type 0} (P : X → List Y → Type 0) (ys : List Y) (xs : List X) (x : X) : Type 0 where
  pub before : List Y
  pub share : List Y
  pub others : AreShared P before xs
  pub is : P x share
  pub all : IsPermutation ys (before ++ share)

module _ {Y X : Type 0} {P : X → List Y → Type 0} where
  pub last_shared : (xs : List X) (x : X) (ys : List Y) → AreShared P ys (xs ++ x ∷ []) → IsLastShared P ys xs x
  last_shared [] x ys (some {all} {rest} {share} is none q) = record {
    before = [];
    share = share;
    others = none;
    is = is;
    all = IsPermutation-trans _ _ _ q (same_lists _ _ (append-nil share));
  }
  last_shared (z ∷ xs) x ys (some {all} {rest} {share} is others q) =
      let h = last_shared xs x rest others in
      record {
        before = share ++ h.before;
        share = h.share;
        others = some is h.others (IsPermutation-refl (share ++ h.before));
        is = h.is;
        all =
            IsPermutation-trans _ _ _ q
            (IsPermutation-trans _ _ _ (IsPermutation-append_right share rest (h.before ++ h.share) h.all)
            (same_lists _ _ (sym (append_assoc share h.before h.share))));
      }
