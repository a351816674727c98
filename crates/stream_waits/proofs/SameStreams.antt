-- Whether two streams are the same.
use Rattle.std.proofs.Common.{◌≡◌, ℕ, refl, sym, ap, ◌∙◌, subst, Bool, true, false, ◌==◌, ◌&&◌, arith}
use Rattle.std.specs.Bool.{Decides}
use Rattle.std.specs.Cmp.{IsEquivalence}
use Rattle.std.proofs.lemmas.Bool.{eqb-true, eq-eqb}
use Rattle.processor.specs.declared.steps.Step.{Step}
use Rattle.stream_waits.specs.Circles.{is_same_stream}

pub same_stream : (a b : Step) → Decides (is_same_stream a b) (a ≡ b)
same_stream a b = (
  λ e. both (a.p == b.p) (a.s == b.s) refl refl e,
  λ e. subst (λ (x : Step). is_same_stream a x ≡ true) e (reflexive a),
) where
  both : (x y : Bool) → (a.p == b.p) ≡ x → (a.s == b.s) ≡ y → (x && y) ≡ true → a ≡ b
  both true true one two e =
      let p : a.p ≡ b.p = eqb-true a.p b.p one in
      let s : a.s ≡ b.s = eqb-true a.s b.s two in
      let with_p : ℕ → Step = λ x. record { p = x; s = a.s } in
      let with_s : ℕ → Step = λ x. record { p = b.p; s = x } in
      ap with_p p ∙ ap with_s s
  both true false one two e = cc
  both false y one two e = cc

  reflexive : (x : Step) → is_same_stream x x ≡ true
  reflexive x =
      let p = eq-eqb x.p x.p refl in
      let s = eq-eqb x.s x.s refl in
      grind arith

-- where a test decides whether two streams are the same, it is an equivalence
from_decides : (x y : Bool) → (x ≡ true → y ≡ true) → (y ≡ true → x ≡ true) → x ≡ y
from_decides true true one two = refl
from_decides true false one two = sym (one refl)
from_decides false true one two = two refl
from_decides false false one two = refl

pub same_laws : IsEquivalence is_same_stream
same_laws = record {
  refl = λ x. (same_stream x x).1 refl;
  symm = λ x y.
      from_decides _ _ (λ e. (same_stream y x).1 (sym ((same_stream x y).0 e)))
      (λ e. (same_stream x y).1 (sym ((same_stream y x).0 e)));
  congr = λ x y z e.
      ap (λ (v : Step). is_same_stream v z) ((same_stream x y).0 e);
}

-- Where `==` of two streams was found to hold or not.

pub are_same : (a b : Step) (x : Bool) → x ≡ is_same_stream a b → x ≡ true → a ≡ b
are_same a b x is holds = (same_stream a b).0 (cc)

pub are_other : (a b : Step) (x : Bool) → x ≡ is_same_stream a b → x ≡ false → a ≡ b → ⊥
are_other a b x is fails same =
    let holds = (same_stream a b).1 same in
    let wrong : true ≡ false = cc in
    cc
