-- What `==` of judgements tells: that they are equal.
use Rattle.std.proofs.Common.{◌≡◌, ℕ, refl, ap, Option, Some, None}
use Rattle.std.specs.Bool.{Decides}
use Rattle.std.specs.Cmp.{booleans_Decides}
use Rattle.std.specs.Option.{option_eq}
use Rattle.std.proofs.Common.{◌==◌}
use Rattle.std.proofs.lemmas.Bool.Decides.{Decides-and, Decides-eqb, Decides-like}
use denote.Enum.Bare.{sameb, same_true, true_same}
use Rattle.end_kinds.specs.declared.kinds.EndKind.{EndKind}
use Rattle.end_kinds.specs.contracts.kinds.EndKind as kind
use Rattle.space_ends.specs.EndStatesTypes.EndJudgement.{EndJudgement}
use Rattle.space_ends.specs.EndStatesTypes.EndJudgementPartialEq.TheImpl as judgement

pub Decides-kind : (x y : EndKind) → Decides (sameb kind.the_type x y) (x ≡ y)
Decides-kind x y = (same_true kind.the_type tt x y, true_same kind.the_type x y)

pub Decides-place : (x y : Option ℕ) → Decides (option_eq (λ a b. a == b) x y) (x ≡ y)
Decides-place None None = (λ e. refl, λ e. refl)
Decides-place None (Some b) = (λ e. cc, λ e. cc)
Decides-place (Some a) None = (λ e. cc, λ e. cc)
Decides-place (Some a) (Some b) =
    Decides-like (option_eq (λ a b. a == b) (Some a) (Some b)) (λ p. ap Some p) (λ e. cc) (Decides-eqb a b)

pub Decides-judgement : (x y : EndJudgement) → Decides (judgement.eq-value.it x y) (x ≡ y)
Decides-judgement x y =
    Decides-like (judgement.eq-value.it x y)
    (λ p. λ i. record { kind = p.0 i; missed = p.1.0 i; broken = p.1.1.0 i; is_trapped = p.1.1.1 i })
    (λ e. (λ i. (e i).kind, (λ i. (e i).missed, (λ i. (e i).broken, λ i. (e i).is_trapped))))
    (Decides-and _ _ (Decides-kind x.kind y.kind)
    (Decides-and _ _ (Decides-place x.missed y.missed)
    (Decides-and _ _ (Decides-place x.broken y.broken) (booleans_Decides x.is_trapped y.is_trapped))))
