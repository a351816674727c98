-- The derived `==` of parts and instructions tells equality.
use Rattle.std.proofs.Common.{◌≡◌}
use Rattle.std.specs.Bool.{Decides}
use Rattle.std.specs.Cmp.{booleans_Decides}
use Rattle.std.proofs.lemmas.Bool.Decides.{Decides-and, Decides-eqb, Decides-int_eq, Decides-like}
use denote.Enum.Bare.{sameb, same_true, true_same}
use Rattle.insn_word.specs.contracts.operations.WideOp as wide
use Rattle.insn_word.specs.contracts.operations.MemoryOp as memory
use Rattle.insn_word.specs.contracts.operations.Access as access
use Rattle.insn_word.specs.contracts.operations.ArithmeticOp as arithmetic
use Rattle.insn_word.specs.contracts.operations.ControlOp as control
use Rattle.insn_word.specs.contracts.operations.Condition as condition
use Rattle.insn_word.specs.contracts.insn.MPartPartialEq.TheImpl as memory_part
use Rattle.insn_word.specs.contracts.insn.APartPartialEq.TheImpl as arithmetic_part
use Rattle.insn_word.specs.contracts.insn.CPartPartialEq.TheImpl as control_part
use Rattle.insn_word.specs.contracts.insn.InsnPartialEq.TheImpl as instruction
use Rattle.insn_word.specs.declared.operations.WideOp.{WideOp}
use Rattle.insn_word.specs.declared.operations.MemoryOp.{MemoryOp}
use Rattle.insn_word.specs.declared.operations.Access.{Access}
use Rattle.insn_word.specs.declared.operations.ArithmeticOp.{ArithmeticOp}
use Rattle.insn_word.specs.declared.operations.ControlOp.{ControlOp}
use Rattle.insn_word.specs.declared.operations.Condition.{Condition}
use Rattle.insn_word.specs.declared.insn.MPart.{MPart}
use Rattle.insn_word.specs.declared.insn.APart.{APart}
use Rattle.insn_word.specs.declared.insn.CPart.{CPart}
use Rattle.insn_word.specs.declared.insn.Insn.{Insn}
use Rattle.insn_word.specs.declared.insn.Insn.TheVariants as insn

Decides-wide : (x y : WideOp) → Decides (sameb wide.the_type x y) (x ≡ y)
Decides-wide x y = (same_true wide.the_type tt x y, true_same wide.the_type x y)

Decides-memory : (x y : MemoryOp) → Decides (sameb memory.the_type x y) (x ≡ y)
Decides-memory x y = (same_true memory.the_type tt x y, true_same memory.the_type x y)

Decides-access : (x y : Access) → Decides (sameb access.the_type x y) (x ≡ y)
Decides-access x y = (same_true access.the_type tt x y, true_same access.the_type x y)

Decides-arithmetic : (x y : ArithmeticOp) → Decides (sameb arithmetic.the_type x y) (x ≡ y)
Decides-arithmetic x y = (same_true arithmetic.the_type tt x y, true_same arithmetic.the_type x y)

Decides-control : (x y : ControlOp) → Decides (sameb control.the_type x y) (x ≡ y)
Decides-control x y = (same_true control.the_type tt x y, true_same control.the_type x y)

Decides-condition : (x y : Condition) → Decides (sameb condition.the_type x y) (x ≡ y)
Decides-condition x y = (same_true condition.the_type tt x y, true_same condition.the_type x y)

Decides-memory_part : (x y : MPart) → Decides (memory_part.eq-value.it x y) (x ≡ y)
Decides-memory_part x y =
    Decides-like (memory_part.eq-value.it x y)
    (λ p. λ i. record { op = p.0 i; acc = p.1.0 i; rd = p.1.1.0 i; base = p.1.1.1.0 i; disp = p.1.1.1.1 i })
    (λ e. (λ i. (e i).op, (λ i. (e i).acc, (λ i. (e i).rd, (λ i. (e i).base, λ i. (e i).disp)))))
    (Decides-and _ _ (Decides-memory x.op y.op)
    (Decides-and _ _ (Decides-access x.acc y.acc)
    (Decides-and _ _ (Decides-eqb x.rd y.rd)
    (Decides-and _ _ (Decides-eqb x.base y.base) (Decides-int_eq x.disp y.disp)))))

Decides-arithmetic_part : (x y : APart) → Decides (arithmetic_part.eq-value.it x y) (x ≡ y)
Decides-arithmetic_part x y =
    Decides-like (arithmetic_part.eq-value.it x y)
    (λ p. λ i. record {
      op = p.0 i;
      test = p.1.0 i;
      imm = p.1.1.0 i;
      rd = p.1.1.1.0 i;
      ra = p.1.1.1.1.0 i;
      rb = p.1.1.1.1.1 i;
    })
    (λ e. (λ i. (e i).op, (λ i. (e i).test, (λ i. (e i).imm, (λ i. (e i).rd, (λ i. (e i).ra, λ i. (e i).rb))))))
    (Decides-and _ _ (Decides-arithmetic x.op y.op)
    (Decides-and _ _ (booleans_Decides x.test y.test)
    (Decides-and _ _ (booleans_Decides x.imm y.imm)
    (Decides-and _ _ (Decides-eqb x.rd y.rd)
    (Decides-and _ _ (Decides-eqb x.ra y.ra) (Decides-eqb x.rb y.rb))))))

Decides-control_part : (x y : CPart) → Decides (control_part.eq-value.it x y) (x ≡ y)
Decides-control_part x y =
    Decides-like (control_part.eq-value.it x y)
    (λ p. λ i. record {
      op = p.0 i;
      cond = p.1.0 i;
      code = p.1.1.0 i;
      t = p.1.1.1.0 i;
      u = p.1.1.1.1.0 i;
      rd = p.1.1.1.1.1.0 i;
      ra = p.1.1.1.1.1.1.0 i;
      n = p.1.1.1.1.1.1.1 i;
    })
    (λ e.
    let registers : (x.u ≡ y.u) × ((x.rd ≡ y.rd) × ((x.ra ≡ y.ra) × (x.n ≡ y.n))) =
    (λ i. (e i).u, (λ i. (e i).rd, (λ i. (e i).ra, λ i. (e i).n))) in
    (λ i. (e i).op, (λ i. (e i).cond, (λ i. (e i).code, (λ i. (e i).t, registers)))))
    (Decides-and _ _ (Decides-control x.op y.op)
    (Decides-and _ _ (Decides-condition x.cond y.cond)
    (Decides-and _ _ (Decides-eqb x.code y.code)
    (Decides-and _ _ (Decides-eqb x.t y.t)
    (Decides-and _ _ (Decides-eqb x.u y.u)
    (Decides-and _ _ (Decides-eqb x.rd y.rd)
    (Decides-and _ _ (Decides-eqb x.ra y.ra) (Decides-int_eq x.n y.n))))))))

-- equal to the letter, and only then
pub Decides-insn : (x y : Insn) → Decides (instruction.eq-value.it x y) (x ≡ y)
Decides-insn (insn.Wide look op reg imm) (insn.Wide look' op' reg' imm') =
    Decides-like (instruction.eq-value.it (insn.Wide look op reg imm) (insn.Wide look' op' reg' imm'))
    (λ p. λ i. insn.Wide (p.0 i) (p.1.0 i) (p.1.1.0 i) (p.1.1.1 i)) (λ e. (cc, (cc, (cc, cc))))
    (Decides-and _ _ (Decides-eqb look look')
    (Decides-and _ _ (Decides-wide op op') (Decides-and _ _ (Decides-eqb reg reg') (Decides-eqb imm imm'))))
Decides-insn (insn.Normal look m a c) (insn.Normal look' m' a' c') =
    Decides-like (instruction.eq-value.it (insn.Normal look m a c) (insn.Normal look' m' a' c'))
    (λ p. λ i. insn.Normal (p.0 i) (p.1.0 i) (p.1.1.0 i) (p.1.1.1 i)) (λ e. (cc, (cc, (cc, cc))))
    (Decides-and _ _ (Decides-eqb look look')
    (Decides-and _ _ (Decides-memory_part m m')
    (Decides-and _ _ (Decides-arithmetic_part a a') (Decides-control_part c c'))))
Decides-insn (insn.Normal look m a c) (insn.Wide look' op' reg' imm') = (λ e. cc, λ e. cc)
Decides-insn (insn.Wide look op reg imm) (insn.Normal look' m' a' c') = (λ e. cc, λ e. cc)
