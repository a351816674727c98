-- Conditions on a condition code.
use Rattle.std.specs.Prelude.{Bool, true, false, not, ◌||◌}
use Rattle.insn_word.specs.declared.operations.Condition.{Condition}
use Rattle.insn_word.specs.declared.operations.Condition.TheVariants.{Always, Equal, NotEqual, Less, GreaterEqual}
use Rattle.insn_word.specs.declared.operations.Condition.TheVariants.{LessEqual, Greater, LessUnsigned}
use Rattle.insn_word.specs.declared.operations.Condition.TheVariants.{GreaterEqualUnsigned, LessEqualUnsigned}
use Rattle.insn_word.specs.declared.operations.Condition.TheVariants.{GreaterUnsigned, Negative, Positive}
use Rattle.insn_word.specs.declared.operations.Condition.TheVariants.{Overflow, NoOverflow}
use Rattle.stream_core.specs.declared.conditions.Code.{Code}

-- whether two bits differ
abbrev pub differ : Bool → Bool → Bool
differ true b = not b
differ false b = b

-- whether the condition holds on the code
abbrev pub condition_holds : Condition → Code → Bool
condition_holds Always c = true
condition_holds Equal c = c.zero
condition_holds NotEqual c = not c.zero
condition_holds Less c = differ c.negative c.overflow
condition_holds GreaterEqual c = not (differ c.negative c.overflow)
condition_holds LessEqual c = c.zero || differ c.negative c.overflow
condition_holds Greater c = not (c.zero || differ c.negative c.overflow)
condition_holds LessUnsigned c = c.carry
condition_holds GreaterEqualUnsigned c = not c.carry
condition_holds LessEqualUnsigned c = c.carry || c.zero
condition_holds GreaterUnsigned c = not (c.carry || c.zero)
condition_holds Negative c = c.negative
condition_holds Positive c = not c.negative
condition_holds Overflow c = c.overflow
condition_holds NoOverflow c = not c.overflow
