-- The operation of a name.
use Rattle.std.specs.Prelude.{ℕ, List, Option, Some, None}
use Rattle.std.specs.Option.{option_map, option_or}
use Rattle.asm_line.specs.Heads.{wide_named, memory_named, arithmetic_named, control_named}
use Rattle.insn_word.specs.declared.profiles.Profile.TheVariants.{Two}
use Rattle.program_rules.specs.declared.program_rule.ProgramOperation.{ProgramOperation}
use Rattle.program_rules.specs.declared.program_rule.ProgramOperation.TheVariants.{Wide, Memory, Arithmetic, Control}

-- the operation that a source text has this name for, of either profile; NOP is the name of none
abbrev pub operation_named : List ℕ → Option ProgramOperation
operation_named name =
    option_or (option_map Wide (wide_named name))
    (option_or (option_map Memory (memory_named Two name))
    (option_or (option_map Arithmetic (arithmetic_named name))
    (option_map Control (control_named name))))
