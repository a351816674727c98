-- Directives as lines, without their line ends.
use Rattle.std.specs.Prelude.{ℕ, List, [], ◌∷◌}
use Rattle.std.specs.Fmt.{decimal}
use Rattle.insn_word.specs.declared.profiles.Profile.{Profile}
use Rattle.asm_line.specs.Names.{directive_name, profile_number}
use Rattle.asm_line.specs.declared.operation.Directive.{Directive}
use Rattle.asm_line.specs.declared.operation.Directive.TheVariants as directive
use Rattle.listing_line.specs.WordText.{statement_text, digits_text}

-- a directive with one number
abbrev pub number_line : Directive → ℕ → List ℕ
number_line d number = statement_text (directive_name d) (decimal number ∷ [])

-- the line of a profile
unfoldable pub profile_line : Profile → List ℕ
profile_line p = number_line directive.Profile (profile_number p)

-- the line of a slim
unfoldable pub slim_line : ℕ → List ℕ
slim_line slim = number_line directive.Slim slim

-- the line of a chain limit
unfoldable pub chain_line : ℕ → List ℕ
chain_line limit = number_line directive.Chain limit

-- the line of a retry limit
unfoldable pub retry_line : ℕ → List ℕ
retry_line retry = number_line directive.Retry retry

-- the line of a trap entry
unfoldable pub trap_line : ℕ → List ℕ
trap_line trap = number_line directive.Trap trap

-- the line of an entry
unfoldable pub entry_line : ℕ → List ℕ
entry_line entry = number_line directive.Entry entry

-- so many cells of this value and these tags
unfoldable pub fill_line : ℕ → ℕ → ℕ → List ℕ
fill_line count value tags =
    statement_text (directive_name directive.Fill) (decimal count ∷ digits_text value ∷ decimal tags ∷ [])
