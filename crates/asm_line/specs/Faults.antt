-- Kinds of faults, and results that may be one.
use Rattle.std.specs.Prelude.{ℕ, nat_le, if◌then◌else◌, Option, Some, None, Result, Ok, Err}
use Rattle.asm_line.specs.declared.fault.Fault.{Fault}
use Rattle.asm_line.specs.declared.fault.Fault.TheVariants as fault

-- the number of a kind
abbrev pub kind_number : Fault → ℕ
kind_number fault.NotAscii = 1
kind_number fault.Unknown = 2
kind_number fault.Operand = 3
kind_number fault.Range = 4
kind_number fault.TwoWriters = 5
kind_number fault.LabelTwice = 6
kind_number fault.LabelMissing = 7
kind_number fault.Directive = 8
kind_number fault.Limit = 9
kind_number fault.NoMemory = 10

-- of two kinds the one that is answered
abbrev pub least_fault : Fault → Fault → Fault
least_fault e f = if nat_le (kind_number e) (kind_number f) then e else f

-- what is made of a value, where there is one; a fault stays
abbrev pub map_ok : {A B : Type 0} → (A → B) → Result A Fault → Result B Fault
map_ok f (Ok x) = Ok (f x)
map_ok f (Err e) = Err e

-- what is looked for only where the first has no fault
infixl 10 ◌>>=◌
abbrev pub ◌>>=◌ : {A B : Type 0} → Result A Fault → (A → Result B Fault) → Result B Fault
(Ok x) >>= f = f x
(Err e) >>= f = Err e

-- two results, or the least fault of both
abbrev pub both : {A B : Type 0} → Result A Fault → Result B Fault → Result (A × B) Fault
both (Ok x) (Ok y) = Ok (x, y)
both (Ok x) (Err f) = Err f
both (Err e) (Ok y) = Err e
both (Err e) (Err f) = Err (least_fault e f)

-- what a table has under a name
abbrev pub unless_unknown : {A : Type 0} → Option A → Result A Fault
unless_unknown None = Err fault.Unknown
unless_unknown (Some x) = Ok x
