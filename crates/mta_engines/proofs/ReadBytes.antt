-- What is told of the bytes that were read is told of those that the reader had.
use Rattle.std.proofs.Common.{◌≡◌, ℕ, List, Option, Some, None, IfSome, Result, Ok, Err, IfErr}
use Rattle.std.proofs.Common.{IsErrAnd, subst, sym}
use Rattle.mta_engines.specs.declared.tool_fault.ToolFault.{ToolFault}

pub told : {A : Type 0} (r : Result A ToolFault) (o : Option (List ℕ)) (bytes : List ℕ) (P : List ℕ → ToolFault
    → Type 0)
    → IfSome o (λ input. bytes ≡ input) → ((input : List ℕ) → bytes ≡ input → IfErr r (P input))
    → IfErr r (λ fault. IfSome o (λ input. P input fault))
told (Ok x) o bytes P e h = tt
told (Err f) None bytes P e h = tt
told (Err f) (Some input) bytes P e h = h input e

pub of_reader : (o : Option (List ℕ)) (bytes : List ℕ) (P : List ℕ → Type 0) → IfSome o (λ input. bytes ≡ input)
    → ((input : List ℕ) → bytes ≡ input → P input) → IfSome o P
of_reader None bytes P e h = tt
of_reader (Some input) bytes P e h = h input e

-- what never holds of known bytes makes anything follow
pub never : (o : Option (List ℕ)) (P Q : List ℕ → Type 0) → IfSome o (λ bytes. P bytes → ⊥)
    → IfSome o (λ bytes. P bytes → Q bytes)
never None P Q h = tt
never (Some bytes) P Q h = λ is. absurd (h is)

-- an answer that is this fault is as the fault is
pub answered : {A : Type 0} (r : Result A ToolFault) (fault : ToolFault) (o : Option (List ℕ)) (P : List ℕ → Type 0)
    (Q : List ℕ → ToolFault → Type 0) → IsErrAnd r (λ answer. answer ≡ fault)
    → IfSome o (λ bytes. P bytes → Q bytes fault) → IfSome o (λ bytes. P bytes → IsErrAnd r (Q bytes))
answered (Ok x) fault o P Q is h = absurd is
answered (Err answer) fault None P Q is h = tt
answered (Err answer) fault (Some bytes) P Q is h = λ has. subst (Q bytes) (sym is) (h has)

-- what holds of this fault holds of an answer that is it
pub at_fault : {A : Type 0} (r : Result A ToolFault) (fault : ToolFault) (P : ToolFault → Type 0)
    → IsErrAnd r (λ answer. answer ≡ fault) → P fault → IfErr r P
at_fault (Ok x) fault P is h = tt
at_fault (Err answer) fault P is h = subst P (sym is) h
