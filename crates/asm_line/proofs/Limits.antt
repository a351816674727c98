-- Numbers and their limits.
use Rattle.std.proofs.Common.{◌≡◌, ℕ, ◌≤◌, Option, Some, None, Result, Ok, Err, sym, ◌∙◌, ap, arith, ⊎_elim}
use Rattle.std.proofs.lemmas.Bool.Decides.{leb_tells}
use Rattle.std.specs.Option.{ok_or, option_map}
use Rattle.text_parts.specs.Numbers.{number_from, up_to}
use Rattle.text_parts.specs.declared.numbers.Number.{Number}
use Rattle.asm_line.specs.Faults.{◌>>=◌}
use Rattle.asm_line.specs.Numbers.{within}
use Rattle.asm_line.specs.declared.fault.Fault.{Fault}
use Rattle.asm_line.specs.declared.fault.Fault.TheVariants as fault

abbrev pub or_range : Option ℕ → Result ℕ Fault
or_range None = Err fault.Range
or_range (Some n) = Ok n

limit_is : (most v : ℕ) → or_range (up_to most v) ≡ within most v
limit_is most v = ⊎_elim (λ h. rw h.0) (λ h. rw h.0) (leb_tells v most)

-- a number up to a limit
pub within_limit : (most : ℕ) (n : Option ℕ) (x : Number) (o : Option ℕ) → option_map number_from n ≡ Some x
    → ((v : ℕ) → x ≡ number_from v → o ≡ up_to most v) → (ok_or n fault.Operand >>= within most) ≡ or_range o
within_limit most (Some v) x o e f =
    let is : x ≡ number_from v = cc in sym (limit_is most v) ∙ ap or_range (sym (f v is))
within_limit most None x o e f = cc

pub within_bound : (most : ℕ) (r : Result ℕ Fault) (n : ℕ) → (r >>= within most) ≡ Ok n → n ≤ most
within_bound most (Err k) n e = cc
within_bound most (Ok v) n e = ⊎_elim
    (λ h. let e' = rw h.0 at e in let same : n ≡ v = cc in omega (arith, h.1))
    (λ h. let e' = rw h.0 at e in cc)
    (leb_tells v most)

pub ruleset limits = (within_limit, within_bound)
