-- Which registers expectations name.
use Rattle.std.specs.Prelude.{ℕ, ◌<◌, ◌==◌, Bool, false, ⊤, List}
use Rattle.std.specs.List.{list_any}
use Rattle.expectations.specs.declared.expectation.Expectation.{Expectation}
use Rattle.expectations.specs.declared.expectation.Expectation.TheVariants as expect

-- whether an expectation names the register of this number, of whatever stream
abbrev pub names_register : ℕ → Expectation → Bool
names_register r (expect.Word a value state) = false
names_register r (expect.Words a b value state) = false
names_register r (expect.Sum a b value) = false
names_register r (expect.Compared a t b more) = false
names_register r (expect.Register p s n value) = n == r
names_register r expect.Finished = false
names_register r (expect.Stopped p s trap) = false
names_register r (expect.Waits p s first last) = false
names_register r expect.Loops = false

-- whether one of some expectations does
abbrev pub is_register_named : List Expectation → ℕ → Bool
is_register_named expected r = list_any (names_register r) expected

-- if an expectation names a register, then one of the 32 that a stream has
abbrev pub IsOfRegisters : Expectation → Type 0
IsOfRegisters (expect.Word a value state) = ⊤
IsOfRegisters (expect.Words a b value state) = ⊤
IsOfRegisters (expect.Sum a b value) = ⊤
IsOfRegisters (expect.Compared a t b more) = ⊤
IsOfRegisters (expect.Register p s n value) = n < 32
IsOfRegisters expect.Finished = ⊤
IsOfRegisters (expect.Stopped p s trap) = ⊤
IsOfRegisters (expect.Waits p s first last) = ⊤
IsOfRegisters expect.Loops = ⊤
