-- There are as many, and the first of them are told.
use Rattle.std.proofs.Common.{◌≡◌, ℕ, ◌<◌, false, length}
use Rattle.std.specs.Prelude.{slice_index_or}
use Rattle.expectations.specs.NamedRegisters.{is_register_named}
use Rattle.expectations.proofs.names.named_registers.Given as goal

abbrev pub invariant-loop-register : goal.invariant-loop-register
invariant-loop-register l = record {
  all : length l.named ≡ 32;
  told : (k : ℕ) → k < l.register → slice_index_or l.named k false ≡ is_register_named l.expectations k;
}
