use Rattle.std.proofs.Common.{◌≡◌, ◌<◌, ◌+◌, ℕ, Bool, false, List, length, set, length-set, sym, subst, arith, ◌∙◌}
use Rattle.std.specs.Prelude.{slice_index_or}
use Rattle.std.proofs.lemmas.List.Edits.{fill_by_more}
use Rattle.expectations.specs.NamedRegisters.{is_register_named}
use Rattle.expectations.proofs.names.named_registers.Goals as goal

-- one place more of a list of 32 is written
one_more : (f : ℕ → Bool) (bs : List Bool) (n place : ℕ) (b : Bool) → n < 32 → place ≡ n → b ≡ f n → length bs ≡ 32
    → ((k : ℕ) → k < n → slice_index_or bs k false ≡ f k)
    → (k : ℕ) → k < n + 1 → slice_index_or (set bs place b) k false ≡ f k
one_more f bs n place b below at is room done =
    subst (λ p. (k : ℕ) → k < n + 1 → slice_index_or (set bs p b) k false ≡ f k) (sym at)
    (subst (λ v. (k : ℕ) → k < n + 1 → slice_index_or (set bs n v) k false ≡ f k) (sym is)
    (fill_by_more f bs n false (omega arith) done))

pub loop-register-preserved : goal.loop-register-preserved
loop-register-preserved c = record {
  all = length-set c.loop-register.named c.from.result c.is_register_named.result ∙ c.loop-register.invariant.all;
  told =
      one_more (is_register_named c.args.expectations.now) c.loop-register.named c.loop-register.register c.from.result
      c.is_register_named.result (omega arith) c.from.ensures c.is_register_named.ensures
      c.loop-register.invariant.all c.loop-register.invariant.told;
}
