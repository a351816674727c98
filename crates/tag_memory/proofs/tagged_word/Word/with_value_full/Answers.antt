-- Setting the full bit of the number of the tags makes the word full, and keeps its other tags.
use Rattle.std.proofs.Common.{◌≡◌, ℕ, ◌%◌, ◌/◌, ◌^◌, ◌==◌, refl, ◌∙◌, ap, arith, bit_or}
use Rattle.std.proofs.lemmas.Nat.Bits.{bit_at_or}
use Rattle.tag_memory.specs.Cell.{Cell, cell_of}
use Rattle.tag_memory.specs.Access.{with_value_full}
use Rattle.tag_memory.proofs.tagged_word.Word.with_value_full.Goals as goal

bit_kept : (t k : ℕ) → 1 / 2 ^ k % 2 ≡ 0 → bit_or t 1 / 2 ^ k % 2 ≡ t / 2 ^ k % 2
bit_kept t k clear = omega (arith, bit_at_or t 1 k)

cell_of-bit_or_full : (old new t : ℕ) → cell_of new (bit_or t 1) ≡ with_value_full (cell_of old t) new
cell_of-bit_or_full old new t =
    let set : bit_or t 1 / 2 ^ 0 % 2 ≡ 1 = omega (arith, bit_at_or t 1 0) in
    λ i. record {
      value = new;
      full = ap (λ n. n == 1) set i;
      forward = ap (λ n. n == 1) (bit_kept t 1 refl) i;
      trap0 = ap (λ n. n == 1) (bit_kept t 2 refl) i;
      trap1 = ap (λ n. n == 1) (bit_kept t 3 refl) i;
    }

pub returns : goal.returns
returns c =
    ap (cell_of c.args.value) (c.insert.ensures tt)
    ∙ cell_of-bit_or_full c.self.inside.value c.args.value c.self.inside.tags.0
    ∙ ap (λ (w : Cell). with_value_full w c.args.value) c.self.view_is
