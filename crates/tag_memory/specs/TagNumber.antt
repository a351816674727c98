-- That a word's tags as a number give the word back, on which the model of a word rests.
use Rattle.std.specs.Prelude.{◌≡◌, ℕ, ◌*◌, ◌/◌, ◌%◌, ◌^◌, ◌<◌, ◌==◌, if◌then◌else◌}
use Rattle.std.proofs.Common.{arith}
use Rattle.std.proofs.lemmas.Bool.Decides.{nat_tests}
use Rattle.tag_memory.specs.Cell.{cell_of, tag_number}

weighed : (n w : ℕ) → (if n % 2 == 1 then w else 0) ≡ w * (n % 2)
weighed n w = grind (arith, nat_tests)

pub tag_number-cell_of : (value tags : ℕ) → tags < 16 → tag_number (cell_of value tags) ≡ tags
tag_number-cell_of value tags small =
    omega (
      arith,
      weighed (tags / 2 ^ 0) 1,
      weighed (tags / 2 ^ 1) 2,
      weighed (tags / 2 ^ 2) 4,
      weighed (tags / 2 ^ 3) 8,
    )
