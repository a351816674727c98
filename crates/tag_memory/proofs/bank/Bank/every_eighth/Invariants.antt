-- The places below the loop's have their words.
use Rattle.std.proofs.Common.{◌≡◌, ℕ, ◌+◌, ◌*◌, ◌<◌, length, get_or}
use Rattle.tag_memory.specs.Banks.{blank_cell, bank_count}
use Rattle.tag_memory.proofs.bank.Bank.every_eighth.Given as goal

abbrev pub invariant-loop-place : goal.invariant-loop-place
invariant-loop-place l =
    (length l.bank ≡ l.places)
    × ((q : ℕ) → q < l.place → get_or l.bank q blank_cell ≡ get_or l.words (bank_count * q + l.first) blank_cell)
