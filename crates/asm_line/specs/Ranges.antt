-- In which ranges the numbers of an item are.
use Rattle.std.specs.Prelude.{◌≡◌, ℕ, ◌≤◌, ◌<◌, ◌^◌, true, ⊤}
use Rattle.insn_word.specs.Words.{IsValidIn}
use Rattle.insn_word.specs.declared.profiles.Profile.{Profile}
use Rattle.asm_line.specs.Names.{has_chain}
use Rattle.asm_line.specs.declared.item.Item.{Item}
use Rattle.asm_line.specs.declared.item.Item.TheVariants as item

-- where the text has this profile and so many words
abbrev pub IsItemInRange : Profile → ℕ → Item → Type 0
IsItemInRange p words item.Nothing = ⊤
IsItemInRange p words (item.Profile q) = ⊤
IsItemInRange p words (item.Slim n) = (1 ≤ n) × (n ≤ 128)
IsItemInRange p words (item.Chain n) = (has_chain p ≡ true) × (n ≤ 64)
IsItemInRange p words (item.Retry n) = n < 2 ^ 32
IsItemInRange p words (item.Trap n) = n < 2 ^ 32
IsItemInRange p words (item.Entry n) = n < words
IsItemInRange p words (item.Instruction i) = IsValidIn p i
IsItemInRange p words (item.Word n) = n < 2 ^ 64
IsItemInRange p words (item.Cells n value tags) = (1 ≤ n) × (n ≤ 262144) × (value < 2 ^ 64) × (tags < 16)
