-- Laws of spelling, over all words and instructions, in each profile.
use Rattle.std.specs.Prelude.{◌≡◌, ◌↔◌, ℕ, true}
use Rattle.insn_word.specs.Fields.{AreInRange}
use Rattle.insn_word.specs.Words.{fields, RestIsZero, HasOneWriter, is_in, Spells, SpellsIn, IsValidIn}
use Rattle.insn_word.specs.declared.profiles.Profile.{Profile}
use Rattle.insn_word.specs.declared.profiles.Profile.TheVariants as profile
use Rattle.insn_word.specs.declared.insn.Insn.{Insn}

-- A word spells at most one instruction.
abbrev pub OneInstruction : Type 0
OneInstruction = (p : Profile) (word : ℕ) (i j : Insn) → SpellsIn p word i → SpellsIn p word j → i ≡ j

-- An instruction is spelt by at most one word.
abbrev pub OneWord : Type 0
OneWord = (p : Profile) (i : Insn) (v w : ℕ) → SpellsIn p v i → SpellsIn p w i → v ≡ w

-- Some word spells an instruction exactly where its fields are in their ranges, its unused fields are zero, no two of
-- its operations write the same register other than r0, and the profile has its operations.
abbrev pub IsValidByFields : Type 0
IsValidByFields =
    (p : Profile) (i : Insn)
    → IsValidIn p i ↔ (AreInRange (fields i) × RestIsZero i × HasOneWriter i × (is_in p i ≡ true))

-- What a word spells in Profile 1, it spells in Profile 2 too.
abbrev pub ProfileTwoHasProfileOne : Type 0
ProfileTwoHasProfileOne = (word : ℕ) (i : Insn) → Spells word i → SpellsIn profile.Two word i
