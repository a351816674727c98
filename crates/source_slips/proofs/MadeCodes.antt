-- Codes that were not made, by a table of how many were.
use Rattle.std.proofs.Common.{◌≡◌, ℕ, zero, suc, ◌<◌, ◌≤◌, ◌==◌, inl, inr, Bool, true, false, refl, sym, ap, arith}
use Rattle.std.proofs.Common.{if◌then◌else◌, Option, Some, None, List, [], ◌∷◌, length}
use Rattle.std.specs.Prelude.{⊤, slice_get}
use Rattle.insn_word.specs.declared.insn.Insn.{Insn}
use Rattle.image_file.specs.ImageValue.{ImageValue}
use Rattle.stream_core.specs.declared.conditions.Code.{Code}
use Rattle.stream_core.specs.declared.status_words.Codes.{Codes}
use Rattle.stream_core.specs.StatusWords.{no_code, no_codes}
use Rattle.stream_core.specs.Effects.{code_at}
use Rattle.stream_core.specs.StreamRow.{fetch_word, fetch_instruction}
use Rattle.stream_core.specs.declared.traps.TrapKind.{TrapKind}
use Rattle.stream_core.specs.declared.steps.Fetch.TheVariants as fetch
use Rattle.source_slips.specs.Places.{insn_of}
use Rattle.source_slips.specs.Made.{IsWithin, AllowsBy, AllowsAny, count_after, most_of}
use Rattle.source_slips.proofs.MadeStreams.{codes_after}

pub nothing : {X : Type 0} {x : X} → None ≡ Some x → ⊥
nothing e = cc

pub missing_past : {X : Type 0} (xs : List X) (k : ℕ) → slice_get xs k ≡ None → length xs ≤ k
missing_past [] k e = omega arith
missing_past (x ∷ xs) zero e = absurd (nothing (sym e))
missing_past (x ∷ xs) (suc k) e = omega (arith, missing_past xs k e)

-- from the code of number n on, the newest by 0, none was made
abbrev pub NoneFrom : ℕ → Codes → Type 0
NoneFrom n cs = (c : ℕ) → c < 4 → n ≤ c → code_at cs c ≡ no_code

pub none_at_start : (c : ℕ) → code_at no_codes c ≡ no_code
none_at_start c = by (c == 0) (c == 1) (c == 2) where
  by : (x y z : Bool)
      → (if x then no_codes.newest else if y then no_codes.second else if z then no_codes.third else no_codes.oldest) ≡ no_code
  by true y z = refl
  by false true z = refl
  by false false true = refl
  by false false false = refl

pub none_within : (most n : ℕ) (cs : Codes) → IsWithin most n → NoneFrom n cs → NoneFrom most cs
none_within most n cs (inl less) none c below from = none c below (omega (arith, less, from))
none_within most n cs (inr all) none c below from = absurd (omega (arith, all, below, from))

pub none_after : (makes : Bool) (n : ℕ) (x : Code) (cs : Codes) → NoneFrom n cs
    → NoneFrom (count_after makes n) (codes_after makes x cs)
none_after false n x cs none c below from = none c below from
none_after true n x cs none zero below from = absurd (omega (arith, from))
none_after true n x cs none (suc zero) below from = none 0 (omega arith) (omega (arith, from))
none_after true n x cs none (suc (suc zero)) below from = none 1 (omega arith) (omega (arith, from))
none_after true n x cs none (suc (suc (suc zero))) below from = none 2 (omega arith) (omega (arith, from))
none_after true n x cs none (suc (suc (suc (suc c)))) below from = absurd (omega (arith, below))

-- with which codes a stream may stand where the table says this
abbrev pub StandsBy : Option (Option ℕ) → Codes → Type 0
StandsBy None cs = ⊤
StandsBy (Some None) cs = ⊥
StandsBy (Some (Some n)) cs = NoneFrom n cs

abbrev pub GoesWith : Option ℕ → Codes → Type 0
GoesWith None cs = ⊥
GoesWith (Some n) cs = NoneFrom n cs

pub allowed : (o : Option (Option ℕ)) (n : ℕ) (cs : Codes) → AllowsBy o n → NoneFrom n cs → StandsBy o cs
allowed None n cs is none = tt
allowed (Some None) n cs is none = absurd is
allowed (Some (Some most)) n cs is none = none_within most n cs is none

pub allowed_any : (o : Option ℕ) (n : ℕ) (cs : Codes) → AllowsAny o n → NoneFrom n cs → GoesWith o cs
allowed_any None n cs is none = absurd is
allowed_any (Some most) n cs is none = none_within most n cs is none

pub no_insn : {k : TrapKind} {i : Insn} → fetch.Trap k ≡ fetch.Instruction i → ⊥
no_insn e = cc

pub most_is : (o : Option (Option ℕ)) (n : ℕ) → most_of o ≡ Some n → o ≡ Some (Some n)
most_is None n e = absurd (nothing e)
most_is (Some None) n e = absurd (nothing e)
most_is (Some (Some most)) n e = ap Some e

-- what stands at a place, by its word
pub fetched_insn : (image : ImageValue) (o : Option ℕ) (i : Insn) → fetch_word image.profile o ≡ fetch.Instruction i
    → insn_of image.profile o ≡ Some i
fetched_insn image None i e = absurd (no_insn e)
fetched_insn image (Some word) i e = by (insn_of image.profile (Some word)) e where
  by : (o : Option Insn) → fetch_instruction o ≡ fetch.Instruction i → o ≡ Some i
  by None got = absurd (no_insn got)
  by (Some j) got = cc
