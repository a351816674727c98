-- The versions of image files: 1 has the images of Profile One, and 2 those of Profile Two. Only version 2 has a field
-- for the chain limit, and what stands behind it begins so much later.
use Rattle.std.specs.Prelude.{ℕ, ◌+◌, ◌==◌, Option, Some, None, if◌then◌else◌}
use Rattle.insn_word.specs.declared.profiles.Profile.{Profile}
use Rattle.insn_word.specs.declared.profiles.Profile.TheVariants.{One, Two}

-- the version of an image file, by the profile
abbrev pub version_of : Profile → ℕ
version_of One = 1
version_of Two = 2

-- the profile whose images a version has
abbrev pub profile_of_version : (version : ℕ) → Option Profile
profile_of_version version =
    if version == version_of One then Some One
    else if version == version_of Two then Some Two
    else None

-- how many bytes the chain limit has
abbrev pub chain_size : Profile → ℕ
chain_size One = 0
chain_size Two = 2

-- where it stands, or would
abbrev pub chain_place : ℕ
chain_place = 10

-- where the 16 bytes behind it begin: the retry limit, the trap entry, and the numbers of program and data words
abbrev pub tail_place : Profile → ℕ
tail_place profile = chain_place + chain_size profile

-- 26 and 28
abbrev pub header_length : Profile → ℕ
header_length profile = 26 + chain_size profile
