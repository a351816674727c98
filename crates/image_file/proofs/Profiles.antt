-- What the version of bytes tells of their profile, and of their chain limit.
use Rattle.std.proofs.Common.{◌≡◌, ℕ, ◌^◌, ◌<◌, ◌≤◌, List, ◌++◌, length, drop, append-nil}
use Rattle.std.proofs.Common.{Option, Some, None, refl, sym, ap, ◌∙◌, arith}
use Rattle.std.specs.Prelude.{unwrap_or}
use Rattle.std.proofs.lemmas.Bool.Decides.{nat_tests}
use Rattle.insn_word.specs.declared.profiles.Profile.{Profile}
use Rattle.insn_word.specs.declared.profiles.Profile.TheVariants.{One, Two}
use Rattle.tag_memory.specs.Storage.{default_chain_limit, most_chain_limit}
use Rattle.image_file.specs.Fields.{number_bytes, number_of_bytes}
use Rattle.image_file.specs.Versions.{version_of, profile_of_version, chain_size, chain_place, header_length}
use Rattle.image_file.specs.Reading.{version_at, profile_at, chain_limit_in, version_fault}

-- a version that has a profile is the version of it
pub version_is : (v : ℕ) (p : Profile) → profile_of_version v ≡ Some p → v ≡ version_of p
version_is v One known = grind (arith, nat_tests)
version_is v Two known = grind (arith, nat_tests)

pub profile_again : (p : Profile) → profile_of_version (version_of p) ≡ Some p
profile_again One = refl
profile_again Two = refl

-- bytes of a known version that have its header
some_version : (found : Option Profile) (b : List ℕ) → version_fault found b ≡ None
    → (found ≡ Some (unwrap_or found One)) × (header_length (unwrap_or found One) ≤ length b)
some_version None b none = absurd cc
some_version (Some p) b none = (refl, grind (arith, nat_tests))

pub record IsVersioned (b : List ℕ) : Type 0 where
  pub known : profile_of_version (version_at b) ≡ Some (profile_at b)
  pub long : header_length (profile_at b) ≤ length b

pub versioned : (b : List ℕ) → version_fault (profile_of_version (version_at b)) b ≡ None → IsVersioned b
unfolding profile_at
versioned b none =
    let found = some_version (profile_of_version (version_at b)) b none in record { known = found.0; long = found.1 }

-- the profile of bytes whose version is that of p
pub profile_from : (b : List ℕ) (p : Profile) → version_at b ≡ version_of p → profile_at b ≡ p
unfolding profile_at
profile_from b p is = ap (λ v. unwrap_or (profile_of_version v) One) is ∙ ap (λ found. unwrap_or found One) (profile_again p)

-- ---- the chain limit

pub chain_of_one : (p : Profile) (b : List ℕ) → p ≡ One → chain_limit_in p b ≡ default_chain_limit
chain_of_one One b is = refl
chain_of_one Two b is = absurd cc

-- an image of Profile One writes none
pub no_chain : (out : List ℕ) (limit : ℕ) → out ≡ out ++ number_bytes (chain_size One) limit
unfolding number_bytes
no_chain out limit = sym (append-nil out)

-- the bytes of what is read are those that are there
pub chain_back : (p : Profile) (b : List ℕ)
    → number_bytes (chain_size p) (number_of_bytes (chain_size p) (drop chain_place b))
    ≡ number_bytes (chain_size p) (chain_limit_in p b)
unfolding number_bytes
chain_back One b = refl
chain_back Two b = refl

-- what is written is read
pub chain_again : (p : Profile) (limit : ℕ) (b : List ℕ) → (p ≡ One → limit ≡ default_chain_limit)
    → limit ≤ most_chain_limit
    → (limit < 256 ^ chain_size p → number_of_bytes (chain_size p) (drop chain_place b) ≡ limit)
    → chain_limit_in p b ≡ limit
chain_again One limit b of_one few read = sym (of_one refl)
chain_again Two limit b of_one few read = read (omega arith)
