-- One more name of those that are left, where it passes.
use Rattle.std.proofs.Common.{◌≡◌, ℕ, ◌+◌, Bool, true, false, List, [], ◌∷◌, ◌++◌, drop, filter}
use Rattle.std.proofs.Common.{append_assoc}
use Rattle.std.proofs.lemmas.List.{map-append}
use Rattle.source_places.specs.DataNames.{DataNameValue}
use Rattle.source_places.specs.SourcePlaces.{data_name_seen, data_names_seen}
use Rattle.source_places.specs.declared.data_names.DataName.{DataName}

-- it passes
pub kept : (p : DataNameValue → Bool) (names said : List DataName) (i : ℕ) (n : DataName) (all : List DataNameValue)
    → drop i said ≡ n ∷ drop (i + 1) said → p (data_name_seen n) ≡ true
    → data_names_seen names ++ filter p (data_names_seen (drop i said)) ≡ all
    → data_names_seen (names ++ n ∷ []) ++ filter p (data_names_seen (drop (i + 1) said)) ≡ all
kept p names said i n all next test is =
    rw (map-append data_name_seen names (n ∷ []), append_assoc) (rw (next, test) at is)

-- it does not
pub passed : (p : DataNameValue → Bool) (names said : List DataName) (i : ℕ) (n : DataName) (all : List DataNameValue)
    → drop i said ≡ n ∷ drop (i + 1) said → p (data_name_seen n) ≡ false
    → data_names_seen names ++ filter p (data_names_seen (drop i said)) ≡ all
    → data_names_seen names ++ filter p (data_names_seen (drop (i + 1) said)) ≡ all
passed p names said i n all next test is = rw (next, test) at is
