-- What is live by a row.
use Rattle.std.proofs.Common.{◌≡◌, ℕ, ◌-◌, ◌<◌, ◌≤◌, ◌⊎◌, inl, inr, Bool, true, false, sym, ap, ◌∙◌, subst, List, [], ◌∷◌, length}
use Rattle.std.specs.Prelude.{IsTrue, slice_get}
use Rattle.std.specs.List.{AllByRecursion}
use Rattle.insn_word.specs.declared.profiles.Profile.{Profile}
use Rattle.stream_core.specs.StreamRow.{fetch_word}
use Rattle.insn_word.specs.declared.insn.Insn.{Insn}
use Rattle.stream_core.specs.declared.steps.Fetch.{Fetch}
use Rattle.stream_core.specs.declared.steps.Fetch.TheVariants as fetch
use Rattle.program_flow.specs.Agreement.{reads_at}
use Rattle.std.proofs.lemmas.Bool.{cases_lt}
use Rattle.std.proofs.lemmas.List.{get_or_past}
use Rattle.program_flow.specs.Tables.{is_live_by, is_live_at, is_named_by, is_asked_at, IsClosedTable, HasCodesOf}
use Rattle.program_flow.specs.Codes.{codes_asked, codes_at, makes_code, CameFrom, HasCodesAt}
use Rattle.program_flow.specs.Flow.{IsOneOf, GoesTo, MayTrap, IsClosedAt}

-- all is live past the row's end
pub live_past : (row : List Bool) (r : ℕ) → length row ≤ r → IsTrue (is_live_by row r)
live_past row r past = get_or_past row r true past

pub all_live : (row : List Bool) → ((r : ℕ) → r < length row → IsTrue (is_live_by row r)) → (r : ℕ) → IsTrue (is_live_by row r)
all_live row h r = elim (cases_lt r (length row)) [ inl within ↦ h r within | inr past ↦ live_past row r past ]

pub all_covered : (row to : List Bool) (ws : List ℕ)
    → ((r : ℕ) → r < length row → IsTrue (is_live_by to r) → IsTrue (is_live_by row r) ⊎ IsOneOf ws r)
    → (r : ℕ) → IsTrue (is_live_by to r) → IsTrue (is_live_by row r) ⊎ IsOneOf ws r
all_covered row to ws h r l =
    elim (cases_lt r (length row)) [ inl within ↦ h r within l | inr past ↦ inl (live_past row r past) ]

-- none is named past the end of the names
pub all_named : (row names : List Bool)
    → ((r : ℕ) → r < length names → IsTrue (is_named_by names r) → IsTrue (is_live_by row r))
    → (r : ℕ) → IsTrue (is_named_by names r) → IsTrue (is_live_by row r)
all_named row names h r named = by_place (cases_lt r (length names)) where
  by_place : (r < length names) ⊎ (length names ≤ r) → IsTrue (is_live_by row r)
  by_place (inl within) = h r within named
  by_place (inr past) =
      let none : false ≡ true = sym (get_or_past names r false past) ∙ named in
      cc

-- all is live past the table's end
pub live_past_table : (table : List (List Bool)) (k r : ℕ) → length table ≤ k → IsTrue (is_live_at table k r)
live_past_table table k r past = ap (λ row. is_live_by row r) (get_or_past table k [] past)

-- where all is live, a table is closed
closed_past : (table : List (List Bool)) (handled : Type 0) (k : ℕ) (f : Fetch) → length table ≤ k
    → IsClosedAt handled (λ j r. IsTrue (is_live_at table j r)) k f
closed_past table handled k f past = record {
  reads = all_of (reads_at f);
  goes = λ i e j r to h. inl (live_past_table table k r past);
  traps = λ m h r. live_past_table table k r past;
}
  where
    all_of : (names : List ℕ) → AllByRecursion (λ r. IsTrue (is_live_at table k r)) names
    all_of [] = tt
    all_of (r ∷ names) = (live_past_table table k r past, all_of names)

pub closed_table : (profile : Profile) (program : List ℕ) (handled : Bool) (names : List Bool) (table : List (List Bool))
    → ((k : ℕ) → k < length table
    → IsTrue (is_live_at table k 0)
    × (((r : ℕ) → IsTrue (is_named_by names r) → IsTrue (is_live_at table k r))
    × IsClosedAt (IsTrue handled) (λ j r. IsTrue (is_live_at table j r)) k (fetch_word profile (slice_get program k))))
    → IsClosedTable profile program handled names table
closed_table profile program handled names table each =
    record { zero = zero; names = has; each = all }
  where
    zero : (k : ℕ) → IsTrue (is_live_at table k 0)
    zero k =
        elim (cases_lt k (length table)) [ inl within ↦ (each k within).0 | inr past ↦ live_past_table table k 0 past ]

    has : (k r : ℕ) → IsTrue (is_named_by names r) → IsTrue (is_live_at table k r)
    has k r named = elim (cases_lt k (length table)) [
      | inl within ↦ (each k within).1.0 r named
      | inr past ↦ live_past_table table k r past
    ]

    all : (k : ℕ)
        → IsClosedAt (IsTrue handled) (λ j r. IsTrue (is_live_at table j r)) k (fetch_word profile (slice_get program k))
    all k = elim (cases_lt k (length table)) [
      | inl within ↦ (each k within).1.1
      | inr past ↦ closed_past table (IsTrue handled) k (fetch_word profile (slice_get program k)) past
    ]

-- The same of condition codes.

asked_past : (table : List (List Bool)) (k : ℕ) (f : Fetch) (handled : Type 0) → length table ≤ k
    → HasCodesAt handled (λ j c. IsTrue (is_asked_at table j c)) k f
asked_past table k f handled past = record {
  asks = all_of (codes_at f);
  goes = λ i e j c below to h. came (makes_code i) c;
  traps = λ m h c. live_past_table table k c past;
}
  where
    all_of : (cs : List ℕ) → AllByRecursion (λ c. IsTrue (is_asked_at table k c)) cs
    all_of [] = tt
    all_of (c ∷ cs) = (live_past_table table k c past, all_of cs)

    came : (b : Bool) (c : ℕ) → CameFrom b (λ d. IsTrue (is_asked_at table k d)) c
    came true c = inr (live_past_table table k (c - 1) past)
    came false c = live_past_table table k c past

pub codes_table : (profile : Profile) (program : List ℕ) (handled : Bool) (table : List (List Bool))
    → ((k : ℕ) → k < length table
    → HasCodesAt (IsTrue handled) (λ j c. IsTrue (is_asked_at table j c)) k (fetch_word profile (slice_get program k)))
    → HasCodesOf profile program handled table
codes_table profile program handled table each = record {
  each = λ k. elim (cases_lt k (length table)) [
    | inl within ↦ each k within
    | inr past ↦ asked_past table k (fetch_word profile (slice_get program k)) (IsTrue handled) past
  ];
}

-- an instruction at a place
pub instruction_has : (handled : Bool) (table : List (List Bool)) (k : ℕ) (i : Insn)
    → AllByRecursion (λ c. IsTrue (is_asked_at table k c)) (codes_asked i)
    → ((j c : ℕ) → c < 4 → GoesTo i k j → IsTrue (is_asked_at table j c)
    → CameFrom (makes_code i) (λ d. IsTrue (is_asked_at table k d)) c)
    → (MayTrap (fetch.Instruction i) → IsTrue handled → (c : ℕ) → IsTrue (is_asked_at table k c))
    → HasCodesAt (IsTrue handled) (λ j c. IsTrue (is_asked_at table j c)) k (fetch.Instruction i)
instruction_has handled table k i asks goes traps = record { asks = asks; goes = goes_by; traps = traps } where
  goes_by : (n : Insn) → fetch.Instruction i ≡ fetch.Instruction n → (j c : ℕ) → c < 4 → GoesTo n k j
      → IsTrue (is_asked_at table j c) → CameFrom (makes_code n) (λ d. IsTrue (is_asked_at table k d)) c
  goes_by n e =
      let same : i ≡ n = cc in
      subst (λ x. (j c : ℕ) → c < 4 → GoesTo x k j → IsTrue (is_asked_at table j c)
      → CameFrom (makes_code x) (λ d. IsTrue (is_asked_at table k d)) c) same goes
