-- Tables of the processors, one after the other.
use Rattle.std.proofs.Common.{ℕ, zero, suc, Bool, List, [], ◌∷◌, ◌++◌}
use Rattle.insn_word.specs.declared.profiles.Profile.{Profile}
use Rattle.touched_words.specs.TouchTables.{TouchValue}
use Rattle.touched_words.specs.ClosedTables.{AreAmong, IsClosedTable}
use Rattle.first_sets.specs.UnreadLoads.{AreUnreadPlaces}
use Rattle.first_sets.specs.ApartSets.{no_table, table_at}

-- what holds of each, where there is none too, and of one more holds of all
pub one_table_more : (P : TouchValue → Type 0) (x : TouchValue) → P no_table → P x → (xs : List TouchValue) (p : ℕ)
    → ((q : ℕ) → P (table_at xs q)) → P (table_at (xs ++ x ∷ []) p)
one_table_more P x none last [] zero each = last
one_table_more P x none last [] (suc p) each = none
one_table_more P x none last (y ∷ ys) zero each = each zero
one_table_more P x none last (y ∷ ys) (suc p) each = one_table_more P x none last ys p (λ q. each (suc q))

-- no place is closed by the table that there is without one
pub none_closed : (profile : Profile) (program : List ℕ) → IsClosedTable profile program no_table
none_closed profile program k is = let off : ⊥ = cc in absurd off

-- it says of no place that nobody reads what is loaded there
pub none_unread : (marks : List Bool) → AreAmong no_table.unread marks
none_unread marks n is = let off : ⊥ = cc in absurd off

-- of marked places nobody reads what is loaded there, where that holds of more
pub fewer_unread : (named : ℕ → Type 0) (live : ℕ → ℕ → Type 0) (profile : Profile) (program : List ℕ) (some all : List Bool)
    → AreAmong some all → AreUnreadPlaces named live profile program all → AreUnreadPlaces named live profile program some
fewer_unread named live profile program some all among unread k i marked = unread k i (among k marked)
