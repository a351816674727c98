-- Points by key, and the entries of the slab that holds them.
use Rattle.std.proofs.Common.{◌≡◌, ℕ, ◌+◌, Bool, true, false, ◌||◌, List, [], ◌∷◌, ◌++◌, Option, Some, None, refl, ap}
use Rattle.std.specs.List.{list_any}
use Rattle.slab.specs.Slab.{entries_from}
use Rattle.tag_memory.specs.Storage.{TaggedMemory}
use Rattle.replay_debugger.specs.declared.points.Point.{Point}
use Rattle.replay_debugger.specs.Watches.{WatchValue}
use Rattle.replay_debugger.specs.StopFinders.{breaks_at, slot_breaks_at, watch_of, watches_of}

-- whether an entry is a breakpoint at this place
abbrev pub entry_breaks_at : ℕ → ℕ → ℕ × Point → Bool
entry_breaks_at p pc e = breaks_at p pc e.1

pub entries_break : (p pc key : ℕ) (slots : List (Option Point))
    → list_any (entry_breaks_at p pc) (entries_from key slots) ≡ list_any (slot_breaks_at p pc) slots
entries_break p pc key [] = refl
entries_break p pc key (None ∷ rest) = entries_break p pc (key + 1) rest
entries_break p pc key (Some point ∷ rest) = ap (λ b. breaks_at p pc point || b) (entries_break p pc (key + 1) rest)

-- the watched words of entries
abbrev pub watches_among : TaggedMemory → List (ℕ × Point) → List WatchValue
watches_among m [] = []
watches_among m (e ∷ es) = watch_of m e.1 ++ watches_among m es

pub entries_watch : (m : TaggedMemory) (key : ℕ) (slots : List (Option Point))
    → watches_among m (entries_from key slots) ≡ watches_of m slots
entries_watch m key [] = refl
entries_watch m key (None ∷ rest) = entries_watch m (key + 1) rest
entries_watch m key (Some point ∷ rest) = ap (λ ws. watch_of m point ++ ws) (entries_watch m (key + 1) rest)

pub or_moves : (a b c : Bool) → ((a || b) || c) ≡ (b || (a || c))
or_moves true true c = refl
or_moves true false c = refl
or_moves false b c = refl

pub or_none : (a : Bool) → (a || false) ≡ a
or_none true = refl
or_none false = refl
