-- What a run through the turn memory leaves.
use Rattle.std.specs.Prelude.{ℕ, ◌≡◌, Some, length, drop, slice_get}
use Rattle.processor.specs.Histories.{pairs_of}
use Rattle.processor.specs.Records.{RecordValue}
use Rattle.shared_history.specs.Parts.{PartsValue}

-- each record's new pairs are its processor's entries
abbrev pub HaveNewEntries : PartsValue → PartsValue → Type 0
HaveNewEntries old new =
    (p : ℕ) (r x : RecordValue) → slice_get old.records p ≡ Some r → slice_get new.records p ≡ Some x
    → pairs_of p new.shared.history ≡ drop (length r.pairs) x.pairs
