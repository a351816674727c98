-- Requests of a stream that stands at a closed place commute with one that its table says is passed, or both are adds that
-- load what nobody reads.
use Rattle.std.proofs.Common.{◌≡◌, ◌≢◌, ℕ, ◌/◌, ◌⊎◌, inl, inr, Bool, true, false, refl, sym, ap, ◌∙◌, Option, Some, None, slice_get}
use Rattle.std.specs.Prelude.{IsTrue}
use Rattle.tag_memory.specs.Address.{address_of}
use Rattle.tag_memory.specs.Storage.{TaggedMemory}
use Rattle.tag_memory.specs.Distant.{last_word, AreDistant}
use Rattle.tag_memory.specs.Unforwarded.{IsUnforwarded}
use Rattle.tag_memory.specs.ReadRequests.{may_change}
use Rattle.tag_memory.specs.declared.requests.Request.{Request}
use Rattle.tag_memory.proofs.NoForwards.{stays_unforwarded, leaves_out, ends_at_once}
use Rattle.tag_memory.proofs.Unchanged.{unchanged}
use Rattle.processor.specs.Row.{memory_reply}
use Rattle.touched_words.specs.TouchTables.{TouchValue, is_marked, marks_at}
use Rattle.touched_words.specs.ClosedTables.{is_quiet_add, AreAmong, IsNamed}
use Rattle.touched_words.specs.Standing.{IsShared, IsPassedFrom}
use Rattle.commuting_requests.specs.Pairs.{DoCommute}
use Rattle.commuting_requests.proofs.Unchanging.{both_stay, none_commutes}
use Rattle.commuting_requests.proofs.Distances.{do_commute}

-- requests of two words are distant where no word is forwarded
distant : (m : TaggedMemory) (q r : Request) → IsUnforwarded m
    → address_of q.pointer / 8 ≢ address_of r.pointer / 8 → AreDistant m q r
distant m q r un apart = record {
  first = leaves_out m q (last_word m r) un (λ e. apart (e ∙ ends_at_once m r un));
  second = leaves_out m r (last_word m q) un (λ e. apart (sym (e ∙ ends_at_once m q un)));
}

-- The request and one from place j are both adds that load what nobody reads.
pub record AreQuietAdds (v : TouchValue) (j : ℕ) (o : Option Request) (quiet : Bool) : Type 0 where
  pub other : Request
  pub is : o ≡ Some other
  pub other_quiet : is_quiet_add v j other ≡ true
  pub this_quiet : quiet ≡ true

module _ (v : TouchValue) (k j : ℕ) (quiet : Bool) (q r : Request) (passed : IsPassedFrom v k quiet q) (named : IsNamed v j r)
    (touches : AreAmong (marks_at v.touches j) (marks_at v.touches k))
    (changes : AreAmong (marks_at v.changes j) (marks_at v.changes k))
    (uses : AreAmong (marks_at v.uses j) (marks_at v.uses k)) where
  read_only : (b : Bool) → may_change r.op r.acc ≡ b → is_marked (marks_at v.changes k) named.n ≡ false → b ≡ false
  read_only true e unmarked =
      let both : true ≡ false = sym (changes named.n (named.changed e)) ∙ unmarked in cc
  read_only false e unmarked = refl

  quiet_too : (is_quiet_add v j r ≡ true) ⊎ IsTrue (is_marked (marks_at v.uses j) named.n)
      → is_marked (marks_at v.uses k) named.n ≡ false → is_quiet_add v j r ≡ true
  quiet_too (inl e) unmarked = e
  quiet_too (inr marked) unmarked =
      let both : true ≡ false = sym (uses named.n marked) ∙ unmarked in cc

  by_word : (m : TaggedMemory) → IsUnforwarded m
      → (slice_get v.words named.n ≢ Some (address_of q.pointer / 8)) ⊎ IsShared v k named.n (may_change q.op q.acc) quiet
      → DoCommute m (Some r) (Some q) ⊎ AreQuietAdds v j (Some r) quiet
  by_word m un (inl apart) =
      inl (do_commute m r q (distant m r q un (λ e. apart (named.word ∙ ap (λ w. Some w) e))))
  by_word m un (inr (inl read)) =
      inl (both_stay m r q (unchanged m r (read_only (may_change r.op r.acc) refl read.1)) (unchanged m q read.0))
  by_word m un (inr (inr added)) =
      inr (record { other = r; is = refl; other_quiet = quiet_too named.used added.1; this_quiet = added.0 })

  pub named_meets : (m : TaggedMemory) → IsUnforwarded m → DoCommute m (Some r) (Some q) ⊎ AreQuietAdds v j (Some r) quiet
  named_meets m un = by_word m un (passed named.n (touches named.n named.touched))

-- the same of a step that may make no request
pub passed_meets : (v : TouchValue) (k j : ℕ) (quiet : Bool) (q : Request) (o : Option Request) → IsPassedFrom v k quiet q
    → ((r : Request) → o ≡ Some r → IsNamed v j r) → AreAmong (marks_at v.touches j) (marks_at v.touches k)
    → AreAmong (marks_at v.changes j) (marks_at v.changes k) → AreAmong (marks_at v.uses j) (marks_at v.uses k)
    → (m : TaggedMemory) → IsUnforwarded m → DoCommute m o (Some q) ⊎ AreQuietAdds v j o quiet
passed_meets v k j quiet q None passed named touches changes uses m un = inl (none_commutes m (Some q))
passed_meets v k j quiet q (Some r) passed named touches changes uses m un =
    named_meets v k j quiet q r passed (named r refl) touches changes uses m un

-- and no word is forwarded behind it
pub still_unforwarded : (v : TouchValue) (j : ℕ) (o : Option Request) → ((r : Request) → o ≡ Some r → IsNamed v j r)
    → (m : TaggedMemory) → IsUnforwarded m → IsUnforwarded (memory_reply m o).0
still_unforwarded v j None named m un = un
still_unforwarded v j (Some r) named m un = stays_unforwarded m r un (named r refl).unforwarded
