-- Places from which a stream runs on past the end, or into the code where a processor begins.
use Rattle.std.proofs.Common.{◌≡◌, ◌<◌, ℕ, ◌++◌, List, [], ◌∷◌, Bool, true, refl, subst, Option, Some, None, length, slice_get}
use Rattle.std.specs.Prelude.{All, IfSome}
use Rattle.std.proofs.lemmas.List.Elements.{All-nil, All-cons, All-append}
use Rattle.std.proofs.lemmas.Option.{slice_get_within, get_or_from_slice_get}
use Rattle.insn_word.specs.declared.insn.Insn.{Insn}
use Rattle.image_file.specs.ImageValue.{ImageValue}
use Rattle.reachable_places.specs.Ways.{IsReachable, AreReachable}
use Rattle.source_slips.specs.Places.{insn_at, GoesStraight}
use Rattle.source_slips.specs.Falls.{RunsPast, RunsInto, LeadsPast, LeadsInto}

-- one element more
pub one_more : {X : Type 0} (P : X → Type 0) (xs : List X) (x : X) → P x → All P xs → All P (xs ++ x ∷ [])
one_more P xs x one all = All-append P xs (x ∷ []) all (All-cons P x [] one (All-nil P))

is_reachable : (image : ImageValue) (places : List Bool) (k : ℕ) → AreReachable image places
    → slice_get places k ≡ Some true → IsReachable image k
is_reachable image places k are got =
    are.found k (subst (λ n. k < n) are.each (slice_get_within places k true got))
    (get_or_from_slice_get places k true true got)

pub runs_past : (image : ImageValue) (places : List Bool) (k j : ℕ) → AreReachable image places
    → slice_get places k ≡ Some true → LeadsPast (insn_at image k) k (length image.program) j → RunsPast image k j
runs_past image places k j are got = by (insn_at image k) refl where
  by : (o : Option Insn) → insn_at image k ≡ o → LeadsPast o k (length image.program) j → RunsPast image k j
  by None e leads = absurd leads
  by (Some i) e leads = record {
    reached = is_reachable image places k are got;
    insn = i;
    stands = e;
    goes = leads.0;
    past = leads.1;
  }

pub runs_into : (image : ImageValue) (places : List Bool) (k p : ℕ) → AreReachable image places
    → slice_get places k ≡ Some true → LeadsInto image (insn_at image k) k p → RunsInto image k p
runs_into image places k p are got = by (insn_at image k) refl where
  by : (o : Option Insn) → insn_at image k ≡ o → LeadsInto image o k p → RunsInto image k p
  by None e leads = absurd leads
  by (Some i) e leads = record {
    reached = is_reachable image places k are got;
    insn = i;
    stands = e;
    entry = leads.0;
    goes = leads.1.0;
    begins = leads.1.1;
  }

-- the next place is the entry of a processor that is found
pub entered : (image : ImageValue) (i : Insn) (k j : ℕ) (o : Option ℕ) → GoesStraight i k j
    → IfSome o (λ p. slice_get image.entries p ≡ Some j) → IfSome o (LeadsInto image (Some i) k)
entered image i k j None goes begins = begins
entered image i k j (Some p) goes begins = (j, (goes, begins))
