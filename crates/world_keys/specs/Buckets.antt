-- How a list is found in a table: lists are in buckets, each linked with the one before it that is in the same bucket.
use Rattle.std.specs.Prelude.{◌≡◌, ◌≢◌, ℕ, ◌+◌, ◌-◌, ◌*◌, ◌/◌, ◌%◌, ◌^◌, ◌<◌, ◌≤◌, List, [], length, slice_index_or, bit_and}
use Rattle.std.specs.List.{fold}
use Rattle.world_keys.specs.Tables.{place_in}

-- a sum of 64 bits with one number more: it is multiplied by the golden ratio's digits
abbrev pub mixed : ℕ → ℕ → ℕ
mixed sum n = ((sum + n) % 2 ^ 64 * 0x9e37_79b9_7f4a_7c15) % 2 ^ 64

-- the bucket of a list, of so many buckets
unfoldable pub bucket_of : ℕ → List ℕ → ℕ
bucket_of size list = bit_and (fold mixed 0 list / 2 ^ 32) (size - 1)

-- the bucket of the list at a place
abbrev pub bucket_at : List (List ℕ) → ℕ → ℕ → ℕ
bucket_at lists size k = bucket_of size (slice_index_or lists k [])

-- A link to the last list before a place that is in a bucket: one more than its place, or 0 where there is none.
pub record IsLast (lists : List (List ℕ)) (size bucket before link : ℕ) : Type 0 where
  pub within : link ≤ before
  pub in_it : (k : ℕ) → link ≡ k + 1 → bucket_at lists size k ≡ bucket
  pub none_since : (k : ℕ) → link ≤ k → k < before → bucket_at lists size k ≢ bucket

-- The first lists are linked, so many: each bucket has a link to its last one, and each list one to that before it.
pub record AreLinked (lists : List (List ℕ)) (size : ℕ) (heads earlier : List ℕ) (count : ℕ) : Type 0 where
  pub last : (b : ℕ) → b < size → IsLast lists size b count (slice_index_or heads b 0)
  pub before : (k : ℕ) → k < count → IsLast lists size (bucket_at lists size k) k (slice_index_or earlier k 0)

-- What holds of a table: no list is there twice, each is linked, and there are as many buckets.
pub record HasBuckets (lists : List (List ℕ)) (heads earlier : List ℕ) : Type 0 where
  pub places : (k : ℕ) → k < length lists → place_in lists (slice_index_or lists k []) ≡ k
  pub each : length earlier ≡ length lists
  pub room : length lists ≤ length heads
  pub few : length lists < 2 ^ 32
  pub linked : AreLinked lists (length heads) heads earlier (length lists)
