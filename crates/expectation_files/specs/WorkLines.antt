-- What a line says of who does the work in a run.
use Rattle.std.specs.Prelude.{ℕ, ◌+◌, if◌then◌else◌, List, [], ◌∷◌, ◌++◌, length, map, codes, Option, Some, None, Result, Ok, Err}
use Rattle.std.specs.Str.{bytes_eq}
use Rattle.processor.specs.declared.steps.Step.{Step}
use Rattle.work_rules.specs.declared.work_rule.WorkRule.{WorkRule}
use Rattle.work_rules.specs.declared.work_rule.WorkRule.TheVariants as rule
use Rattle.expectation_files.specs.Values.{count_named, stream_named}
use Rattle.expectation_files.specs.Addresses.{Names, RangeSaid, address_said, range_said}
use Rattle.expectation_files.specs.WordLines.{at}
use Rattle.expectation_files.specs.ClaimLines.{StreamsSaid, and_then}
use Rattle.expectation_files.specs.declared.faults.LineFault.{LineFault}
use Rattle.expectation_files.specs.declared.faults.LineFaultKind.{LineFaultKind}
use Rattle.expectation_files.specs.declared.faults.LineFaultKind.TheVariants as fault
use Rattle.expectation_files.specs.declared.faults.LineForm.TheVariants as form

abbrev pub WorkSaid : Type 0
WorkSaid = Result (List WorkRule) LineFault

abbrev pub no_each : {A : Type 0} → ℕ → Result A LineFault
no_each k = at k (fault.Form form.Each)

-- the stream that the word of this number names
abbrev pub writer_of : ℕ → Option Step → Result Step LineFault
writer_of k None = at k fault.Stream
writer_of k (Some t) = Ok t

-- the streams of words up to `writes`, behind those before them; the first stream is word 2 of its line
abbrev pub writers_said : List Step → List (List ℕ) → Result StreamsSaid LineFault
writers_said before [] = no_each 0
writers_said before (w ∷ ws) =
    if bytes_eq w (codes "writes") then Ok (record { streams = before; behind = ws })
    else and_then (writer_of (2 + length before) (stream_named w)) (λ t. writers_said (before ++ t ∷ []) ws)

-- each of these streams stores to the word of this address, which the word of this number says
abbrev pub each_at : List Step → ℕ → Result ℕ LineFaultKind → WorkSaid
each_at ts k (Err kind) = at k kind
each_at ts k (Ok a) = Ok (map (λ t. rule.Writes t a) ts)

-- one stream at least, and behind `writes` word ADDRESS
abbrev pub each_writes : Names → List Step → List (List ℕ) → WorkSaid
each_writes names [] ws = no_each 2
each_writes names (t ∷ ts) (w ∷ a ∷ []) =
    if bytes_eq w (codes "word") then each_at (t ∷ ts) (4 + length (t ∷ ts)) (address_said names a)
    else no_each (3 + length (t ∷ ts))
each_writes names (t ∷ ts) _ = no_each 0

abbrev pub each_of : Names → StreamsSaid → WorkSaid
each_of names said = each_writes names said.streams said.behind

-- of STREAM .. writes word ADDRESS
unfoldable pub each_said : Names → List (List ℕ) → WorkSaid
each_said names [] = no_each 0
each_said names (o ∷ ws) =
    if bytes_eq o (codes "of") then and_then (writers_said [] ws) (each_of names) else no_each 1

abbrev pub no_least : ℕ → WorkSaid
no_least k = at k (fault.Form form.Least)

abbrev pub least_of : Option ℕ → RangeSaid → WorkSaid
least_of None r = at 2 fault.Count
least_of (Some n) (Err kind) = at 7 kind
least_of (Some n) (Ok r) = Ok (rule.AtLeast n r.first r.last ∷ [])

-- to words RANGE, behind what says how many streams store
abbrev pub least_behind : Names → List ℕ → List (List ℕ) → WorkSaid
least_behind names n (t ∷ w ∷ r ∷ []) =
    if bytes_eq t (codes "to") then (if bytes_eq w (codes "words") then least_of (count_named n) (range_said names r)
    else no_least 6) else no_least 5
least_behind names n _ = no_least 0

-- least COUNT streams store to words RANGE
unfoldable pub least_said : Names → List (List ℕ) → WorkSaid
least_said names (l ∷ n ∷ s ∷ v ∷ os) =
    if bytes_eq s (codes "streams") then (if bytes_eq v (codes "store") then least_behind names n os
    else no_least 4) else no_least 3
least_said names _ = no_least 0
