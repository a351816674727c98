-- What a row tells of its world.
use Rattle.std.proofs.Common.{◌≡◌, ℕ, suc, ◌+◌, ◌<◌, sym, ap, ◌∙◌, subst, arith, List, length, get_or}
use Rattle.std.proofs.Common.{Some, slice_get, false}
use Rattle.std.specs.Prelude.{slice_index_or}
use Rattle.std.proofs.lemmas.List.{get_or-map}
use Rattle.image_file.specs.ImageValue.{ImageValue}
use Rattle.stream_core.specs.Streams.{idle}
use Rattle.processor.specs.Processors.{is_idle}
use Rattle.processor.specs.World.{World}
use Rattle.world_keys.specs.Tables.{place_in, Has}
use Rattle.world_keys.specs.StreamNumbers.{stream_numbers, IsReadable}
use Rattle.world_keys.specs.MemoryNumbers.{memory_numbers}
use Rattle.world_keys.specs.WorldKeys.{processor_in, no_processor, processor_place, processor_numbers, key_of, IsKnownIf}
use Rattle.world_keys.proofs.Worlds.{same_world}
use Rattle.state_tables.specs.Rows.{IsRow}
use Rattle.state_tables.proofs.Lists.{placed}

pub memory_told : (image : ImageValue) (table : List (List ℕ)) (w : World) (row : List ℕ) → IsRow image table w row
    → slice_get table (slice_index_or row 0 0) ≡ Some (memory_numbers image w.memory)
memory_told image table w row is =
    let at : get_or row 0 0 ≡ place_in table (memory_numbers image w.memory) = ap (λ (r : List ℕ). get_or r 0 0) is.is in
    ap (slice_get table) at ∙ placed table (memory_numbers image w.memory) is.known.numbers

pub processor_told : (image : ImageValue) (table : List (List ℕ)) (w : World) (row : List ℕ) (p : ℕ)
    → IsRow image table w row → p < length w.processors
    → slice_get table (slice_index_or row (p + 1) 0) ≡ Some (processor_numbers table (processor_in w p))
processor_told image table w row p is below =
    let next : p + 1 ≡ suc p = omega arith in
    let at : get_or row (p + 1) 0 ≡ processor_place table (processor_in w p) =
    ap (λ (r : List ℕ). get_or r (p + 1) 0) is.is
    ∙ ap (λ (n : ℕ). get_or (key_of table image w) n 0) next
    ∙ get_or-map (processor_place table) w.processors p no_processor 0 below in
    ap (slice_get table) at
    ∙ placed table (processor_numbers table (processor_in w p)) (is.known.processors p below).numbers

pub stream_told : (image : ImageValue) (table : List (List ℕ)) (w : World) (row : List ℕ) (p s : ℕ)
    → IsRow image table w row → p < length w.processors → s < length (processor_in w p).streams
    → is_idle (slice_index_or (processor_in w p).streams s idle) ≡ false
    → slice_get table (place_in table (stream_numbers (slice_index_or (processor_in w p).streams s idle)))
    ≡ Some (stream_numbers (slice_index_or (processor_in w p).streams s idle))
stream_told image table w row p s is below within busy =
    let stream = slice_index_or (processor_in w p).streams s idle in
    let known : Has table (stream_numbers stream) × IsReadable stream =
    subst (IsKnownIf table stream) busy ((is.known.processors p below).held.streams s within) in
    placed table (stream_numbers stream) known.0

pub world_told : (image : ImageValue) (table : List (List ℕ)) (w x : World) (row : List ℕ) → IsRow image table w row
    → IsRow image table x row → w ≡ x
world_told image table w x row one other =
    same_world table image w x one.known other.known (sym one.is ∙ other.is)
