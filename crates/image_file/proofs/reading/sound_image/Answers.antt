use Rattle.std.proofs.Common.{◌≡◌, ◌*◌, ◌+◌, drop, arith, ap, subst, ◌∙◌, sym}
use Rattle.image_file.specs.ImageValue.{IsWithin, image_in}
use Rattle.image_file.specs.Versions.{header_length}
use Rattle.image_file.specs.Reading.{entries_place, program_place, cells_place, tag_fault, tags_from}
use Rattle.image_file.specs.Reading.{entries_from, program_from, cells_from, image_at}
use Rattle.image_file.proofs.Sound.{sound, room}
use Rattle.image_file.proofs.WrittenBack.{image_within}
use Rattle.image_file.proofs.Made.{image_made}
use Rattle.image_file.proofs.reading.sound_image.Goals as goal
use Rattle.image_file.proofs.reading.sound_image.Goals.{In_ok-cells}

pub from_place-requires : goal.from_place-requires
from_place-requires c =
    let s = sound c.args.bytes.now c.requires.sound_header c.requires.sound_body in
    rw (c.entries_place.ensures.is ∙ ap (λ h. header_length h.profile) c.requires.header) s.versioned.long

pub entries_of-requires : goal.entries_of-requires
entries_of-requires c =
    let b = c.args.bytes.now in
    let r = room b (sound b c.requires.sound_header c.requires.sound_body) in
    let place : c.entries_place.result ≡ entries_place b =
    c.entries_place.ensures.is ∙ ap (λ h. header_length h.profile) c.requires.header in
    rw (c.from_place.ensures, place) (omega (arith, r.for_entries, ap (λ h. h.processors) c.requires.header))

pub from_place-requires-2 : goal.from_place-requires-2
from_place-requires-2 c =
    let r = room c.args.bytes.now (sound c.args.bytes.now c.requires.sound_header c.requires.sound_body) in
    omega (
      arith,
      r.program,
      ap (λ h. h.processors) c.requires.header,
      ap (λ h. header_length h.profile) c.requires.header,
    )

pub program_of-requires : goal.program_of-requires
program_of-requires c =
    let b = c.args.bytes.now in
    let r = room b (sound b c.requires.sound_header c.requires.sound_body) in
    let place : c.program_place.result ≡ program_place b =
    c.program_place.ensures ∙ ap (λ h. header_length h.profile + 4 * h.processors) c.requires.header in
    rw (c.from_place-2.ensures, place) (omega (arith, r.for_program, ap (λ h. h.words) c.requires.header))

pub from_place-requires-3 : goal.from_place-requires-3
from_place-requires-3 c =
    let r = room c.args.bytes.now (sound c.args.bytes.now c.requires.sound_header c.requires.sound_body) in
    omega (
      arith,
      r.cells,
      ap (λ h. h.processors) c.requires.header,
      ap (λ h. h.words) c.requires.header,
      ap (λ h. header_length h.profile) c.requires.header,
    )

pub cells_of-requires-clause-long : goal.cells_of-requires-clause-long
cells_of-requires-clause-long c =
    let b = c.args.bytes.now in
    let r = room b (sound b c.requires.sound_header c.requires.sound_body) in
    let place : c.cells_place.result ≡ cells_place b =
    c.cells_place.ensures ∙ ap (λ h. header_length h.profile + 4 * h.processors + 8 * h.words) c.requires.header in
    rw (c.from_place-3.ensures, place) (omega (arith, r.for_cells, ap (λ h. h.cells) c.requires.header))

pub cells_of-requires-clause-tags : goal.cells_of-requires-clause-tags
cells_of-requires-clause-tags c =
    let b = c.args.bytes.now in
    let s = sound b c.requires.sound_header c.requires.sound_body in
    let place : c.cells_place.result ≡ cells_place b =
    c.cells_place.ensures ∙ ap (λ h. header_length h.profile + 4 * h.processors + 8 * h.words) c.requires.header in
    let cells : c.from_place-3.result.now ≡ drop (cells_place b) b =
    c.from_place-3.ensures ∙ ap (λ p. drop p b) place in
    (λ i. tag_fault (tags_from (c.requires.header i).cells (cells i))) ∙ s.tags

-- the image that is made is the one that the bytes say
made : (c : In_ok-cells)
    → image_in c.args.header.profile c.args.header.chain_limit c.in_ok-entries.entries.items c.args.header.slim c.args.header.retry_limit c.args.header.trap_entry
    c.in_ok-program.program.items c.in_ok-cells.cells.items ≡ image_at c.args.bytes.now
made c =
    let b = c.args.bytes.now in
    let h = c.requires.header in
    let entries_at : c.entries_place.result ≡ entries_place b =
    c.entries_place.ensures.is ∙ ap (λ x. header_length x.profile) h in
    let program_at : c.program_place.result ≡ program_place b =
    c.program_place.ensures ∙ ap (λ x. header_length x.profile + 4 * x.processors) h in
    let cells_at : c.cells_place.result ≡ cells_place b =
    c.cells_place.ensures ∙ ap (λ x. header_length x.profile + 4 * x.processors + 8 * x.words) h in
    image_made b c.args.header c.in_ok-entries.entries.items c.in_ok-program.program.items c.in_ok-cells.cells.items h
    (c.in_ok-entries.ensures
    ∙ (λ i. entries_from ((c.from.ensures ∙ ap (λ x. x.processors) h) i) ((c.from_place.ensures ∙ ap (λ p. drop p b) entries_at) i)))
    (c.in_ok-program.ensures
    ∙ (λ i. program_from (h i).words ((c.from_place-2.ensures ∙ ap (λ p. drop p b) program_at) i)))
    (c.in_ok-cells.ensures ∙ (λ i. cells_from (h i).cells ((c.from_place-3.ensures ∙ ap (λ p. drop p b) cells_at) i)))

pub invariant_of-result : goal.invariant_of-result
invariant_of-result c =
    let b = c.args.bytes.now in
    subst IsWithin (sym (made c)) (image_within b (sound b c.requires.sound_header c.requires.sound_body))

pub returns : goal.returns
returns c = made c
