-- What stands in the places of a world.
use Rattle.std.specs.Prelude.{ℕ, Option, Some, None, slice_get, nat_lt, if◌then◌else◌}
use Rattle.std.specs.Option.{option_map}
use Rattle.tag_memory.specs.Cell.{Cell, tag_number}
use Rattle.tag_memory.specs.Storage.{cell_at}
use Rattle.stream_core.specs.Registers.{register_at, target_at}
use Rattle.stream_core.specs.Streams.{StreamValue}
use Rattle.machine.specs.Processor.Processors.{ProcessorValue}
use Rattle.machine.specs.Processor.World.{World}
use Rattle.step_views.specs.declared.places.StreamPart.{StreamPart}
use Rattle.step_views.specs.declared.places.StreamPart.TheVariants as part
use Rattle.step_views.specs.declared.places.Place.{Place}
use Rattle.step_views.specs.declared.places.Place.TheVariants as place
use Rattle.step_views.specs.declared.places.Content.{Content}
use Rattle.step_views.specs.declared.places.Content.TheVariants as content

-- what stands in a part of a stream; nothing in a register or target register past the last one
abbrev pub part_content : StreamValue → StreamPart → Option Content
part_content v part.Pc = Some (content.Number v.ssw.pc)
part_content v part.Codes = Some (content.Codes v.ssw.codes)
part_content v part.Mask = Some (content.Mask v.ssw.mask)
part_content v part.InTrap = Some (content.InTrap v.ssw.in_trap)
part_content v part.TrapRegister = Some (content.Number v.xr)
part_content v part.Retries = Some (content.Number v.retries)
part_content v part.Status = Some (content.Status v.status)
part_content v (part.Register r) = if nat_lt r 32 then Some (content.Number (register_at v.registers r)) else None
part_content v (part.Target t) = if nat_lt t 8 then Some (content.Target (target_at v.targets t)) else None

-- the stream of this number of a processor, if there are both
abbrev pub used_stream_in : Option ProcessorValue → ℕ → Option StreamValue
used_stream_in None s = None
used_stream_in (Some proc) s = slice_get proc.streams s

-- the stream of these numbers; none where there is no such processor, and none from its last stream on
abbrev pub used_stream : World → ℕ → ℕ → Option StreamValue
used_stream w p s = used_stream_in (slice_get w.processors p) s

abbrev pub part_in : Option StreamValue → StreamPart → Option Content
part_in None x = None
part_in (Some v) x = part_content v x

-- the tags of a word
abbrev pub tags_content : Cell → Content
tags_content c = content.Tags (record { 0 = tag_number c })

-- what stands in a place; nothing where a world does not have it
unfoldable pub content_of : World → Place → Option Content
content_of w (place.Stream p s x) = part_in (used_stream w p s) x
content_of w (place.Current p) = option_map (λ (d : ProcessorValue). content.Number d.scur) (slice_get w.processors p)
content_of w (place.Reserved p) = option_map (λ (d : ProcessorValue). content.Number d.sres) (slice_get w.processors p)
content_of w (place.Value a) = option_map (λ (c : Cell). content.Number c.value) (cell_at w.memory a)
content_of w (place.Tags a) = option_map tags_content (cell_at w.memory a)
