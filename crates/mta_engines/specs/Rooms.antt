-- How many streams of a processor a machine has room for.
use Rattle.std.specs.Prelude.{ℕ, nat_le, if◌then◌else◌}
use Rattle.mta_engines.specs.declared.stream_room.StreamRoom.{StreamRoom}
use Rattle.mta_engines.specs.declared.stream_room.StreamRoom.TheVariants.{Small, Large}

abbrev pub room_size : StreamRoom → ℕ
room_size Small = 8
room_size Large = 128

-- the room for an image's streams, by its slim
abbrev pub room_for : ℕ → StreamRoom
room_for slim = if nat_le slim 8 then Small else Large
