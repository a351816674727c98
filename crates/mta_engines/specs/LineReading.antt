-- The bytes of a reader, taken one by one, and its lines.
use Rattle.std.specs.Prelude.{◌≡◌, ◌≢◌, ◌≤◌, ℕ, ◌+◌, ◌-◌, List, [], ◌∷◌, ◌++◌, length, take, slice_range, Option}
use Rattle.std.specs.Prelude.{true, false, ◌⊎◌}
use Rattle.std.specs.Io.KnownBytes.{Consumes, IsAtEnd, prepend_known}
use Rattle.mta_engines.specs.DebugOutput.{HasNoLineEnd}
use Rattle.mta_engines.specs.declared.byte_reader.ByteReader.{ByteReader}
use Rattle.mta_engines.specs.declared.tool_fault.ToolFault.{ToolFault}
use Rattle.mta_engines.specs.declared.tool_fault.ToolFault.TheVariants.{Read, TooLarge}

-- the bytes that were read and not yet taken
abbrev pub ahead : ByteReader → List ℕ
ahead b = slice_range b.chunk b.window.start b.window.end

-- the bytes to come: those, and then the reader's
abbrev pub bytes_to_come : ByteReader → Option (List ℕ) → Option (List ℕ)
bytes_to_come b told = prepend_known (ahead b) told

-- how many bytes may still be taken
abbrev pub bytes_left : ByteReader → ℕ
bytes_left b = b.window.left + (b.window.end - b.window.start)

-- these bytes were taken
pub record TakesBytes (old : ByteReader) (told_before : Option (List ℕ)) (new : ByteReader) (told_after : Option (List ℕ))
    (bytes : List ℕ) : Type 0 where
  pub consumed : Consumes (bytes_to_come old told_before) (bytes_to_come new told_after) bytes
  pub counted : bytes_left old ≡ bytes_left new + length bytes

-- Nothing was taken, and nothing is to come. A reader that was at its end before is not asked again.
pub record Ends (old : ByteReader) (told_before : Option (List ℕ)) (new : ByteReader) (told_after : Option (List ℕ))
    : Type 0 where
  pub nothing : TakesBytes old told_before new told_after []
  pub at_end : old.window.at_end ≡ false → IsAtEnd (bytes_to_come new told_after)
  pub ended : new.window.at_end ≡ true

-- the most bytes of a line that are kept, one more than a command has
abbrev pub most_kept : ℕ
most_kept = 257

-- a line and its line feed were taken
pub record EndsByFeed (old : ByteReader) (told_before : Option (List ℕ)) (new : ByteReader)
    (told_after : Option (List ℕ)) (line : List ℕ) : Type 0 where
  pub takes : TakesBytes old told_before new told_after (line ++ 10 ∷ [])
  pub not_at_end : new.window.at_end ≡ false

-- a line was taken, and nothing is to come
pub record EndsByEnd (old : ByteReader) (told_before : Option (List ℕ)) (new : ByteReader)
    (told_after : Option (List ℕ)) (line : List ℕ) : Type 0 where
  pub takes : TakesBytes old told_before new told_after line
  pub some : line ≢ []
  pub at_end : IsAtEnd (bytes_to_come new told_after)
  pub ended : new.window.at_end ≡ true

-- The last bytes that were taken are a line: up to its line feed, or to the end of the reader, where there are some.
-- Its first bytes are kept.
pub record IsNextLine (old : ByteReader) (told_before : Option (List ℕ)) (new : ByteReader)
    (told_after : Option (List ℕ)) (kept : List ℕ) : Type 0 where
  pub line : List ℕ
  pub has_no_end : HasNoLineEnd line
  pub kept_is : kept ≡ take most_kept line
  pub not_at_end : old.window.at_end ≡ false
  pub taken : EndsByFeed old told_before new told_after line ⊎ EndsByEnd old told_before new told_after line

-- A fault came before the end of a line. Where it is not a failed read, there was a byte more than may be taken.
pub record IsBrokenOff (old : ByteReader) (told_before told_after : Option (List ℕ)) (fault : ToolFault) : Type 0 where
  pub line : List ℕ
  pub past : List ℕ
  pub has_no_end : HasNoLineEnd line
  pub not_at_end : old.window.at_end ≡ false
  pub consumed : Consumes (bytes_to_come old told_before) told_after (line ++ past)
  pub within : length line ≤ bytes_left old
  pub kind : ((fault ≡ Read) × (past ≡ [])) ⊎ ((fault ≡ TooLarge) × (length line ≡ bytes_left old) × (length past ≡ 1))
