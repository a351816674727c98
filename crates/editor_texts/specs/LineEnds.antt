-- Ends of lines: 10, or 13 10, or 13 alone.
use Rattle.std.specs.Prelude.{ℕ, ◌==◌, ◌&&◌, if◌then◌else◌, List, [], ◌∷◌, ◌++◌}

-- what is left of a byte after the one before it: of 13 a 10, and of a 10 after 13 nothing
abbrev pub left_of : ℕ → ℕ → List ℕ
left_of before b = if b == 13 then 10 ∷ [] else (if b == 10 && before == 13 then [] else b ∷ [])

-- the bytes after one, with each end of a line as 10
abbrev pub ended_from : ℕ → List ℕ → List ℕ
ended_from before [] = []
ended_from before (b ∷ bs) = left_of before b ++ ended_from b bs

-- a text with each end of a line as 10
abbrev pub with_line_feeds : List ℕ → List ℕ
with_line_feeds text = ended_from 0 text
