-- Messages as the bytes that are written.
use Rattle.std.specs.Prelude.{ℕ, List, [], ◌∷◌, ◌++◌, length, codes}
use Rattle.std.specs.Fmt.{decimal}

-- a message after its head: its length in bytes, and an empty line
abbrev pub framed : List ℕ → List ℕ
framed text = codes "Content-Length: " ++ decimal (length text) ++ codes "\r\n\r\n" ++ text

-- messages one after the other
abbrev pub framed_all : List (List ℕ) → List ℕ
framed_all [] = []
framed_all (text ∷ texts) = framed text ++ framed_all texts
