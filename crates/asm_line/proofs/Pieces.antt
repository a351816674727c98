-- Pieces of a line: a head without a blank, and more operands than an operation has.
use Rattle.std.proofs.Common.{◌≡◌, ℕ, ◌+◌, false, eqb, List, [], ◌∷◌, length, drop}
use Rattle.std.proofs.Common.{refl, ◌∙◌, ap, arith, Option, Some, None, map}
use Rattle.std.specs.List.{position_or_len, position}
use Rattle.std.proofs.lemmas.List.{drop_all}
use Rattle.asm_line.specs.Text.{is_blank, trim, behind_head, operands_of}
use Rattle.text_parts.specs.Pieces.{pieces, text_before, text_after, rest_pieces}
use Rattle.text_parts.proofs.Pieces.{no_place, pieces_cut}
use Rattle.asm_line.specs.OperandsSeen.{AreMore}

-- a text without a blank is its head
pub nothing_behind : (text : List ℕ) → None ≡ position is_blank text → [] ≡ behind_head text
unfolding behind_head trim
nothing_behind text e =
    let h = no_place is_blank text e in
    let none : drop (position_or_len is_blank text + 1) text ≡ [] =
    drop_all (position_or_len is_blank text + 1) text (omega (arith, h)) in
    rw none refl

-- three commas and more
pub more_operands : (text a b c r s t : List ℕ) (o p q : Option (List ℕ)) → eqb (length text) 0 ≡ false
    → pieces 44 text ≡ a ∷ rest_pieces 44 o → o ≡ Some r → pieces 44 r ≡ b ∷ rest_pieces 44 p → p ≡ Some s
    → pieces 44 s ≡ c ∷ rest_pieces 44 q → q ≡ Some t → AreMore (operands_of text)
unfolding operands_of
more_operands text a b c r s t o p q h e f g i j k =
    let third : pieces 44 s ≡ c ∷ pieces 44 t = j ∙ ap (λ x. c ∷ rest_pieces 44 x) k in
    let second : pieces 44 r ≡ b ∷ pieces 44 s = g ∙ ap (λ x. b ∷ rest_pieces 44 x) i in
    let first : pieces 44 text ≡ a ∷ pieces 44 r = e ∙ ap (λ x. a ∷ rest_pieces 44 x) f in
    let all : pieces 44 text ≡ a ∷ b ∷ c ∷ text_before 44 t ∷ rest_pieces 44 (text_after 44 t) =
    first ∙ ap (λ x. a ∷ x) second ∙ ap (λ x. a ∷ b ∷ x) third ∙ ap (λ x. a ∷ b ∷ c ∷ x) (pieces_cut 44 t) in
    rw h (record {
      first = trim a;
      second = trim b;
      third = trim c;
      fourth = trim (text_before 44 t);
      others = map trim (rest_pieces 44 (text_after 44 t));
      is = ap (λ x. map trim x) all;
    })
