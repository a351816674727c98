-- A statement whose head is .profile begins with its first two bytes.
use Rattle.std.proofs.Common.{◌≡◌, ℕ, ◌<◌, Bool, true, false, if◌then◌else◌, List, [], ◌∷◌, drop, length, get_or, min}
use Rattle.std.proofs.Common.{Option, Some, None, refl, sym, ◌∙◌, ap, arith, true≢false}
use Rattle.std.specs.Prelude.{◌==◌, codes, slice_index}
use Rattle.std.specs.List.{position_or_len}
use Rattle.std.specs.Str.{bytes_eq}
use Rattle.std.proofs.lemmas.Slice.Eq.{bytes_eq-Decides}
use Rattle.std.proofs.lemmas.List.{get_or-take, length-take}
use Rattle.insn_word.specs.declared.profiles.Profile.{Profile}
use Rattle.asm_line.specs.Text.{is_blank, head, operands}
use Rattle.asm_line.specs.Directives.{profile_read}
use Rattle.asm_line.specs.Lines.{Line}
use Rattle.asm_line.specs.Profiles.{profile_or_one, profile_named}

byte : (text : List ℕ) (k : ℕ) → bytes_eq (head text) (codes ".profile") ≡ true → k < 8
    → slice_index text k ≡ slice_index (codes ".profile") k
unfolding head
byte text k e h =
    let same : head text ≡ codes ".profile" = (bytes_eq-Decides (head text) (codes ".profile")).0 e in
    let most = position_or_len is_blank text in
    let long : min most (length text) ≡ 8 = sym (length-take most text) ∙ ap (λ bytes. length bytes) same in
    sym (get_or-take most text k 0 (omega (arith, long, h))) ∙ ap (λ bytes. get_or bytes k 0) same

second : (text : List ℕ) → slice_index (drop 1 text) 0 ≡ slice_index text 1
second [] = refl
second (x ∷ xs) = refl

not_told : (l : Line) → (bytes_eq (head l.statement) (codes ".profile") ≡ true → ⊥) → None ≡ profile_named l
unfolding profile_named
not_told l h = by_test (bytes_eq (head l.statement) (codes ".profile")) refl
  where
    told : Option Profile
    told = Some (profile_or_one (profile_read (operands l.statement)))

    by_test : (b : Bool) → bytes_eq (head l.statement) (codes ".profile") ≡ b → None ≡ (if b then told else None)
    by_test true e = absurd (h e)
    by_test false e = refl

pub other_first : (l : Line) → (slice_index l.statement 0 == 46) ≡ false → None ≡ profile_named l
other_first l e = not_told l (λ h.
    let first : slice_index l.statement 0 ≡ 46 = byte l.statement 0 h (omega arith) in
    true≢false (rw first at e))

pub other_second : (l : Line) → (slice_index (drop 1 l.statement) 0 == 112) ≡ false → None ≡ profile_named l
other_second l e = not_told l (λ h.
    let next : slice_index (drop 1 l.statement) 0 ≡ 112 =
    second l.statement ∙ byte l.statement 1 h (omega arith) in
    true≢false (rw next at e))
