-- A word as text.
use Rattle.std.proofs.Common.{◌≡◌, ℕ, Bool, true, false, cond, List, [], refl, sym, ap, ◌∙◌}
use Rattle.std.specs.Str.{IsUtf8, is_utf8}
use Rattle.std.proofs.lemmas.Str.{IsUtf8-from_is_utf8, is_utf8-from_IsUtf8}
use Rattle.expectation_files.specs.Words.{text_of}

pub text_is : (word text : List ℕ) → text ≡ word → IsUtf8 word → text ≡ text_of word
text_is word text e u = e ∙ sym (ap (λ t. cond t word []) (is_utf8-from_IsUtf8 word u))

none_by : (word : List ℕ) (t : Bool) → is_utf8 word ≡ t → ¬ (IsUtf8 word) → [] ≡ cond t word []
none_by word true e none = absurd (none (IsUtf8-from_is_utf8 word e))
none_by word false e none = refl

pub no_text : (word : List ℕ) → ¬ (IsUtf8 word) → [] ≡ text_of word
no_text word none = none_by word (is_utf8 word) refl none
