-- The entries of counts and of a word.
use Rattle.std.proofs.Common.{◌≡◌, ◌≢◌, ℕ, inl, inr, refl, sym, ap, ◌∙◌, List, [], ◌∷◌, Option, Some, None, slice_get}
use Rattle.std.specs.Option.{option_map}
use Rattle.tag_memory.specs.Cell.{Cell}
use Rattle.tag_memory.specs.Storage.{TaggedMemory, cell_at}
use Rattle.machine.specs.Processor.Processors.{ProcessorValue}
use Rattle.machine.specs.Processor.World.{World, counts_at}
use Rattle.step_views.specs.declared.places.Place.TheVariants as place
use Rattle.step_views.specs.declared.places.Content.TheVariants as content
use Rattle.step_views.specs.declared.places.Change.{Change}
use Rattle.step_views.specs.Places.{tags_content, content_of}
use Rattle.step_views.specs.Comparing.{entry, counts_compared, word_compared_to, word_compared}
use Rattle.step_views.proofs.Covering.{IsRight, IsCovered}
use Rattle.step_views.proofs.Pieces.{IsPiece, no_piece, AreAlike}

-- Counts.

current_there : (w : World) (p : ℕ) (o : Option ProcessorValue) → slice_get w.processors p ≡ o
    → content_of w (place.Current p) ≡ option_map (λ (d : ProcessorValue). content.Number d.scur) o
unfolding content_of
current_there w p o e = ap (option_map (λ (d : ProcessorValue). content.Number d.scur)) e

reserved_there : (w : World) (p : ℕ) (o : Option ProcessorValue) → slice_get w.processors p ≡ o
    → content_of w (place.Reserved p) ≡ option_map (λ (d : ProcessorValue). content.Number d.sres) o
unfolding content_of
reserved_there w p o e = ap (option_map (λ (d : ProcessorValue). content.Number d.sres)) e

-- an entry is right where it is another one
right_by : (w v : World) (c d : Change) → d ≡ c → IsRight w v d → IsRight w v c
right_by w v c d same h = (
  ap (λ (x : Change). content_of w x.place) (sym same) ∙ h.0 ∙ ap (λ (x : Change). Some x.before) same,
  ap (λ (x : Change). content_of v x.place) (sym same) ∙ h.1 ∙ ap (λ (x : Change). Some x.after) same,
)

-- two entries of two places
pair_piece : (w v : World) (c d : Change) → IsRight w v c → IsRight w v d → c.place ≢ d.place
    → IsPiece w v (c ∷ d ∷ [])
pair_piece w v c d first second apart = record {
  right = λ x h. elim h [
    | inl same ↦ right_by w v x c same first
    | inr k ↦ elim k [ inl same ↦ right_by w v x d same second | inr none ↦ absurd none ]
  ];
  apart = (
    λ x h. elim h [ inl same ↦ λ e. apart (e ∙ ap (λ (y : Change). y.place) (sym same)) | inr none ↦ absurd none ],
    (λ x h. absurd h, tt),
  );
}

pub counts_piece : (w v : World) (p : ℕ) (o q : Option ProcessorValue) → slice_get w.processors p ≡ o
    → slice_get v.processors p ≡ q → IsPiece w v (counts_compared p (counts_at o) (counts_at q))
counts_piece w v p None q e f = no_piece w v
counts_piece w v p (Some b) None e f = no_piece w v
counts_piece w v p (Some b) (Some a) e f =
    pair_piece w v (entry (place.Current p) (content.Number b.scur) (content.Number a.scur))
    (entry (place.Reserved p) (content.Number b.sres) (content.Number a.sres))
    (current_there w p (Some b) e, current_there v p (Some a) f)
    (reserved_there w p (Some b) e, reserved_there v p (Some a) f)
    (λ same. cc)

pub current_covered : (w v : World) (p : ℕ) (o q : Option ProcessorValue) → slice_get w.processors p ≡ o
    → slice_get v.processors p ≡ q → AreAlike o q
    → IsCovered (counts_compared p (counts_at o) (counts_at q)) w v (place.Current p)
current_covered w v p None None e f h = inr (current_there v p None f ∙ sym (current_there w p None e))
current_covered w v p None (Some a) e f h = absurd h
current_covered w v p (Some b) None e f h = absurd h
current_covered w v p (Some b) (Some a) e f h =
    inl (entry (place.Current p) (content.Number b.scur) (content.Number a.scur), inl refl, refl)

pub reserved_covered : (w v : World) (p : ℕ) (o q : Option ProcessorValue) → slice_get w.processors p ≡ o
    → slice_get v.processors p ≡ q → AreAlike o q
    → IsCovered (counts_compared p (counts_at o) (counts_at q)) w v (place.Reserved p)
reserved_covered w v p None None e f h = inr (reserved_there v p None f ∙ sym (reserved_there w p None e))
reserved_covered w v p None (Some a) e f h = absurd h
reserved_covered w v p (Some b) None e f h = absurd h
reserved_covered w v p (Some b) (Some a) e f h =
    inl (entry (place.Reserved p) (content.Number b.sres) (content.Number a.sres), inr (inl refl), refl)

-- the counts of a processor that stays
pub current_stays : (w v : World) (p : ℕ) → slice_get v.processors p ≡ slice_get w.processors p
    → content_of v (place.Current p) ≡ content_of w (place.Current p)
current_stays w v p e = current_there v p (slice_get w.processors p) e ∙ sym (current_there w p _ refl)

pub reserved_stays : (w v : World) (p : ℕ) → slice_get v.processors p ≡ slice_get w.processors p
    → content_of v (place.Reserved p) ≡ content_of w (place.Reserved p)
reserved_stays w v p e = reserved_there v p (slice_get w.processors p) e ∙ sym (reserved_there w p _ refl)

-- A word.

value_there : (w : World) (a : ℕ) (o : Option Cell) → cell_at w.memory a ≡ o
    → content_of w (place.Value a) ≡ option_map (λ (c : Cell). content.Number c.value) o
unfolding content_of
value_there w a o e = ap (option_map (λ (c : Cell). content.Number c.value)) e

tags_there : (w : World) (a : ℕ) (o : Option Cell) → cell_at w.memory a ≡ o
    → content_of w (place.Tags a) ≡ option_map tags_content o
unfolding content_of
tags_there w a o e = ap (option_map tags_content) e

-- the word at an address, compared
abbrev pub word_pair : ℕ → Option Cell → Option Cell → List Change
word_pair a None q = []
word_pair a (Some b) q = word_compared_to a b q

pub word_paired : (m : TaggedMemory) (a : ℕ) (o : Option Cell)
    → word_compared (option_map (λ (c : Cell). (a, c)) o) m ≡ word_pair a o (cell_at m a)
word_paired m a None = refl
word_paired m a (Some b) = refl

pub word_piece : (w v : World) (a : ℕ) (o q : Option Cell) → cell_at w.memory a ≡ o → cell_at v.memory a ≡ q
    → IsPiece w v (word_pair a o q)
word_piece w v a None q e f = no_piece w v
word_piece w v a (Some b) None e f = no_piece w v
word_piece w v a (Some b) (Some c) e f =
    pair_piece w v (entry (place.Value a) (content.Number b.value) (content.Number c.value))
    (entry (place.Tags a) (tags_content b) (tags_content c))
    (value_there w a (Some b) e, value_there v a (Some c) f)
    (tags_there w a (Some b) e, tags_there v a (Some c) f)
    (λ same. cc)

pub value_covered : (w v : World) (a : ℕ) (o q : Option Cell) → cell_at w.memory a ≡ o → cell_at v.memory a ≡ q
    → AreAlike o q → IsCovered (word_pair a o q) w v (place.Value a)
value_covered w v a None None e f h = inr (value_there v a None f ∙ sym (value_there w a None e))
value_covered w v a None (Some c) e f h = absurd h
value_covered w v a (Some b) None e f h = absurd h
value_covered w v a (Some b) (Some c) e f h =
    inl (entry (place.Value a) (content.Number b.value) (content.Number c.value), inl refl, refl)

pub tags_covered : (w v : World) (a : ℕ) (o q : Option Cell) → cell_at w.memory a ≡ o → cell_at v.memory a ≡ q
    → AreAlike o q → IsCovered (word_pair a o q) w v (place.Tags a)
tags_covered w v a None None e f h = inr (tags_there v a None f ∙ sym (tags_there w a None e))
tags_covered w v a None (Some c) e f h = absurd h
tags_covered w v a (Some b) None e f h = absurd h
tags_covered w v a (Some b) (Some c) e f h =
    inl (entry (place.Tags a) (tags_content b) (tags_content c), inr (inl refl), refl)

-- a word that stays
pub value_stays : (w v : World) (a : ℕ) → cell_at v.memory a ≡ cell_at w.memory a
    → content_of v (place.Value a) ≡ content_of w (place.Value a)
value_stays w v a e = value_there v a (cell_at w.memory a) e ∙ sym (value_there w a _ refl)

pub tags_stay : (w v : World) (a : ℕ) → cell_at v.memory a ≡ cell_at w.memory a
    → content_of v (place.Tags a) ≡ content_of w (place.Tags a)
tags_stay w v a e = tags_there v a (cell_at w.memory a) e ∙ sym (tags_there w a _ refl)
