-- Entries in pieces: of a stream, of a stream that is started, of counts, of a word.
use Rattle.std.proofs.Common.{◌≡◌, ◌≢◌, ℕ, inl, inr, sym, ap, ◌∙◌}
use Rattle.std.proofs.Common.{List, [], ◌++◌, Option, Some, None}
use Rattle.stream_core.specs.Streams.{StreamValue}
use Rattle.machine.specs.Processor.World.{World}
use Rattle.step_views.specs.declared.places.StreamPart.{StreamPart}
use Rattle.step_views.specs.declared.places.Place.{Place}
use Rattle.step_views.specs.declared.places.Place.TheVariants as place
use Rattle.step_views.specs.declared.places.Change.{Change}
use Rattle.step_views.specs.Places.{part_in, used_stream, content_of}
use Rattle.step_views.specs.Comparing.{stream_compared}
use Rattle.step_views.proofs.Entries.{In, in_either, AreApart, apart_join}
use Rattle.step_views.proofs.Covering.{IsRight, IsCovered}
use Rattle.step_views.proofs.StreamEntries.{has_left, has_right, of_stream, stream_apart, part_covered}

-- entries that are right, no two of one place
pub record IsPiece (w v : World) (es : List Change) : Type 0 where
  pub right : (c : Change) → In es c → IsRight w v c
  pub apart : AreApart es

pub no_piece : (w v : World) → IsPiece w v []
no_piece w v = record { right = λ c h. absurd h; apart = tt }

pub piece_join : (w v : World) (xs ys : List Change) → IsPiece w v xs → IsPiece w v ys
    → ((c d : Change) → In xs c → In ys d → c.place ≢ d.place) → IsPiece w v (xs ++ ys)
piece_join w v xs ys h k across = record {
  right = λ c m. elim (in_either xs ys c m) [ inl a ↦ h.right c a | inr b ↦ k.right c b ];
  apart = apart_join xs ys h.apart k.apart across;
}

pub covered_left : (w v : World) (xs ys : List Change) (x : Place) → IsCovered xs w v x → IsCovered (xs ++ ys) w v x
covered_left w v xs ys x (inl h) = inl (has_left xs ys x h)
covered_left w v xs ys x (inr e) = inr e

pub covered_right : (w v : World) (xs ys : List Change) (x : Place) → IsCovered ys w v x → IsCovered (xs ++ ys) w v x
covered_right w v xs ys x (inl h) = inl (has_right xs ys x h)
covered_right w v xs ys x (inr e) = inr e

-- A stream.

-- all entries are of this stream
abbrev pub AreOfStream : ℕ → ℕ → List Change → Type 0
AreOfStream p s es = (c : Change) → In es c → (x : StreamPart) × (c.place ≡ place.Stream p s x)

pub of_stream_compared : (p s : ℕ) (o q : Option StreamValue) → AreOfStream p s (stream_compared p s o q)
of_stream_compared p s None q c h = absurd h
of_stream_compared p s (Some b) None c h = absurd h
of_stream_compared p s (Some b) (Some a) c h = let e = of_stream p s b a c h in (e.part, e.at)

-- what stands in a part of a stream
part_there : (w : World) (p s : ℕ) (x : StreamPart) (o : Option StreamValue) → used_stream w p s ≡ o
    → content_of w (place.Stream p s x) ≡ part_in o x
unfolding content_of
part_there w p s x o e = ap (λ y. part_in y x) e

pub stream_piece : (w v : World) (p s : ℕ) (o q : Option StreamValue) → used_stream w p s ≡ o → used_stream v p s ≡ q
    → IsPiece w v (stream_compared p s o q)
stream_piece w v p s None q e f = no_piece w v
stream_piece w v p s (Some b) None e f = no_piece w v
stream_piece w v p s (Some b) (Some a) e f = record {
  right = λ c h.
      let is = of_stream p s b a c h in (
        ap (content_of w) is.at ∙ part_there w p s is.part (Some b) e ∙ is.was,
        ap (content_of v) is.at ∙ part_there v p s is.part (Some a) f ∙ is.is,
      );
  apart = stream_apart p s b a;
}

-- there before and after, or neither
abbrev pub AreAlike : {A : Type 0} → Option A → Option A → Type 0
AreAlike None None = Unit {0}
AreAlike None (Some a) = ⊥
AreAlike (Some b) None = ⊥
AreAlike (Some b) (Some a) = Unit {0}

pub stream_covered : (w v : World) (p s : ℕ) (x : StreamPart) (o q : Option StreamValue) → used_stream w p s ≡ o
    → used_stream v p s ≡ q → AreAlike o q → IsCovered (stream_compared p s o q) w v (place.Stream p s x)
stream_covered w v p s x None None e f h = inr (part_there v p s x None f ∙ sym (part_there w p s x None e))
stream_covered w v p s x None (Some a) e f h = absurd h
stream_covered w v p s x (Some b) None e f h = absurd h
stream_covered w v p s x (Some b) (Some a) e f h =
    elim (part_covered p s b a x) [
      | inl found ↦ inl found
      | inr same ↦ inr (part_there v p s x (Some a) f ∙ same ∙ sym (part_there w p s x (Some b) e))
    ]

-- a stream that stays
pub stream_stays : (w v : World) (p s : ℕ) (x : StreamPart) → used_stream v p s ≡ used_stream w p s
    → content_of v (place.Stream p s x) ≡ content_of w (place.Stream p s x)
unfolding content_of
stream_stays w v p s x e = ap (λ y. part_in y x) e
