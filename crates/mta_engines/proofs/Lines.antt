-- A line that is read byte by byte.
use Rattle.std.proofs.Common.{◌≡◌, ◌≢◌, ℕ, zero, suc, ◌+◌, ◌-◌, ◌<◌, ◌≤◌, false, List, [], ◌∷◌, ◌++◌, length, take, Option, refl}
use Rattle.std.proofs.Common.{Bool, true, not, ◌==◌, Some, IfSome, ◌⊎◌}
use Rattle.std.proofs.Common.{sym, ◌∙◌, ap, arith, inl, inr, subst, length-append, append-nil, slice_range, slice_index_or}
use Rattle.std.proofs.lemmas.List.Elements.{All-push}
use Rattle.std.proofs.lemmas.Bool.{false≢true}
use Rattle.std.proofs.KnownBytes.{Consumes-nil, Consumes-trans, Consumes-kept, prepend_known-nil}
use Rattle.std.specs.Io.KnownBytes.{Consumes, Keeps, prepend_known}
use Rattle.mta_engines.specs.DebugOutput.{HasNoLineEnd}
use Rattle.mta_engines.specs.LineReading.{TakesBytes, Ends, IsNextLine, IsBrokenOff, bytes_to_come, ahead, bytes_left, most_kept}
use Rattle.mta_engines.specs.declared.byte_reader.ByteReader.{ByteReader}
use Rattle.mta_engines.specs.declared.tool_fault.ToolFault.{ToolFault}
use Rattle.mta_engines.specs.declared.tool_fault.ToolFault.TheVariants.{Read, TooLarge}
use Rattle.mta_engines.proofs.Windows.{took-first}

-- what was taken has no line feed, and its first bytes are kept; where something was taken, the reader is not at its end
pub record IsLineSoFar (old : ByteReader) (told_before : Option (List ℕ)) (new : ByteReader)
    (told_after : Option (List ℕ)) (kept : List ℕ) : Type 0 where
  pub line : List ℕ
  pub has_no_end : HasNoLineEnd line
  pub kept_is : kept ≡ take most_kept line
  pub takes : TakesBytes old told_before new told_after line
  pub same_end : new.window.at_end ≡ old.window.at_end
  pub goes_on : line ≢ [] → new.window.at_end ≡ false

-- one byte more of a line of which the first bytes are kept
take-again : (n : ℕ) (xs : List ℕ) (x : ℕ) → take n (take n xs ++ x ∷ []) ≡ take n (xs ++ x ∷ [])
take-again zero xs x = refl
take-again (suc n) [] x = refl
take-again (suc n) (y ∷ xs) x = ap (λ ys. y ∷ ys) (take-again n xs x)

taken-none : (line : List ℕ) → take most_kept line ≡ [] → line ≡ []
taken-none [] none = refl
taken-none (byte ∷ line) none = cc

pub takes-nothing : (b : ByteReader) (told : Option (List ℕ)) → TakesBytes b told b told []
takes-nothing b told = record { consumed = Consumes-nil (bytes_to_come b told); counted = omega arith }

pub takes-more : (old mid new : ByteReader) (a b c : Option (List ℕ)) (xs ys : List ℕ) → TakesBytes old a mid b xs
    → TakesBytes mid b new c ys → TakesBytes old a new c (xs ++ ys)
takes-more old mid new a b c xs ys first second = record {
  consumed = Consumes-trans (bytes_to_come old a) (bytes_to_come mid b) (bytes_to_come new c) xs ys first.consumed second.consumed;
  counted = let n = length-append xs ys in let p = first.counted in let q = second.counted in omega (arith, n, p, q);
}

-- a byte is taken of those that were read
pub takes-first : (old mid new : ByteReader) (a b : Option (List ℕ)) → TakesBytes old a mid b []
    → mid.window.start < mid.window.end → mid.window.end ≤ length mid.chunk → new.chunk ≡ mid.chunk
    → new.window.start ≡ mid.window.start + 1 → new.window.end ≡ mid.window.end → new.window.left ≡ mid.window.left
    → TakesBytes old a new b (slice_index_or mid.chunk mid.window.start 0 ∷ [])
takes-first old mid new a b none some within chunk start end left = record {
  consumed = subst (λ bs. Consumes (bytes_to_come old a) (prepend_known bs b) (slice_index_or mid.chunk mid.window.start 0 ∷ []))
      (sym (ap (λ xs. slice_range xs new.window.start new.window.end) chunk
      ∙ ap (λ n. slice_range mid.chunk n new.window.end) start ∙ ap (λ n. slice_range mid.chunk (mid.window.start + 1) n) end))
      (took-first mid.chunk mid.window.start mid.window.end (bytes_to_come old a) b some within none.consumed);
  counted = let p = none.counted in omega (arith, p, start, end, left, some);
}

-- The line is at its end, or a fault came before.

module _ (old mid new : ByteReader) (a b c : Option (List ℕ)) (kept : List ℕ) (so_far : IsLineSoFar old a mid b kept) where
  pub line-last : Ends mid b new c → (kept ≡ [] → ⊥) → IsNextLine old a new c kept
  line-last ends some =
      let is_some : so_far.line ≢ [] = λ none. some (so_far.kept_is ∙ ap (take most_kept) none) in
      let goes_on = so_far.goes_on is_some in
      record {
        line = so_far.line;
        has_no_end = so_far.has_no_end;
        kept_is = so_far.kept_is;
        not_at_end = sym so_far.same_end ∙ goes_on;
        taken = inr (record {
          takes = subst (TakesBytes old a new c) (append-nil so_far.line)
              (takes-more old mid new a b c so_far.line [] so_far.takes ends.nothing);
          some = is_some;
          at_end = ends.at_end goes_on;
          ended = ends.ended;
        });
      }

  pub line-none : Ends mid b new c → kept ≡ [] → Ends old a new c
  line-none ends none =
      let is_none : so_far.line ≡ [] = taken-none so_far.line (sym so_far.kept_is ∙ none) in
      record {
        nothing = subst (TakesBytes old a new c) (append-nil so_far.line ∙ is_none)
            (takes-more old mid new a b c so_far.line [] so_far.takes ends.nothing);
        at_end = λ goes_on. ends.at_end (so_far.same_end ∙ goes_on);
        ended = ends.ended;
      }

  pub line-fed : TakesBytes mid b new c (10 ∷ []) → mid.window.at_end ≡ false → new.window.at_end ≡ false
      → IsNextLine old a new c kept
  line-fed takes before after = record {
    line = so_far.line;
    has_no_end = so_far.has_no_end;
    kept_is = so_far.kept_is;
    not_at_end = sym so_far.same_end ∙ before;
    taken = inl (record {
      takes = takes-more old mid new a b c so_far.line (10 ∷ []) so_far.takes takes;
      not_at_end = after;
    });
  }

  pub line-more : (byte : ℕ) (longer : List ℕ) → TakesBytes mid b new c (byte ∷ []) → mid.window.at_end ≡ false
      → new.window.at_end ≡ false → byte ≢ 10 → longer ≡ take 257 (kept ++ byte ∷ []) → IsLineSoFar old a new c longer
  line-more byte longer takes before after no_end is = record {
    line = so_far.line ++ byte ∷ [];
    has_no_end = All-push (λ x. x ≢ 10) so_far.line byte so_far.has_no_end no_end;
    kept_is = is ∙ ap (λ k. take 257 (k ++ byte ∷ [])) so_far.kept_is ∙ take-again 257 so_far.line byte;
    takes = takes-more old mid new a b c so_far.line (byte ∷ []) so_far.takes takes;
    same_end = after ∙ sym before ∙ so_far.same_end;
    goes_on = λ _. after;
  }

  broken-read : Keeps b c → ahead mid ≡ [] → mid.window.at_end ≡ false → IsBrokenOff old a c Read
  broken-read kept_on none before = record {
    line = so_far.line;
    past = [];
    has_no_end = so_far.has_no_end;
    not_at_end = sym so_far.same_end ∙ before;
    consumed = subst (Consumes (bytes_to_come old a) c) (sym (append-nil so_far.line))
        (Consumes-kept (bytes_to_come old a) (bytes_to_come mid b) c so_far.line so_far.takes.consumed
        (subst (λ o. Keeps o c) (sym (ap (λ bs. prepend_known bs b) none ∙ prepend_known-nil b)) kept_on));
    within = let n = so_far.takes.counted in omega (arith, n);
    kind = inl (refl, refl);
  }

  broken-large : (byte : ℕ) → Consumes b c (byte ∷ []) → bytes_left mid ≡ 0 → ahead mid ≡ [] → mid.window.at_end ≡ false
      → IsBrokenOff old a c TooLarge
  broken-large byte past full none before = record {
    line = so_far.line;
    past = byte ∷ [];
    has_no_end = so_far.has_no_end;
    not_at_end = sym so_far.same_end ∙ before;
    consumed = Consumes-trans (bytes_to_come old a) (bytes_to_come mid b) c so_far.line (byte ∷ []) so_far.takes.consumed
        (subst (λ o. Consumes o c (byte ∷ [])) (sym (ap (λ bs. prepend_known bs b) none ∙ prepend_known-nil b)) past);
    within = let n = so_far.takes.counted in omega (arith, n);
    kind = let n = so_far.takes.counted in inr (refl, omega (arith, n, full), refl);
  }

  pub broken : (fault : ToolFault) → (fault ≡ Read) ⊎ (fault ≡ TooLarge) → (fault ≡ Read → Keeps b c)
      → (fault ≡ TooLarge → (byte : ℕ) × Consumes b c (byte ∷ [])) → (fault ≡ TooLarge → bytes_left mid ≡ 0)
      → (ahead mid ≡ []) × (mid.window.at_end ≡ false) → IsBrokenOff old a c fault
  broken fault (inl is) read large full none = subst (IsBrokenOff old a c) (sym is) (broken-read (read is) none.0 none.1)
  broken fault (inr is) read large full none =
      let past = large is in
      subst (IsBrokenOff old a c) (sym is) (broken-large past.0 past.1 (full is) none.0 none.1)

pub at_some : (o : Option ℕ) (n : ℕ) (P : ℕ → Type 0) → o ≡ Some n → IfSome o P → P n
at_some o n P is h = subst (λ x. IfSome x P) is h

pub some-kept : (xs : List ℕ) (empty : Bool) → empty ≡ (length xs == 0) → not empty ≡ true → xs ≡ [] → ⊥
some-kept xs empty e is none =
    let zero_is : empty ≡ true = e ∙ ap (λ ys. length ys == 0) none in
    false≢true (ap not (sym zero_is) ∙ is)
