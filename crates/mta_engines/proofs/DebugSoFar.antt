-- The lines that were answered so far, one line more, and what they come to at the end and at a fault.
use Rattle.std.proofs.Common.{◌≡◌, ◌≢◌, ℕ, ◌+◌, ◌<◌, ◌≤◌, ◌⊎◌, Bool, true, false, List, [], ◌∷◌, ◌++◌, length, take, refl}
use Rattle.std.proofs.Common.{sym, ◌∙◌, ap, arith, inl, inr, subst, length-append, length-take, append-nil, append_assoc, nat_le}
use Rattle.std.proofs.Common.{Option, Some, None, IfSome, if◌then◌else◌}
use Rattle.std.proofs.lemmas.Bool.{true≢false, false≢true, cases_Bool, cases_lt, lt-leb, le-leb, cond-false}
use Rattle.std.proofs.lemmas.List.{take_all, take_at}
use Rattle.std.proofs.lemmas.List.Elements.{All-push, All-nil}
use Rattle.std.proofs.KnownBytes.{Consumes-trans, Appends-trans, Appends-kept, Appends-nil}
use Rattle.std.specs.List.{All}
use Rattle.std.specs.Io.KnownBytes.{Consumes, Appends, Keeps, IsAtEnd}
use Rattle.text_parts.specs.Lines.{lines_of}
use Rattle.debug_commands.specs.Commands.{command_of, command_of_words}
use Rattle.replay_debugger.specs.Sessions.{SessionValue}
use Rattle.mta_engines.specs.Input.{input_limit}
use Rattle.mta_engines.specs.InputOutput.{HasInput, HasOutput}
use Rattle.mta_engines.specs.DebugOutput.{IsReply, AreReplies, HasNoLineEnd, with_line_ends, AreFirstOf, AnswersTo}
use Rattle.mta_engines.specs.LineReading.{Ends, IsNextLine, IsBrokenOff, bytes_to_come, ahead, bytes_left, most_kept}
use Rattle.mta_engines.specs.DebugAnswers.{AreAllAnswers, IsLaterFault}
use Rattle.mta_engines.specs.declared.byte_reader.ByteReader.{ByteReader}
use Rattle.mta_engines.specs.declared.tool_fault.ToolFault.{ToolFault}
use Rattle.mta_engines.specs.declared.tool_fault.ToolFault.TheVariants.{Read, Write, TooLarge, NoMemory}
use Rattle.mta_engines.proofs.EndedLines.{lines-ended, lines-last, ends-more}
use Rattle.mta_engines.proofs.Replies.{replies-more}

-- A line that is longer than a command is none, also by its first bytes.

no_command : (line : List ℕ) → nat_le (length line) 256 ≡ false → command_of line ≡ None
unfolding command_of
no_command line long = rw long refl

pub command-kept : (line : List ℕ) → command_of (take most_kept line) ≡ command_of line
command-kept line = elim (cases_lt 256 (length line)) [
  | inl long ↦
      let kept : 256 < length (take 257 line) = omega (arith, length-take 257 line, long) in
      no_command (take most_kept line) (lt-leb (length (take 257 line)) 256 kept)
      ∙ sym (no_command line (lt-leb (length line) 256 long))
  | inr short ↦ ap command_of (take_all 257 line (omega (arith, short)))
]

-- The lines so far.

-- bytes of a reader were taken, and a session answered their lines
pub record AreSoFar (s : SessionValue) (told_before old : Option (List ℕ)) (b : ByteReader)
    (told : Option (List ℕ)) (now : SessionValue) (new : Option (List ℕ)) : Type 0 where
  pub lines : List (List ℕ)
  pub text : List ℕ
  pub bytes : List ℕ
  pub have_no_end : All HasNoLineEnd lines
  pub replies : AreReplies s lines text now
  pub written : Appends old new text
  pub consumed : Consumes told_before (bytes_to_come b told) bytes
  pub counted : length bytes + bytes_left b ≡ input_limit
  pub lines_are : lines_of bytes ≡ lines
  pub ended : b.window.at_end ≡ false → bytes ≡ with_line_ends lines
  pub at_end : b.window.at_end ≡ true → IsAtEnd (bytes_to_come b told)

no_lines : lines_of [] ≡ []
unfolding lines_of
no_lines = refl

begun-coming : (b : ByteReader) (told : Option (List ℕ)) → ahead b ≡ [] → Consumes told (bytes_to_come b told) []
begun-coming b None none = tt
begun-coming b (Some xs) none = sym (ap (λ bs. bs ++ xs) none)

pub so_far-begun : (s : SessionValue) (told old : Option (List ℕ)) (b : ByteReader) → ahead b ≡ []
    → bytes_left b ≡ input_limit → b.window.at_end ≡ false → AreSoFar s told old b told s old
so_far-begun s told old b none full goes_on = record {
  lines = [];
  text = [];
  bytes = [];
  have_no_end = All-nil HasNoLineEnd;
  replies = (refl, refl);
  written = Appends-nil old;
  consumed = begun-coming b told none;
  counted = omega (arith, full);
  lines_are = no_lines;
  ended = λ _. refl;
  at_end = λ is. absurd (true≢false (sym is ∙ goes_on));
}

lines-all : (lines : List (List ℕ)) → All HasNoLineEnd lines → lines_of (with_line_ends lines) ≡ lines
lines-all lines none =
    ap lines_of (sym (append-nil (with_line_ends lines))) ∙ lines-ended lines [] none
    ∙ ap (λ ls. lines ++ ls) no_lines ∙ append-nil lines

first-consumed : (a c : Option (List ℕ)) (bytes : List ℕ) (lines : List (List ℕ)) → bytes ≡ with_line_ends lines
    → All HasNoLineEnd lines → Consumes a c bytes → IfSome a (λ all. AreFirstOf (lines_of all) lines)
first-consumed None c bytes lines whole none consumed = tt
first-consumed (Some all) None bytes lines whole none consumed = absurd consumed
first-consumed (Some all) (Some rest) bytes lines whole none consumed =
    (lines_of rest, ap lines_of (consumed ∙ ap (λ bs. bs ++ rest) whole) ∙ lines-ended lines rest none)

-- a reader that is at its end had just the bytes that were taken
pub all-consumed : (a c : Option (List ℕ)) (bytes : List ℕ) → Consumes a c bytes → IsAtEnd c
    → IfSome a (λ all. bytes ≡ all)
all-consumed None c bytes consumed at_end = tt
all-consumed (Some all) None bytes consumed at_end = absurd consumed
all-consumed (Some all) (Some rest) bytes consumed at_end =
    sym (consumed ∙ ap (λ r. bytes ++ r) at_end ∙ append-nil bytes)

-- more bytes were taken than this
past-consumed : (a c : Option (List ℕ)) (bytes : List ℕ) (n : ℕ) → Consumes a c bytes → n < length bytes
    → IfSome a (λ all. n < length all)
past-consumed None c bytes n consumed past = tt
past-consumed (Some all) None bytes n consumed past = absurd consumed
past-consumed (Some all) (Some rest) bytes n consumed past =
    let n' = ap length consumed ∙ length-append bytes rest in omega (arith, n', past)

no_write : Write ≡ TooLarge → ⊥
no_write e = cc

no_memory : NoMemory ≡ TooLarge → ⊥
no_memory e = cc

first-none : (a : Option (List ℕ)) → IfSome a (λ all. AreFirstOf (lines_of all) [])
first-none None = tt
first-none (Some all) = (lines_of all, refl)

-- memory was refused before the first line
pub later-none : (s : SessionValue) (told told' old new : Option (List ℕ)) → Keeps old new
    → IsLaterFault s told told' old new NoMemory
later-none s told told' old new kept = record {
  written = λ _. record {
    output = [];
    holds = record {
      lines = [];
      answers = (s, (refl, refl));
      were = record { first = first-none told; all = λ no. absurd (no refl) };
    };
    appends = Appends-kept old old new [] (Appends-nil old) kept;
  };
  kind = inr (inr (inr refl));
  too_large = λ e. absurd (no_memory e);
}

-- what a fault says of the bytes that were read
abbrev IsKind : ByteReader → ToolFault → List ℕ → List ℕ → Type 0
IsKind b fault line past =
    ((fault ≡ Read) × (past ≡ [])) ⊎ ((fault ≡ TooLarge) × (length line ≡ bytes_left b) × (length past ≡ 1))

broken-whole : (b : ByteReader) (fault : ToolFault) (bytes line past : List ℕ) (lines : List (List ℕ))
    → bytes ≡ with_line_ends lines → length bytes + bytes_left b ≡ input_limit → length line ≤ bytes_left b
    → IsKind b fault line past → take input_limit (bytes ++ (line ++ past)) ≡ with_line_ends lines ++ line
broken-whole b fault bytes line past lines whole counted within (inl is) =
    ap (λ p. take input_limit (bytes ++ (line ++ p))) is.1 ∙ ap (λ l. take input_limit (bytes ++ l)) (append-nil line)
    ∙ take_all input_limit (bytes ++ line) (omega (arith, length-append bytes line, counted, within))
    ∙ ap (λ bs. bs ++ line) whole
broken-whole b fault bytes line past lines whole counted within (inr is) =
    ap (λ l. take input_limit l) (sym (append_assoc bytes line past))
    ∙ take_at (bytes ++ line) past input_limit (omega (arith, length-append bytes line, counted, is.1))
    ∙ ap (λ bs. bs ++ line) whole

broken-kind : (b : ByteReader) (fault : ToolFault) (line past : List ℕ) → IsKind b fault line past
    → (fault ≡ Read) ⊎ ((fault ≡ Write) ⊎ ((fault ≡ TooLarge) ⊎ (fault ≡ NoMemory)))
broken-kind b fault line past (inl is) = inl is.0
broken-kind b fault line past (inr is) = inr (inr (inl is.0))

no_read : Read ≡ TooLarge → ⊥
no_read e = cc

broken-past : (b : ByteReader) (fault : ToolFault) (bytes line past : List ℕ) → length bytes + bytes_left b ≡ input_limit
    → IsKind b fault line past → fault ≡ TooLarge → input_limit < length (bytes ++ (line ++ past))
broken-past b fault bytes line past counted (inl is) too_large = absurd (no_read (sym is.0 ∙ too_large))
broken-past b fault bytes line past counted (inr is) too_large =
    omega (arith, length-append bytes (line ++ past), length-append line past, counted, is.1, is.2)

module _ (s : SessionValue) (told_before old : Option (List ℕ)) (b : ByteReader) (told : Option (List ℕ))
    (now : SessionValue) (new : Option (List ℕ)) (so_far : AreSoFar s told_before old b told now new) where
  -- one line more
  pub so_far-more : (b' : ByteReader) (told' : Option (List ℕ)) (kept : List ℕ) (now' : SessionValue)
      (new' : Option (List ℕ)) → IsNextLine b told b' told' kept
      → HasOutput new new' (λ text. IsReply now (command_of kept) text now')
      → AreSoFar s told_before old b' told' now' new'
  so_far-more b' told' kept now' new' next out =
      let line = next.line in
      let is : command_of kept ≡ command_of line = ap command_of next.kept_is ∙ command-kept line in
      let reply : IsReply now (command_of line) out.output now' =
      subst (λ command. IsReply now command out.output now') is out.holds in
      let before = so_far.ended next.not_at_end in
      let none = All-push HasNoLineEnd so_far.lines line so_far.have_no_end next.has_no_end in
      elim next.taken [
        | inl fed ↦
            let whole : so_far.bytes ++ (line ++ 10 ∷ []) ≡ with_line_ends (so_far.lines ++ line ∷ []) =
            ap (λ bs. bs ++ (line ++ 10 ∷ [])) before ∙ sym (ends-more so_far.lines line) in
            record {
              lines = so_far.lines ++ line ∷ [];
              text = so_far.text ++ out.output;
              bytes = so_far.bytes ++ (line ++ 10 ∷ []);
              have_no_end = none;
              replies = replies-more s now now' so_far.lines line so_far.text out.output so_far.replies reply;
              written = Appends-trans old new new' so_far.text out.output so_far.written out.appends;
              consumed = Consumes-trans told_before (bytes_to_come b told) (bytes_to_come b' told') so_far.bytes (line ++ 10 ∷ [])
                  so_far.consumed fed.takes.consumed;
              counted = omega (arith, length-append so_far.bytes (line ++ 10 ∷ []), so_far.counted, fed.takes.counted);
              lines_are = ap lines_of whole ∙ lines-all (so_far.lines ++ line ∷ []) none;
              ended = λ _. whole;
              at_end = λ e. absurd (true≢false (sym e ∙ fed.not_at_end));
            }
        | inr last ↦
            record {
              lines = so_far.lines ++ line ∷ [];
              text = so_far.text ++ out.output;
              bytes = so_far.bytes ++ line;
              have_no_end = none;
              replies = replies-more s now now' so_far.lines line so_far.text out.output so_far.replies reply;
              written = Appends-trans old new new' so_far.text out.output so_far.written out.appends;
              consumed = Consumes-trans told_before (bytes_to_come b told) (bytes_to_come b' told') so_far.bytes line
                  so_far.consumed last.takes.consumed;
              counted = omega (arith, length-append so_far.bytes line, so_far.counted, last.takes.counted);
              lines_are = ap (λ bs. lines_of (bs ++ line)) before ∙ lines-ended so_far.lines line so_far.have_no_end
                  ∙ ap (λ ls. so_far.lines ++ ls) (lines-last line next.has_no_end last.some);
              ended = λ e. absurd (false≢true (sym e ∙ last.ended));
              at_end = λ _. last.at_end;
            }
      ]

  -- no line more
  pub so_far-all : (b' : ByteReader) (told' : Option (List ℕ)) → Ends b told b' told'
      → AreAllAnswers s told_before old new
  so_far-all b' told' ends = record {
    bytes = so_far.bytes;
    same = elim (cases_Bool b.window.at_end) [
      | inl is ↦ all-consumed told_before (bytes_to_come b told) so_far.bytes so_far.consumed (so_far.at_end is)
      | inr is ↦ all-consumed told_before (bytes_to_come b' told') so_far.bytes
          (subst (Consumes told_before (bytes_to_come b' told')) (append-nil so_far.bytes)
          (Consumes-trans told_before (bytes_to_come b told) (bytes_to_come b' told') so_far.bytes [] so_far.consumed
          ends.nothing.consumed)) (ends.at_end is)
    ];
    holds = record {
      output = so_far.text;
      holds = record {
        within = omega (arith, so_far.counted);
        answers = subst (λ ls. AnswersTo s ls so_far.text) (sym so_far.lines_are) (now, so_far.replies);
      };
      appends = so_far.written;
    };
  }

  first-of : so_far.bytes ≡ with_line_ends so_far.lines
      → IfSome told_before (λ bytes. AreFirstOf (lines_of bytes) so_far.lines)
  first-of whole = first-consumed told_before (bytes_to_come b told) so_far.bytes so_far.lines whole so_far.have_no_end
      so_far.consumed

  -- a fault comes before the end of a line
  pub so_far-broken : (told' : Option (List ℕ)) (fault : ToolFault) → IsBrokenOff b told told' fault
      → IsLaterFault s told_before told' old new fault
  so_far-broken told' fault at =
      let whole = so_far.ended at.not_at_end in
      let read = so_far.bytes ++ (at.line ++ at.past) in
      let consumed = Consumes-trans told_before (bytes_to_come b told) told' so_far.bytes (at.line ++ at.past)
      so_far.consumed at.consumed in
      record {
        written = λ _. record {
          output = so_far.text;
          holds = record {
            lines = so_far.lines;
            answers = (now, so_far.replies);
            were = record {
              first = first-of whole;
              all = λ _. record {
                read = read;
                consumed = consumed;
                ended = record {
                  rest = at.line;
                  whole = broken-whole b fault so_far.bytes at.line at.past so_far.lines whole so_far.counted at.within at.kind;
                  lines_have_none = so_far.have_no_end;
                  rest_has_none = at.has_no_end;
                };
              };
            };
          };
          appends = so_far.written;
        };
        kind = broken-kind b fault at.line at.past at.kind;
        too_large = λ is. past-consumed told_before told' read input_limit consumed
            (broken-past b fault so_far.bytes at.line at.past so_far.counted at.kind is);
      }

  -- the answer to a line can't be made or written
  pub so_far-unanswered : (b' : ByteReader) (told' told_after : Option (List ℕ)) (kept : List ℕ)
      (new' : Option (List ℕ)) (fault : ToolFault) → IsNextLine b told b' told' kept
      → (fault ≡ Write) ⊎ ((fault ≡ NoMemory) × Keeps new new') → IsLaterFault s told_before told_after old new' fault
  so_far-unanswered b' told' told_after kept new' fault next (inl is) = record {
    written = λ no. absurd (no is);
    kind = inr (inl is);
    too_large = λ e. absurd (no_write (sym is ∙ e));
  }
  so_far-unanswered b' told' told_after kept new' fault next (inr is) = record {
    written = λ _. record {
      output = so_far.text;
      holds = record {
        lines = so_far.lines;
        answers = (now, so_far.replies);
        were = record {
          first = first-of (so_far.ended next.not_at_end);
          all = λ no. absurd (no is.0);
        };
      };
      appends = Appends-kept old new new' so_far.text so_far.written is.1;
    };
    kind = inr (inr (inr is.0));
    too_large = λ e. absurd (no_memory (sym is.0 ∙ e));
  }

some-length : (xs : List ℕ) → xs ≢ [] → 0 < length xs
some-length [] some = absurd (some refl)
some-length (x ∷ xs) some = omega arith

-- a line takes some of the room
pub next-smaller : (b b' : ByteReader) (told told' : Option (List ℕ)) (kept : List ℕ)
    → IsNextLine b told b' told' kept → bytes_left b' < bytes_left b
next-smaller b b' told told' kept next = elim next.taken [
  | inl fed ↦ let n = fed.takes.counted in omega (arith, n, length-append next.line (10 ∷ []))
  | inr last ↦ let n = last.takes.counted in omega (arith, n, some-length next.line last.some)
]
