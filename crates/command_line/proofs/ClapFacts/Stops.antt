-- Where a walk without a fault stops: at no call for help.
use Rattle.std.proofs.Common.{◌≡◌, ◌&&◌, Bool, cond, true, false, not, ℕ, List, [], ◌∷◌, Option, Some, None, codes}
use Rattle.std.proofs.Common.{is_some, refl}
use Rattle.std.specs.List.{fold}
use Rattle.std.specs.Option.{option_map_or}
use Rattle.std.specs.Str.{bytes_eq}
use Rattle.clap.specs.Walk.{Held, Names, Outcome, Rule, Step, Text, Waiting, Walk, after_flag, after_step}
use Rattle.clap.specs.Walk.{arg_by_index, done, idle, long_or_other, next, option, plain, plain_word, positional}
use Rattle.clap.specs.Walk.{refused, short_or_plain, subcommand, subcommand_met, subcommand_or_other, to_positional}
use Rattle.clap.specs.Walk.{trailing, value, waits, walked, walked_from, word_met}
use Rattle.clap.specs.Lexer.{long_of, short_of}
use Rattle.clap.specs.Simple.{Shape}
use Rattle.clap.specs.Kinds.{Kinds, or_else}
use Rattle.clap.specs.Faults.{other_fault, step_fault, turn_fault, walk_fault, word_fault}

pub both_empty : (a b : Kinds) → or_else a b ≡ [] → (a ≡ []) × (b ≡ [])
both_empty [] b e = (refl, e)
both_empty (k ∷ ks) b e = cc

abbrev pub is_no_help : Option (Text × List Text) → Bool
is_no_help stop = option_map_or (λ p. not (bytes_eq p.0 (codes "help"))) stop true

abbrev is_no_help_step : Step → Bool
is_no_help_step (subcommand name) = not (bytes_eq name (codes "help"))
is_no_help_step _ = true

-- a word that is no subcommand's name is no call for help
plain_helps : (c : List Rule) (waiting : Waiting) (word : Text) (h : Held)
    → is_no_help_step (plain_word c waiting word h).1 ≡ true
plain_helps c (option id) word h = refl
plain_helps c idle word h = refl
plain_helps c positional word h = refl

flag_helps : (c : List Rule) (waiting : Waiting) (word : Text) (h : Held) (outcome : Outcome)
    → is_no_help_step (after_flag c waiting word h outcome).1 ≡ true
flag_helps c waiting word h done = refl
flag_helps c waiting word h (waits id) = refl
flag_helps c waiting word h plain = plain_helps c waiting word h
flag_helps c waiting word h refused = plain_helps c waiting word h

short_helps : (c : List Rule) (waiting : Waiting) (word : Text) (flags : Option Text) (h : Held)
    → is_no_help_step (short_or_plain c waiting word flags h).1 ≡ true
short_helps c waiting word (Some flags) h = flag_helps c waiting word _ _
short_helps c waiting word None h = plain_helps c waiting word h

other_helps : (c : List Rule) (waiting : Waiting) (word : Text) (long : Option (Text × Option Text)) (h : Held)
    → is_no_help_step (long_or_other c waiting word long h).1 ≡ true
other_helps c waiting word (Some p) h = flag_helps c waiting word _ _
other_helps c waiting word None h = short_helps c waiting word (short_of word) h

to_positional_helps : (c : List Rule) (a : Option Rule) (word : Text) (w : Walk) (h : Held)
    → is_no_help w.stopped ≡ true
    → is_no_help (to_positional c a word w h).stopped ≡ true
to_positional_helps c None word w h good = good
to_positional_helps c (Some a) word w h good = refl

step_helps : (c : List Rule) (word : Text) (w : Walk) (h : Held) (step : Step) → is_no_help w.stopped ≡ true
    → is_no_help_step step ≡ true → is_no_help (after_step c word w h step).stopped ≡ true
step_helps c word w h (next waiting) good e = good
step_helps c word w h (trailing position) good e = good
step_helps c word w h (subcommand name) good e = e
step_helps c word w h value good e = to_positional_helps c (arg_by_index c w.position) word w h good

module _ (s : Shape) (names : Names) (enabled : s.disable_help_subcommand ≡ false) where
  named : (b : Bool) (kinds : Kinds) → cond (b && not s.disable_help_subcommand) kinds [] ≡ [] → (kinds ≡ [] → ⊥)
      → not b ≡ true
  named false kinds e some = refl
  named true kinds e some =
      let e2 = rw enabled at e in absurd (some e2)

  -- a word without a fault names another subcommand than `help`, or none
  word_helps : (is_trailing : Bool) (waiting : Waiting) (position : ℕ) (word : Text) (h : Held)
      → word_fault s names is_trailing waiting word h ≡ []
      → is_no_help_step (word_met s.rules names is_trailing waiting position word h).1 ≡ true
  word_helps true waiting position word h e = refl
  word_helps false waiting position word h e = go (subcommand_met names waiting word) e
    where
      dashes : (b : Bool) → is_no_help_step
          (cond b (h, trailing position) (long_or_other s.rules waiting word (long_of word) h)).1 ≡ true
      dashes true = refl
      dashes false = other_helps s.rules waiting word (long_of word) h

      go : (o : Option Text) → other_fault s o word h ≡ []
          → is_no_help_step (subcommand_or_other s.rules o waiting position word h).1 ≡ true
      go (Some name) e = named (bytes_eq name (codes "help")) _ e (λ none. cc)
      go None e = dashes (bytes_eq word (45 ∷ 45 ∷ []))

  abbrev met : Walk → Text → Held × Step
  met w word = word_met s.rules names w.is_trailing w.waiting w.position word w.held

  abbrev met_fault : Walk → Text → Kinds
  met_fault w word = word_fault s names w.is_trailing w.waiting word w.held

  abbrev taken_fault : Walk → Text → Kinds
  taken_fault w word = step_fault s w.position (met w word).0 (met w word).1

  turn_helps : (w : Walk) (word : Text) → is_no_help w.stopped ≡ true → turn_fault s names w word ≡ []
      → is_no_help (walked s.rules names w word).stopped ≡ true
  unfolding walked
  turn_helps w word good e = go w.stopped good e
    where
      go : (o : Option (Text × List Text)) → is_no_help o ≡ true
          → cond (is_some o) [] (or_else (met_fault w word) (taken_fault w word)) ≡ []
          → is_no_help (walked_from s.rules names o w word).stopped ≡ true
      go (Some p) fine e = fine
      go None fine e =
          let named = (both_empty (met_fault w word) (taken_fault w word) e).0 in
          step_helps s.rules word w (met w word).0 (met w word).1 good
          (word_helps w.is_trailing w.waiting w.position word w.held named)

  pub walk_helps : (w : Walk) (words : List Text) → is_no_help w.stopped ≡ true → walk_fault s names w words ≡ []
      → is_no_help (fold (walked s.rules names) w words).stopped ≡ true
  unfolding walk_fault
  walk_helps w [] good e = good
  walk_helps w (word ∷ rest) good e =
      let parts = both_empty (turn_fault s names w word) (walk_fault s names (walked s.rules names w word) rest) e in
      walk_helps (walked s.rules names w word) rest (turn_helps w word good parts.0) parts.1
