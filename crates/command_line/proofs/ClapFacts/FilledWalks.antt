-- In a walk without a fault each argument that is found has a value.
use Rattle.std.proofs.Common.{◌≡◌, ◌&&◌, Bool, cond, true, false, not, ℕ, zero, suc, drop, length, List, [], ◌∷◌}
use Rattle.std.proofs.Common.{Option, Some, None, is_some, refl}
use Rattle.std.specs.Prelude.{encode_utf8, slice_get}
use Rattle.std.specs.List.{fold}
use Rattle.std.specs.Option.{option_map_or}
use Rattle.std.specs.Str.{bytes_eq, chars}
use Rattle.clap.specs.Lexer.{long_of, short_of}
use Rattle.clap.specs.Walk.{Held, Names, Outcome, Row, Rule, Step, Text, Waiting, Walk, after_flag, after_step}
use Rattle.clap.specs.Walk.{arg_by_id, arg_by_index, arg_by_long, arg_by_short, attached_value, bundle_met}
use Rattle.clap.specs.Walk.{bundle_step, done, flag_met, has_long, has_short, idle, is_pending, long_met}
use Rattle.clap.specs.Walk.{long_or_other, next, nothing_held, option, option_met, option_word, plain, plain_word}
use Rattle.clap.specs.Walk.{positional, pushed, reacted, refused, rows_after, settled, settled_rows, short_met}
use Rattle.clap.specs.Walk.{short_or_plain, subcommand, subcommand_met, subcommand_or_other, takes_several}
use Rattle.clap.specs.Walk.{takes_values, to_positional, trailing, used_by_id, value, waits, walk, walk_from, walked}
use Rattle.clap.specs.Walk.{walked_from, word_met}
use Rattle.clap.specs.Simple.{Shape}
use Rattle.clap.specs.Kinds.{Kinds, or_else}
use Rattle.clap.specs.Faults.{bundle_fault, bundle_step_fault, flag_word_fault, flags_fault, long_fault, option_fault}
use Rattle.clap.specs.Faults.{other_fault, positional_fault, react_fault, settle_fault, short_fault, step_fault}
use Rattle.clap.specs.Faults.{stray_fault, turn_fault, use_fault, walk_fault, word_fault}
use Rattle.clap.specs.declared.error.ErrorKind.TheVariants.{TooManyValues}
use Rattle.command_line.proofs.ClapFacts.Stops.{both_empty}
use Rattle.command_line.proofs.ClapFacts.Filled.{AreFilled, Each, Fills, IfRule, defaults_filled, found}

module _ (c : List Rule) (again : Bool) (each : Each Fills c) where
  used_filled : (o : Option Rule) (values : List Text) (rows : List Row) → IfRule o → AreFilled rows
      → option_map_or (λ a. use_fault again a values rows) o [] ≡ [] → AreFilled (used_by_id o values rows)
  used_filled None values rows fills e fine = e
  used_filled (Some a) values rows fills e fine = fills again values rows e fine

  pending_filled : (p : Option (Text × List Text)) (rows : List Row) → AreFilled rows
      → option_map_or (λ p. option_map_or (λ a. use_fault again a p.1 rows) (arg_by_id c p.0) []) p [] ≡ []
      → AreFilled (settled_rows c p rows)
  pending_filled None rows e fine = e
  pending_filled (Some p) rows e fine =
      used_filled (arg_by_id c p.0) p.1 rows (found (λ a. bytes_eq a.id p.0) c each) e fine

  pub settled_filled : (h : Held) → AreFilled h.rows → settle_fault c again h ≡ [] → AreFilled (settled c h).rows
  settled_filled h e fine = pending_filled h.pending h.rows e fine

  reacted_filled : (a : Rule) (values : List Text) (h : Held) → Fills a → AreFilled h.rows
      → react_fault c again a values h ≡ []
      → AreFilled (reacted c a values h).rows
  reacted_filled a values h fills e fine =
      let parts = both_empty (settle_fault c again h) (use_fault again a values (settled c h).rows) fine in
      fills again values (settled c h).rows (settled_filled h e parts.0) parts.1

  -- ---- flags

  option_filled : (a : Rule) (v : Option Text) (h : Held) → Fills a → AreFilled h.rows
      → option_fault c again a v h ≡ []
      → AreFilled (option_met c a v h).0.rows
  option_filled a (Some v) h fills e fine = reacted_filled a (v ∷ []) h fills e fine
  option_filled a None h fills e fine = settled_filled h e fine

  flag_filled : (a : Rule) (v : Option Text) (h : Held) → Fills a → AreFilled h.rows
      → cond (is_some v) (TooManyValues ∷ []) (react_fault c again a [] h) ≡ [] → AreFilled (flag_met c a v h).0.rows
  flag_filled a (Some v) h fills e fine = e
  flag_filled a None h fills e fine = reacted_filled a [] h fills e fine

  long_filled : (o : Option Rule) (v : Option Text) (h : Held) → IfRule o → AreFilled h.rows
      → long_fault c again o v h ≡ []
      → AreFilled (long_met c o v h).0.rows
  long_filled None v h fills e fine = e
  long_filled (Some a) v h fills e fine = go (takes_values a) fine
    where
      go : (b : Bool) → cond b (option_fault c again a v h)
          (cond (is_some v) (TooManyValues ∷ []) (react_fault c again a [] h)) ≡ []
          → AreFilled (cond b (option_met c a v h) (flag_met c a v h)).0.rows
      go true here = option_filled a v h fills e here
      go false here = flag_filled a v h fills e here

  short_filled : (o : Option Rule) (rest : Text) (h : Held) (then : Held → Held × Outcome) (then_fault : Held → Kinds)
      → IfRule o
      → AreFilled h.rows → ((g : Held) → AreFilled g.rows → then_fault g ≡ [] → AreFilled (then g).0.rows)
      → short_fault c again o rest h then_fault ≡ [] → AreFilled (short_met c o rest h then).0.rows
  short_filled None rest h then then_fault fills e later fine = e
  short_filled (Some a) rest h then then_fault fills e later fine = go (takes_values a) fine
    where
      go : (b : Bool) → cond b (option_fault c again a (attached_value rest) h)
          (or_else (react_fault c again a [] h) (then_fault (reacted c a [] h))) ≡ []
          → AreFilled (cond b (option_met c a (attached_value rest) h) (then (reacted c a [] h))).0.rows
      go true here = option_filled a (attached_value rest) h fills e here
      go false here =
          let parts = both_empty (react_fault c again a [] h) (then_fault (reacted c a [] h)) here in
          later (reacted c a [] h) (reacted_filled a [] h fills e parts.0) parts.1

  bundle_step_filled : (x : Option ℕ) (flags : Text) (skip : ℕ) (so_far : Outcome) (h : Held)
      (then : Text → ℕ → Outcome → Held → Held × Outcome) (then_fault : Text → ℕ → Held → Kinds)
      → ((rest : Text) (k : ℕ) (o : Outcome) (g : Held) → AreFilled g.rows → then_fault rest k g ≡ []
      → AreFilled (then rest k o g).0.rows)
      → AreFilled h.rows → bundle_step_fault c again x flags skip h then_fault ≡ []
      → AreFilled (bundle_step c x flags skip so_far h then).0.rows
  bundle_step_filled None flags skip so_far h then then_fault later e fine = e
  bundle_step_filled (Some x) flags zero so_far h then then_fault later e fine =
      let rest = drop (length (encode_utf8 x)) flags in
      short_filled (arg_by_short c x) rest h (then rest 0 done) (then_fault rest 0)
      (found (λ a. not (is_some a.index) && has_short a x) c each) e (λ g. later rest 0 done g) fine
  bundle_step_filled (Some x) flags (suc skip) so_far h then then_fault later e fine =
      later (drop (length (encode_utf8 x)) flags) skip so_far h e fine

  bundle_filled : (k : ℕ) (flags : Text) (skip : ℕ) (so_far : Outcome) (h : Held) → AreFilled h.rows
      → flags_fault c again k flags skip h ≡ [] → AreFilled (bundle_met c k flags skip so_far h).0.rows
  unfolding bundle_met flags_fault
  bundle_filled zero flags skip so_far h e fine = e
  bundle_filled (suc k) flags skip so_far h e fine =
      bundle_step_filled (slice_get (chars flags) 0) flags skip so_far h (bundle_met c k) (flags_fault c again k)
      (λ rest n o g. bundle_filled k rest n o g) e fine

  -- ---- words

  option_word_filled : (o : Option Rule) (id word : Text) (h : Held) → AreFilled h.rows
      → AreFilled (option_word o id word h).0.rows
  option_word_filled None id word h e = e
  option_word_filled (Some a) id word h e = e

  plain_filled : (waiting : Waiting) (word : Text) (h : Held) → AreFilled h.rows
      → AreFilled (plain_word c waiting word h).0.rows
  plain_filled (option id) word h e = option_word_filled (arg_by_id c id) id word h e
  plain_filled idle word h e = e
  plain_filled positional word h e = e

  after_flag_filled : (waiting : Waiting) (word : Text) (h : Held) (outcome : Outcome) → AreFilled h.rows
      → AreFilled (after_flag c waiting word h outcome).0.rows
  after_flag_filled waiting word h done e = e
  after_flag_filled waiting word h (waits id) e = e
  after_flag_filled waiting word h plain e = plain_filled waiting word h e
  after_flag_filled waiting word h refused e = plain_filled waiting word h e

  short_word_filled : (waiting : Waiting) (word : Text) (flags : Option Text) (h : Held) → AreFilled h.rows
      → option_map_or (λ f. bundle_fault c again f h) flags [] ≡ []
      → AreFilled (short_or_plain c waiting word flags h).0.rows
  short_word_filled waiting word None h e fine = plain_filled waiting word h e
  short_word_filled waiting word (Some flags) h e fine =
      let met = bundle_met c (length flags) flags h.skip plain (record h { skip = 0 }) in
      after_flag_filled waiting word met.0 met.1
      (bundle_filled (length flags) flags h.skip plain (record h { skip = 0 }) e fine)

  other_filled : (waiting : Waiting) (word : Text) (long : Option (Text × Option Text)) (h : Held) → AreFilled h.rows
      → flag_word_fault c again long word h ≡ [] → AreFilled (long_or_other c waiting word long h).0.rows
  other_filled waiting word None h e fine = short_word_filled waiting word (short_of word) h e fine
  other_filled waiting word (Some p) h e fine =
      let met = long_met c (arg_by_long c p.0) p.1 h in
      after_flag_filled waiting word met.0 met.1
      (long_filled (arg_by_long c p.0) p.1 h (found (λ a. not (is_some a.index) && has_long a p.0) c each) e fine)

  positional_filled : (a : Rule) (word : Text) (h : Held) → AreFilled h.rows → positional_fault c again a h ≡ []
      → AreFilled (pushed a.id word (cond (is_pending a h.pending && takes_several a) h (settled c h))).rows
  positional_filled a word h e fine = go (is_pending a h.pending && takes_several a) fine
    where
      go : (b : Bool) → cond b [] (settle_fault c again h) ≡ []
          → AreFilled (pushed a.id word (cond b h (settled c h))).rows
      go true here = e
      go false here = settled_filled h e here

module _ (s : Shape) (names : Names) (each : Each Fills s.rules) where
  abbrev again : Bool
  again = s.args_override_self

  word_filled : (is_trailing : Bool) (waiting : Waiting) (position : ℕ) (word : Text) (h : Held) → AreFilled h.rows
      → word_fault s names is_trailing waiting word h ≡ []
      → AreFilled (word_met s.rules names is_trailing waiting position word h).0.rows
  word_filled true waiting position word h e fine = e
  word_filled false waiting position word h e fine = go (subcommand_met names waiting word) fine
    where
      dashes : (b : Bool) → cond b [] (flag_word_fault s.rules again (long_of word) word h) ≡ []
          → AreFilled (cond b (h, trailing position) (long_or_other s.rules waiting word (long_of word) h)).0.rows
      dashes true here = e
      dashes false here = other_filled s.rules again each waiting word (long_of word) h e here

      go : (o : Option Text) → other_fault s o word h ≡ []
          → AreFilled (subcommand_or_other s.rules o waiting position word h).0.rows
      go (Some name) here = e
      go None here = dashes (bytes_eq word (45 ∷ 45 ∷ [])) here

  value_filled : (a : Option Rule) (word : Text) (w : Walk) (h : Held) → AreFilled h.rows
      → option_map_or (λ a. positional_fault s.rules again a h) a (stray_fault s) ≡ []
      → AreFilled (to_positional s.rules a word w h).held.rows
  value_filled None word w h e fine = e
  value_filled (Some a) word w h e fine = positional_filled s.rules again each a word h e fine

  step_filled : (word : Text) (w : Walk) (h : Held) (step : Step) → AreFilled h.rows
      → step_fault s w.position h step ≡ []
      → AreFilled (after_step s.rules word w h step).held.rows
  step_filled word w h (next waiting) e fine = e
  step_filled word w h (trailing position) e fine = e
  step_filled word w h (subcommand name) e fine = e
  step_filled word w h value e fine = value_filled (arg_by_index s.rules w.position) word w h e fine

  abbrev met : Walk → Text → Held × Step
  met w word = word_met s.rules names w.is_trailing w.waiting w.position word w.held

  abbrev met_fault : Walk → Text → Kinds
  met_fault w word = word_fault s names w.is_trailing w.waiting word w.held

  abbrev taken_fault : Walk → Text → Kinds
  taken_fault w word = step_fault s w.position (met w word).0 (met w word).1

  turn_filled : (w : Walk) (word : Text) → AreFilled w.held.rows → turn_fault s names w word ≡ []
      → AreFilled (walked s.rules names w word).held.rows
  unfolding walked
  turn_filled w word e fine = go w.stopped fine
    where
      go : (o : Option (Text × List Text))
          → cond (is_some o) [] (or_else (met_fault w word) (taken_fault w word)) ≡ []
          → AreFilled (walked_from s.rules names o w word).held.rows
      go (Some p) here = e
      go None here =
          let parts = both_empty (met_fault w word) (taken_fault w word) here in
          step_filled word w (met w word).0 (met w word).1
          (word_filled w.is_trailing w.waiting w.position word w.held e parts.0) parts.1

  walk_filled : (w : Walk) (words : List Text) → AreFilled w.held.rows → walk_fault s names w words ≡ []
      → AreFilled (fold (walked s.rules names) w words).held.rows
  unfolding walk_fault
  walk_filled w [] e fine = e
  walk_filled w (word ∷ rest) e fine =
      let parts = both_empty (turn_fault s names w word) (walk_fault s names (walked s.rules names w word) rest) fine
      in
      walk_filled (walked s.rules names w word) rest (turn_filled w word e parts.0) parts.1

  pub level_filled : (words : List Text) → walk_fault s names (walk_from nothing_held) words ≡ []
      → settle_fault s.rules again (walk s.rules names nothing_held words).held ≡ []
      → AreFilled (rows_after s.rules names words)
  level_filled words walks settles =
      let end = (walk s.rules names nothing_held words).held in
      defaults_filled s.rules (settled s.rules end).rows
      (settled_filled s.rules again each end (walk_filled (walk_from nothing_held) words refl walks) settles)
