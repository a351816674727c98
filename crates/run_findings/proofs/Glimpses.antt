-- What a step sees of another stream's change.
use Rattle.std.proofs.Common.{◌≡◌, ℕ, Bool, true, false, not, cond, List, Option, Some, None, refl, sym, ap, ◌∙◌}
use Rattle.std.proofs.Common.{subst, unwrap_or, ◌&&◌}
use Rattle.std.specs.List.{slice_get}
use Rattle.std.proofs.lemmas.Bool.{false≢true, eqb-true, eq-eqb}
use Rattle.run_findings.specs.Actions.{writes, is_by}
use Rattle.run_findings.specs.Places.{last_before}
use Rattle.run_findings.specs.TornReads.{word_loaded, word_changed, is_change_of, glimpse_between, glimpse_of, glimpse_from}
use Rattle.run_findings.specs.TornReads.{glimpse_word, glimpse_step, glimpse_at}
use Rattle.run_findings.specs.declared.actions.Action.{Action}
use Rattle.run_findings.specs.declared.glimpse.Glimpse.{Glimpse}
use Rattle.run_findings.proofs.Finding.{both_true}

pub not_true : (b : Bool) → not b ≡ true → b ≡ false
not_true true h = sym h
not_true false h = refl

-- step j, which is the reader, sees the change of a word that the writer made
pub record IsGlimpse (ds : List Action) (j : ℕ) (g : Glimpse) : Type 0 where
  pub reader : Action
  pub writer : Action
  pub stands : slice_get ds j ≡ Some reader
  pub reads : word_loaded reader.access ≡ Some g.fresh
  pub seen : last_before (writes g.fresh) ds j ≡ Some g.fresh_write
  pub stood : slice_get ds g.fresh_write ≡ Some writer
  pub changes : word_changed writer.access ≡ Some g.fresh
  pub others : is_by reader.stream writer ≡ false
  pub is : glimpse_between reader j g.fresh g.fresh_write writer ≡ g

changed-is : (b : ℕ) (o : Option ℕ) → is_change_of b o ≡ true → o ≡ Some b
changed-is b None h = absurd (false≢true h)
changed-is b (Some c) h = ap Some (eqb-true c b h)

by_test : (ds : List Action) (d e : Action) (j b l : ℕ) (g : Glimpse) (t : Bool)
    → (is_change_of b (word_changed e.access) && not (is_by d.stream e)) ≡ t
    → slice_get ds j ≡ Some d → word_loaded d.access ≡ Some b → last_before (writes b) ds j ≡ Some l
    → slice_get ds l ≡ Some e → cond t (Some (glimpse_between d j b l e)) None ≡ Some g → IsGlimpse ds j g
by_test ds d e j b l g false test stands reads seen stood is = absurd cc
by_test ds d e j b l g true test stands reads seen stood is =
    let both = both_true (is_change_of b (word_changed e.access)) (not (is_by d.stream e)) test in
    let same : glimpse_between d j b l e ≡ g = ap (λ o. unwrap_or o (glimpse_between d j b l e)) is in
    subst (IsGlimpse ds j) same (record {
      reader = d;
      writer = e;
      stands = stands;
      reads = reads;
      seen = seen;
      stood = stood;
      changes = changed-is b (word_changed e.access) both.0;
      others = not_true (is_by d.stream e) both.1;
      is = refl;
    })

by_writer : (ds : List Action) (d : Action) (j b l : ℕ) (g : Glimpse) (o : Option Action)
    → slice_get ds j ≡ Some d → word_loaded d.access ≡ Some b → last_before (writes b) ds j ≡ Some l
    → slice_get ds l ≡ o → glimpse_of d j b l o ≡ Some g → IsGlimpse ds j g
by_writer ds d j b l g None stands reads seen stood is = absurd cc
by_writer ds d j b l g (Some e) stands reads seen stood is =
    by_test ds d e j b l g (is_change_of b (word_changed e.access) && not (is_by d.stream e)) refl stands reads seen stood
    is

by_write : (ds : List Action) (d : Action) (j b : ℕ) (g : Glimpse) (o : Option ℕ)
    → slice_get ds j ≡ Some d → word_loaded d.access ≡ Some b → last_before (writes b) ds j ≡ o
    → glimpse_from ds d j b o ≡ Some g → IsGlimpse ds j g
by_write ds d j b g None stands reads seen is = absurd cc
by_write ds d j b g (Some l) stands reads seen is =
    by_writer ds d j b l g (slice_get ds l) stands reads seen refl is

by_word : (ds : List Action) (d : Action) (j : ℕ) (g : Glimpse) (o : Option ℕ)
    → slice_get ds j ≡ Some d → word_loaded d.access ≡ o → glimpse_word ds d j o ≡ Some g → IsGlimpse ds j g
by_word ds d j g None stands reads is = absurd cc
by_word ds d j g (Some b) stands reads is =
    by_write ds d j b g (last_before (writes b) ds j) stands reads refl is

by_step : (ds : List Action) (j : ℕ) (g : Glimpse) (o : Option Action)
    → slice_get ds j ≡ o → glimpse_step ds j o ≡ Some g → IsGlimpse ds j g
by_step ds j g None stands is = absurd cc
by_step ds j g (Some d) stands is = by_word ds d j g (word_loaded d.access) stands refl is

pub glimpse-is : (ds : List Action) (j : ℕ) (g : Glimpse) → glimpse_at ds j ≡ Some g → IsGlimpse ds j g
unfolding glimpse_at
glimpse-is ds j g is = by_step ds j g (slice_get ds j) refl is

-- the other way

change_test : (b : ℕ) (o : Option ℕ) (t : Bool) → o ≡ Some b → t ≡ false → (is_change_of b o && not t) ≡ true
change_test b o t changes others =
    ap (λ p. is_change_of b p && not t) changes ∙ ap (λ v. v && not t) (eq-eqb b b refl) ∙ ap not others

pub glimpse-there : (ds : List Action) (j : ℕ) (g : Glimpse) → IsGlimpse ds j g → glimpse_at ds j ≡ Some g
unfolding glimpse_at
glimpse-there ds j g h =
    let d = h.reader in
    let e = h.writer in
    let b = g.fresh in
    ap (glimpse_step ds j) h.stands ∙ ap (glimpse_word ds d j) h.reads ∙ ap (glimpse_from ds d j b) h.seen
    ∙ ap (glimpse_of d j b g.fresh_write) h.stood
    ∙ ap (λ t. cond t (Some (glimpse_between d j b g.fresh_write e)) None)
    (change_test b (word_changed e.access) (is_by d.stream e) h.changes h.others)
    ∙ ap Some h.is
