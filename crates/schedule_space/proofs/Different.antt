-- Lists without a repetition, and edges that are not there yet.
use Rattle.std.proofs.Common.{◌≡◌, ℕ, zero, suc, ◌+◌, ◌<◌, ◌≤◌, refl, sym, ap, ◌∙◌, subst, arith, List, [], ◌∷◌, ◌++◌}
use Rattle.std.proofs.Common.{◌⊎◌, inl, inr, length, get_or, length-append}
use Rattle.std.specs.List.{Contains}
use Rattle.std.proofs.lemmas.Bool.{cases_lt}
use Rattle.std.proofs.lemmas.List.{get_or_append_left}
use Rattle.std.proofs.lemmas.List.Elements.{Contains-get_or, Contains-push_cases}
use Rattle.std.proofs.Math.Seq.{get_or-append_seam}
use Rattle.processor.specs.declared.steps.Step.{Step}
use Rattle.schedule_space.specs.declared.links.Edge.{Edge}
use Rattle.schedule_space.specs.Spaces.{SpaceValue, AreAllDifferent}
use Rattle.schedule_space.specs.Finding.{HasNoEdge, HaveNoEdges}

module _ {A : Type 0} where
  pub different_none : (xs : List A) → xs ≡ [] → AreAllDifferent xs
  different_none xs none = λ j k d less below. absurd (omega (arith, less, below, ap length none))

  pub different_push : (xs : List A) (x : A) → AreAllDifferent xs → (Contains xs x → ⊥) → AreAllDifferent (xs ++ x ∷ [])
  different_push xs x all off = λ j k d less below. by_case j k d less (cases_lt k (length xs)) below where
    by_case : (j k : ℕ) (d : A) → j < k → (k < length xs) ⊎ (length xs ≤ k) → k < length (xs ++ x ∷ [])
        → get_or (xs ++ x ∷ []) j d ≡ get_or (xs ++ x ∷ []) k d → ⊥
    by_case j k d less (inl inside) below same =
        all j k d less inside
        (sym (get_or_append_left xs (x ∷ []) d j (omega (arith, less, inside)))
        ∙ same
        ∙ get_or_append_left xs (x ∷ []) d k inside)
    by_case j k d less (inr past) below same =
        let last : k ≡ length xs = omega (arith, past, below, length-append xs (x ∷ [])) in
        let here : j < length xs = omega (arith, less, last) in
        let at : get_or xs j d ≡ x =
        sym (get_or_append_left xs (x ∷ []) d j here)
        ∙ same
        ∙ ap (λ n. get_or (xs ++ x ∷ []) n d) last
        ∙ get_or-append_seam xs x [] d in
        off (subst (Contains xs) at (Contains-get_or xs j d here))

  -- so it is of the same list
  pub different_same : (xs ys : List A) → ys ≡ xs → AreAllDifferent xs → AreAllDifferent ys
  different_same xs ys is all = subst (λ (zs : List A). AreAllDifferent zs) (sym is) all

-- Edges that are not there.

pub no_edge_same : (v w : SpaceValue) (from : ℕ) (t : Step) → w.edges ≡ v.edges → HasNoEdge v from t → HasNoEdge w from t
no_edge_same v w from t same none = λ e has. none e (subst (λ (es : List Edge). Contains es e) same has)

pub no_edge_more : (v w : SpaceValue) (d : Edge) (from : ℕ) (t : Step) → w.edges ≡ v.edges ++ d ∷ []
    → (t ≡ d.step → ⊥) → HasNoEdge v from t → HasNoEdge w from t
no_edge_more v w d from t more off none = λ e has.
    by_case e (Contains-push_cases v.edges d e (subst (λ (es : List Edge). Contains es e) more has)) where
      by_case : (e : Edge) → Contains v.edges e ⊎ (d ≡ e) → e.from ≡ from → e.step ≡ t → ⊥
      by_case e (inl has) = none e has
      by_case e (inr last) = λ _ same. off (sym same ∙ sym (ap (λ (x : Edge). x.step) last))

-- where all edges are from earlier places
pub no_edges_yet : (v : SpaceValue) (from : ℕ) (ts : List Step) → ((e : Edge) → Contains v.edges e → e.from < from)
    → HaveNoEdges v from ts
no_edges_yet v from ts earlier t has e edge same =
    let less : e.from < from = earlier e edge in absurd (omega (arith, less, same))

-- The steps of a list from a place on.

abbrev pub HaveNoEdgesFrom : SpaceValue → ℕ → List Step → ℕ → Type 0
HaveNoEdgesFrom v from ts n = (k : ℕ) (d : Step) → n ≤ k → k < length ts → HasNoEdge v from (get_or ts k d)

pub no_edges_at : (v : SpaceValue) (from : ℕ) (ts : List Step) → HaveNoEdges v from ts → HaveNoEdgesFrom v from ts 0
no_edges_at v from ts none k d past below = none (get_or ts k d) (Contains-get_or ts k d below)

-- what is read at a place that is there
same_read : (ts : List Step) (k : ℕ) (c d : Step) → k < length ts → get_or ts k c ≡ get_or ts k d
same_read [] k c d below = absurd (omega arith)
same_read (t ∷ ts) zero c d below = refl
same_read (t ∷ ts) (suc k) c d below = same_read ts k c d (omega (arith, below))

-- one of them is taken
pub no_edges_next : (v w : SpaceValue) (from n : ℕ) (ts : List Step) (u c : Step) → AreAllDifferent ts
    → u ≡ get_or ts n c → ((t : Step) → (t ≡ u → ⊥) → HasNoEdge v from t → HasNoEdge w from t) → n < length ts
    → HaveNoEdgesFrom v from ts n → HaveNoEdgesFrom w from ts (n + 1)
no_edges_next v w from n ts u c all here stays within none k d past below =
    stays (get_or ts k d)
    (λ same. all n k c (omega (arith, past)) below (sym here ∙ sym same ∙ same_read ts k d c below))
    (none k d (omega (arith, past)) below)

-- Steps that wait are among those before a place.

abbrev pub AreBefore : List Step → List Step → ℕ → Type 0
AreBefore others ts n = (t : Step) → Contains others t → (k : ℕ) × (k < n) × (get_or ts k t ≡ t)

-- what holds of those that wait
pub record Waiting (v : SpaceValue) (from : ℕ) (others ts : List Step) (n : ℕ) : Type 0 where
  pub once : AreAllDifferent others
  pub new : HaveNoEdges v from others
  pub before : AreBefore others ts n

pub waiting_none : (v : SpaceValue) (from : ℕ) (others ts : List Step) → others ≡ [] → Waiting v from others ts 0
waiting_none v from others ts none = record {
  once = different_none others none;
  new = λ t has. absurd (omega (arith, has.1, ap length none));
  before = λ t has. absurd (omega (arith, has.1, ap length none));
}

-- a step before a place is another one than that at it
apart_before : (ts : List Step) (n k : ℕ) (t u c : Step) → AreAllDifferent ts → u ≡ get_or ts n c → n < length ts → k < n
    → get_or ts k t ≡ t → t ≡ u → ⊥
apart_before ts n k t u c all here within less at same =
    all k n c less within
    (same_read ts k c t (omega (arith, less, within)) ∙ at ∙ same ∙ here)

-- the next step is taken, or waits too
pub waiting_next : (v w : SpaceValue) (from n : ℕ) (old new ts : List Step) (u c : Step) → AreAllDifferent ts
    → u ≡ get_or ts n c → n < length ts → ((t : Step) → (t ≡ u → ⊥) → HasNoEdge v from t → HasNoEdge w from t)
    → (new ≡ old) ⊎ ((new ≡ old ++ u ∷ []) × (w ≡ v)) → HaveNoEdgesFrom v from ts n → Waiting v from old ts n
    → Waiting w from new ts (n + 1)
waiting_next v w from n old new ts u c all here within stays waits none is = by_case waits where
  later : AreBefore old ts (n + 1)
  later t has = let b = is.before t has in (b.0, omega (arith, b.1), b.2)

  off : (t : Step) → Contains old t → t ≡ u → ⊥
  off t has = let b = is.before t has in apart_before ts n b.0 t u c all here within b.1 b.2

  kept : HaveNoEdges w from old
  kept t has = stays t (off t has) (is.new t has)

  here_new : HasNoEdge v from u
  here_new = subst (HasNoEdge v from) (sym here) (none n c (omega arith) within)

  by_last : (t : Step) → Contains old t ⊎ (u ≡ t) → HasNoEdge v from t
  by_last t (inl has) = is.new t has
  by_last t (inr last) = subst (HasNoEdge v from) last here_new

  before_last : (t : Step) → Contains old t ⊎ (u ≡ t) → (k : ℕ) × (k < n + 1) × (get_or ts k t ≡ t)
  before_last t (inl has) = later t has
  before_last t (inr last) = (n, omega arith, same_read ts n t c within ∙ sym here ∙ last)

  by_case : (new ≡ old) ⊎ ((new ≡ old ++ u ∷ []) × (w ≡ v)) → Waiting w from new ts (n + 1)
  by_case (inl same) = subst (λ (xs : List Step). Waiting w from xs ts (n + 1)) (sym same) (record {
    once = is.once;
    new = kept;
    before = later;
  })
  by_case (inr more) =
      subst (λ (xs : List Step). Waiting w from xs ts (n + 1)) (sym more.0)
      (subst (λ (x : SpaceValue). Waiting x from (old ++ u ∷ []) ts (n + 1)) (sym more.1) (record {
        once = different_push old u is.once (λ has. off u has refl);
        new = λ t has. by_last t (Contains-push_cases old u t has);
        before = λ t has. before_last t (Contains-push_cases old u t has);
      }))
