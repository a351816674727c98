-- Marks of a claim, and what they say.
use Rattle.std.proofs.Common.{◌≡◌, ℕ, zero, suc, ◌+◌, ◌<◌, ◌≤◌, ◌⊎◌, inl, inr, refl, sym, ap, ◌∙◌, subst, arith}
use Rattle.std.proofs.Common.{Bool, true, false, ◌&&◌, List, [], ◌∷◌, ◌++◌, length, map, take, set, get_or, Some, slice_get}
use Rattle.std.specs.Prelude.{IsTrue, slice_index_or}
use Rattle.std.specs.List.{All, list_all}
use Rattle.std.proofs.lemmas.Bool.{cases_lt}
use Rattle.std.proofs.lemmas.List.{get_or-set_same, get_or-set_other, get_or-map, length-map, take_more, map-append}
use Rattle.std.proofs.lemmas.Option.{slice_get_read}
use Rattle.std.proofs.lemmas.List.Sums.{AllPass-from_list_all, list_all-from_AllPass}
use Rattle.machine.specs.Processor.World.{World}
use Rattle.claims.specs.Holding.{holds, shows, holds_by, shown_by, form_holds}
use Rattle.claims.specs.declared.claim.Claim.{Claim}
use Rattle.claims.specs.declared.claim.Scope.{Scope}
use Rattle.claims.specs.declared.claim.Scope.TheVariants.{Always, Never, Once}
use Rattle.busy_streams.specs.ScheduleSpace.Spaces.{SpaceValue, count, world_of, StandsFor}
use Rattle.schedule_verdicts.specs.KeptClaims.{all_hold, IsKept, AreKept}
use Rattle.schedule_verdicts.specs.ClaimMarks.{passes, marks_for, MarksValue, IsMark, IsMarkOf, AreMarks, AreOfSpace, AreJudgedBy}
use Rattle.schedule_verdicts.specs.declared.claim_marks.Mark.{Mark}
use Rattle.schedule_verdicts.specs.declared.claim_marks.Mark.TheVariants as mark
use Rattle.schedule_verdicts.proofs.Alike.{agreeing_passes}

-- What a world passes.

with_nothing : (b : Bool) → (b && true) ≡ b
with_nothing true = refl
with_nothing false = refl

pub always : (w : World) (c : Claim) → c.scope ≡ Always → passes w c ≡ holds w c
always w c is =
    ap (λ s. holds_by s (form_holds w c.form) && shown_by s (form_holds w c.form)) is
    ∙ with_nothing (form_holds w c.form)
    ∙ sym (ap (λ s. holds_by s (form_holds w c.form)) is)

pub never : (w : World) (c : Claim) → c.scope ≡ Never → passes w c ≡ holds w c
never w c is =
    ap (λ s. holds_by s (form_holds w c.form) && shown_by s (form_holds w c.form)) is
    ∙ with_nothing (holds_by Never (form_holds w c.form))
    ∙ sym (ap (λ s. holds_by s (form_holds w c.form)) is)

pub once : (w : World) (c : Claim) → c.scope ≡ Once → passes w c ≡ shows w c
once w c is =
    ap (λ s. holds_by s (form_holds w c.form) && shown_by s (form_holds w c.form)) is
    ∙ sym (ap (λ s. shown_by s (form_holds w c.form)) is)

-- Marks.

-- what is known of a world is known of the one that stands for it
pub mark_alike : (v : SpaceValue) (k : ℕ) (w : World) (c : Claim) (m : Mark) → StandsFor v k w
    → IsMark (passes w c) m → IsMarkOf v c k m
mark_alike v k w c m stands is =
    subst (λ (b : Bool). IsMark b m) (sym (agreeing_passes v.live (world_of v k) w stands c)) is

-- one mark more
pub marked : (v : SpaceValue) (c : Claim) (marks : List Mark) (place : ℕ) (m : Mark) → place < length marks
    → AreMarks v c marks → IsMarkOf v c place m → AreMarks v c (set marks place m)
marked v c marks place m below are is k = by (cases_lt k place) (cases_lt place k) where
  other : ¬ (k ≡ place) → IsMarkOf v c k (slice_index_or (set marks place m) k mark.Unknown)
  other apart = subst (IsMarkOf v c k) (sym (get_or-set_other marks place k m mark.Unknown apart)) (are k)

  by : (k < place) ⊎ (place ≤ k) → (place < k) ⊎ (k ≤ place)
      → IsMarkOf v c k (slice_index_or (set marks place m) k mark.Unknown)
  by (inl less) more = other (λ same. omega (arith, less, same))
  by (inr least) (inl more) = other (λ same. omega (arith, more, same))
  by (inr least) (inr most) =
      let same : place ≡ k = omega (arith, least, most) in
      subst (λ (n : ℕ). IsMarkOf v c n (slice_index_or (set marks place m) n mark.Unknown)) same
      (subst (IsMarkOf v c place) (sym (get_or-set_same marks place m mark.Unknown below)) is)

-- The marks of claims.

pub of_space : (v : SpaceValue) (cs : List Claim) → AreOfSpace v (map (marks_for v) cs)
of_space v [] k d below = absurd (omega (arith, below))
of_space v (c ∷ cs) zero d below = refl
of_space v (c ∷ cs) (suc k) d below = of_space v cs k d (omega (arith, below))

pub judged_by : (v : SpaceValue) (place : ℕ) (w : World) (marks : List MarksValue) → AreOfSpace v marks
    → StandsFor v place w → AreJudgedBy place w marks
judged_by v place w marks of stands k d below =
    subst (λ (u : SpaceValue). StandsFor u place w) (sym (of k d below)) stands

-- of one claim more
pub claim_more : (v : SpaceValue) (cs : List Claim) (n : ℕ) (c : Claim) (marks : List MarksValue) (m : MarksValue)
    → n < length cs → c ≡ get_or cs n c → m ≡ marks_for v c → marks ≡ map (marks_for v) (take n cs)
    → marks ++ m ∷ [] ≡ map (marks_for v) (take (n + 1) cs)
claim_more v cs n c marks m below read is are =
    (λ i. are i ++ is i ∷ [])
    ∙ ap (λ (d : Claim). map (marks_for v) (take n cs) ++ marks_for v d ∷ []) read
    ∙ sym (map-append (marks_for v) (take n cs) (get_or cs n c ∷ []))
    ∙ sym (ap (map (marks_for v)) (take_more cs n c below))

-- of the claim at a place
pub claim_at : (v : SpaceValue) (cs : List Claim) (marks : List MarksValue) (n : ℕ) (m : MarksValue) (d : Claim)
    → marks ≡ map (marks_for v) cs → n < length marks → m ≡ get_or marks n m → m ≡ marks_for v (get_or cs n d)
claim_at v cs marks n m d are below read =
    let long : length marks ≡ length cs = ap length are ∙ length-map cs (marks_for v) in
    read ∙ ap (λ (ms : List MarksValue). get_or ms n m) are
    ∙ get_or-map (marks_for v) cs n d m (omega (arith, below, long))

-- so its space, and the claim that stands there
pub space_at : (v : SpaceValue) (cs : List Claim) (marks : List MarksValue) (n : ℕ) (m : MarksValue)
    → marks ≡ map (marks_for v) cs → n < length marks → m ≡ get_or marks n m → m.space ≡ v
space_at v cs marks n m are below read =
    ap (λ (x : MarksValue). x.space) (claim_at v cs marks n m m.claim are below read)

pub there_at : (v : SpaceValue) (cs : List Claim) (marks : List MarksValue) (n : ℕ) (m : MarksValue)
    → marks ≡ map (marks_for v) cs → n < length marks → m ≡ get_or marks n m → slice_get cs n ≡ Some m.claim
there_at v cs marks n m are below read =
    let long : length marks ≡ length cs = ap length are ∙ length-map cs (marks_for v) in
    slice_get_read cs (length cs) n m.claim refl (omega (arith, below, long))
    (ap (λ (x : MarksValue). x.claim) (claim_at v cs marks n m m.claim are below read))

-- as many as there are claims
pub as_many : (v : SpaceValue) (cs : List Claim) (marks : List MarksValue) → marks ≡ map (marks_for v) cs
    → length marks ≡ length cs
as_many v cs marks are = ap length are ∙ length-map cs (marks_for v)

-- Claims that hold of each world.

pub all_kept : (v : SpaceValue) (cs : List Claim) → ((j : ℕ) (d : Claim) → j < length cs → IsKept v (get_or cs j d))
    → AreKept v cs
all_kept v cs each k below = list_all-from_AllPass (holds (world_of v k)) cs (λ j d within. each j d within k below)

pub one_kept : (v : SpaceValue) (cs : List Claim) → AreKept v cs → (j : ℕ) (d : Claim) → j < length cs
    → IsKept v (get_or cs j d)
one_kept v cs all j d within k below = AllPass-from_list_all (holds (world_of v k)) cs (all k below) j d within

-- one claim more, by its marks
pub kept_more : (v : SpaceValue) (cs : List Claim) (marks : List MarksValue) (n : ℕ) (m : MarksValue)
    → marks ≡ map (marks_for v) cs → n < length marks → m ≡ get_or marks n m → IsKept v m.claim
    → ((j : ℕ) (d : Claim) → j < n → IsKept v (get_or cs j d)) → (j : ℕ) (d : Claim) → j < n + 1
    → IsKept v (get_or cs j d)
kept_more v cs marks n m are below read here before j d within = by (cases_lt j n) where
  by : (j < n) ⊎ (n ≤ j) → IsKept v (get_or cs j d)
  by (inl less) = before j d less
  by (inr most) =
      let same : n ≡ j = omega (arith, within, most) in
      subst (λ (k : ℕ). IsKept v (get_or cs k d)) same
      (subst (λ (x : MarksValue). IsKept v x.claim) (claim_at v cs marks n m d are below read) here)

-- where all hold, one does
pub kept_here : (v : SpaceValue) (cs : List Claim) (marks : List MarksValue) (n : ℕ) (m : MarksValue)
    → marks ≡ map (marks_for v) cs → n < length marks → m ≡ get_or marks n m → AreKept v cs → IsKept v m.claim
kept_here v cs marks n m are below read all =
    let long : length marks ≡ length cs = ap length are ∙ length-map cs (marks_for v) in
    subst (λ (x : MarksValue). IsKept v x.claim) (sym (claim_at v cs marks n m m.claim are below read))
    (one_kept v cs all n m.claim (omega (arith, below, long)))
