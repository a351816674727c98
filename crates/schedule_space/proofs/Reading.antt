-- The schedule of a place, read back from its links.
use Rattle.std.proofs.Common.{◌≡◌, ℕ, zero, suc, ◌+◌, ◌<◌, ◌≤◌, refl, sym, ap, ◌∙◌, subst, arith, List, [], ◌∷◌, ◌++◌}
use Rattle.std.proofs.Common.{length, get_or, append_assoc, reverse}
use Rattle.std.proofs.lemmas.List.{reverse-append}
use Rattle.processor.specs.declared.steps.Step.{Step}
use Rattle.schedule_space.specs.declared.links.Link.{Link}
use Rattle.schedule_space.specs.Spaces.{schedules}
use Rattle.schedule_space.proofs.Schedules.{given, first-schedule}

-- the steps behind the schedule of this place are the last of all
abbrev pub IsReadTo : List Step → List Link → ℕ → List Step → List Step → Type 0
IsReadTo begin links here steps all = get_or (schedules begin links) here [] ++ reverse steps ≡ all

pub read_more : (begin : List Step) (links : List Link) (here before : ℕ) (steps more all : List Step) (l : Link)
    → IsReadTo begin links here steps all → here ≡ before + 1 → before < length links → l ≡ get_or links before l
    → l.from ≤ before → more ≡ steps ++ l.step ∷ [] → IsReadTo begin links l.from more all
read_more begin links here before steps more all l so_far at below is earlier pushed =
    let same : get_or links before l ≡ l = sym is in
    let step = given begin links before l below (subst (λ (x : Link). x.from ≤ before) is earlier) in
    let here_is : get_or (schedules begin links) here [] ≡ get_or (schedules begin links) l.from [] ++ l.step ∷ [] =
    ap (λ n. get_or (schedules begin links) n []) at
    ∙ step
    ∙ (λ i. get_or (schedules begin links) (same i).from [] ++ (same i).step ∷ []) in
    let turned : reverse more ≡ l.step ∷ reverse steps = ap reverse pushed ∙ reverse-append steps (l.step ∷ []) in
    ap (λ xs. get_or (schedules begin links) l.from [] ++ xs) turned
    ∙ sym (append_assoc (get_or (schedules begin links) l.from []) (l.step ∷ []) (reverse steps))
    ∙ ap (λ xs. xs ++ reverse steps) (sym here_is)
    ∙ so_far

pub read_all : (begin : List Step) (links : List Link) (here : ℕ) (steps all : List Step) → IsReadTo begin links here steps all → here ≡ 0
    → begin ++ reverse steps ≡ all
read_all begin links here steps all so_far at =
    ap (λ xs. xs ++ reverse steps) (sym (ap (λ n. get_or (schedules begin links) n []) at ∙ first-schedule begin links)) ∙ so_far

pub same_link : (ls : List Link) (n : ℕ) (c d : Link) → n < length ls → get_or ls n c ≡ get_or ls n d
same_link [] n c d below = absurd (omega arith)
same_link (l ∷ ls) zero c d below = refl
same_link (l ∷ ls) (suc n) c d below = same_link ls n c d (omega (arith, below))
