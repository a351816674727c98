-- The schedules that links give, and the worlds that they lead to.
use Rattle.std.proofs.Common.{◌≡◌, ℕ, zero, suc, ◌+◌, ◌<◌, ◌≤◌, refl, sym, ap, ◌∙◌, arith, List, [], ◌∷◌}
use Rattle.std.proofs.Common.{◌++◌, length, get_or}
use Rattle.std.proofs.Common.{length-append, append_assoc, append-nil}
use Rattle.std.proofs.lemmas.List.{get_or_append_left}
use Rattle.std.proofs.Math.Seq.{get_or-append_seam}
use Rattle.image_file.specs.ImageValue.{ImageValue}
use Rattle.processor.specs.World.{start, after, run}
use Rattle.processor.specs.declared.steps.Step.{Step}
use Rattle.processor.proofs.Histories.{steps-append}
use Rattle.schedule_space.specs.declared.links.Link.{Link}
use Rattle.schedule_space.specs.Spaces.{schedules_after, schedules}

-- One link more.

-- the schedule that a link gives
abbrev pub one_more : List (List Step) → Link → List Step
one_more found l = get_or found l.from [] ++ l.step ∷ []

schedules_after-push : (found : List (List Step)) (ls : List Link) (l : Link)
    → schedules_after found (ls ++ l ∷ []) ≡ schedules_after found ls ++ one_more (schedules_after found ls) l ∷ []
schedules_after-push found [] l = refl
schedules_after-push found (x ∷ xs) l = schedules_after-push (found ++ one_more found x ∷ []) xs l

pub schedules-push : (begin : List Step) (ls : List Link) (l : Link)
    → schedules begin (ls ++ l ∷ []) ≡ schedules begin ls ++ one_more (schedules begin ls) l ∷ []
unfolding schedules
schedules-push begin ls l = schedules_after-push (begin ∷ []) ls l

length-schedules_after : (found : List (List Step)) (ls : List Link)
    → length (schedules_after found ls) ≡ length found + length ls
length-schedules_after found [] = omega arith
length-schedules_after found (x ∷ xs) =
    let more = length-schedules_after (found ++ one_more found x ∷ []) xs in
    let last = length-append found (one_more found x ∷ []) in
    omega (arith, more, last)

pub length-schedules : (begin : List Step) (ls : List Link) → length (schedules begin ls) ≡ length ls + 1
unfolding schedules
length-schedules begin ls = let all = length-schedules_after (begin ∷ []) ls in omega (arith, all)

-- the schedules that are there stay
stays_after : (found : List (List Step)) (ls : List Link) (k : ℕ) → k < length found
    → get_or (schedules_after found ls) k [] ≡ get_or found k []
stays_after found [] k some = refl
stays_after found (x ∷ xs) k some =
    let longer = length-append found (one_more found x ∷ []) in
    stays_after (found ++ one_more found x ∷ []) xs k (omega (arith, longer))
    ∙ get_or_append_left found (one_more found x ∷ []) [] k some

-- the first world is that of the beginning
pub first-schedule : (begin : List Step) (ls : List Link) → get_or (schedules begin ls) 0 [] ≡ begin
unfolding schedules
first-schedule begin ls = stays_after (begin ∷ []) ls 0 (omega arith)

pub one_schedule : (begin : List Step) → schedules begin [] ≡ begin ∷ []
unfolding schedules
one_schedule begin = refl

-- the schedule that a link gives is that of an earlier place, with its step behind
given_after : (found : List (List Step)) (ls : List Link) (k : ℕ) (l : Link) → k < length ls
    → (get_or ls k l).from < length found + k
    → get_or (schedules_after found ls) (length found + k) []
    ≡ get_or (schedules_after found ls) (get_or ls k l).from [] ++ (get_or ls k l).step ∷ []
given_after found [] k l below earlier = absurd (omega arith)
given_after found (x ∷ xs) zero l below earlier =
    let more = found ++ one_more found x ∷ [] in
    let longer : length more ≡ length found + 1 = length-append found (one_more found x ∷ []) in
    let here : get_or (schedules_after more xs) (length found + 0) [] ≡ get_or more (length found + 0) [] =
    stays_after more xs (length found + 0) (omega (arith, longer)) in
    let at : length found + 0 ≡ length found = omega arith in
    let there : get_or (schedules_after more xs) x.from [] ≡ get_or found x.from [] =
    stays_after more xs x.from (omega (arith, longer, earlier))
    ∙ get_or_append_left found (one_more found x ∷ []) [] x.from (omega (arith, earlier)) in
    here
    ∙ ap (λ n. get_or more n []) at
    ∙ get_or-append_seam found (one_more found x) [] []
    ∙ sym (ap (λ ts. ts ++ x.step ∷ []) there)
given_after found (x ∷ xs) (suc k) l below earlier =
    let more = found ++ one_more found x ∷ [] in
    let longer : length more ≡ length found + 1 = length-append found (one_more found x ∷ []) in
    let at : length found + suc k ≡ length more + k = omega (arith, longer) in
    ap (λ n. get_or (schedules_after more xs) n []) at
    ∙ given_after more xs k l (omega (arith, below)) (omega (arith, longer, earlier))

pub given : (begin : List Step) (ls : List Link) (k : ℕ) (l : Link) → k < length ls → (get_or ls k l).from ≤ k
    → get_or (schedules begin ls) (k + 1) []
    ≡ get_or (schedules begin ls) (get_or ls k l).from [] ++ (get_or ls k l).step ∷ []
unfolding schedules
given begin ls k l below earlier =
    let at : k + 1 ≡ 1 + k = omega arith in
    ap (λ n. get_or (schedules_after (begin ∷ []) ls) n []) at
    ∙ given_after (begin ∷ []) ls k l below (omega (arith, earlier))

-- each schedule goes on from the beginning
pub goes_on : (begin : List Step) (ls : List Link) (most k : ℕ)
    → ((j : ℕ) (l : Link) → j < length ls → (get_or ls j l).from ≤ j) → k ≤ most → k ≤ length ls
    → (more : List Step) × (get_or (schedules begin ls) k [] ≡ begin ++ more)
goes_on begin ls most zero earlier within below = ([], first-schedule begin ls ∙ sym (append-nil begin))
goes_on begin ls zero (suc k) earlier within below = absurd (omega arith)
goes_on begin ls (suc most) (suc k) earlier within below =
    let none : Link = record { from = 0; step = record { p = 0; s = 0 } } in
    let l = get_or ls k none in
    let less : l.from ≤ k = earlier k none (omega arith) in
    let before = goes_on begin ls most l.from earlier (omega (arith, less)) (omega (arith, less)) in
    let at : suc k ≡ k + 1 = omega arith in
    let is : get_or (schedules begin ls) (suc k) [] ≡ begin ++ (before.0 ++ l.step ∷ []) =
    ap (λ n. get_or (schedules begin ls) n []) at
    ∙ given begin ls k none (omega arith) less
    ∙ ap (λ xs. xs ++ l.step ∷ []) before.1
    ∙ append_assoc begin before.0 (l.step ∷ []) in
    (before.0 ++ l.step ∷ [], is)

-- The world after one more step.

pub run-push : (image : ImageValue) (ts : List Step) (t : Step)
    → run image (ts ++ t ∷ []) ≡ after image (run image ts) t
run-push image ts t = steps-append image (start image) ts (t ∷ [])
