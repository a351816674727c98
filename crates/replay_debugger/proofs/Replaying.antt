-- A machine that goes on from a position of a schedule to a later one.
use Rattle.std.proofs.Common.{◌≡◌, ℕ, zero, suc, ◌+◌, ◌-◌, ◌<◌, ◌≤◌, refl, sym, ap, ◌∙◌, arith, zero-add}
use Rattle.std.proofs.Common.{List, [], ◌∷◌, ◌++◌, length, take, drop, get_or, Bool, Option, slice_get}
use Rattle.std.proofs.Math.Seq.{drop-cons}
use Rattle.image_file.specs.ImageValue.{ImageValue}
use Rattle.stream_core.specs.declared.steps.Outcome.{Outcome}
use Rattle.machine.specs.MachineValue.{MachineValue}
use Rattle.processor.specs.World.{World, start, after, steps, run, world_step}
use Rattle.processor.specs.declared.steps.Step.{Step}
use Rattle.replay_debugger.specs.declared.points.Point.{Point}
use Rattle.replay_debugger.specs.declared.replay.Replay.{Replay}
use Rattle.replay_debugger.specs.Places.{StandsAt, CheckpointsValue, IsOn}
use Rattle.replay_debugger.specs.Sessions.{world_at}
use Rattle.replay_debugger.specs.Stops.{any_stops, is_stop}

steps_in_turn : (image : ImageValue) (w : World) (xs ys : List Step)
    → steps image w (xs ++ ys) ≡ steps image (steps image w xs) ys
steps_in_turn image w [] ys = refl
steps_in_turn image w (x ∷ xs) ys = steps_in_turn image (after image w x) xs ys

take_none : {A : Type 0} (n : ℕ) → take n (let none : List A = [] in none) ≡ []
take_none zero = refl
take_none (suc n) = refl

drop_none : {A : Type 0} (n : ℕ) → drop n (let none : List A = [] in none) ≡ []
drop_none zero = refl
drop_none (suc n) = refl

take_in_turn : {A : Type 0} (xs : List A) (i n : ℕ) → take (i + n) xs ≡ take i xs ++ take n (drop i xs)
take_in_turn xs zero n = ap (λ k. take k xs) (zero-add n)
take_in_turn [] (suc i) n = take_none (suc i + n) ∙ sym (take_none n)
take_in_turn (x ∷ xs) (suc i) n =
    let e : suc i + n ≡ suc (i + n) = omega arith in
    ap (λ k. take k (x ∷ xs)) e ∙ ap (λ t. x ∷ t) (take_in_turn xs i n)

-- the world so many steps on
world_later : (image : ImageValue) (ts : List Step) (k n : ℕ)
    → steps image (run image (take k ts)) (take n (drop k ts)) ≡ run image (take (k + n) ts)
world_later image ts k n =
    sym (steps_in_turn image (start image) (take k ts) (take n (drop k ts)))
    ∙ ap (run image) (sym (take_in_turn ts k n))

pub stands_later : (ts : List Step) (m new : MachineValue) (k goal : ℕ) → k ≤ goal → goal ≤ length ts
    → new ≡ record m { world = steps m.image m.world (take (goal - k) (drop k ts)) }
    → StandsAt ts m k → StandsAt ts new goal
stands_later ts m new k goal forward within is stands =
    let n = goal - k in
    let sum : k + n ≡ goal = omega arith in
    let image : new.image ≡ m.image = ap (λ (v : MachineValue). v.image) is in
    record {
      within = within;
      world = ap (λ (v : MachineValue). v.world) is
          ∙ ap (λ w. steps m.image w (take n (drop k ts))) stands.world
          ∙ world_later m.image ts k n
          ∙ (λ i. run (sym image i) (take (sum i) ts));
    }

take_one : (ts : List Step) (k : ℕ) (d : Step) → k < length ts → take 1 (drop k ts) ≡ get_or ts k d ∷ []
take_one ts k d below = ap (λ xs. take 1 xs) (drop-cons ts k d below)

pub stands_next : (ts : List Step) (m new : MachineValue) (k : ℕ) (d : Step) (o : Outcome) → k < length ts
    → (new.world, o) ≡ world_step m.image m.world (get_or ts k d) → new.image ≡ m.image
    → StandsAt ts m k → StandsAt ts new (k + 1)
stands_next ts m new k d o below is image stands =
    record {
      within = omega arith;
      world = ap (λ (x : World × Outcome). x.0) is
          ∙ ap (λ w. after m.image w (get_or ts k d)) stands.world
          ∙ sym (ap (steps m.image (run m.image (take k ts))) (take_one ts k d below))
          ∙ world_later m.image ts k 1
          ∙ (λ i. run (sym image i) (take (k + 1) ts));
    }

-- whether the next position is a stop
pub stop_next : (ts : List Step) (m new : MachineValue) (k : ℕ) (d : Step) (o : Outcome)
    (points : List (Option Point)) (next : Option Step) (r : Bool) → k < length ts
    → (new.world, o) ≡ world_step m.image m.world (get_or ts k d) → new.image ≡ m.image → StandsAt ts m k
    → next ≡ slice_get ts (k + 1) → r ≡ any_stops m.world new.world next points
    → r ≡ is_stop m.image ts points (k + 1)
unfolding is_stop
stop_next ts m new k d o points next r below is image stands follows e =
    let back : k ≡ k + 1 - 1 = omega arith in
    let later = stands_next ts m new k d o below is image stands in
    let before : m.world ≡ world_at m.image ts (k + 1 - 1) = stands.world ∙ ap (world_at m.image ts) back in
    let now : new.world ≡ world_at m.image ts (k + 1) = later.world ∙ ap (λ x. world_at x ts (k + 1)) image in
    e ∙ (λ i. any_stops (before i) (now i) (follows i) points)

-- whether the first position is a stop
pub stop_first : (ts : List Step) (m : MachineValue) (k : ℕ) (points : List (Option Point)) (next : Option Step)
    (r : Bool) → k ≡ 0 → StandsAt ts m k → next ≡ slice_get ts k → r ≡ any_stops m.world m.world next points
    → r ≡ is_stop m.image ts points k
unfolding is_stop
stop_first ts m k points next r first stands follows e =
    let back : k ≡ k - 1 = omega (arith, first) in
    let before : m.world ≡ world_at m.image ts (k - 1) = stands.world ∙ ap (world_at m.image ts) back in
    e ∙ (λ i. any_stops (before i) (stands.world i) (follows i) points)

-- A machine on a course.

-- it goes on to a later position
pub on_later : {size : ℕ} (course : CheckpointsValue) (ts : List Step) (r : Replay size) (m : MachineValue) (goal : ℕ)
    → r.position ≤ goal → goal ≤ length course.schedule → ts ≡ course.schedule
    → m ≡ record r.machine {
      world = steps r.machine.image r.machine.world (take (goal - r.position) (drop r.position ts));
    } → IsOn course r → IsOn {size = size} course (record { machine = m; position = goal })
on_later {size} course ts r m goal forward within same ran is =
    let ran_on = ran ∙ ap (λ (xs : List Step). record r.machine {
      world = steps r.machine.image r.machine.world (take (goal - r.position) (drop r.position xs));
    }) same in
    record {
      image = ap (λ (v : MachineValue). v.image) ran ∙ is.image;
      stands = stands_later course.schedule r.machine m r.position goal forward within ran_on is.stands;
    }

-- whether its first position is a stop
pub on_first : {size : ℕ} (course : CheckpointsValue) (r : Replay size) (points : List (Option Point)) (next : Option Step)
    (b : Bool) → r.position ≡ 0 → IsOn course r → next ≡ slice_get course.schedule r.position
    → b ≡ any_stops r.machine.world r.machine.world next points
    → b ≡ is_stop course.image course.schedule points r.position
on_first {size} course r points next b first is follows e =
    stop_first course.schedule r.machine r.position points next b first is.stands follows e
    ∙ ap (λ (image : ImageValue). is_stop image course.schedule points r.position) is.image
