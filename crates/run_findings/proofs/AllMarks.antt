-- The marks of all that a stream read, before each of its steps.
use Rattle.std.proofs.Common.{◌≡◌, ℕ, zero, suc, ◌<◌, ◌≤◌, ◌==◌, Bool, true, false, not, cond, List, [], ◌∷◌, ◌++◌, length}
use Rattle.std.proofs.Common.{get_or, set, Option, Some, None, refl, sym, ap, ◌∙◌, subst, arith, ◌&&◌, ◌||◌, ⊎_elim, length-append}
use Rattle.std.specs.List.{slice_get}
use Rattle.std.proofs.lemmas.Bool.{cases_lt, eqb-true, false≢true}
use Rattle.std.proofs.lemmas.List.{length-set, get_or_append_left, get_or_push}
use Rattle.processor.specs.declared.steps.Step.{Step}
use Rattle.insn_word.specs.Words.{memory_destination, arithmetic_destination, control_destination}
use Rattle.insn_word.specs.declared.operations.WideOp.{WideOp}
use Rattle.insn_word.specs.declared.operations.WideOp.TheVariants as wide
use Rattle.insn_word.specs.declared.operations.ControlOp.{ControlOp}
use Rattle.insn_word.specs.declared.operations.ControlOp.TheVariants as control
use Rattle.insn_word.specs.declared.insn.MPart.{MPart}
use Rattle.insn_word.specs.declared.insn.APart.{APart}
use Rattle.insn_word.specs.declared.insn.CPart.{CPart}
use Rattle.insn_word.specs.declared.insn.Insn.{Insn}
use Rattle.insn_word.specs.declared.insn.Insn.TheVariants.{Wide, Normal}
use Rattle.run_findings.specs.Actions.{is_by}
use Rattle.run_findings.specs.Places.{passes, last_before}
use Rattle.run_findings.specs.Marks.{no_marks, mark_at, with_mark, arithmetic_mark, control_mark, target_marks, is_quit}
use Rattle.run_findings.specs.Marks.{marks_after_parts, marks_after_wide, marks_after, marks_after_deed, marks_before}
use Rattle.run_findings.specs.Needs.{is_any, IsSized, IsPart}
use Rattle.run_findings.specs.Own.{own_at, own_of}
use Rattle.run_findings.specs.Sources.{HasAll, AreAllAt, AreAll}
use Rattle.run_findings.specs.declared.actions.Action.{Action}
use Rattle.run_findings.specs.declared.actions.Deed.{Deed}
use Rattle.run_findings.specs.declared.actions.Deed.TheVariants as deed
use Rattle.run_findings.specs.declared.marks.Marks.{Marks}
use Rattle.run_findings.proofs.Chains.{last-passes}
use Rattle.run_findings.proofs.Finding.{both_true}
use Rattle.run_findings.proofs.Needed.{length_with}
use Rattle.run_findings.proofs.OwnSteps.{marks_of_last, marks_of_older, none_before, none_later}

-- Fewer marks.

abbrev Fewer : List Bool → List Bool → Type 0
Fewer xs ys = (k : ℕ) → get_or xs k false ≡ true → get_or ys k false ≡ true

set_fewer : (xs ys : List Bool) (r : ℕ) (a b : Bool) → length xs ≡ length ys → Fewer xs ys → (a ≡ true → b ≡ true)
    → Fewer (set xs r a) (set ys r b)
set_fewer [] [] r a b same fewer more k is = absurd (false≢true is)
set_fewer [] (y ∷ ys) r a b same fewer more k is = absurd (omega arith)
set_fewer (x ∷ xs) [] r a b same fewer more k is = absurd (omega arith)
set_fewer (x ∷ xs) (y ∷ ys) zero a b same fewer more zero is = more is
set_fewer (x ∷ xs) (y ∷ ys) zero a b same fewer more (suc k) is = fewer (suc k) is
set_fewer (x ∷ xs) (y ∷ ys) (suc r) a b same fewer more zero is = fewer zero is
set_fewer (x ∷ xs) (y ∷ ys) (suc r) a b same fewer more (suc k) is =
    set_fewer xs ys r a b (omega arith) (λ j h. fewer (suc j) h) more k is

with_by : (t : Bool) (xs ys : List Bool) (r : ℕ) (a b : Bool) → length xs ≡ length ys → Fewer xs ys
    → (a ≡ true → b ≡ true) → Fewer (cond t xs (set xs r a)) (cond t ys (set ys r b))
with_by true xs ys r a b same fewer more = fewer
with_by false xs ys r a b same fewer more = set_fewer xs ys r a b same fewer more

with_fewer : (xs ys : List Bool) (r : ℕ) (a b : Bool) → length xs ≡ length ys → Fewer xs ys → (a ≡ true → b ≡ true)
    → Fewer (with_mark xs r a) (with_mark ys r b)
with_fewer xs ys r a b same fewer more = with_by (r == 0) xs ys r a b same fewer more

or_more : (a b x y : Bool) → (a ≡ true → x ≡ true) → (b ≡ true → y ≡ true) → (a || b) ≡ true → (x || y) ≡ true
or_more true b x y first second is = ap (λ t. t || y) (first refl)
or_more false b true y first second is = refl
or_more false b false y first second is = second is

and_more : (t b y : Bool) → (b ≡ true → y ≡ true) → (t && b) ≡ true → (t && y) ≡ true
and_more true b y more is = more is
and_more false b y more is = is

arithmetic_more : (m any : Marks) (a : APart) → Fewer m.registers any.registers → arithmetic_mark m a ≡ true
    → arithmetic_mark any a ≡ true
arithmetic_more m any a fewer is =
    or_more (mark_at m.registers a.ra) (not a.imm && mark_at m.registers a.rb) (mark_at any.registers a.ra)
    (not a.imm && mark_at any.registers a.rb) (fewer a.ra)
    (and_more (not a.imm) (mark_at m.registers a.rb) (mark_at any.registers a.rb) (fewer a.rb)) is

control_more : (m any : Marks) (c : CPart) (op : ControlOp) → Fewer m.targets any.targets → control_mark m c op ≡ true
    → control_mark any c op ≡ true
control_more m any c control.Nop fewer is = is
control_more m any c control.Jump fewer is = is
control_more m any c control.Skip fewer is = is
control_more m any c control.Call fewer is = is
control_more m any c control.Exchange fewer is = is
control_more m any c control.TargetSet fewer is = is
control_more m any c control.TargetGet fewer is = fewer c.t is
control_more m any c control.TrapGet fewer is = is
control_more m any c control.Reserve fewer is = is
control_more m any c control.Create fewer is = is
control_more m any c control.Quit fewer is = is
control_more m any c control.QuitKeep fewer is = is
control_more m any c control.Mask fewer is = is

-- as many registers as a stream has, and fewer marks
record Less (n : ℕ) (xs ys : List Bool) : Type 0 where
  count : length xs ≡ n
  other_count : length ys ≡ n
  fewer : Fewer xs ys

set_less : {n : ℕ} (xs ys : List Bool) (r : ℕ) (a b : Bool) → Less n xs ys → (a ≡ true → b ≡ true)
    → Less n (set xs r a) (set ys r b)
set_less xs ys r a b less more = record {
  count = length-set xs r a ∙ less.count;
  other_count = length-set ys r b ∙ less.other_count;
  fewer = set_fewer xs ys r a b (less.count ∙ sym less.other_count) less.fewer more;
}

with_less : {n : ℕ} (xs ys : List Bool) (r : ℕ) (a b : Bool) → Less n xs ys → (a ≡ true → b ≡ true)
    → Less n (with_mark xs r a) (with_mark ys r b)
with_less xs ys r a b less more = record {
  count = length_with xs r a ∙ less.count;
  other_count = length_with ys r b ∙ less.other_count;
  fewer = with_fewer xs ys r a b (less.count ∙ sym less.other_count) less.fewer more;
}

of_registers : (m any : Marks) → IsPart m any → Less 32 m.registers any.registers
of_registers m any part = record {
  count = part.sized.registers;
  other_count = part.all_sized.registers;
  fewer = part.registers;
}

of_targets : (m any : Marks) → IsPart m any → Less 8 m.targets any.targets
of_targets m any part = record {
  count = part.sized.targets;
  other_count = part.all_sized.targets;
  fewer = part.targets;
}

part_of : (m any : Marks) → Less 32 m.registers any.registers → Less 8 m.targets any.targets → IsPart m any
part_of m any registers targets = record {
  sized = record { registers = registers.count; targets = targets.count };
  all_sized = record { registers = registers.other_count; targets = targets.other_count };
  registers = registers.fewer;
  targets = targets.fewer;
}

targets_less : (m any : Marks) (c : CPart) (op : ControlOp) → IsPart m any
    → Less 8 (target_marks m c op) (target_marks any c op)
targets_less m any c control.Nop part = of_targets m any part
targets_less m any c control.Jump part = of_targets m any part
targets_less m any c control.Skip part = of_targets m any part
targets_less m any c control.Call part =
    set_less m.targets any.targets c.u false false (of_targets m any part) (λ h. h)
targets_less m any c control.Exchange part =
    set_less m.targets any.targets c.t false false (of_targets m any part) (λ h. h)
targets_less m any c control.TargetSet part =
    set_less m.targets any.targets c.t (mark_at m.registers c.ra) (mark_at any.registers c.ra) (of_targets m any part)
    (part.registers c.ra)
targets_less m any c control.TargetGet part = of_targets m any part
targets_less m any c control.TrapGet part = of_targets m any part
targets_less m any c control.Reserve part = of_targets m any part
targets_less m any c control.Create part = of_targets m any part
targets_less m any c control.Quit part = of_targets m any part
targets_less m any c control.QuitKeep part = of_targets m any part
targets_less m any c control.Mask part = of_targets m any part

parts_part : (m any : Marks) (p : MPart) (a : APart) (c : CPart) (answer : Bool) → IsPart m any
    → IsPart (marks_after_parts m p a c answer) (marks_after_parts any p a c true)
parts_part m any p a c answer part =
    let md = memory_destination p.op p.rd in
    let ad = arithmetic_destination a.op a.rd in
    let cd = control_destination c.op c.rd in
    let first = with_less m.registers any.registers md answer true (of_registers m any part) (λ h. refl) in
    let second =
    with_less (with_mark m.registers md answer) (with_mark any.registers md true) ad (arithmetic_mark m a)
    (arithmetic_mark any a) first (arithmetic_more m any a part.registers) in
    part_of (marks_after_parts m p a c answer) (marks_after_parts any p a c true)
    (with_less (with_mark (with_mark m.registers md answer) ad (arithmetic_mark m a))
    (with_mark (with_mark any.registers md true) ad (arithmetic_mark any a)) cd (control_mark m c c.op)
    (control_mark any c c.op) second (control_more m any c c.op part.targets))
    (targets_less m any c c.op part)

none_at : (xs : List Bool) (k : ℕ) → is_any xs ≡ false → get_or xs k false ≡ true → get_or xs k false ≡ false
none_at [] k none is = refl
none_at (true ∷ xs) k none is = absurd (false≢true (sym none))
none_at (false ∷ xs) zero none is = refl
none_at (false ∷ xs) (suc k) none is = none_at xs k none is

none_fewer : (xs ys : List Bool) → is_any xs ≡ false → Fewer xs ys
none_fewer xs ys none k is = absurd (false≢true (sym (none_at xs k none is) ∙ is))

pub none_part : (any : Marks) → IsSized any → IsPart no_marks any
none_part any sized = record {
  sized = record { registers = refl; targets = refl };
  all_sized = sized;
  registers = none_fewer no_marks.registers any.registers refl;
  targets = none_fewer no_marks.targets any.targets refl;
}

wide_part : (m any : Marks) (op : WideOp) (r : ℕ) → IsPart m any → IsPart (marks_after_wide m op r) (marks_after_wide any op r)
wide_part m any wide.Literal r part =
    part_of (marks_after_wide m wide.Literal r) (marks_after_wide any wide.Literal r)
    (with_less m.registers any.registers r false false (of_registers m any part) (λ h. h)) (of_targets m any part)
wide_part m any wide.LiteralHigh r part = part
wide_part m any wide.TargetLiteral r part =
    part_of (marks_after_wide m wide.TargetLiteral r) (marks_after_wide any wide.TargetLiteral r) (of_registers m any part)
    (set_less m.targets any.targets r false false (of_targets m any part) (λ h. h))

quit_part : (t : Bool) (m any : Marks) → IsPart m any → IsPart (cond t no_marks m) (cond t no_marks any)
quit_part true m any part = none_part no_marks (record { registers = refl; targets = refl })
quit_part false m any part = part

insn_part : (m any : Marks) (i : Insn) (answer : Bool) → IsPart m any → IsPart (marks_after m i answer) (marks_after any i true)
insn_part m any (Wide look op reg imm) answer part = wide_part m any op reg part
insn_part m any (Normal look p a c) answer part =
    quit_part (is_quit c.op) (marks_after_parts m p a c answer) (marks_after_parts any p a c true)
    (parts_part m any p a c answer part)

pub deed_part : (m any : Marks) (d : Deed) (answer : Bool) → IsPart m any
    → IsPart (marks_after_deed m d answer) (marks_after_deed any d true)
deed_part m any deed.Nothing answer part = part
deed_part m any deed.Trap answer part =
    part_of (marks_after_deed m deed.Trap answer) (marks_after_deed any deed.Trap true) (of_registers m any part)
    (set_less m.targets any.targets 0 false false (of_targets m any part) (λ h. h))
deed_part m any (deed.Instruction i) answer part = insn_part m any i answer part

-- From one step of a stream to the next.

all_by : (ds : List Action) (t : Step) (n p : ℕ) (d : Action) (any : Marks) → n ≤ length ds → slice_get ds p ≡ Some d
    → last_before (is_by t) ds n ≡ Some p → IsSized any → HasAll ds t p any
    → HasAll ds t n (marks_after_deed any d.deed true)
all_by ds t n p d any within stands last sized all r below own = ⊎_elim
    (λ h.
    subst (λ m. IsPart m (marks_after_deed any d.deed true)) (sym (marks_of_older ds t r p n d within stands last h))
    (deed_part (marks_before ds t r p) any d.deed false (all r h own)))
    (λ h.
    let old = none_later (is_by t) ds n r p below last own in
    let same : p ≡ r = omega arith in
    subst (λ k. IsPart (marks_before ds t k n) (marks_after_deed any d.deed true)) same
    (subst (λ m. IsPart m (marks_after_deed any d.deed true)) (sym (marks_of_last ds t p n d within stands last))
    (deed_part no_marks any d.deed true (none_part any sized))))
    (cases_lt r p)

all_none : (ds : List Action) (t : Step) (n : ℕ) (any : Marks) → last_before (is_by t) ds n ≡ None → HasAll ds t n any
all_none ds t n any last r below own =
    absurd (false≢true (sym (none_before (is_by t) ds n r below last) ∙ own))

same_stream : (t e : Step) → e.p ≡ t.p → e.s ≡ t.s → e ≡ t
same_stream t e p s = ap (λ n. record { p = n; s = e.s }) p ∙ ap (λ n. record { p = t.p; s = n }) s

pub stream_is : (t : Step) (d : Action) → is_by t d ≡ true → d.stream ≡ t
stream_is t d by =
    let both = both_true (d.stream.p == t.p) (d.stream.s == t.s) by in
    same_stream t d.stream (eqb-true d.stream.p t.p both.0) (eqb-true d.stream.s t.s both.1)

-- before a step p of stream t are all marks of it
pub all_of : (ds : List Action) (t : Step) (p : ℕ) (any : Marks) (d : Action) → slice_get ds p ≡ Some d → is_by t d ≡ true
    → AreAllAt ds p any → HasAll ds t p any
all_of ds t p any d stands by at = subst (λ s. HasAll ds s p any) (stream_is t d by) (at.all d stands)

last_of : (ds : List Action) (n : ℕ) (d : Action) (o : Option ℕ) → own_at ds n ≡ o → slice_get ds n ≡ Some d
    → last_before (is_by d.stream) ds n ≡ o
last_of ds n d o own stands = sym (ap (own_of ds n) stands) ∙ own

by_last : (ds : List Action) (t : Step) (n p : ℕ) (d : Action) → last_before (is_by t) ds n ≡ Some p
    → slice_get ds p ≡ Some d → is_by t d ≡ true
by_last ds t n p d last stands = sym (ap (passes (is_by t)) stands) ∙ last-passes (is_by t) ds n p last

pub at_some : (ds : List Action) (n p : ℕ) (any : Marks) (d : Action) → n < length ds → own_at ds n ≡ Some p
    → slice_get ds p ≡ Some d → AreAllAt ds p any → AreAllAt ds n (marks_after_deed any d.deed true)
at_some ds n p any d within own stands at = record {
  sized = (deed_part no_marks any d.deed true (none_part any at.sized)).all_sized;
  all = λ e here.
      let last : last_before (is_by e.stream) ds n ≡ Some p = last_of ds n e (Some p) own here in
      let by : is_by e.stream d ≡ true = by_last ds e.stream n p d last stands in
      all_by ds e.stream n p d any (omega arith) stands last at.sized (all_of ds e.stream p any d stands by at);
}

pub at_none : (ds : List Action) (n : ℕ) → own_at ds n ≡ None → AreAllAt ds n no_marks
at_none ds n own = record {
  sized = record { registers = refl; targets = refl };
  all = λ d stands. all_none ds d.stream n no_marks (last_of ds n d None own stands);
}

pub all_first : (ds : List Action) (anys : List Marks) → anys ≡ [] → AreAll ds 0 anys
all_first ds anys none = record { count = ap length none; are = λ k other below. absurd (omega (arith, below)) }

pub all_more : (ds : List Action) (n next : ℕ) (anys : List Marks) (any : Marks) → suc n ≡ next → AreAll ds n anys
    → AreAllAt ds n any → AreAll ds next (anys ++ any ∷ [])
all_more ds n next anys any is all at = record {
  count =
      let longer = length-append anys (any ∷ []) in
      let count = all.count in
      omega arith;
  are = λ k other below. ⊎_elim
      (λ h.
      let count = all.count in
      let inside : k < length anys = omega arith in
      subst (AreAllAt ds k) (sym (get_or_append_left anys (any ∷ []) other k inside)) (all.are k other h))
      (λ h.
      let same : n ≡ k = omega arith in
      subst (AreAllAt ds k) (sym (get_or_push anys any other k (all.count ∙ same)))
      (subst (λ j. AreAllAt ds j any) same at))
      (cases_lt k n);
}
