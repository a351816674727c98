-- What the cycles of each stream say.
use Rattle.std.proofs.Common.{◌≡◌, ◌≢◌, ◌⊎◌, ◌↔◌, inl, inr, ℕ, ◌+◌, ◌<◌, ◌≤◌, refl, sym, ap, ◌∙◌, subst, arith}
use Rattle.std.proofs.Common.{Bool, true, false, Option, Some, None, is_some, List, [], ◌∷◌, length, slice_get, slice_index_or}
use Rattle.std.specs.Prelude.{IsTrue, MatchOption}
use Rattle.std.proofs.lemmas.Bool.{cases_lt}
use Rattle.std.proofs.lemmas.List.{get_or_default}
use Rattle.std.proofs.lemmas.Option.{same_Some, slice_get_read}
use Rattle.processor.specs.declared.steps.Step.{Step}
use Rattle.terminal_components.specs.declared.links.Link.{Link}
use Rattle.terminal_components.specs.Ways.{link_at, IsWay, Reaches}
use Rattle.terminal_components.specs.Components.{IsTerminal, IsLeast}
use Rattle.schedule_space.specs.Spaces.{SpaceValue, count}
use Rattle.busy_streams.specs.declared.stream_cycles.OwnCycles.{OwnCycles}
use Rattle.busy_streams.specs.OwnCycles.{is_step, own_links, ComesBack, AreOwnCycles, HasCyclesOf, HasOwnCycles}
use Rattle.busy_streams.proofs.OwnLinks.{is-step, step-is, link-found}

-- the cycles of a stream that were found
pub cycle_is : (rs : List OwnCycles) (n : ℕ) (r : OwnCycles) (t : Step) (b : Bool) → n < length rs
    → r ≡ slice_index_or rs n r → b ≡ is_step t r.stream → b ≡ true → HasCyclesOf rs t
cycle_is rs n r t b below at is holds =
    (n, r, slice_get_read rs (length rs) n r refl below at, is-step t r.stream (sym is ∙ holds))

-- one more that is not of the stream
pub still_none : (rs : List OwnCycles) (n : ℕ) (q : OwnCycles) (t : Step) (b : Bool) → n < length rs
    → q ≡ slice_index_or rs n q → b ≡ is_step t q.stream → b ≡ false
    → ((i : ℕ) (r : OwnCycles) → i < n → slice_get rs i ≡ Some r → r.stream ≢ t)
    → (i : ℕ) (r : OwnCycles) → i < n + 1 → slice_get rs i ≡ Some r → r.stream ≢ t
still_none rs n q t b below at is fails before i r within there same = elim (cases_lt i n) [
  | inl less ↦ before i r less there same
  | inr most ↦
      let here : n ≡ i = omega (arith, within, most) in
      let this : q ≡ r =
      same_Some q r (sym (slice_get_read rs (length rs) n q refl below at) ∙ ap (slice_get rs) here ∙ there) in
      let yes : b ≡ true =
      is ∙ ap (λ (x : OwnCycles). is_step t x.stream) this ∙ ap (is_step t) same ∙ step-is t in
      let off : ⊥ = cc in
      off
]

-- of a stream that has no edge
pub none_own : (v : SpaceValue) (t : Step) (rs : List OwnCycles) → HasOwnCycles v rs
    → ((i : ℕ) (r : OwnCycles) → slice_get rs i ≡ Some r → r.stream ≢ t) → (k : ℕ) → ComesBack v k t
none_own v t rs all none k j leads = by leads.0 leads.1 where
  by : (is : List ℕ) → IsWay (count v) (own_links t v.edges) k is j → Reaches (count v) (own_links t v.edges) j k
  by [] same = ([], sym same)
  by (i ∷ is) way =
      let found = link-found t v.edges i way.0.there in
      let has = all.each found.edge found.there in
      absurd (none has.0 has.1 has.2 (has.3 ∙ found.own))

-- what they say of a place
abbrev Held : SpaceValue → OwnCycles → ℕ → Option ℕ → Type 0
Held v r k o =
    MatchOption o (¬ (IsTerminal (count v) (own_links r.stream v.edges) k)) (λ root.
    IsTerminal (count v) (own_links r.stream v.edges) k × IsLeast (count v) (own_links r.stream v.edges) k root
    )

held : (v : SpaceValue) (r : OwnCycles) (k : ℕ) (o : Option ℕ) → Held v r k o
    → IsTrue (is_some o) ↔ ComesBack v k r.stream
held v r k None not = (λ yes. let no : ⊥ = cc in absurd no, λ back. absurd (not back))
held v r k (Some root) has = (λ yes. has.0, λ back. refl)

-- of one that has
pub told : (v : SpaceValue) (t : Step) (r : OwnCycles) (k : ℕ) (o : Option ℕ) (b : Bool) → r.stream ≡ t
    → AreOwnCycles v r → k < count v → k < length r.roots.items → o ≡ slice_index_or r.roots.items k o
    → b ≡ is_some o → IsTrue b ↔ ComesBack v k t
told v t r k o b same roots below within at is =
    let here : Held v r k o =
    subst (Held v r k) (sym (at ∙ get_or_default r.roots.items k o None within)) (roots.each k below) in
    subst (λ u. IsTrue b ↔ ComesBack v k u) same
    (subst (λ x. IsTrue x ↔ ComesBack v k r.stream) (sym is) (held v r k o here))
