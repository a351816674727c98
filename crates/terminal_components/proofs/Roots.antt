-- The terminal components that the roots of places say.
use Rattle.std.proofs.Common.{◌≡◌, ℕ, ◌<◌, refl, ap, ◌∙◌, subst, arith, List, [], ◌∷◌, get_or}
use Rattle.std.proofs.Common.{Option, Some, None}
use Rattle.std.specs.Prelude.{MatchOption, Contains, ◌↔◌}
use Rattle.terminal_components.specs.declared.links.Link.{Link}
use Rattle.terminal_components.specs.Ways.{IsWay, Reaches, link_at}
use Rattle.terminal_components.specs.Components.{IsTerminal, IsLeast, AreRoots, IsTerminalComponent, AreTerminalComponents}
use Rattle.terminal_components.proofs.Ways.{way_inside, reaches_on}

-- Places of one component.

terminal_on : (n : ℕ) (links : List Link) (k j : ℕ) → IsTerminal n links k → Reaches n links k j → IsTerminal n links j
terminal_on n links k j terminal reaches i on =
    reaches_on n links i k j (terminal i (reaches_on n links k j i reaches on)) reaches

least_on : (n : ℕ) (links : List Link) (k j root : ℕ) → IsTerminal n links k → Reaches n links k j
    → IsLeast n links k root → IsLeast n links j root
least_on n links k j root terminal reaches is = record {
  reaches = reaches_on n links j k root (terminal j reaches) is.reaches;
  least = λ i on. is.least i (reaches_on n links k j i reaches on);
}

least_same : (n : ℕ) (links : List Link) (k root other : ℕ) → IsLeast n links k root → IsLeast n links k other
    → root ≡ other
least_same n links k root other is too =
    let low = is.least other too.reaches in
    let high = too.least root is.reaches in
    omega (arith, low, high)

-- What a root says.

abbrev Said : ℕ → List Link → ℕ → Option ℕ → Type 0
Said n links k root = MatchOption root (¬ (IsTerminal n links k)) (λ h. IsTerminal n links k × IsLeast n links k h)

said : (n : ℕ) (links : List Link) (roots : List (Option ℕ)) → AreRoots n links roots → (k root : ℕ) → k < n
    → get_or roots k None ≡ Some root → IsTerminal n links k × IsLeast n links k root
said n links roots are k root below is = subst (Said n links k) is (are.each k below)

has_root : (n : ℕ) (links : List Link) (roots : List (Option ℕ)) → AreRoots n links roots → (k : ℕ) → k < n
    → IsTerminal n links k → (root : ℕ) × (get_or roots k None ≡ Some root)
has_root n links roots are k below terminal = by_root (get_or roots k None) refl (are.each k below) where
  by_root : (o : Option ℕ) → get_or roots k None ≡ o → Said n links k o → (root : ℕ) × (get_or roots k None ≡ Some root)
  by_root None is off = absurd (off terminal)
  by_root (Some root) is on = (root, is)

root_on : (n : ℕ) (links : List Link) (roots : List (Option ℕ)) → AreRoots n links roots → (k j root : ℕ) → k < n
    → get_or roots k None ≡ Some root → Reaches n links k j → get_or roots j None ≡ Some root
root_on n links roots are k j root below is reaches =
    let mine = said n links roots are k root below is in
    let inside = way_inside n links reaches.0 k j below reaches.1 in
    let other = has_root n links roots are j inside (terminal_on n links k j mine.0 reaches) in
    let theirs = said n links roots are j other.0 inside other.1 in
    let same = least_same n links j other.0 root theirs.1 (least_on n links k j root mine.0 reaches mine.1) in
    other.1 ∙ ap (λ (h : ℕ). Some h) same

one_component : (n : ℕ) (links : List Link) (roots : List (Option ℕ)) → AreRoots n links roots → (j k root : ℕ) → j < n
    → k < n → get_or roots j None ≡ Some root → get_or roots k None ≡ Some root → Reaches n links j k
one_component n links roots are j k root below inside is too =
    let mine = said n links roots are j root below is in
    let theirs = said n links roots are k root inside too in
    reaches_on n links j root k mine.1.reaches (theirs.0 root theirs.1.reaches)

-- A terminal component.

stays_in : (n : ℕ) (links : List Link) (places : List ℕ) → IsTerminalComponent n links places → (numbers : List ℕ) (k j : ℕ)
    → Contains places k → IsWay n links k numbers j → Contains places j
stays_in n links places set [] k j has way = subst (λ (m : ℕ). Contains places m) way has
stays_in n links places set (i ∷ is) k j has way =
    stays_in n links places set is (link_at links i).to j (set.closed i k has way.0) way.1

root_of_component : (n : ℕ) (links : List Link) (roots : List (Option ℕ)) → AreRoots n links roots → (places : List ℕ)
    → IsTerminalComponent n links places
    → (root : ℕ) × ((k : ℕ) → k < n → Contains places k ↔ (get_or roots k None ≡ Some root))
root_of_component n links roots are places set =
    let p = set.some.0 in
    let below = set.inside p set.some.1 in
    let terminal : IsTerminal n links p = λ j reaches.
    set.together j p (stays_in n links places set reaches.0 p j set.some.1 reaches.1) set.some.1 in
    let found = has_root n links roots are p below terminal in (
      found.0,
      λ k inside. (
        λ has. root_on n links roots are p k found.0 below found.1 (set.together p k set.some.1 has),
        λ is.
            let reaches = one_component n links roots are p k found.0 below inside found.1 is in
            stays_in n links places set reaches.0 p k set.some.1 reaches.1,
      ),
    )

pub components_of_roots : (n : ℕ) (links : List Link) (roots : List (Option ℕ)) → AreRoots n links roots
    → AreTerminalComponents n links roots
components_of_roots n links roots are = record {
  least = λ k root below is.
      let mine = said n links roots are k root below is in
      (mine.1.least k ([], refl), root_on n links roots are k root root below is mine.1.reaches);
  closed = λ i k root from is.
      root_on n links roots are k (link_at links i).to root from.from_in is (i ∷ [], (from, refl));
  together = one_component n links roots are;
  all = root_of_component n links roots are;
}
