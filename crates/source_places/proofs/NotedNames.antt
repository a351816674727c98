-- One more name of a table.
use Rattle.std.proofs.Common.{◌≡◌, ℕ, ◌+◌, add-zero, Bool, true, false, cond, List, Option, Some, None, refl, sym, ◌∙◌, ap, unwrap_or}
use Rattle.std.specs.Option.{option_map, option_or}
use Rattle.std.specs.Str.{bytes_eq}
use Rattle.std.proofs.lemmas.Slice.Eq.{bytes_eq-Decides}
use Rattle.std.proofs.lemmas.Bool.{false_from_ne_true}
use Rattle.source_places.specs.DataNames.{DataNameValue, if_called}
use Rattle.source_places.specs.SourcePlaces.{data_name_seen}
use Rattle.source_places.specs.declared.data_names.DataName.{DataName}

or_none : (o : Option DataNameValue) → option_or o None ≡ o
or_none None = refl
or_none (Some p) = refl

or_some : (o : Option DataName) (n : DataName)
    → Some (data_name_seen (unwrap_or o n)) ≡ option_or (option_map data_name_seen o) (Some (data_name_seen n))
or_some None p = refl
or_some (Some q) p = refl

same_both_ways : (xs ys : List ℕ) → bytes_eq xs ys ≡ bytes_eq ys xs
same_both_ways xs ys = by_test (bytes_eq xs ys) refl
  where
    by_test : (b : Bool) → bytes_eq xs ys ≡ b → bytes_eq xs ys ≡ bytes_eq ys xs
    by_test true e = e ∙ sym ((bytes_eq-Decides ys xs).1 (sym ((bytes_eq-Decides xs ys).0 e)))
    by_test false e =
        e ∙ sym (false_from_ne_true (bytes_eq ys xs)
        (λ h. let both : bytes_eq xs ys ≡ true = (bytes_eq-Decides xs ys).1 (sym ((bytes_eq-Decides ys xs).0 h)) in absurd cc))

-- A name keeps what it has, or gets this.
pub noted : (before now : List ℕ → Option DataName) (n v : DataName) → v ≡ unwrap_or (before n.name.now) n
    → ((q : List ℕ) → now q ≡ cond (bytes_eq n.name.now q) (Some v) (before q)) → (q : List ℕ)
    → option_map data_name_seen (now q)
    ≡ option_or (option_map data_name_seen (before q)) (if_called q (data_name_seen n))
noted before now n v value is q = ap (option_map data_name_seen) (is q) ∙ by_test (bytes_eq n.name.now q) refl
  where
    by_test : (b : Bool) → bytes_eq n.name.now q ≡ b
        → option_map data_name_seen (cond (bytes_eq n.name.now q) (Some v) (before q))
        ≡ option_or (option_map data_name_seen (before q)) (if_called q (data_name_seen n))
    by_test true e =
        let same : n.name.now ≡ q = (bytes_eq-Decides n.name.now q).0 e in
        let there : v ≡ unwrap_or (before q) n = value ∙ ap (λ l. unwrap_or (before l) n) same in
        let back : bytes_eq q n.name.now ≡ true = same_both_ways q n.name.now ∙ e in
        rw (e, back) (ap (λ m. Some (data_name_seen m)) there ∙ or_some (before q) n)
    by_test false e =
        let back : bytes_eq q n.name.now ≡ false = same_both_ways q n.name.now ∙ e in
        rw (e, back) (sym (or_none (option_map data_name_seen (before q))))

-- A name counted once more.
pub counted : (before now : List ℕ → Option ℕ) (name : List ℕ) (v : ℕ) → v ≡ unwrap_or (before name) 0 + 1
    → ((q : List ℕ) → now q ≡ cond (bytes_eq name q) (Some v) (before q)) → (q : List ℕ)
    → unwrap_or (now q) 0 ≡ unwrap_or (before q) 0 + cond (bytes_eq q name) 1 0
counted before now name v value is q = ap (λ o. unwrap_or o 0) (is q) ∙ by_test (bytes_eq name q) refl
  where
    by_test : (b : Bool) → bytes_eq name q ≡ b
        → unwrap_or (cond (bytes_eq name q) (Some v) (before q)) 0 ≡ unwrap_or (before q) 0 + cond (bytes_eq q name) 1 0
    by_test true e =
        let same : name ≡ q = (bytes_eq-Decides name q).0 e in
        let back : bytes_eq q name ≡ true = same_both_ways q name ∙ e in
        rw (e, back) (value ∙ ap (λ l. unwrap_or (before l) 0 + 1) same)
    by_test false e =
        let back : bytes_eq q name ≡ false = same_both_ways q name ∙ e in
        rw (e, back) (sym (add-zero (unwrap_or (before q) 0)))
