-- That the computed sameness is equality, on which `==` of images rests. A cell is that of its value and of its tags as
-- a number.
use Rattle.std.proofs.Common.{◌≡◌, ℕ, Bool, true, false, refl, sym, ◌∙◌, ap}
use Rattle.std.specs.Bool.{Decides}
use Rattle.std.specs.Cmp.{IsPartialEquivalence}
use Rattle.std.proofs.lemmas.Bool.Decides.{Decides-and, Decides-eqb, Decides-like, same_from_decides}
use Rattle.std.proofs.lemmas.Slice.Eq.{slice_eq-Decides}
use Rattle.insn_word.specs.declared.profiles.Profile.{Profile}
use Rattle.insn_word.specs.declared.profiles.Profile.TheVariants.{One, Two}
use Rattle.tag_memory.specs.Cell.{Cell, cell_of, tag_number}
use Rattle.image_file.specs.ImageValue.{ImageValue}
use Rattle.image_file.specs.Same.{same_cell, same_profile, same_image}

flags_back : (v : ℕ) (full forward trap0 trap1 : Bool)
    → let c : Cell = record { value = v; full = full; forward = forward; trap0 = trap0; trap1 = trap1 } in
    cell_of v (tag_number c) ≡ c
flags_back v true true true true = refl
flags_back v true true true false = refl
flags_back v true true false true = refl
flags_back v true true false false = refl
flags_back v true false true true = refl
flags_back v true false true false = refl
flags_back v true false false true = refl
flags_back v true false false false = refl
flags_back v false true true true = refl
flags_back v false true true false = refl
flags_back v false true false true = refl
flags_back v false true false false = refl
flags_back v false false true true = refl
flags_back v false false true false = refl
flags_back v false false false true = refl
flags_back v false false false false = refl

pub cell_of-tag_number : (c : Cell) → cell_of c.value (tag_number c) ≡ c
cell_of-tag_number c = flags_back c.value c.full c.forward c.trap0 c.trap1

cells_equal : (c d : Cell) → (c.value ≡ d.value) × (tag_number c ≡ tag_number d) → c ≡ d
cells_equal c d e = sym (cell_of-tag_number c) ∙ (λ i. cell_of (e.0 i) (e.1 i)) ∙ cell_of-tag_number d

same_cell_decides : (c d : Cell) → Decides (same_cell c d) (c ≡ d)
same_cell_decides c d =
    Decides-like (same_cell c d) (cells_equal c d) (λ e. (ap (λ (x : Cell). x.value) e, ap tag_number e))
    (Decides-and _ _ (Decides-eqb c.value d.value) (Decides-eqb (tag_number c) (tag_number d)))

same_profile_decides : (a b : Profile) → Decides (same_profile a b) (a ≡ b)
same_profile_decides One One = (λ _. refl, λ _. refl)
same_profile_decides One Two = (λ e. absurd cc, λ e. absurd cc)
same_profile_decides Two One = (λ e. absurd cc, λ e. absurd cc)
same_profile_decides Two Two = (λ _. refl, λ _. refl)

pub same_image_decides : (a b : ImageValue) → Decides (same_image a b) (a ≡ b)
same_image_decides a b =
    Decides-like (same_image a b)
    (λ p. λ i. record {
      profile = p.0 i;
      entries = p.1.0 i;
      slim = p.1.1.0 i;
      chain_limit = p.1.1.1.0 i;
      retry_limit = p.1.1.1.1.0 i;
      trap_entry = p.1.1.1.1.1.0 i;
      program = p.1.1.1.1.1.1.0 i;
      cells = p.1.1.1.1.1.1.1 i;
    })
    (λ e. (
      λ i. (e i).profile,
      (
        λ i. (e i).entries,
        (
          λ i. (e i).slim,
          (
            λ i. (e i).chain_limit,
            (
              λ i. (e i).retry_limit,
              (
                λ i. (e i).trap_entry,
                (λ i. (e i).program, λ i. (e i).cells),
              ),
            ),
          ),
        ),
      ),
    ))
    (Decides-and _ _ (same_profile_decides a.profile b.profile)
    (Decides-and _ _ (slice_eq-Decides Decides-eqb a.entries b.entries _ refl)
    (Decides-and _ _ (Decides-eqb a.slim b.slim)
    (Decides-and _ _ (Decides-eqb a.chain_limit b.chain_limit)
    (Decides-and _ _ (Decides-eqb a.retry_limit b.retry_limit)
    (Decides-and _ _ (Decides-eqb a.trap_entry b.trap_entry)
    (Decides-and _ _ (slice_eq-Decides Decides-eqb a.program b.program _ refl)
    (slice_eq-Decides same_cell_decides a.cells b.cells _ refl))))))))

pub same_image-laws : IsPartialEquivalence same_image
same_image-laws = record {
  symm = λ x y. same_from_decides (same_image x y) (same_image y x) (same_image_decides x y)
      (Decides-like (same_image y x) (λ e. sym e) (λ e. sym e) (same_image_decides y x));
  trans = λ x y z e f. (same_image_decides x z).1 ((same_image_decides x y).0 e ∙ (same_image_decides y z).0 f);
}
