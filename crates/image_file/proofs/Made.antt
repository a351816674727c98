-- What reading and writing put together, and how reading answers.
use Rattle.std.proofs.Common.{◌≡◌, ℕ, List, [], ◌++◌, drop, Result, Ok, Err, ◌⊎◌, inl, inr}
use Rattle.std.proofs.Common.{◌∙◌, append_assoc}
use Rattle.std.specs.Prelude.{IfOk}
use Rattle.tag_memory.specs.Cell.{Cell}
use Rattle.image_file.specs.declared.fault.ImageFault.{ImageFault}
use Rattle.image_file.specs.declared.fault.ImageFault.TheVariants.{NoMemory}
use Rattle.image_file.specs.declared.header.Header.{Header}
use Rattle.image_file.specs.ImageValue.{ImageValue, image_in}
use Rattle.image_file.specs.Fields.{IsBytes}
use Rattle.image_file.specs.Spelling.{Stands}
use Rattle.image_file.specs.Header.{header_at}
use Rattle.image_file.specs.Reading.{processors_at, words_at, cells_at, entries_place, program_place}
use Rattle.image_file.specs.Reading.{cells_place}
use Rattle.image_file.specs.Reading.{entries_from, program_from, cells_from, image_at}
use Rattle.image_file.specs.Answers.{Reads}
use Rattle.image_file.proofs.Sound.{sound_from, no_fault}
use Rattle.image_file.proofs.WrittenBack.{stands_at}
use Rattle.image_file.proofs.ReadBack.{image_again, sound_again}

-- the image of the header's numbers and of the lists behind it
pub image_made : (b : List ℕ) (h : Header) (entries program : List ℕ) (cells : List Cell) → h ≡ header_at b
    → entries ≡ entries_from (processors_at b) (drop (entries_place b) b)
    → program ≡ program_from (words_at b) (drop (program_place b) b)
    → cells ≡ cells_from (cells_at b) (drop (cells_place b) b)
    → image_in h.profile h.chain_limit entries h.slim h.retry_limit h.trap_entry program cells ≡ image_at b
unfolding image_at
image_made b h entries program cells h-is entries-is program-is cells-is = λ i. record {
  profile = (h-is i).profile;
  slim = (h-is i).slim;
  chain_limit = (h-is i).chain_limit;
  retry_limit = (h-is i).retry_limit;
  trap_entry = (h-is i).trap_entry;
  entries = entries-is i;
  program = program-is i;
  cells = cells-is i;
}

-- four parts, added one by one
pub four_put : (o0 o1 o2 o3 o4 a b c d : List ℕ)
    → o0 ≡ [] → o1 ≡ o0 ++ a → o2 ≡ o1 ++ b → o3 ≡ o2 ++ c → o4 ≡ o3 ++ d → o4 ≡ a ++ (b ++ (c ++ d))
four_put o0 o1 o2 o3 o4 a b c d e0 e1 e2 e3 e4 =
    let all : o4 ≡ ((([] ++ a) ++ b) ++ c) ++ d = cc in
    all ∙ append_assoc (a ++ b) c d ∙ append_assoc a b (c ++ d)

pub found : (b : List ℕ) (r : Result ImageValue ImageFault) → IsBytes b → Reads b r → IfOk r (λ i. Stands b i)
found b (Ok i) are_bytes given = rw given.1 (stands_at b are_bytes (sound_from b given.0))
found b (Err f) are_bytes given = tt

pub only : (b : List ℕ) (r : Result ImageValue ImageFault) → Reads b r → (i : ImageValue) → Stands b i
    → (r ≡ Ok i) ⊎ (r ≡ Err NoMemory)
only b (Ok j) given i stands = inl (let e : j ≡ i = given.1 ∙ image_again b i stands in cc)
only b (Err f) (inl e) i stands = absurd (let none = no_fault b (sound_again b i stands) in cc)
only b (Err f) (inr p) i stands = inr (let e = p.0 in cc)
