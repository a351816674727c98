-- How often each name was counted.
use Rattle.std.specs.Prelude.{ℕ, List, unwrap_or}
use Rattle.std.specs.HashMap.{HashMap}
use Rattle.std.specs.Map.{lookup}
use Rattle.std.specs.Str.{bytes_eq}
use denote.Ref.{Bor}

unfoldable pub times_in : {S : Type 0} → HashMap (Bor (List ℕ)) ℕ S → List ℕ → ℕ
times_in times name = unwrap_or (lookup (λ n. bytes_eq name n.now) times.entries) 0
