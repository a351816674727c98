-- What holds of each of a few numbers.
use Rattle.std.proofs.Common.{ℕ, inl, inr, sym, subst}
use Rattle.touched_words.specs.declared.few.Few.{Few}
use Rattle.touched_words.specs.TouchTables.{IsOneOf}

pub each_of : (P : ℕ → Type 0) (few : Few) → P few.first → P few.second → P few.third → P few.fourth → (n : ℕ)
    → IsOneOf few n → P n
each_of P few a b c d n (inl e) = subst P (sym e) a
each_of P few a b c d n (inr (inl e)) = subst P (sym e) b
each_of P few a b c d n (inr (inr (inl e))) = subst P (sym e) c
each_of P few a b c d n (inr (inr (inr e))) = subst P (sym e) d
