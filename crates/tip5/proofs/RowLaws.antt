-- A row of the matrix times the words, summed one product at a time.
-- Assumes nothing.
use mathlib.Core.Path.{◌≡◌, sym, ap, ◌∙◌}
use Prim.Native.Nat.{ℕ, ◌+◌, ◌-◌, ◌*◌, ◌^◌, ◌<◌}
use native.Mathlib.Nat.{add_assoc, mul-one}
use native.Mathlib.Omega.{arith}
use Rattle.numbers.specs.Congruence.{Cong}
use Rattle.numbers.specs.Lists.{total}
use Rattle.numbers.specs.Modulus.{P, r_inv}
use Rattle.numbers.proofs.Congruence.{cong-add, cong-eq, cong-mod, cong-mul, cong-refl, cong-trans}
use Rattle.numbers.proofs.Lists.{total-next}
use Rattle.numbers.proofs.Montgomery.{r_inv-inverse}
use Rattle.rounds.specs.Field.{add, mul, raw_of}

-- the product with the raw word of a value is that value's multiple
pub mul-raw_of : (v a : ℕ) → Cong P (mul (raw_of v) a) (v * a)
unfolding mul raw_of
mul-raw_of v a =
    cong-trans cong-mod
    (cong-trans (cong-mul (cong-mul cong-mod cong-refl) cong-refl)
    (cong-trans (cong-eq (regroup (2 ^ 64) r_inv))
    (cong-trans (cong-mul cong-refl (record { same = r_inv-inverse })) (cong-eq (mul-one (v * a))))))
  where
    regroup : (r s : ℕ) → v * r * a * s ≡ v * a * (r * s)
    regroup r s = omega arith

-- one turn of the sum: it and what is left of it come to the whole, modulo P
pub row-turn : (n c : ℕ) (f : ℕ → ℕ) (sum : ℕ) {product next whole : ℕ} → Cong P (sum + total (n - c) c f) whole → c < n → Cong P product (f c)
    → next ≡ add sum product → Cong P (next + total (n - (c + 1)) (c + 1) f) whole
unfolding add
row-turn n c f sum h c< e e' =
    cong-trans (cong-add (cong-trans (cong-eq e') (cong-trans cong-mod (cong-add cong-refl e))) cong-refl)
    (cong-trans (cong-eq (add_assoc sum (f c) (total (n - (c + 1)) (c + 1) f) ∙ ap (λ (t : ℕ). sum + t) (sym (total-next n c f c<)))) h)
