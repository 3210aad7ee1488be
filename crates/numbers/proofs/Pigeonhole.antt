-- A function that maps the numbers below n into themselves, no two to the same, reaches every one of them.
-- Assumes nothing.
use mathlib.Core.Path.{◌≡◌, refl, sym, ap, ◌∙◌}
use mathlib.Core.Logic.{◌≢◌, ite, if_pos, if_neg, by_cases}
use Prim.Native.Nat.{ℕ, zero, suc, ◌<◌}
use native.Mathlib.Nat.{le_of_suc-le-suc, le_step, lt-suc_self, ne_of_lt, not-suc-le-zero}
use native.Mathlib.Decide.{ℕ_discrete}
use lib.Arith.{lt_of_le-ne}

-- x, but that a and b change places
swap : (a b x : ℕ) → ℕ
swap a b x = ite (ℕ_discrete x a) b (ite (ℕ_discrete x b) a x)

-- a goes to b
swap-first : (a b : ℕ) → swap a b a ≡ b
unfolding swap
swap-first a b = if_pos (ℕ_discrete a a) refl b (ite (ℕ_discrete a b) a a)

-- a third number stays
swap-other : (a b x : ℕ) → x ≢ a → x ≢ b → swap a b x ≡ x
unfolding swap
swap-other a b x x≢a x≢b = if_neg (ℕ_discrete x a) x≢a b (ite (ℕ_discrete x b) a x) ∙ if_neg (ℕ_discrete x b) x≢b a x

-- b goes to a
swap-second : (a b : ℕ) → swap a b b ≡ a
unfolding swap
swap-second a b =
    by_cases (ℕ_discrete b a) (λ e. if_pos (ℕ_discrete b a) e b (ite (ℕ_discrete b b) a b) ∙ e)
    (λ b≢a. if_neg (ℕ_discrete b a) b≢a b (ite (ℕ_discrete b b) a b) ∙ if_pos (ℕ_discrete b b) refl a b)

-- what holds of x and its image, case by case
swap-cases : (F : ℕ → ℕ → Type 0) (a b x : ℕ) → F a b → F b a → (x ≢ a → x ≢ b → F x x) → F x (swap a b x)
swap-cases F a b x first second other =
    by_cases (ℕ_discrete x a) (λ e. rw (e, swap-first) first)
    (λ x≢a. by_cases (ℕ_discrete x b) (λ e. rw (e, swap-second) second) (λ x≢b. rw (swap-other a b x x≢a x≢b) (other x≢a x≢b)))

-- to swap twice changes nothing
swap-swap : (a b x : ℕ) → swap a b (swap a b x) ≡ x
swap-swap a b x = swap-cases (λ x y. swap a b y ≡ x) a b x (swap-second a b) (swap-first a b) (swap-other a b x)

-- so no two numbers go to the same
swap-injective : (a b x y : ℕ) → swap a b x ≡ swap a b y → x ≡ y
swap-injective a b x y e = sym (swap-swap a b x) ∙ ap (swap a b) e ∙ swap-swap a b y

-- where the greatest number m changes places with v, all but v come below m
swap-below : (m v x : ℕ) → v < suc m → x < suc m → x ≢ v → swap m v x < m
swap-below m v x v< x< x≢v =
    lt_of_le-ne
    (le_of_suc-le-suc (swap-cases (λ x y. x < suc m → y < suc m) m v x (λ _. v<) (λ _. lt-suc_self m) (λ _ _ h. h) x<))
    (λ e. x≢v (swap-injective m v x v (e ∙ sym (swap-second m v))))

-- f maps the numbers below n into themselves
abbrev pub Into : (n : ℕ) (f : ℕ → ℕ) → Type 0
Into n f = (k : ℕ) → k < n → f k < n

-- f maps no two numbers below n to the same
abbrev pub Apart : (n : ℕ) (f : ℕ → ℕ) → Type 0
Apart n f = (i j : ℕ) → i < n → j < n → f i ≡ f j → i ≡ j

-- some number below n has the image y
abbrev pub Reached : (n : ℕ) (f : ℕ → ℕ) (y : ℕ) → Type 0
Reached n f y = (k : ℕ) × (k < n) × (f k ≡ y)

-- the image of the last number m changes places with m: what is left is a function below m
fewer : (m : ℕ) (f : ℕ → ℕ) (k : ℕ) → ℕ
fewer m f k = swap m (f m) (f k)

-- it maps into itself
fewer-into : (m : ℕ) (f : ℕ → ℕ) → Into (suc m) f → Apart (suc m) f → Into m (fewer m f)
unfolding fewer
fewer-into m f into apart k k< =
    swap-below m (f m) (f k) (into m (lt-suc_self m)) (into k (le_step k<))
    (λ e. ne_of_lt k< (apart k m (le_step k<) (lt-suc_self m) e))

-- it maps no two numbers to the same
fewer-apart : (m : ℕ) (f : ℕ → ℕ) → Apart (suc m) f → Apart m (fewer m f)
unfolding fewer
fewer-apart m f apart i j i< j< e = apart i j (le_step i<) (le_step j<) (swap-injective m (f m) (f i) (f j) e)

-- and what it reaches, f reached
fewer-reached : (m : ℕ) (f : ℕ → ℕ) (y : ℕ) → Reached m (fewer m f) (swap m (f m) y) → Reached (suc m) f y
unfolding fewer
fewer-reached m f y r = (r.0, le_step r.1, swap-injective m (f m) (f r.0) y r.2)

-- every number below n is reached
pub reaches : (n : ℕ) (f : ℕ → ℕ) → Into n f → Apart n f → (y : ℕ) → y < n → Reached n f y
reaches zero f into apart y y< = absurd (not-suc-le-zero y<)
reaches (suc m) f into apart y y< =
    by_cases (ℕ_discrete y (f m)) (λ e. (m, lt-suc_self m, sym e))
    (λ y≢v.
    fewer-reached m f y
    (reaches m (fewer m f) (fewer-into m f into apart) (fewer-apart m f apart) (swap m (f m) y)
    (swap-below m (f m) y (into m (lt-suc_self m)) y< y≢v)))
