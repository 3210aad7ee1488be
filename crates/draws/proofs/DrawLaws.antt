-- The laws of a draw: one draw goes on from another, as many are found and squeezed as wanted and allowed, and the sponge is the start
-- after the squeezes that are counted.
-- Assumes nothing.
use mathlib.Core.List.{◌++◌, append_assoc, append-nil}
use mathlib.Core.Path.{◌≡◌, refl, ap, ap₂, sym, ◌∙◌}
use Prim.Native.Nat.{ℕ, zero, suc, ◌+◌, ◌-◌, ◌≤◌, ◌<◌}
use native.Mathlib.Nat.{add_assoc, add-zero, zero-add, suc-add, sub-zero}
use native.Mathlib.Numerals.{one-add}
use native.Mathlib.Omega.{arith}
use lib.ListN.{length, replicate, take, length-append, length-take}
use Rattle.sponge.specs.declared.Tip5.{Tip5}
use Rattle.sponge.specs.History.{after, run}
use Rattle.sponge.specs.History.Step.{squeeze}
use Rattle.sponge.specs.Sponge.{rate, squeezed}
use Rattle.draws.specs.Draw.{Draw, draw, from_ten, from_words, joined, nothing}

-- Draws that go on

pub joined-assoc : (d e f : Draw) → joined (joined d e) f ≡ joined d (joined e f)
joined-assoc d e f =
    λ i. record { indices = append_assoc d.indices e.indices f.indices i; squeezes = add_assoc d.squeezes e.squeezes f.squeezes i; sponge = f.sponge }

pub joined-nothing : (d : Draw) → joined d (nothing d.sponge) ≡ d
joined-nothing d = λ i. record { indices = append-nil d.indices i; squeezes = add-zero d.squeezes i; sponge = d.sponge }

pub nothing-joined : (s : Tip5) (d : Draw) → joined (nothing s) d ≡ d
nothing-joined s d = λ i. record { indices = d.indices; squeezes = zero-add d.squeezes i; sponge = d.sponge }

-- nothing is allowed
pub draw-spent : (bound n : ℕ) (s : Tip5) → draw bound 0 n s ≡ nothing s
unfolding draw
draw-spent bound n s = refl

-- nothing is wanted
pub draw-none : (bound a : ℕ) (s : Tip5) → draw bound a 0 s ≡ nothing s
unfolding draw
draw-none bound zero s = refl
draw-none bound (suc a) s = refl

-- indices are missing, and a squeeze is allowed
pub draw-turn : (bound a n : ℕ) (s : Tip5) → 0 < n
    → draw bound (suc a) n s ≡ joined (from_ten bound n s) (draw bound a (n - length (from_ten bound n s).indices) (from_ten bound n s).sponge)
unfolding draw
draw-turn bound a zero s h = absurd (omega arith)
draw-turn bound a (suc n) s h = refl

-- a draw, and with what is left of the wanted and more allowance the draw that goes on: the same as with both allowances at once
pub draw-add : (bound a more n : ℕ) (s : Tip5)
    → draw bound (a + more) n s ≡ (let d = draw bound a n s in joined d (draw bound more (n - length d.indices) d.sponge))
unfolding draw
draw-add bound zero more n s = ap₂ (λ (a m : ℕ). draw bound a m s) (zero-add more) (sym (sub-zero n)) ∙ sym (nothing-joined s (draw bound more (n - 0) s))
draw-add bound (suc a) more zero s =
    ap (λ (k : ℕ). draw bound k 0 s) (suc-add a more) ∙ sym (nothing-joined s (draw bound more 0 s) ∙ draw-none bound more s)
draw-add bound (suc a) more (suc n) s =
    let d = from_ten bound (suc n) s in
    let left = suc n - length d.indices in
    let e = draw bound a left d.sponge in
    let fewer : suc n - length (d.indices ++ e.indices) ≡ left - length e.indices = omega (arith, length-append d.indices e.indices) in
    ap (λ (k : ℕ). draw bound k (suc n) s) (suc-add a more)
    ∙ ap (joined d) (draw-add bound a more left d.sponge)
    ∙ sym (ap (λ (k : ℕ). joined (joined d e) (draw bound more k e.sponge)) fewer ∙ joined-assoc d e (draw bound more (left - length e.indices) e.sponge))

-- What is found and counted

-- no more than wanted
pub draw-found : (bound a n : ℕ) (s : Tip5) → length (draw bound a n s).indices ≤ n
unfolding draw from_ten
draw-found bound zero n s = omega arith
draw-found bound (suc a) zero s = omega arith
draw-found bound (suc a) (suc n) s =
    let here = take (suc n) (from_words bound (rate s)) in
    let rest = draw bound a (suc n - length here) (squeezed s) in
    let few = draw-found bound a (suc n - length here) (squeezed s) in
    omega (arith, length-append here rest.indices, length-take (suc n) (from_words bound (rate s)))

-- no more than allowed
pub draw-squeezes : (bound a n : ℕ) (s : Tip5) → (draw bound a n s).squeezes ≤ a
unfolding draw from_ten
draw-squeezes bound zero n s = omega arith
draw-squeezes bound (suc a) zero s = omega arith
draw-squeezes bound (suc a) (suc n) s =
    let few = draw-squeezes bound a (suc n - length (take (suc n) (from_words bound (rate s)))) (squeezed s) in
    omega arith

-- where indices are missing the whole allowance is spent
pub draw-missing : (bound a n : ℕ) (s : Tip5) → length (draw bound a n s).indices < n → (draw bound a n s).squeezes ≡ a
unfolding draw from_ten
draw-missing bound zero n s h = refl
draw-missing bound (suc a) zero s h = absurd (omega arith)
draw-missing bound (suc a) (suc n) s h =
    let here = take (suc n) (from_words bound (rate s)) in
    let rest = draw bound a (suc n - length here) (squeezed s) in
    let spent = draw-missing bound a (suc n - length here) (squeezed s) (omega (arith, length-append here rest.indices)) in
    omega arith

-- the sponge is the start after as many squeezes as are counted
pub draw-sponge : (bound a n : ℕ) (s : Tip5) → (draw bound a n s).sponge ≡ run (replicate (draw bound a n s).squeezes squeeze) s
unfolding draw from_ten run after
draw-sponge bound zero n s = refl
draw-sponge bound (suc a) zero s = refl
draw-sponge bound (suc a) (suc n) s =
    let left = suc n - length (take (suc n) (from_words bound (rate s))) in
    draw-sponge bound a left (squeezed s) ∙ ap (λ (k : ℕ). run (replicate k squeeze) s) (sym (one-add (draw bound a left (squeezed s)).squeezes))
