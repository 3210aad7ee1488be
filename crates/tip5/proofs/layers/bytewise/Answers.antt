-- `layers::bytewise` meets its contract: the bytes of a word are its digits to the base 256.
-- Assumes nothing.
use mathlib.Core.Path.{◌≡◌, sym, ap, subst⁻¹, ◌∙◌}
use mathlib.Core.List.{List}
use Prim.Native.Nat.{ℕ, ◌/◌, ◌%◌, ◌<◌}
use native.Mathlib.Nat.{div-one, mod-lt}
use native.Mathlib.Omega.{arith}
use lib.Dec.{lit<}
use lib.ListN.{get_or}
use Rattle.rounds.specs.Round.{bytewise}
use Rattle.tip5.proofs.layers.bytewise.Goals as goal

small : {n : ℕ} (m : ℕ) → n ≡ m % 256 → n < 256
small m e = subst⁻¹ (λ (k : ℕ). k < 256) e (mod-lt m (lit< tt))

pub returns : goal.returns
unfolding bytewise
returns g c = λ f is.
    let w = c.args.word in
    let l : List ℕ = c.to_le_bytes.result in
    let b₀ : get_or l 0 0 ≡ w / 1 % 256 = ap (λ (l : List ℕ). get_or l 0 0) c.to_le_bytes.ensures ∙ ap (λ (n : ℕ). n % 256) (sym (div-one w)) in
    let b₁ : get_or l 1 0 ≡ w / 256 % 256 = ap (λ (l : List ℕ). get_or l 1 0) c.to_le_bytes.ensures in
    let b₂ : get_or l 2 0 ≡ w / 65536 % 256 = ap (λ (l : List ℕ). get_or l 2 0) c.to_le_bytes.ensures in
    let b₃ : get_or l 3 0 ≡ w / 16777216 % 256 = ap (λ (l : List ℕ). get_or l 3 0) c.to_le_bytes.ensures in
    let b₄ : get_or l 4 0 ≡ w / 4294967296 % 256 = ap (λ (l : List ℕ). get_or l 4 0) c.to_le_bytes.ensures in
    let b₅ : get_or l 5 0 ≡ w / 1099511627776 % 256 = ap (λ (l : List ℕ). get_or l 5 0) c.to_le_bytes.ensures in
    let b₆ : get_or l 6 0 ≡ w / 281474976710656 % 256 = ap (λ (l : List ℕ). get_or l 6 0) c.to_le_bytes.ensures in
    let b₇ : get_or l 7 0 ≡ w / 72057594037927936 % 256 = ap (λ (l : List ℕ). get_or l 7 0) c.to_le_bytes.ensures in
    let e₀ : c.look_up.result ≡ f (w / 1 % 256) = is _ _ (small _ b₀) c.look_up.ensures ∙ ap f b₀ in
    let e₁ : c.look_up-2.result ≡ f (w / 256 % 256) = is _ _ (small _ b₁) c.look_up-2.ensures ∙ ap f b₁ in
    let e₂ : c.look_up-3.result ≡ f (w / 65536 % 256) = is _ _ (small _ b₂) c.look_up-3.ensures ∙ ap f b₂ in
    let e₃ : c.look_up-4.result ≡ f (w / 16777216 % 256) = is _ _ (small _ b₃) c.look_up-4.ensures ∙ ap f b₃ in
    let e₄ : c.look_up-5.result ≡ f (w / 4294967296 % 256) = is _ _ (small _ b₄) c.look_up-5.ensures ∙ ap f b₄ in
    let e₅ : c.look_up-6.result ≡ f (w / 1099511627776 % 256) = is _ _ (small _ b₅) c.look_up-6.ensures ∙ ap f b₅ in
    let e₆ : c.look_up-7.result ≡ f (w / 281474976710656 % 256) = is _ _ (small _ b₆) c.look_up-7.ensures ∙ ap f b₆ in
    let e₇ : c.look_up-8.result ≡ f (w / 72057594037927936 % 256) = is _ _ (small _ b₇) c.look_up-8.ensures ∙ ap f b₇ in
    omega (arith, c.from_le_bytes.ensures, e₀, e₁, e₂, e₃, e₄, e₅, e₆, e₇)
