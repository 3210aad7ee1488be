-- What each statement rests on: things that equal one thing are equal, and two facts together give what follows from both.
-- Assumes nothing.
use mathlib.Core.Path.{◌≡◌, sym, ◌∙◌}
use base.Logic.{ent, fst∗, sep, snd∗, SProp, via}
use contract.Monad.{conj, conj_l, conj_r, fact, fact_i, fact_use}
use seplogic.Ra.Ura.{Ura}

pub same {ℓ} : {A : Type ℓ} {x y z : A} → x ≡ z → y ≡ z → x ≡ y
same h k = h ∙ sym k

-- of two equal pairs

pub one {ℓ m} : {A : Type ℓ} {B : Type m} {p q : A × B} → p ≡ q → p.0 ≡ q.0
one e = λ i. (e i).0

pub other {ℓ m} : {A : Type ℓ} {B : Type m} {p q : A × B} → p ≡ q → p.1 ≡ q.1
other e = λ i. (e i).1

pub both : {M : Type 1} (𝓤 : Ura M) {φ ψ χ : Type 0} → (φ → ψ → χ) → ent 𝓤 (conj 𝓤 (fact 𝓤 φ) (fact 𝓤 ψ)) (fact 𝓤 χ)
both 𝓤 {φ} {ψ} {χ} g =
    fact_use 𝓤 φ (conj_l 𝓤 (fact 𝓤 φ) (fact 𝓤 ψ)) λ h.
    fact_use 𝓤 ψ (conj_r 𝓤 (fact 𝓤 φ) (fact 𝓤 ψ)) λ k. fact_i 𝓤 χ (conj 𝓤 (fact 𝓤 φ) (fact 𝓤 ψ)) (g h k)

-- the same of contracts of two clauses
pub both-of-two : {M : Type 1} (𝓤 : Ura M) {φ ψ φ' ψ' χ : Type 0} → (φ × ψ → φ' × ψ' → χ)
    → ent 𝓤 (conj 𝓤 (sep 𝓤 (fact 𝓤 φ) (fact 𝓤 ψ)) (sep 𝓤 (fact 𝓤 φ') (fact 𝓤 ψ'))) (fact 𝓤 χ)
both-of-two {M} 𝓤 {φ} {ψ} {φ'} {ψ'} {χ} g =
    fact_use 𝓤 (φ × ψ) (via 𝓤 left (conj_l 𝓤 left right) (joined φ ψ)) λ h.
    fact_use 𝓤 (φ' × ψ') (via 𝓤 right (conj_r 𝓤 left right) (joined φ' ψ')) λ k. fact_i 𝓤 χ (conj 𝓤 left right) (g h k)
  where
    left : SProp 𝓤
    left = sep 𝓤 (fact 𝓤 φ) (fact 𝓤 ψ)

    right : SProp 𝓤
    right = sep 𝓤 (fact 𝓤 φ') (fact 𝓤 ψ')

    joined : (α β : Type 0) → ent 𝓤 (sep 𝓤 (fact 𝓤 α) (fact 𝓤 β)) (fact 𝓤 (α × β))
    joined α β =
        fact_use 𝓤 α (fst∗ 𝓤 (fact 𝓤 α) (fact 𝓤 β)) λ p.
        fact_use 𝓤 β (snd∗ 𝓤 (fact 𝓤 α) (fact 𝓤 β)) λ q. fact_i 𝓤 (α × β) (sep 𝓤 (fact 𝓤 α) (fact 𝓤 β)) (p, q)
