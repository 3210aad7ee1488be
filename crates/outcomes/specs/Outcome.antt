-- One outcome: two answers that meet a contract, of calls with the same arguments, are equal; and so is what each leaves behind
-- a lent reference.
use Rattle.std.specs.Prelude.{◌≡◌}
use base.Logic.{ent}
use contract.Lifetimes.{Lfts}
use contract.Monad.{conj, fact}
use denote.Triple.Clauses.{AtExit, Clauses, Ended}
use denote.Triple.Entry.{Args, Res}
use seplogic.Ra.Ura.{Ura}

-- A contract as what a caller learns of a call, by its lifetimes, its arguments, its answer and its exit

-- one answer
abbrev pub OneAnswer : {K : Type 0} {A X E : K → Type 0} → ((k : K) → A k → X k → E k → Type 0) → Type 0
OneAnswer {K} {A} {X} {E} Contract = (k : K) (a : A k) (x y : X k) (e f : E k) → Contract k a x e → Contract k a y f → x ≡ y

-- one exit, in what is seen of it
abbrev pub OneExit : {K : Type 0} {A X E S : K → Type 0} → ((k : K) → A k → X k → E k → Type 0) → (seen : (k : K) → E k → S k) → Type 0
OneExit {K} {A} {X} {E} Contract seen =
    (k : K) (a : A k) (x y : X k) (e f : E k) → Contract k a x e → Contract k a y f → seen k e ≡ seen k f

-- A contract as its clauses: what its `ensures` says of two answers together

abbrev pub OneOutcome : {M : Type 1} (𝓤 : Ura M) (T : Ended) → Clauses 𝓤 T
    → (Equal : (κs : Lfts T.signature.lifetimes) (x y : Res T.signature κs) (e f : AtExit T κs) → Type 0) → Type 1
OneOutcome 𝓤 T Contract Equal =
    (κs : Lfts T.signature.lifetimes) (a : Args T.signature κs) (g : (Contract κs a).ghost) (x y : Res T.signature κs) (e f : AtExit T κs)
    → ent 𝓤 (conj 𝓤 ((Contract κs a).ensures g x e) ((Contract κs a).ensures g y f)) (fact 𝓤 (Equal κs x y e f))
