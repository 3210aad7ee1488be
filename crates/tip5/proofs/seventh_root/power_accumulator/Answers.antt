-- `seventh_root::power_accumulator` meets its contract.
-- Assumes nothing.
use mathlib.Core.List.{[], ◌∷◌}
use mathlib.Core.Path.{◌≡◌}
use Prim.Native.Nat.{◌^◌}
use native.Mathlib.Omega.{arith}
use borrow.Author.Rules.{rules}
use Rattle.std.proofs.lemmas.Grind.{common_steps}
use lib.Dec.{lit<}
use lib.ListN.{get_or}
use Rattle.rounds.specs.Field.{mul}
use Rattle.tip5.proofs.PowersLaws.{Raised, raised-one, squared-all, squared-more}
use Rattle.tip5.proofs.seventh_root.power_accumulator.Goals as goal

pub loop-init : goal.loop-init
loop-init c = raised-one c.args.base

pub loop-preserved : goal.loop-preserved
loop-preserved c =
    let l = c.loop in
    record {
      at = λ k h.
          let e : get_or c.map-square.result k 0 ≡ mul (get_or l.square k 0) (get_or l.square k 0) = (let f = c.map-square.ensures.items.at k 0 0 h in search rules) in
          squared-more (get_or c.args.base k 0) l.counter (l.invariant.at k h) e;
    }

pub returns : goal.returns
returns c =
    let l = c.loop in
    let base = c.args.base in
    let tail = c.args.tail in
    let all : l.counter ≡ c.args.times = omega arith in
    let turned : Raised (2 ^ c.args.times) base l.square = (let r : Raised (2 ^ l.counter) base l.square = l.invariant in rw all at r) in
    let m₀ : c.mul.result ≡ mul (get_or l.square 0 0) (get_or tail 0 0) = grind (arith, common_steps) in
    let m₁ : c.mul-2.result ≡ mul (get_or l.square 1 0) (get_or tail 1 0) = grind (arith, common_steps) in
    let m₂ : c.mul-3.result ≡ mul (get_or l.square 2 0) (get_or tail 2 0) = grind (arith, common_steps) in
    let m₃ : c.mul-4.result ≡ mul (get_or l.square 3 0) (get_or tail 3 0) = grind (arith, common_steps) in
    let e₀ = squared-all (get_or base 0 0) c.args.times (get_or tail 0 0) (turned.at 0 (lit< tt)) m₀ in
    let e₁ = squared-all (get_or base 1 0) c.args.times (get_or tail 1 0) (turned.at 1 (lit< tt)) m₁ in
    let e₂ = squared-all (get_or base 2 0) c.args.times (get_or tail 2 0) (turned.at 2 (lit< tt)) m₂ in
    let e₃ = squared-all (get_or base 3 0) c.args.times (get_or tail 3 0) (turned.at 3 (lit< tt)) m₃ in
    λ i. e₀ i ∷ e₁ i ∷ e₂ i ∷ e₃ i ∷ []
