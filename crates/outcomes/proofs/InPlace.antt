-- No second outcome: the sponge and the draw in place.
-- Assumes nothing.
use mathlib.Core.List.{List}
use Prim.Native.Nat.{ℕ}
use Rattle.sponge.specs.declared.Tip5.{Tip5}
use Rattle.sponge.proofs.Tip5.absorb.Reads as absorb
use Rattle.sponge.proofs.Tip5.pad_and_absorb_all.Reads as pad-and-absorb-all
use Rattle.sponge.proofs.Tip5.step_back.Reads as step-back
use Rattle.sponge.proofs.Tip5.squeeze.Reads as squeeze
use Rattle.draws.proofs.in_place.sample_indices.Reads as sample-indices
use Rattle.outcomes.specs.Outcome.{OneAnswer, OneExit}
use Rattle.outcomes.proofs.Same.{one, other, same}

pub absorb-once : OneAnswer absorb.Learnt
absorb-once κs a x y e f h k = one (same h k)

pub absorb-leaves : OneExit absorb.Learnt λ κs e. e.0.now
absorb-leaves κs a x y e f h k = other (same h k)

pub pad-and-absorb-all-once : OneAnswer pad-and-absorb-all.Learnt
pad-and-absorb-all-once κs a x y e f h k = one (same h k)

pub pad-and-absorb-all-leaves : OneExit pad-and-absorb-all.Learnt λ κs e. e.0.now
pad-and-absorb-all-leaves κs a x y e f h k = other (same h k)

pub step-back-once : OneAnswer step-back.Learnt
step-back-once κs a x y e f h k = one (same h k)

pub step-back-leaves : OneExit step-back.Learnt λ κs e. e.0.now
step-back-leaves κs a x y e f h k = other (same h k)

pub squeeze-once : OneAnswer squeeze.Learnt
squeeze-once κs a x y e f h k = one (same h k)

pub squeeze-leaves : OneExit squeeze.Learnt λ κs e. e.0.now
squeeze-leaves κs a x y e f h k = other (same h k)

pub sample-indices-once : OneAnswer sample-indices.Learnt
sample-indices-once κs a x y e f h k = one (same h.0 k.0)

-- the sponge and the slice
pub sample-indices-leaves : OneExit {S = λ κs. Tip5 × List ℕ} sample-indices.Learnt λ κs e. (e.0.now, e.1.1.0.now)
sample-indices-leaves κs a x y e f h k = λ i. (other (same h.0 k.0) i, same h.1 k.1 i)
