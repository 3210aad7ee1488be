-- No second outcome: the permutation, its rounds, the way back and the exports.
-- Assumes nothing.
use Rattle.tip5.proofs.permutation.permutation.Reads as permutation
use Rattle.tip5.proofs.permutation.round.Reads as round
use Rattle.tip5.proofs.inverse.inv_permutation.Reads as inv-permutation
use Rattle.tip5.proofs.inverse.inv_round.Reads as inv-round
use Rattle.states.proofs.trace.trace.Reads as trace
use Rattle.states.proofs.in_place.permute.Reads as permute
use Rattle.states.proofs.in_place.permute_round.Reads as permute-round
use Rattle.states.proofs.in_place.inv_permute.Reads as inv-permute
use Rattle.states.proofs.in_place.inv_permute_round.Reads as inv-permute-round
use Rattle.tip5_c.proofs.tip5_permutation.Reads as tip5-permutation
use Rattle.tip5_c.proofs.tip5_inverse_permutation.Reads as tip5-inverse-permutation
use Rattle.outcomes.specs.Outcome.{OneAnswer, OneExit}
use Rattle.outcomes.proofs.Same.{same}

pub permutation-once : OneAnswer permutation.Learnt
permutation-once κs a x y e f h k = same h k

pub round-once : OneAnswer round.Learnt
round-once κs a x y e f h k = same h k

pub trace-once : OneAnswer trace.Learnt
trace-once κs a x y e f h k = same h k

pub permute-once : OneAnswer permute.Learnt
permute-once κs a x y e f h k = same h.0 k.0

pub permute-leaves : OneExit permute.Learnt λ κs e. e.0.now
permute-leaves κs a x y e f h k = same h.1 k.1

pub permute-round-once : OneAnswer permute-round.Learnt
permute-round-once κs a x y e f h k = same h.0 k.0

pub permute-round-leaves : OneExit permute-round.Learnt λ κs e. e.1.0.now
permute-round-leaves κs a x y e f h k = same h.1 k.1

pub inv-permutation-once : OneAnswer inv-permutation.Learnt
inv-permutation-once κs a x y e f h k = same h k

pub inv-round-once : OneAnswer inv-round.Learnt
inv-round-once κs a x y e f h k = same h k

pub inv-permute-once : OneAnswer inv-permute.Learnt
inv-permute-once κs a x y e f h k = same h.0 k.0

pub inv-permute-leaves : OneExit inv-permute.Learnt λ κs e. e.0.now
inv-permute-leaves κs a x y e f h k = same h.1 k.1

pub inv-permute-round-once : OneAnswer inv-permute-round.Learnt
inv-permute-round-once κs a x y e f h k = same h.0 k.0

pub inv-permute-round-leaves : OneExit inv-permute-round.Learnt λ κs e. e.1.0.now
inv-permute-round-leaves κs a x y e f h k = same h.1 k.1

pub tip5-permutation-once : OneAnswer tip5-permutation.Learnt
tip5-permutation-once κs a x y e f h k = same h.0 k.0

pub tip5-permutation-leaves : OneExit tip5-permutation.Learnt λ κs e. e.0.now
tip5-permutation-leaves κs a x y e f h k = same h.1 k.1

pub tip5-inverse-permutation-once : OneAnswer tip5-inverse-permutation.Learnt
tip5-inverse-permutation-once κs a x y e f h k = same h.0 k.0

pub tip5-inverse-permutation-leaves : OneExit tip5-inverse-permutation.Learnt λ κs e. e.0.now
tip5-inverse-permutation-leaves κs a x y e f h k = same h.1 k.1
