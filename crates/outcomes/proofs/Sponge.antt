-- No second outcome: the sponge by value, the digests and one step back.
-- Assumes nothing.
use Rattle.sponge.proofs.Tip5.new.Reads as new
use Rattle.sponge.proofs.Tip5.init.Reads as init
use Rattle.sponge.proofs.Tip5.hash_10.Reads as hash-10
use Rattle.sponge.proofs.Tip5.hash_pair.Reads as hash-pair
use Rattle.sponge.proofs.Tip5.hash_varlen.Reads as hash-varlen
use Rattle.sponge.proofs.by_value.absorb.Reads as absorb
use Rattle.sponge.proofs.by_value.squeeze.Reads as squeeze
use Rattle.sponge.proofs.by_value.pad_and_absorb_all.Reads as pad-and-absorb-all
use Rattle.sponge.proofs.step_back.step_back.Reads as step-back
use Rattle.outcomes.specs.Outcome.{OneAnswer}
use Rattle.outcomes.proofs.Same.{same}

pub new-once : OneAnswer new.Learnt
new-once κs a x y e f h k = same h k

pub init-once : OneAnswer init.Learnt
init-once κs a x y e f h k = same h k

pub hash-10-once : OneAnswer hash-10.Learnt
hash-10-once κs a x y e f h k = same h k

pub hash-pair-once : OneAnswer hash-pair.Learnt
hash-pair-once κs a x y e f h k = same h k

pub hash-varlen-once : OneAnswer hash-varlen.Learnt
hash-varlen-once κs a x y e f h k = same h k

pub absorb-once : OneAnswer absorb.Learnt
absorb-once κs a x y e f h k = same h k

pub squeeze-once : OneAnswer squeeze.Learnt
squeeze-once κs a x y e f h k = same h k

pub pad-and-absorb-all-once : OneAnswer pad-and-absorb-all.Learnt
pad-and-absorb-all-once κs a x y e f h k = same h k

pub step-back-once : OneAnswer step-back.Learnt
step-back-once κs a x y e f h k = same h k
