-- No second outcome: the calls on a field element.
-- Assumes nothing.
use Rattle.tip5.proofs.b_field_element.BFieldElement.new.Reads as new
use Rattle.tip5.proofs.b_field_element.BFieldElement.from_raw_u64.Reads as from-raw-u64
use Rattle.tip5.proofs.b_field_element.BFieldElement.raw_u64.Reads as raw-u64
use Rattle.tip5.proofs.b_field_element.BFieldElement.value.Reads as value
use Rattle.tip5.proofs.b_field_element.BFieldElement.add.Reads as add
use Rattle.tip5.proofs.b_field_element.BFieldElement.sub.Reads as sub
use Rattle.tip5.proofs.b_field_element.BFieldElement.mul.Reads as mul
use Rattle.tip5.proofs.b_field_element.BFieldElement.mod_pow.Reads as mod-pow
use Rattle.outcomes.specs.Outcome.{OneAnswer}
use Rattle.outcomes.proofs.Same.{same}

pub new-once : OneAnswer new.Learnt
new-once κs a x y e f h k = same h k

pub from-raw-u64-once : OneAnswer from-raw-u64.Learnt
from-raw-u64-once κs a x y e f h k = same h k

pub raw-u64-once : OneAnswer raw-u64.Learnt
raw-u64-once κs a x y e f h k = same h k

pub value-once : OneAnswer value.Learnt
value-once κs a x y e f h k = same h k

pub add-once : OneAnswer add.Learnt
add-once κs a x y e f h k = same h k

pub sub-once : OneAnswer sub.Learnt
sub-once κs a x y e f h k = same h k

pub mul-once : OneAnswer mul.Learnt
mul-once κs a x y e f h k = same h k

pub mod-pow-once : OneAnswer mod-pow.Learnt
mod-pow-once κs a x y e f h k = same h k
