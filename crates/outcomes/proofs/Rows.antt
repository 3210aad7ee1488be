-- No second outcome: rows, columns, the draw by value and the error of a draw.
-- Assumes nothing.
use mathlib.Core.Path.{◌≡◌}
use base.Logic.{SProp}
use contract.Monad.{Fun}
use types.Logic.{Logic}
use seplogic.Ra.Ura.{Ura}
use prog.Memory.{Memory}
use prog.Routine.{Routine}
use Rattle.columns.proofs.row_count.Reads as row-count
use Rattle.columns.proofs.entry.Reads as entry
use Rattle.columns.specs.contracts.column_entry as column-entry
use Rattle.columns.specs.contracts.Column.num_rows as num-rows
use Rattle.columns.specs.contracts.Column.get as get
use Rattle.rows.proofs.hash_rows.hash_rows_of_columns.Reads as hash-rows-of-columns
use Rattle.draws.proofs.sample_indices.Reads as sample-indices
use Rattle.draws.proofs.error.DrawErrorFromRefusal.from.Reads as draw-error-from
use Rattle.draws.proofs.error.RefusalFromDrawError.from.Reads as refusal-from
use Rattle.outcomes.specs.Outcome.{OneAnswer, OneExit, OneOutcome}
use Rattle.outcomes.proofs.Same.{both, same}

pub row-count-once : OneAnswer row-count.Learnt
row-count-once κs a x y e f h k = same h k

pub entry-once : OneAnswer entry.Learnt
entry-once κs a x y e f h k = same h k

pub hash-rows-of-columns-once : OneAnswer hash-rows-of-columns.Learnt
hash-rows-of-columns-once κs a x y e f h k = same h.0 k.0

pub hash-rows-of-columns-leaves : OneExit hash-rows-of-columns.Learnt λ κs e. e.1.1.1.1.0.now
hash-rows-of-columns-leaves κs a x y e f h k = same h.1 k.1

pub sample-indices-once : OneAnswer sample-indices.Learnt
sample-indices-once κs a x y e f h k = same h.0 k.0

pub sample-indices-leaves : OneExit sample-indices.Learnt λ κs e. e.1.1.0.now
sample-indices-leaves κs a x y e f h k = same h.1 k.1

pub draw-error-from-once : OneAnswer draw-error-from.Learnt
draw-error-from-once κs a x y e f h k = same h k

pub refusal-from-once : OneAnswer refusal-from.Learnt
refusal-from-once κs a x y e f h k = same h k

module _ {M : Type 1} {𝓤 : Ura M} (𝓛 : Logic 𝓤) (mem : Memory → SProp 𝓤) (run : Routine → Fun 𝓤) where
  pub column-entry-once : OneOutcome 𝓤 column-entry.ended (column-entry.clauses 𝓛 mem run) λ κs x y e f. x ≡ y
  column-entry-once κs a g x y e f = both 𝓤 λ h k. same h k

  pub num-rows-once : OneOutcome 𝓤 num-rows.ended (num-rows.clauses 𝓛 mem run) λ κs x y e f. x ≡ y
  num-rows-once κs a g x y e f = both 𝓤 λ h k. same h k

  pub get-once : OneOutcome 𝓤 get.ended (get.clauses 𝓛 mem run) λ κs x y e f. x ≡ y
  get-once κs a g x y e f = both 𝓤 λ h k. same h k
