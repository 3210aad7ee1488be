-- `digest_line` meets its contract: the head and the values that are passed stand in front.
-- Assumes nothing.
use mathlib.Core.List.{◌++◌}
use Prim.Native.Nat.{◌+◌, ◌*◌, ◌≤◌}
use lib.ListN.{take}
use Rattle.lines.specs.Line.{ascii, spaced}
use Rattle.lines.specs.Put.{Front}
use Rattle.lines.proofs.digest_line.Given as goal

abbrev pub invariant-loop-value : goal.invariant-loop-value
invariant-loop-value l = Front l.fn.out (ascii "digest" ++ spaced (take l.value-index l.values)) l.out l.at × (l.at ≤ 6 + 21 * l.value-index)
