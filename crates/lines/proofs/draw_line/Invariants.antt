-- `draw_line` meets its contract: the head, the squeezes and the indices that are passed stand in front.
-- Assumes nothing.
use mathlib.Core.List.{◌∷◌, ◌++◌}
use Prim.Native.Nat.{◌+◌, ◌*◌, ◌≤◌}
use lib.ListN.{take}
use Rattle.lines.specs.Line.{ascii, spaced}
use Rattle.lines.specs.Put.{Front}
use Rattle.lines.proofs.draw_line.Given as goal

abbrev pub invariant-loop-index : goal.invariant-loop-index
invariant-loop-index l = Front l.fn.out (ascii "draw" ++ spaced (l.squeezes ∷ take l.index-index l.indices)) l.out l.at × (l.at ≤ 25 + 11 * l.index-index)
