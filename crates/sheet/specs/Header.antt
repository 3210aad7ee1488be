-- The header of a sheet: six bytes that hold six bit fields, one after another.
use Rattle.std.specs.Prelude.{List, ℕ}
use Rattle.sheet.specs.declared.header.Header.{Header}
use Rattle.sheet.specs.Bits.{field}

-- the fields of six bytes, each by its offset and its width
abbrev pub header : (six : List ℕ) → Header
header six = record {
  version = field six 0 4;
  job = field six 4 2;
  log2 = field six 6 5;
  elements = field six 11 13;
  indices = field six 24 12;
  allowance = field six 36 12;
}
