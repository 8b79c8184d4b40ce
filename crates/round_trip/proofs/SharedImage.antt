-- A second image of the bench tree, whose names and bodies share their text and leave a byte over. Assumes nothing.
use Prim.Native.Nat.{ℕ}
use mathlib.Core.List.{List, ◌++◌}
use Rattle.model.specs.Bytes.{ascii}
use Rattle.model.proofs.BenchTree.{hex, bench_mounts}

-- the bench tree's records, with other offsets
unfoldable pub sharing : List ℕ
sharing =
    hex "54 4F 43 31 0C 00 02 00 0A 00 00 00 26 00 00 00 2A 01 00 00"
    ++ hex "01 00 00 00 00 00 00 00 01 00 00 00"
    ++ hex "01 00 00 00 01 00 00 00 02 00 00 00"
    ++ hex "01 00 01 00 03 00 00 00 06 00 00 00"
    ++ hex "02 00 00 00 00 00 00 00 00 00 00 00"
    ++ hex "03 00 00 00 0E 00 00 00 05 00 00 00"
    ++ hex "03 00 00 00 00 00 00 00 0D 00 00 00"
    ++ hex "03 00 00 00 13 00 00 00 04 00 00 00"
    ++ hex "01 00 01 00 09 00 00 00 00 00 00 00"
    ++ hex "01 00 08 00 09 00 00 00 01 00 00 00"
    ++ hex "02 00 00 00 00 00 00 00 00 00 00 00"
    ++ hex "04 00 00 00 00 00 00 00 03 00 00 00"
    ++ hex "03 00 00 00 09 00 00 00 05 00 00 00"
    ++ bench_mounts
    ++ hex "01 00 00 00 03 00 01 00"
    ++ hex "05 00 00 00 03 00 02 00"
    ++ hex "17 00 00 00 04 00 07 00"
    ++ hex "1B 00 00 00 03 00 05 00"
    ++ hex "1E 00 00 00 02 00 0A 00"
    ++ hex "13 00 00 00 04 00 06 00"
    ++ hex "09 00 00 00 01 00 0B 00"
    ++ hex "09 00 00 00 04 00 03 00"
    ++ hex "20 00 00 00 02 00 04 00"
    ++ hex "22 00 00 00 03 00 09 00"
    ++ ascii "/lab/cal/tare/../..looppoolabsfduprun?"
