-- Parts whose texts are shared and stand in another order than they are written in, with the image that is written of them; the same with a mount that
-- breaks rule 6; and the bench tree's parts. Assumes nothing.
use Prim.Native.Nat.{ℕ}
use mathlib.Core.List.{List, ◌++◌}
use Rattle.model.specs.Bytes.{ascii}
use Rattle.model.specs.Build.{Parts}
use Rattle.model.proofs.BenchTree.{hex, bench_nodes, bench_mounts, bench_entries}

-- a directory that names "a", a symbolic link to "b", and "b", a file; the link's body is the name "b" itself, and the text has it first
abbrev pub nodes : List ℕ
nodes = hex "01 00 00 00 00 00 00 00 02 00 00 00" ++ hex "03 00 00 00 00 00 00 00 01 00 00 00" ++ hex "02 00 00 00 00 00 00 00 00 00 00 00"

abbrev pub entries : List ℕ
entries = hex "01 00 00 00 01 00 01 00" ++ hex "00 00 00 00 01 00 02 00"

-- the parts, with the one mount's record
abbrev pub parts_with : List ℕ → Parts
parts_with mounts = record { nodes = nodes; mounts = mounts; entries = entries; text = ascii "ba" }

abbrev pub shared : Parts
shared = parts_with (hex "00 00 00 00 00 00 00 00")

-- a mount whose last field is not zero
abbrev pub unzeroed : Parts
unzeroed = parts_with (hex "00 00 00 00 00 00 01 00")

abbrev pub bench_parts : Parts
bench_parts = record { nodes = bench_nodes; mounts = bench_mounts; entries = bench_entries; text = ascii "labcalpoolabsfdloopttareuprun../../lab/cal/tarelooptare/" }

-- what is written: the text is "abb", both names and the body, one after the other
abbrev pub image : List ℕ
image =
    hex "54 4F 43 31 03 00 01 00 02 00 00 00 03 00 00 00 53 00 00 00"
    ++ hex "01 00 00 00 00 00 00 00 02 00 00 00"
    ++ hex "03 00 00 00 02 00 00 00 01 00 00 00"
    ++ hex "02 00 00 00 00 00 00 00 00 00 00 00"
    ++ hex "00 00 00 00 00 00 00 00"
    ++ hex "00 00 00 00 01 00 01 00"
    ++ hex "01 00 00 00 01 00 02 00"
    ++ ascii "abb"
