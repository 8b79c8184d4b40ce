-- The worked calls of RULES 13.4, each through the whole of `resolve` on real bytes, as one theorem, with the places that some of the walks
-- stand on; and the two images accepted.
-- Assumes nothing.
use Rattle.std.specs.Prelude.{Ok}
use mathlib.Core.List.{map}
use mathlib.Core.Path.{◌≡◌, refl}
use Rattle.model.specs.TableCheck.{table_check}
use Rattle.model.specs.Trace.{stood_on}
use Rattle.model.specs.Resolve.{places_of}
use Rattle.model.proofs.Computing.{of-calls, of-bench}
use Rattle.model.proofs.BenchTree.{smallest, bench, worked_table, bind, magic_loop, magic_path, own_table}
use Rattle.model.proofs.BenchTree.{run, stood_table, stood}

-- P1 to P12 and the unnumbered rows are one equation, and so are the rows of our own.
pub record Worked : Type 0 where
  pub smallest-accepted : table_check smallest ≡ Ok tt
  pub bench-accepted : table_check bench ≡ Ok tt
  pub worked-rows : map run worked_table ≡ map (λ c. c.expected) worked_table
  pub own-rows : map run own_table ≡ map (λ c. c.expected) own_table
  pub stood-rows : map stood stood_table ≡ map (λ c. c.places) stood_table

pub worked : Worked
unfolding of-calls of-bench stood_on places_of smallest worked_table bind magic_loop magic_path own_table run stood_table stood
worked = record {
  smallest-accepted = refl;
  bench-accepted = refl;
  worked-rows = refl;
  own-rows = refl;
  stood-rows = refl;
}
