-- The order of two numbers, and of two byte strings, told three ways.
use Rattle.std.specs.Prelude.{ℕ, cond, List, eqb, ltb}
use Rattle.model.specs.Bytes.{same_bytes, before}
use Rattle.std.specs.declared.cmp.Ordering.{Ordering}
use Rattle.std.specs.declared.cmp.Ordering.TheVariants.{Less, Equal, Greater}

abbrev pub order_of : ℕ → ℕ → Ordering
order_of p q = cond (eqb p q) Equal (cond (ltb p q) Less Greater)

-- bytewise (RULES 3.8)
abbrev pub ordered : List ℕ → List ℕ → Ordering
ordered s t = cond (same_bytes s t) Equal (cond (before s t) Less Greater)
