-- `open_how::read_how` meets its contract. The checks are the definition's, in its order, and the first that refuses decides.
-- Assumes nothing.
use borrow.Author.Rules.{rules}
use native.Mathlib.Omega.{arith}
use Rattle.open_how.proofs.HowLaws.{enough-read, by_length, by_flags, by-resolve, by-scopes, by_mode, by-fields}
use Rattle.open_how.proofs.read_how.Goals as goal

pub returns-in_err-check_length : goal.returns-in_err-check_length
returns-in_err-check_length c = search (rules, by_length)

pub u64_at-flags-requires : goal.u64_at-flags-requires
u64_at-flags-requires c = omega (arith, enough-read _ c.check_length.ensures (c.in_ok-check_length.was))

pub u64_at-resolve-requires : goal.u64_at-resolve-requires
u64_at-resolve-requires c = omega (arith, enough-read _ c.check_length.ensures (c.in_ok-check_length.was))

pub returns-in_err-check_bits : goal.returns-in_err-check_bits
returns-in_err-check_bits c = search (rules, by_flags)

pub returns-in_err-check_bits-2 : goal.returns-in_err-check_bits-2
returns-in_err-check_bits-2 c = search (rules, by-resolve)

pub returns-in_err-check_scopes : goal.returns-in_err-check_scopes
returns-in_err-check_scopes c = search (rules, by-scopes)

pub check_mode-requires : goal.check_mode-requires
check_mode-requires c = search (rules, enough-read)

pub returns-in_err-check_mode : goal.returns-in_err-check_mode
returns-in_err-check_mode c = search (rules, by_mode)

pub returns : goal.returns
returns c = search (rules, by-fields)
