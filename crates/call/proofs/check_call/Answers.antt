-- `call::check_call` meets its contract. The checks are the definition's, in its order, and the first that refuses decides.
-- Assumes nothing.
use borrow.Author.Rules.{rules}
use Rattle.call.proofs.CallLaws.{by-how, by-path, by-unchecked, by-handle, by-fields}
use Rattle.call.proofs.check_call.Goals as goal

pub returns-in_err-fields : goal.returns-in_err-fields
returns-in_err-fields c = search (rules, by-how)

pub returns-in_err-check_path : goal.returns-in_err-check_path
returns-in_err-check_path c = search (rules, by-path)

pub returns-then-handle_unchecked : goal.returns-then-handle_unchecked
returns-then-handle_unchecked c = search (rules, by-unchecked)

pub returns-in_err-check_handle : goal.returns-in_err-check_handle
returns-in_err-check_handle c = search (rules, by-handle)

pub returns : goal.returns
returns c = search (rules, by-fields)
