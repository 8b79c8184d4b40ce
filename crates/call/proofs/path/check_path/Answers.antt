-- `call::path::check_path` meets its contract. Assumes nothing.
use borrow.Author.Rules.{rules}
use Rattle.call.proofs.PathLaws.{path-long, path_empty, path-zero, path_passes}
use Rattle.call.proofs.path.check_path.Goals as goal

pub returns-then-path-gt-MOST_TEXT : goal.returns-then-path-gt-MOST_TEXT
returns-then-path-gt-MOST_TEXT c = search (rules, path-long)

pub returns-then-path-eq0 : goal.returns-then-path-eq0
returns-then-path-eq0 c = search (rules, path_empty)

pub returns-then-holds_byte : goal.returns-then-holds_byte
returns-then-holds_byte c = search (rules, path-zero)

pub returns : goal.returns
returns c = search (rules, path_passes)
