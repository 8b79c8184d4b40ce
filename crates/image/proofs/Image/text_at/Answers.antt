-- `Image::text_at` meets its contract. Assumes nothing.
use borrow.Author.Rules.{rules}
use Rattle.model.specs.Tree.{sizes_of, tree_of}
use Rattle.image.proofs.Image.text_at.Goals as goal

pub returns : goal.returns
unfolding tree_of sizes_of
returns c = search rules
