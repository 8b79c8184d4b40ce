-- The tree that an image stands for.
use Rattle.model.specs.Tree.{Tree, tree_of}
use Rattle.image.specs.declared.Image.{Image}

abbrev pub tree : Image → Tree
tree image = tree_of image.bytes.now
