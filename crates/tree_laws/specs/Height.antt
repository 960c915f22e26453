-- Heights of trees: how many nodes a way down passes.
use Rattle.std.specs.Prelude.{ℕ, suc, max}
use Rattle.meaning.specs.Tree.{Tree, tree, Forest, none, more}

unfoldable mutual
  pub height : Tree → ℕ
  height (tree h f) = suc (heights f)

  pub heights : Forest → ℕ
  heights none = 0
  heights (more t f) = max (height t) (heights f)
