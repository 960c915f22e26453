-- Trees: what a node table stands for.
use Rattle.std.specs.Prelude.{ℕ, List}

pub record Head : Type 0 where
  pub kind : ℕ
  pub variant : ℕ
  pub text : List ℕ

mutual
  pub data Tree : Type 0 where
    tree : Head → Forest → Tree

  pub data Forest : Type 0 where
    none : Forest
    more : Tree → Forest → Forest

abbrev pub head : Tree → Head
head (tree h f) = h
