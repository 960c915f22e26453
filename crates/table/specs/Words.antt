-- A node's words stand in the table, and each is a number of 32 bits.
use Rattle.std.specs.Prelude.{◌≡◌, refl, List, ℕ, ◌+◌, ◌*◌, ◌≤◌, ◌<◌, length, get_or}
use Rattle.std.proofs.Common.{◌∙◌}
use Rattle.meaning.specs.Table.{word, kind_at, variant_at, start_at, length_at, end_at}

-- node i is one of the table's, of which there are at most 8,192
pub record InTable (w : List ℕ) (i : ℕ) : Type 0 where
  pub words : i * 5 + 5 ≤ length w
  pub few : i < 8192

-- and its text lies in the pool
pub record TextInPool (w p : List ℕ) (i : ℕ) : Type 0 where
  pub node : InTable w i
  pub in_pool : start_at w i + length_at w i ≤ length p

-- r is the word, and small
pub record Small (r word : ℕ) : Type 0 where
  pub is : r ≡ word
  pub bound : r < 4294967296

pub word_read : (field : ℕ) (w : List ℕ) (i r : ℕ) → r ≡ get_or w (i * 5 + field) 0 → r < 4294967296 → Small r (word field w i)
unfolding word
word_read field w i r e h = record { is = e; bound = h }

pub small_as : {r a b : ℕ} → Small r a → a ≡ b → Small r b
small_as s e = record { is = s.is ∙ e; bound = s.bound }

pub word_small : {r word : ℕ} → r ≡ word → r < 4294967296 → Small r word
word_small e h = record { is = e; bound = h }

pub kind_word : (w : List ℕ) (i : ℕ) → word 0 w i ≡ kind_at w i
unfolding kind_at
kind_word w i = refl

pub variant_word : (w : List ℕ) (i : ℕ) → word 1 w i ≡ variant_at w i
unfolding variant_at
variant_word w i = refl

pub start_word : (w : List ℕ) (i : ℕ) → word 2 w i ≡ start_at w i
unfolding start_at
start_word w i = refl

pub length_word : (w : List ℕ) (i : ℕ) → word 3 w i ≡ length_at w i
unfolding length_at
length_word w i = refl

pub end_word : (w : List ℕ) (i : ℕ) → word 4 w i ≡ end_at w i
unfolding end_at
end_word w i = refl
