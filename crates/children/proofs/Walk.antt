-- The walk over children, a child at a time, agrees with `fill` over any slots and any test: each slot takes the same children in both.
use Rattle.std.proofs.Common.{◌≡◌, refl, Bool, if◌then◌else◌, true, false, ◌&&◌, List, [], ◌∷◌}
use Rattle.meaning.specs.Children.{Class, Slot, one, opt, any, some, fill, past}
use Rattle.children.specs.Walk.{Left, stuck, left, advance, after, may_end, done, fills}

module _ {X : Type 0} (test : Class → X → Bool) where
  slots_more : (ss : List Slot) (x : X) (xs : List X) → fill test ss (x ∷ xs) ≡ fills test (advance (λ c. test c x) ss) xs
  unfolding fill
  slots_more [] x xs = refl
  slots_more (one c ∷ ss) x xs = go (test c x)
    where
      go : (b : Bool) → b && fill test ss xs ≡ fills test (if b then left ss else stuck) xs
      go true = refl
      go false = refl
  slots_more (opt c ∷ ss) x xs = go (test c x) (slots_more ss x xs)
    where
      go : (b : Bool) → fill test ss (x ∷ xs) ≡ fills test (advance (λ c. test c x) ss) xs
          → fill test ss (if b then xs else x ∷ xs) ≡ fills test (if b then left ss else advance (λ c. test c x) ss) xs
      go true h = refl
      go false h = h
  slots_more (any c ∷ ss) x xs = go (test c x) (slots_more ss x xs)
    where
      go : (b : Bool) → fill test ss (x ∷ xs) ≡ fills test (advance (λ c. test c x) ss) xs
          → fill test ss (if b then past test c xs else x ∷ xs) ≡ fills test (if b then left (any c ∷ ss) else advance (λ c. test c x) ss) xs
      go true h = refl
      go false h = h
  slots_more (some c ∷ ss) x xs = go (test c x)
    where
      go : (b : Bool) → b && fill test ss (if b then past test c xs else x ∷ xs) ≡ fills test (if b then left (any c ∷ ss) else stuck) xs
      go true = refl
      go false = refl

  -- a child more
  pub fills_more : (l : Left) (x : X) (xs : List X) → fills test l (x ∷ xs) ≡ fills test (after (λ c. test c x) l) xs
  fills_more stuck x xs = refl
  fills_more (left ss) x xs = slots_more ss x xs

  slots_end : (ss : List Slot) → fill test ss [] ≡ may_end ss
  unfolding fill
  slots_end [] = refl
  slots_end (one c ∷ ss) = refl
  slots_end (opt c ∷ ss) = slots_end ss
  slots_end (any c ∷ ss) = slots_end ss
  slots_end (some c ∷ ss) = refl

  -- no child more
  pub fills_end : (l : Left) → fills test l [] ≡ done l
  fills_end stuck = refl
  fills_end (left ss) = slots_end ss
