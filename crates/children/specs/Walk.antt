-- Children matched one at a time: what a child leaves of the slots. That this is `fill` is shown in `proofs/Walk.antt`.
use Rattle.std.specs.Prelude.{Bool, true, false, List, [], ◌∷◌, if◌then◌else◌}
use Rattle.meaning.specs.Children.{Class, Slot, one, opt, any, some, fill}

-- the slots that are left; or no children can fit any more
pub data Left : Type 0 where
  stuck : Left
  left : List Slot → Left

-- after a child that is of the classes that `is` says: a slot takes the child where it can, else the next one is asked
abbrev pub advance : (Class → Bool) → List Slot → Left
advance is [] = stuck
advance is (one c ∷ ss) = if is c then left ss else stuck
advance is (opt c ∷ ss) = let l = advance is ss in if is c then left ss else l
advance is (any c ∷ ss) = let l = advance is ss in if is c then left (any c ∷ ss) else l
advance is (some c ∷ ss) = if is c then left (any c ∷ ss) else stuck

abbrev pub after : (Class → Bool) → Left → Left
after is stuck = stuck
after is (left ss) = advance is ss

-- no more children are wanted
abbrev pub may_end : List Slot → Bool
may_end [] = true
may_end (one c ∷ ss) = false
may_end (opt c ∷ ss) = may_end ss
may_end (any c ∷ ss) = may_end ss
may_end (some c ∷ ss) = false

abbrev pub done : Left → Bool
done stuck = false
done (left ss) = may_end ss

-- the children fill what is left
abbrev pub fills : {X : Type 0} → (Class → X → Bool) → Left → List X → Bool
fills test stuck xs = false
fills test (left ss) xs = fill test ss xs
