-- Lines hold neither LF nor CR. So the lines of joined lines are these lines, and CR stands nowhere in what is joined.
use Rattle.std.specs.Prelude.{◌≡◌, refl, Bool, true, false, not, ◌&&◌, List, [], ◌∷◌, ◌++◌, map, ℕ, zero, suc, eqb, drop, if◌then◌else◌}
use Rattle.std.proofs.Common.{◌∙◌}
use Rattle.std.proofs.Math.Option.{Option, none, some}
use Rattle.base.specs.Bools.{and_left, and_right, and_both, not_true, or_both_false}
use Rattle.meaning.specs.Ascii.{line_feed, carriage_return}
use Rattle.meaning.specs.Settings.{blank}
use Rattle.meaning.specs.Block.{onto, lines, has, raw_lines_after, raw_lines, removed, drop_blank_front, unless_blank, drop_blank_end, joined}

-- neither LF nor CR
unfoldable pub clean : List ℕ → Bool
clean [] = true
clean (b ∷ l) = not (eqb b line_feed) && (not (eqb b carriage_return) && clean l)

-- of each line
unfoldable pub all_clean : List (List ℕ) → Bool
unfolding clean
all_clean [] = true
all_clean (l ∷ ls) = clean l && all_clean ls

-- what a clean line says of its first byte and of the rest
pub record CleanFront (b : ℕ) (l : List ℕ) : Type 0 where
  pub no_lf : eqb b line_feed ≡ false
  pub no_cr : eqb b carriage_return ≡ false
  pub rest : clean l ≡ true

pub clean_front : (b : ℕ) (l : List ℕ) → clean (b ∷ l) ≡ true → CleanFront b l
unfolding clean
clean_front b l h =
    let lf = not (eqb b line_feed) in
    let cr = not (eqb b carriage_return) in
    let h1 : cr && clean l ≡ true = and_right lf (cr && clean l) h in
    record {
      no_lf = not_true (eqb b line_feed) (and_left lf (cr && clean l) h);
      no_cr = not_true (eqb b carriage_return) (and_left cr (clean l) h1);
      rest = and_right cr (clean l) h1;
    }

pub clean_from_front : (b : ℕ) (l : List ℕ) → eqb b line_feed ≡ false → eqb b carriage_return ≡ false → clean l ≡ true
    → clean (b ∷ l) ≡ true
unfolding clean
clean_from_front b l p q h = rw (p, q, h)

-- ---- each step of BlockStringValue keeps lines clean

onto_clean : (b : ℕ) (ls : List (List ℕ)) → eqb b line_feed ≡ false → eqb b carriage_return ≡ false → all_clean ls ≡ true
    → all_clean (onto b ls) ≡ true
unfolding all_clean onto
onto_clean b [] p q h = rw (p, q)
onto_clean b (l ∷ ls) p q h = rw (p, q) h

raw_after_clean : (cr : Bool) (s : List ℕ) → all_clean (raw_lines_after cr s) ≡ true
unfolding all_clean raw_lines_after
raw_after_clean cr [] = refl
raw_after_clean cr (b ∷ s) =
    go cr (eqb b line_feed) (eqb b carriage_return) refl refl (raw_after_clean false s) (raw_after_clean true s)
  where
    go : (cr x y : Bool) → eqb b line_feed ≡ x → eqb b carriage_return ≡ y → all_clean (raw_lines_after false s) ≡ true
        → all_clean (raw_lines_after true s) ≡ true
        → all_clean
        (if x
        then (if cr then raw_lines_after false s else [] ∷ raw_lines_after false s)
        else (if y then [] ∷ raw_lines_after true s else onto b (raw_lines_after false s)))
        ≡ true
    go true true y e f i j = i
    go false true y e f i j = i
    go cr false true e f i j = j
    go cr false false e f i j = onto_clean b (raw_lines_after false s) e f i

pub raw_lines_clean : (raw : List ℕ) → all_clean (raw_lines raw) ≡ true
unfolding raw_lines
raw_lines_clean raw = raw_after_clean false raw

drop_clean : (n : ℕ) (l : List ℕ) → clean l ≡ true → clean (drop n l) ≡ true
drop_clean zero l h = h
drop_clean (suc n) [] h = h
drop_clean (suc n) (b ∷ l) h = drop_clean n l (clean_front b l h).rest

removed_line_clean : (k : Option ℕ) (l : List ℕ) → clean l ≡ true → clean (removed k l) ≡ true
unfolding removed
removed_line_clean none l h = h
removed_line_clean (some n) l h = drop_clean n l h

pub removed_clean : (k : Option ℕ) (ls : List (List ℕ)) → all_clean ls ≡ true → all_clean (map (removed k) ls) ≡ true
unfolding all_clean
removed_clean k [] h = refl
removed_clean k (l ∷ ls) h =
    and_both (clean (removed k l)) (all_clean (map (removed k) ls))
    (removed_line_clean k l (and_left (clean l) (all_clean ls) h))
    (removed_clean k ls (and_right (clean l) (all_clean ls) h))

pub front_clean : (ls : List (List ℕ)) → all_clean ls ≡ true → all_clean (drop_blank_front ls) ≡ true
unfolding all_clean drop_blank_front
front_clean [] h = refl
front_clean (l ∷ ls) h = go (blank l) (front_clean ls (and_right (clean l) (all_clean ls) h))
  where
    go : (x : Bool) → all_clean (drop_blank_front ls) ≡ true → all_clean (if x then drop_blank_front ls else l ∷ ls) ≡ true
    go true i = i
    go false i = h

unless_clean : (l : List ℕ) (ms : List (List ℕ)) → clean l ≡ true → all_clean ms ≡ true → all_clean (unless_blank l ms) ≡ true
unfolding unless_blank all_clean
unless_clean l [] h k = go (blank l)
  where
    go : (x : Bool) → all_clean (if x then [] else l ∷ []) ≡ true
    go true = refl
    go false = and_both (clean l) true h refl
unless_clean l (m ∷ ms) h k = and_both (clean l) _ h k

pub end_clean : (ls : List (List ℕ)) → all_clean ls ≡ true → all_clean (drop_blank_end ls) ≡ true
unfolding drop_blank_end all_clean
end_clean [] h = refl
end_clean (l ∷ ls) h =
    unless_clean l (drop_blank_end ls) (and_left (clean l) (all_clean ls) h) (end_clean ls (and_right (clean l) (all_clean ls) h))

-- ---- lines of what is joined

lines_of_one : (l : List ℕ) → clean l ≡ true → lines l ≡ l ∷ []
unfolding lines
lines_of_one [] h = refl
lines_of_one (b ∷ l) h = let f = clean_front b l h in rw (f.no_lf, lines_of_one l f.rest)

lines_of_more : (l s : List ℕ) → clean l ≡ true → lines (l ++ (line_feed ∷ s)) ≡ l ∷ lines s
unfolding lines
lines_of_more [] s h = refl
lines_of_more (b ∷ l) s h = let f = clean_front b l h in rw (f.no_lf, lines_of_more l s f.rest)

pub lines_of_joined : (l : List ℕ) (ls : List (List ℕ)) → all_clean (l ∷ ls) ≡ true → lines (joined (l ∷ ls)) ≡ l ∷ ls
unfolding joined all_clean
lines_of_joined l [] h = lines_of_one l (and_left (clean l) true h)
lines_of_joined l (m ∷ ls) h =
    lines_of_more l (joined (m ∷ ls)) (and_left (clean l) (all_clean (m ∷ ls)) h)
    ∙ rw (lines_of_joined m ls (and_right (clean l) (all_clean (m ∷ ls)) h))

no_cr_appended : (l s : List ℕ) → clean l ≡ true → has carriage_return s ≡ false → has carriage_return (l ++ s) ≡ false
unfolding has
no_cr_appended [] s h k = k
no_cr_appended (b ∷ l) s h k =
    let f = clean_front b l h in
    or_both_false (eqb b carriage_return) (has carriage_return (l ++ s)) f.no_cr (no_cr_appended l s f.rest k)

no_cr_in_line : (l : List ℕ) → clean l ≡ true → has carriage_return l ≡ false
unfolding has
no_cr_in_line [] h = refl
no_cr_in_line (b ∷ l) h =
    let f = clean_front b l h in or_both_false (eqb b carriage_return) (has carriage_return l) f.no_cr (no_cr_in_line l f.rest)

pub no_cr_in_joined : (ls : List (List ℕ)) → all_clean ls ≡ true → has carriage_return (joined ls) ≡ false
unfolding joined all_clean has
no_cr_in_joined [] h = refl
no_cr_in_joined (l ∷ []) h = no_cr_in_line l (and_left (clean l) true h)
no_cr_in_joined (l ∷ (m ∷ ls)) h =
    no_cr_appended l (line_feed ∷ joined (m ∷ ls)) (and_left (clean l) (all_clean (m ∷ ls)) h)
    (no_cr_in_joined (m ∷ ls) (and_right (clean l) (all_clean (m ∷ ls)) h))
