-- When settings are refused, a test at a time.
use Rattle.std.specs.Prelude.{◌≡◌, refl, Bool, true, false, not, ◌||◌, List, ℕ, ◌≤◌, ◌<◌, ltb, length}
use Rattle.std.proofs.Common.{lt-ltb, le-ltb, ltb-false}
use Rattle.base.specs.Bools.{or_left_false, or_right_false}
use Rattle.meaning.specs.Settings.{settings, blank, settings_fault}

module _ (levels : ℕ) (b : Bool) (p : List ℕ) (l : ℕ) where
  pub prefix_too_long : 16 < length p → true ≡ settings_fault levels (settings b p l)
  unfolding settings_fault
  prefix_too_long h = rw (lt-ltb 16 (length p) h)

  pub prefix_not_blank : length p ≤ 16 → blank p ≡ false → true ≡ settings_fault levels (settings b p l)
  unfolding settings_fault
  prefix_not_blank h e = rw (le-ltb 16 (length p) h, e)

  pub level_tells : length p ≤ 16 → blank p ≡ true → ltb levels l ≡ settings_fault levels (settings b p l)
  unfolding settings_fault
  level_tells h e = rw (le-ltb 16 (length p) h, e)

  pub prefix_fits : length p ≤ 16 → {x : Bool} → x ≡ blank p → not x || ltb levels l ≡ settings_fault levels (settings b p l)
  unfolding settings_fault
  prefix_fits h e = rw (le-ltb 16 (length p) h, e) refl

  -- settings that are not refused are small
  pub small_settings : settings_fault levels (settings b p l) ≡ false → (length p ≤ 16) × (l ≤ levels)
  unfolding settings_fault
  small_settings e =
      let later = or_right_false (ltb 16 (length p)) _ e in
      (ltb-false 16 (length p) (or_left_false (ltb 16 (length p)) _ e), ltb-false levels l (or_right_false (not (blank p)) _ later))
