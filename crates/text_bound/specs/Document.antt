-- The text of an accepted table's document has less than 2^64 bytes: a node adds at most 25 times 2^28 to the texts of its children, for
-- its 24 parts and for what its parent writes around it, and there are at most 8,192 nodes.
use Rattle.std.specs.Prelude.{◌≡◌, Bool, ◌&&◌, List, [], ◌∷◌, ℕ, ◌+◌, ◌*◌, ◌^◌, ◌≤◌, ◌<◌, length, if◌then◌else◌}
use Rattle.std.proofs.Math.Bool.{true, false}
use Rattle.std.proofs.Common.{le_refl}
use native.Mathlib.Omega.{arith}
use Rattle.std.proofs.Math.ListN.{length-append}
use Rattle.meaning.specs.Ascii.{line_feed, space as a_space}
use Rattle.meaning.specs.Tree.{Head, Tree, tree, Forest, none, more}
use Rattle.meaning.specs.Table.{tree_of}
use Rattle.meaning.specs.Settings.{Settings, document_levels, settings_fault, deeper, new_line}
use Rattle.meaning.specs.Refusals.{Accepted}
use Rattle.meaning.specs.Rules.{Part, shorthand, rule_of}
use Rattle.meaning.specs.Layout.{Child, said, node_text, children, is_short, definition_text, apart, later_definitions, document_text}
use Rattle.settings.specs.Faults.{small_settings}
use Rattle.tree_laws.specs.Height.{height, heights}
use Rattle.tree_laws.specs.Size.{size, sizes, longest, longests}
use Rattle.accepted_laws.specs.Shape.{accepted_shaped}
use Rattle.accepted_laws.specs.Depth.{accepted_height}
use Rattle.accepted_laws.specs.Size.{accepted_size, accepted_texts}
use Rattle.text_bound.specs.Rules.{Brief, rule_is_brief, shorthand_is_brief}
use Rattle.text_bound.specs.Pieces.{ample, Within, new_line_is_short}
use Rattle.text_bound.specs.Parts.{Held, said_bound}

-- what a node may add: its parts, and what stands around it
abbrev pub share : ℕ
share = 25 * ample

-- ---- nodes; a level of at most 64 and a height of at most 65 make 129

-- a node by a rule, over children that are held
rule_bound : (s : Settings) (h : Head) {ps : List Part} {rs : List Child} {n : ℕ} → length s.prefix ≤ 16 → s.level + 1 ≤ 129 → length h.text ≤ 65536
    → Brief ps → Held (s.level + 1) rs n → length (said s h 0 ps rs) + ample ≤ n + share
rule_bound s h {ps} {rs} {n} p low small b g =
    let inner : Within (s.level + 1) (deeper s) = record { prefix = p; level = le_refl (s.level + 1) } in
    omega (arith, said_bound low s inner h small 0 ps b.each g, b.few)

-- the text of a node and what stands around it, and so the texts of children
mutual
  unfolding node_text height longest size

  pub node_bound : (t : Tree) (s : Settings) → length s.prefix ≤ 16 → s.level + height t ≤ 129 → longest t ≤ 65536
      → length (node_text t s) + ample ≤ size t * share
  node_bound (tree h f) s p v x =
      let held = children_held f (s.level + 1) (omega arith) (omega arith) in
      omega (arith, rule_bound s h p (omega arith) (omega arith) (rule_is_brief h.kind) held)

  children_held : (f : Forest) (l : ℕ) → l + heights f ≤ 129 → longests f ≤ 65536 → Held l (children f) (sizes f * share)
  children_held none l v x = Held.none
  children_held (more t f) l v x =
      let both : size t * share + sizes f * share ≤ (size t + sizes f) * share = omega arith in
      Held.more (size t * share) (sizes f * share)
      (λ s w. node_bound t s w.prefix (omega (arith, w.level)) (omega arith))
      (children_held f l (omega arith) (omega arith))
      both

-- ---- definitions

feed_or_nothing : (b : Bool) → length (if b then line_feed ∷ [] else []) ≤ 1
feed_or_nothing true = omega arith
feed_or_nothing false = omega arith

module _ (s : Settings) (p : length s.prefix ≤ 16) where
  -- in shorthand too
  definition_bound : (first : Bool) (t : Tree) → s.level + height t ≤ 129 → longest t ≤ 65536
      → length (definition_text s first t) + ample ≤ size t * share
  unfolding definition_text height longest size
  definition_bound first (tree h f) v x =
      let held = children_held f (s.level + 1) (omega arith) (omega arith) in
      omega (arith, rule_bound s h p (omega arith) (omega arith) (either (first && is_short h (children f))) held)
    where
      either : (b : Bool) → Brief (if b then shorthand else rule_of h.kind)
      either true = shorthand_is_brief
      either false = rule_is_brief h.kind

  apart_bound : s.level ≤ 129 → length (apart s) ≤ ample
  unfolding apart
  apart_bound v = go s.breaks
    where
      within : Within 129 s
      within = record { prefix = p; level = v }

      go : (b : Bool) → length (if b then line_feed ∷ new_line s else a_space ∷ []) ≤ ample
      go true = omega (arith, new_line_is_short (le_refl 129) within)
      go false = omega arith

  later_bound : (f : Forest) → s.level + heights f ≤ 129 → longests f ≤ 65536 → length (later_definitions s f) ≤ sizes f * share
  unfolding later_definitions height longest size
  later_bound none v x = omega arith
  later_bound (more t f) v x =
      simp length-append (omega (
        arith,
        apart_bound (omega arith),
        definition_bound false t (omega arith) (omega arith),
        later_bound f (omega arith) (omega arith),
      ))

  pub document_bound : (t : Tree) → s.level + height t ≤ 129 → longest t ≤ 65536 → length (document_text s t) ≤ size t * share
  unfolding document_text height longest size
  document_bound (tree h none) v x = omega arith
  document_bound (tree h (more t f)) v x =
      simp length-append (omega (
        arith,
        definition_bound true t (omega arith) (omega arith),
        later_bound f (omega arith) (omega arith),
        feed_or_nothing s.breaks,
      ))

-- ---- an accepted table

pub document_fits : (s : Settings) {w p : List ℕ} → settings_fault document_levels s ≡ false → Accepted w p
    → length (document_text s (tree_of w p)) < 2 ^ 64
document_fits s {w} {p} e ok =
    let small = small_settings document_levels s.breaks s.prefix s.level e in
    let tall : s.level + height (tree_of w p) ≤ 129 = omega (arith, accepted_height ok) in
    omega (
      arith,
      document_bound s small.0 (tree_of w p) tall (accepted_texts ok),
      accepted_size ok,
      (accepted_shaped ok).few,
    )
