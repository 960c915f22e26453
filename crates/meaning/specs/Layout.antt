-- Document 01, "Layout": what the parts of a rule write, and the text of a document.
use Rattle.std.specs.Prelude.{ℕ, zero, suc, Bool, true, false, ◌&&◌, ◌||◌, List, [], ◌∷◌, ◌++◌, eqb, get_or, if◌then◌else◌}
use Rattle.meaning.specs.Ascii.{ascii, line_feed, space as a_space}
use Rattle.meaning.specs.Kind
use Rattle.meaning.specs.Tree.{Head, Tree, tree, Forest, none, more, head}
use Rattle.meaning.specs.Settings.{Settings, deeper, on_single_line, new_line, new_line_or_space as line_or_space}
use Rattle.meaning.specs.Literal.{literal as literal_text}
use Rattle.meaning.specs.Children.{Class, selection, is_in, starts, rest, run, past}
use Rattle.meaning.specs.Rules.{Lines, as_here, single_line, single_line_unless_marked, Part, tok, words, text, literal, space, new_line_or_space, one, spaced, separated, comma_separated, curly_brackets, if_next, if_text, if_variant, shorthand, rule_of}

-- a child: its head, whether it has a description or a directive, and its text under given settings
pub record Child : Type 0 where
  pub head : Head
  pub marked : Bool
  pub said : Settings → List ℕ

unfoldable pub child_in : Class → Child → Bool
unfolding is_in
child_in c r = is_in c r.head.kind r.head.variant

-- ---- lists of children

-- each after the same bytes
unfoldable pub each : List ℕ → Settings → List Child → List ℕ
each before s [] = []
each before s (r ∷ rs) = before ++ (r.said s ++ each before s rs)

-- "Braces: level up, items on new lines or after spaces, level down."
unfoldable pub in_braces : Settings → List Child → List ℕ
unfolding each line_or_space
in_braces s [] = ascii "{}"
in_braces s (r ∷ rs) = ascii "{" ++ (each (line_or_space (deeper s)) (deeper s) (r ∷ rs) ++ (line_or_space s ++ ascii "}"))

-- "Comma lists: `,` between; a comma after the last only with breaks on; empty ones print `[]`, `{}`."
unfoldable pub in_commas : Settings → List ℕ → List ℕ → List Child → List ℕ
unfolding each new_line line_or_space
in_commas s left right [] = left ++ right
in_commas s left right (r ∷ rs) =
    left
    ++ (new_line (deeper s)
    ++ (r.said (deeper s)
    ++ (each (ascii "," ++ line_or_space (deeper s)) (deeper s) rs
    ++ ((if s.breaks then ascii "," else []) ++ (new_line s ++ right)))))

unfoldable pub any_marked : List Child → Bool
any_marked [] = false
any_marked (r ∷ rs) = r.marked || any_marked rs

-- "Arguments, directive arguments and variables always print with breaks off. Argument definitions do so unless one has a
-- description or a directive."
unfoldable pub lines_of : Lines → Settings → List Child → Settings
unfolding any_marked
lines_of as_here s rs = s
lines_of single_line s rs = on_single_line s
lines_of single_line_unless_marked s rs = if any_marked rs then s else on_single_line s

-- ---- a part: what it writes, the children that it leaves, how many parts after it are left out

abbrev pub is_empty : List ℕ → Bool
is_empty [] = true
is_empty (b ∷ s) = false

abbrev pub first_said : Settings → List Child → List ℕ
first_said s [] = []
first_said s (r ∷ rs) = r.said s

unfoldable pub part_text : Settings → Head → Part → List Child → List ℕ
unfolding line_or_space literal_text child_in run each in_braces in_commas lines_of
part_text s h (tok t) rs = t
part_text s h (words ts) rs = get_or ts h.variant []
part_text s h text rs = h.text
part_text s h (literal description) rs = literal_text s description h.text
part_text s h space rs = a_space ∷ []
part_text s h new_line_or_space rs = line_or_space s
part_text s h (one c) rs = first_said s rs
part_text s h (spaced c) rs = each (a_space ∷ []) s (run child_in c rs)
part_text s h (separated t c) rs = each (a_space ∷ (t ++ (a_space ∷ []))) s (run child_in c rs)
part_text s h (comma_separated l left right c) rs = in_commas (lines_of l s (run child_in c rs)) left right (run child_in c rs)
part_text s h (curly_brackets c) rs = in_braces s (run child_in c rs)
part_text s h (if_next c n) rs = []
part_text s h (if_text n) rs = []
part_text s h (if_variant n) rs = []

unfoldable pub part_rest : Part → List Child → List Child
unfolding child_in past
part_rest (tok t) rs = rs
part_rest (words ts) rs = rs
part_rest text rs = rs
part_rest (literal description) rs = rs
part_rest space rs = rs
part_rest new_line_or_space rs = rs
part_rest (one c) rs = rest child_in rs
part_rest (spaced c) rs = past child_in c rs
part_rest (separated t c) rs = past child_in c rs
part_rest (comma_separated l left right c) rs = past child_in c rs
part_rest (curly_brackets c) rs = past child_in c rs
part_rest (if_next c n) rs = rs
part_rest (if_text n) rs = rs
part_rest (if_variant n) rs = rs

unfoldable pub part_skip : Head → Part → List Child → ℕ
unfolding child_in
part_skip h (tok t) rs = 0
part_skip h (words ts) rs = 0
part_skip h text rs = 0
part_skip h (literal description) rs = 0
part_skip h space rs = 0
part_skip h new_line_or_space rs = 0
part_skip h (one c) rs = 0
part_skip h (spaced c) rs = 0
part_skip h (separated t c) rs = 0
part_skip h (comma_separated l left right c) rs = 0
part_skip h (curly_brackets c) rs = 0
part_skip h (if_next c n) rs = if starts child_in c rs then 0 else n
part_skip h (if_text n) rs = if is_empty h.text then n else 0
part_skip h (if_variant n) rs = if eqb h.variant 1 then 0 else n

-- the text of a node by its rule, the first k parts left out
unfoldable pub said : Settings → Head → ℕ → List Part → List Child → List ℕ
unfolding part_text part_rest part_skip
said s h k [] rs = []
said s h (suc k) (p ∷ ps) rs = said s h k ps rs
said s h zero (p ∷ ps) rs = part_text s h p rs ++ said s h (part_skip h p rs) ps (part_rest p rs)

-- ---- a node

abbrev pub is_mark : ℕ → Bool
is_mark k = eqb k Kind.description || eqb k Kind.directive

unfoldable pub has_mark : Forest → Bool
has_mark none = false
has_mark (more t f) = is_mark (head t).kind || has_mark f

abbrev pub marks : Tree → Bool
marks (tree h f) = has_mark f

unfoldable mutual
  unfolding said rule_of has_mark

  pub node_text : Tree → Settings → List ℕ
  node_text (tree h f) = λ s. said s h 0 (rule_of h.kind) (children f)

  pub children : Forest → List Child
  children none = []
  children (more t f) = record { head = head t; marked = marks t; said = node_text t } ∷ children f

-- ---- documents

-- "Shorthand `{` only for the first definition: a query with no name, variables or directives": its selections come first
unfoldable pub is_short : Head → List Child → Bool
unfolding child_in
is_short h rs = eqb h.kind Kind.operation && (eqb h.variant 0 && (is_empty h.text && starts child_in selection rs))

unfoldable pub definition_text : Settings → Bool → Tree → List ℕ
unfolding said is_short shorthand rule_of children
definition_text s is_first (tree h f) =
    said s h 0 (if is_first && is_short h (children f) then shorthand else rule_of h.kind) (children f)

-- "definitions apart by LF and a new line (breaks on), or one space"
unfoldable pub apart : Settings → List ℕ
unfolding new_line
apart s = if s.breaks then line_feed ∷ new_line s else a_space ∷ []

unfoldable pub later_definitions : Settings → Forest → List ℕ
unfolding apart definition_text
later_definitions s none = []
later_definitions s (more t f) = apart s ++ (definition_text s false t ++ later_definitions s f)

-- "LF at the end if breaks are on. No indent before the first. An empty document prints nothing."
unfoldable pub document_text : Settings → Tree → List ℕ
unfolding definition_text later_definitions
document_text s (tree h none) = []
document_text s (tree h (more t f)) =
    definition_text s true t ++ (later_definitions s f ++ (if s.breaks then line_feed ∷ [] else []))
