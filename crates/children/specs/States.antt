-- The states of the walk over children, by number; what the walk's table has to say of them.
use Rattle.std.specs.Prelude.{ℕ, ◌+◌, ◌*◌, ◌<◌, ◌≡◌, ◌&&◌, List, [], ◌∷◌, ◌++◌, map, eqb, get_or, if◌then◌else◌}
use Rattle.meaning.specs.Kind
use Rattle.meaning.specs.Children.{a, selection, type, value, is_in, one, opt, any, some, directives, rows}
use Rattle.children.specs.Walk.{Left, stuck, left, after, done}

-- the states that children lead to and that are no kind's own
abbrev pub others : List Left
others =
    left (any selection ∷ [])
    ∷ left (any (a Kind.input_value_definition) ∷ some (a Kind.location) ∷ [])
    ∷ left (any (a Kind.location) ∷ [])
    ∷ left (directives ∷ some (a Kind.root_operation) ∷ [])
    ∷ left (any (a Kind.root_operation) ∷ [])
    ∷ left (directives ∷ any (a Kind.field_definition) ∷ [])
    ∷ left (any (a Kind.field_definition) ∷ [])
    ∷ left (any (a Kind.union_member) ∷ [])
    ∷ left (any (a Kind.enum_value_definition) ∷ [])
    ∷ left (any (a Kind.input_value_definition) ∷ [])
    ∷ left (opt value ∷ directives ∷ [])
    ∷ left (any (a Kind.input_value_definition) ∷ one type ∷ directives ∷ [])
    ∷ left (directives ∷ any selection ∷ [])
    ∷ left (any (a Kind.argument) ∷ directives ∷ any selection ∷ [])
    ∷ []

-- 0 is stuck, and k + 1 is the kind k before its first child
unfoldable pub states : List Left
unfolding rows
states = stuck ∷ map (λ r. left r.children) rows ++ others

unfoldable pub state_of : ℕ → Left
unfolding states
state_of p = get_or states p stuck

-- the column of a kind in the walk's table: kinds that no slot tells apart share one
abbrev pub columns : List ℕ
columns =
    0
    ∷ 1 ∷ 1 ∷ 1 ∷ 1 ∷ 1 ∷ 1 ∷ 1 ∷ 1 ∷ 1 ∷ 1 ∷ 1 ∷ 1 ∷ 1 ∷ 1 ∷ 1 ∷ 1 ∷ 1  -- definitions
    ∷ 2 ∷ 3 ∷ 4 ∷ 5 ∷ 6 ∷ 7 ∷ 8 ∷ 9 ∷ 10 ∷ 11 ∷ 12
    ∷ 13 ∷ 14 ∷ 13 ∷ 13  -- selections and the alias
    ∷ 15 ∷ 15  -- types
    ∷ 16 ∷ 16 ∷ 16 ∷ 16 ∷ 16 ∷ 16 ∷ 16 ∷ 16 ∷ 16  -- values
    ∷ 17
    ∷ []

-- "one 33 of variant 0" has its own
unfoldable pub column_of : ℕ → ℕ → ℕ
column_of kind variant = if eqb kind Kind.named_type && eqb variant 0 then 18 else get_or columns kind 0

-- how many states there are
abbrev pub state_count : ℕ
state_count = 60

-- the columns of children, and the last one, which says whether the children may end
abbrev pub column_count : ℕ
column_count = 20

abbrev pub end_column : ℕ
end_column = 19

-- q is the state that a child leaves of the state p
pub record Goes (p kind variant q : ℕ) : Type 0 where
  pub within : q < state_count
  pub is : state_of q ≡ after (λ c. is_in c kind variant) (state_of p)

-- what a table has for the state p in the column c
abbrev pub entry : List ℕ → ℕ → ℕ → ℕ
entry t p c = get_or t (p * column_count + c) 0

-- a table that has, for each state, the next one by the child's column, and 1 where the children may end
pub record Right (t : List ℕ) : Type 0 where
  pub goes : (p kind variant : ℕ) → p < state_count → kind < Kind.count → Goes p kind variant (entry t p (column_of kind variant))
  pub ends : (p : ℕ) → p < state_count → eqb (entry t p end_column) 1 ≡ done (state_of p)

-- the columns of all kinds; a NamedType's is that of a variant other than 0
pub record Columned (cs : List ℕ) : Type 0 where
  pub each : (k : ℕ) → k < Kind.count → get_or cs k 0 ≡ column_of k 1
