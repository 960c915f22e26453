-- The printer of the nodes below definitions meets its contracts. Each function does the parts of its rule one after the other.
use Rattle.std.specs.Prelude.{true, false, refl, [], ◌∷◌, ◌++◌}
use Rattle.std.proofs.Common.{arith, sym, ap, ◌∙◌}
use Rattle.meaning.specs.Ascii.{ascii}
use Rattle.meaning.specs.Settings.{settings}
use Rattle.meaning.specs.KindNumbers.{kind_number}
use Rattle.meaning.specs.Children.{a, type, value}
use Rattle.meaning.specs.Rules.{single_line, single_line_unless_marked, comma_separated, curly_brackets, token, sp, child, rule_of}
use Rattle.settings.specs.Said.{said}
use Rattle.layout.specs.Child.{one_printed, no_one}
use Rattle.layout.specs.Did.{◌⨾◌, did_tokens, did_name, did_literal, a_child, no_child, node_written, jobs_walked}
use Rattle.pen.specs.Wrote.{wrote_as, wrote_none}
use Rattle.layout.specs.Jobs.{in_table, ranged, first_job, here}
use Rattle.layout.specs.Classes.{meant}
use Rattle.layout.specs.Read.{words, pool}
use Rattle.serialize.specs.Kinds.{type_kind, argument_kind, name_kind, no_kind}
use Rattle.serialize.specs.Walks.{run_turn, run_over, fewer_left, commas_some, commas_none, braces_some, braces_none, nothing_said}
use Rattle.serialize.specs.Parts.{parts_below, jobs_done, did_one, did_spaced, did_braces, did_commas, did_single_line, did_lines}
use Rattle.serialize.proofs.+tree.Goals.{commas-then-is_next, commas-else-is_next, curly-then-is_next, curly-else-is_next}
use Rattle.serialize.proofs.+tree.Goals as goal

-- ---- lists of children

pub one-serialize_impl-requires : goal.one-serialize_impl-requires
one-serialize_impl-requires t c =
    let r = c.requires.range in (
      omega (arith, c.decreases, r.whole c.args.children.now.next.0 (omega arith) c.if-children.true),
      (first_job c.args.printer.now.shaped c.requires c.if-children.true, c.requires.inner _ (omega arith) c.if-children.true),
    )

pub one-returns-then-children : goal.one-returns-then-children
one-returns-then-children t c = one_printed _ c.args.printer.now.shaped c.requires.range c.if-children.true c.serialize_impl.ensures c.pass.ensures

pub one-returns-else-children : goal.one-returns-else-children
one-returns-else-children t c = no_one _ c.if-children.false

pub each-loop-class-smaller : goal.each-loop-class-smaller
each-loop-class-smaller t c =
    fewer_left c.args.printer.now.shaped (meant c.args.class) c.loop-class.invariant.jobs.range (sym c.is_next.ensures ∙ c.loop-class-test.true) c.one.ensures

pub each-loop-class-preserved : goal.each-loop-class-preserved
each-loop-class-preserved t c =
    run_turn c.args.printer.now.shaped c.loop-class.invariant (sym c.is_next.ensures ∙ c.loop-class-test.true) c.write.ensures c.one.ensures

pub each-returns : goal.each-returns
each-returns t c = run_over c.args.printer.now.shaped c.loop-class.invariant (sym c.is_next.ensures ∙ c.loop-class-test.false)

pub commas-returns : goal.commas-returns
commas-returns t c =
    elim c.if-is_next.branch [
      | commas-then-is_next w ↦
          rw w.children-is
          (commas_some c.args.printer.now.shaped _ (said c.args.settings.now) c.requires.range (sym c.is_next.ensures ∙ w.if-is_next.true)
          w.deeper-inner.ensures c.write.ensures w.new_line.ensures w.one.ensures w.each.ensures w.trailing_comma.ensures
          w.new_line-then-is_next.ensures (rw w.pen-is at c.write-2.ensures))
      | commas-else-is_next w ↦
          rw w.children-is
          (commas_none c.args.printer.now.shaped _ (said c.args.settings.now) c.requires.range (sym c.is_next.ensures ∙ w.if-is_next.false)
          c.write.ensures (rw w.pen-is at c.write-2.ensures))
    ]

pub curly-returns : goal.curly-returns
curly-returns t c =
    elim c.if-is_next.branch [
      | curly-then-is_next w ↦
          rw w.children-is
          (braces_some c.args.printer.now.shaped _ (said c.args.settings.now) c.requires.range (sym c.is_next.ensures ∙ w.if-is_next.true)
          w.deeper.ensures c.write.ensures w.each.ensures w.new_line_or_space.ensures (rw w.pen-is at c.write-2.ensures))
      | curly-else-is_next w ↦
          rw w.children-is
          (braces_none c.args.printer.now.shaped _ (said c.args.settings.now) c.requires.range (sym c.is_next.ensures ∙ w.if-is_next.false)
          c.write.ensures (rw w.pen-is at c.write-2.ensures))
    ]

pub opt_braces-returns-then-is_next : goal.opt_braces-returns-then-is_next
opt_braces-returns-then-is_next t c = λ n.
    a_child _ (ranged c.args.printer.now.shaped c.requires.range) _ (sym c.is_next.ensures ∙ c.if-is_next.true)
    (did_tokens sp refl c.write.ensures ⨾ did_braces _ c.curly.ensures)

pub opt_braces-returns-else-is_next : goal.opt_braces-returns-else-is_next
opt_braces-returns-else-is_next t c = λ n.
    no_child (sp ++ curly_brackets _ ∷ []) (ranged c.args.printer.now.shaped c.requires.range) _ refl (sym c.is_next.ensures ∙ c.if-is_next.false)

pub arguments-returns-then-is_next : goal.arguments-returns-then-is_next
arguments-returns-then-is_next t c = λ n.
    a_child _ (ranged c.args.printer.now.shaped c.requires.range) _ (sym c.is_next.ensures ∙ c.if-is_next.true)
    (did_single_line _ c.on_single_line-line.ensures c.commas.ensures)

pub arguments-returns-else-is_next : goal.arguments-returns-else-is_next
arguments-returns-else-is_next t c = λ n.
    no_child (comma_separated single_line (ascii "(") (ascii ")") _ ∷ []) (ranged c.args.printer.now.shaped c.requires.range) _ refl
    (sym c.is_next.ensures ∙ c.if-is_next.false)

pub directives-returns-else-is_next : goal.directives-returns-else-is_next
directives-returns-else-is_next t c =
    nothing_said c.args.printer.now.shaped (a 19) (said c.args.settings.now) c.requires.range (sym c.is_next.ensures ∙ c.if-is_next.false) _

pub signature-returns : goal.signature-returns
signature-returns t c = λ n. did_lines (a 22) _ c.any_marked-marked.ensures c.single_line_unless-lines.ensures c.commas.ensures

pub arguments_def-returns-then-is_next : goal.arguments_def-returns-then-is_next
arguments_def-returns-then-is_next t c = λ n.
    a_child _ (ranged c.args.printer.now.shaped c.requires.range) (a 22) (sym c.is_next.ensures ∙ c.if-is_next.true) (c.signature.ensures n)

pub arguments_def-returns-else-is_next : goal.arguments_def-returns-else-is_next
arguments_def-returns-else-is_next t c = λ n.
    no_child (comma_separated single_line_unless_marked (ascii "(") (ascii ")") (a 22) ∷ []) (ranged c.args.printer.now.shaped c.requires.range) (a 22) refl
    (sym c.is_next.ensures ∙ c.if-is_next.false)

-- ---- a node of each kind

pub default-returns-then-is_next : goal.default-returns-then-is_next
default-returns-then-is_next t c = λ n.
    a_child _ (ranged c.args.printer.now.shaped c.requires.range) value (sym c.is_next.ensures ∙ c.if-is_next.true)
    (did_tokens (sp ++ token "=" ++ sp) refl c.write.ensures ⨾ did_one value c.one.ensures)

pub default-returns-else-is_next : goal.default-returns-else-is_next
default-returns-else-is_next t c = λ n.
    no_child (sp ++ token "=" ++ sp ++ child value) (ranged c.args.printer.now.shaped c.requires.range) value refl
    (sym c.is_next.ensures ∙ c.if-is_next.false)

pub directive-returns : goal.directive-returns
unfolding rule_of
directive-returns t c = did_tokens (token "@") refl c.write.ensures ⨾ did_name c.name.ensures ⨾ c.arguments.ensures _

pub argument-returns : goal.argument-returns
unfolding rule_of
argument-returns t c = did_name c.name.ensures ⨾ did_tokens (token ":" ++ sp) refl c.write.ensures ⨾ did_one value c.one.ensures

pub variable-directives-requires : goal.variable-directives-requires
variable-directives-requires t c =
    let y = c.default.ensures 0 in
    (omega (arith, c.decreases, c.one.ensures.order, c.one.ensures.end, y.walked.order, y.walked.end), here (jobs_done (jobs_walked c.requires.jobs c.one.ensures) y))

pub variable-returns : goal.variable-returns
unfolding rule_of
variable-returns t c =
    did_tokens (token "$") refl c.write.ensures ⨾ did_name c.name.ensures ⨾ did_tokens (token ":" ++ sp) refl c.write-2.ensures
    ⨾ did_one type c.one.ensures ⨾ c.default.ensures _ ⨾ did_spaced _ c.directives.ensures

pub input-one-requires : goal.input-one-requires
input-one-requires t c =
    let x = c.serialize_description.ensures 0 in
    (omega (arith, c.decreases, x.walked.order, x.walked.end), here (jobs_done c.requires.jobs x))

pub input-default-requires : goal.input-default-requires
input-default-requires t c =
    let x = c.serialize_description.ensures 0 in
    (omega (arith, c.decreases, x.walked.order, x.walked.end, c.one.ensures.order, c.one.ensures.end), here (jobs_walked (jobs_done c.requires.jobs x) c.one.ensures))

pub input-directives-requires : goal.input-directives-requires
input-directives-requires t c =
    let x = c.serialize_description.ensures 0 in
    let y = c.default.ensures 0 in (
      omega (arith, c.decreases, x.walked.order, x.walked.end, c.one.ensures.order, c.one.ensures.end, y.walked.order, y.walked.end),
      here (jobs_done (jobs_walked (jobs_done c.requires.jobs x) c.one.ensures) y),
    )

pub input-returns : goal.input-returns
unfolding rule_of
input-returns t c =
    c.serialize_description.ensures _ ⨾ did_name c.name.ensures ⨾ did_tokens (token ":" ++ sp) refl c.write.ensures ⨾ did_one type c.one.ensures
    ⨾ c.default.ensures _ ⨾ did_spaced _ c.directives.ensures

pub field_def-arguments_def-requires : goal.field_def-arguments_def-requires
field_def-arguments_def-requires t c =
    let x = c.serialize_description.ensures 0 in
    (omega (arith, c.decreases, x.walked.order, x.walked.end), jobs_done c.requires.jobs x)

pub field_def-one-requires : goal.field_def-one-requires
field_def-one-requires t c =
    let x = c.serialize_description.ensures 0 in
    let y = c.arguments_def.ensures 0 in
    (omega (arith, c.decreases, x.walked.order, x.walked.end, y.walked.order, y.walked.end), here (jobs_done (jobs_done c.requires.jobs x) y))

pub field_def-directives-requires : goal.field_def-directives-requires
field_def-directives-requires t c =
    let x = c.serialize_description.ensures 0 in
    let y = c.arguments_def.ensures 0 in (
      omega (arith, c.decreases, x.walked.order, x.walked.end, y.walked.order, y.walked.end, c.one.ensures.order, c.one.ensures.end),
      here (jobs_walked (jobs_done (jobs_done c.requires.jobs x) y) c.one.ensures),
    )

pub field_def-returns : goal.field_def-returns
unfolding rule_of
field_def-returns t c =
    c.serialize_description.ensures _ ⨾ did_name c.name.ensures ⨾ c.arguments_def.ensures _ ⨾ did_tokens (token ":" ++ sp) refl c.write.ensures
    ⨾ did_one type c.one.ensures ⨾ did_spaced _ c.directives.ensures

pub enum_value-directives-requires : goal.enum_value-directives-requires
enum_value-directives-requires t c =
    let x = c.serialize_description.ensures 0 in
    (omega (arith, c.decreases, x.walked.order, x.walked.end), here (jobs_done c.requires.jobs x))

pub enum_value-returns : goal.enum_value-returns
unfolding rule_of
enum_value-returns t c = c.serialize_description.ensures _ ⨾ did_name c.name.ensures ⨾ did_spaced _ c.directives.ensures

pub field-arguments-requires : goal.field-arguments-requires
field-arguments-requires t c =
    let x = c.alias.ensures (settings false [] 0) 0 in
    (omega (arith, c.decreases, x.walked.order, x.walked.end), jobs_done c.requires.jobs x)

pub field-directives-requires : goal.field-directives-requires
field-directives-requires t c =
    let x = c.alias.ensures (settings false [] 0) 0 in
    let y = c.arguments.ensures 0 in
    (omega (arith, c.decreases, x.walked.order, x.walked.end, y.walked.order, y.walked.end), here (jobs_done (jobs_done c.requires.jobs x) y))

pub field-opt_braces-requires : goal.field-opt_braces-requires
field-opt_braces-requires t c =
    let x = c.alias.ensures (settings false [] 0) 0 in
    let y = c.arguments.ensures 0 in (
      omega (arith, c.decreases, x.walked.order, x.walked.end, y.walked.order, y.walked.end, c.directives.ensures.order, c.directives.ensures.end),
      jobs_walked (jobs_done (jobs_done c.requires.jobs x) y) c.directives.ensures,
    )

pub field-returns : goal.field-returns
unfolding rule_of
field-returns t c =
    c.alias.ensures _ _ ⨾ did_name c.name.ensures ⨾ c.arguments.ensures _ ⨾ did_spaced _ c.directives.ensures ⨾ c.opt_braces.ensures _

pub spread-returns : goal.spread-returns
unfolding rule_of
spread-returns t c = did_tokens (token "...") refl c.write.ensures ⨾ did_name c.name.ensures ⨾ did_spaced _ c.directives.ensures

pub inline-returns : goal.inline-returns
unfolding rule_of
inline-returns t c =
    did_tokens (token "...") refl c.write.ensures ⨾ c.if_named.ensures _ _ (sp ++ token "on" ++ sp) refl refl ⨾ did_spaced _ c.directives.ensures
    ⨾ did_tokens sp refl c.write-2.ensures ⨾ did_braces _ c.curly.ensures

pub list-returns : goal.list-returns
unfolding rule_of
list-returns t c = λ n. did_commas _ c.commas.ensures

pub object-returns : goal.object-returns
unfolding rule_of
object-returns t c = λ n. did_commas _ c.commas.ensures

-- ---- any node

pub serialize_impl-kind_number-requires : goal.serialize_impl-kind_number-requires
serialize_impl-kind_number-requires t c = in_table c.args.printer.now.shaped c.requires.job.inside

pub serialize_impl-of-own-requires : goal.serialize_impl-of-own-requires
serialize_impl-of-own-requires t c = in_table c.args.printer.now.shaped c.requires.job.inside

pub serialize_impl-returns-in_default : goal.serialize_impl-returns-in_default
serialize_impl-returns-in_default t c =
    wrote_as wrote_none (no_kind (words c.args.printer.now) (pool c.args.printer.now) c.args.node.0 (said c.args.settings.now) (omega (arith, c.in_default.ensures, c.kind_number.ensures)))

pub serialize_impl-directive-requires : goal.serialize_impl-directive-requires
serialize_impl-directive-requires t c = parts_below c.args.printer.now.shaped c.requires.job c.of-own.ensures c.decreases

pub serialize_impl-argument-requires : goal.serialize_impl-argument-requires
serialize_impl-argument-requires t c = parts_below c.args.printer.now.shaped c.requires.job c.of-own.ensures c.decreases

pub serialize_impl-variable-requires : goal.serialize_impl-variable-requires
serialize_impl-variable-requires t c = parts_below c.args.printer.now.shaped c.requires.job c.of-own.ensures c.decreases

pub serialize_impl-input-requires : goal.serialize_impl-input-requires
serialize_impl-input-requires t c = parts_below c.args.printer.now.shaped c.requires.job c.of-own.ensures c.decreases

pub serialize_impl-field_def-requires : goal.serialize_impl-field_def-requires
serialize_impl-field_def-requires t c = parts_below c.args.printer.now.shaped c.requires.job c.of-own.ensures c.decreases

pub serialize_impl-enum_value-requires : goal.serialize_impl-enum_value-requires
serialize_impl-enum_value-requires t c = parts_below c.args.printer.now.shaped c.requires.job c.of-own.ensures c.decreases

pub serialize_impl-field-requires : goal.serialize_impl-field-requires
serialize_impl-field-requires t c = parts_below c.args.printer.now.shaped c.requires.job c.of-own.ensures c.decreases

pub serialize_impl-spread-requires : goal.serialize_impl-spread-requires
serialize_impl-spread-requires t c = parts_below c.args.printer.now.shaped c.requires.job c.of-own.ensures c.decreases

pub serialize_impl-inline-requires : goal.serialize_impl-inline-requires
serialize_impl-inline-requires t c = parts_below c.args.printer.now.shaped c.requires.job c.of-own.ensures c.decreases

pub serialize_impl-list-requires : goal.serialize_impl-list-requires
serialize_impl-list-requires t c =
    let x = parts_below c.args.printer.now.shaped c.requires.job c.of-own.ensures c.decreases in
    (omega (arith, x.0), x.1.jobs)

pub serialize_impl-object-requires : goal.serialize_impl-object-requires
serialize_impl-object-requires t c =
    let x = parts_below c.args.printer.now.shaped c.requires.job c.of-own.ensures c.decreases in
    (omega (arith, x.0), x.1.jobs)

pub serialize_impl-returns-in-Description : goal.serialize_impl-returns-in-Description
unfolding rule_of
serialize_impl-returns-in-Description t c =
    node_written (ap rule_of (sym (c.in-Ok.ensures ∙ c.kind_number.ensures) ∙ ap kind_number c.in-Description.is)) c.of-own.ensures (did_literal true c.string_value.ensures)

pub serialize_impl-returns-in-Directive : goal.serialize_impl-returns-in-Directive
serialize_impl-returns-in-Directive t c =
    node_written (ap rule_of (sym (c.in-Ok.ensures ∙ c.kind_number.ensures) ∙ ap kind_number c.in-Directive.is)) c.of-own.ensures c.directive.ensures

pub serialize_impl-returns-in-VariableDefinition : goal.serialize_impl-returns-in-VariableDefinition
serialize_impl-returns-in-VariableDefinition t c =
    node_written (ap rule_of (sym (c.in-Ok.ensures ∙ c.kind_number.ensures) ∙ ap kind_number c.in-VariableDefinition.is)) c.of-own.ensures c.variable.ensures

pub serialize_impl-returns-in-InputValueDefinition : goal.serialize_impl-returns-in-InputValueDefinition
serialize_impl-returns-in-InputValueDefinition t c =
    node_written (ap rule_of (sym (c.in-Ok.ensures ∙ c.kind_number.ensures) ∙ ap kind_number c.in-InputValueDefinition.is)) c.of-own.ensures c.input.ensures

pub serialize_impl-returns-in-FieldDefinition : goal.serialize_impl-returns-in-FieldDefinition
serialize_impl-returns-in-FieldDefinition t c =
    node_written (ap rule_of (sym (c.in-Ok.ensures ∙ c.kind_number.ensures) ∙ ap kind_number c.in-FieldDefinition.is)) c.of-own.ensures c.field_def.ensures

pub serialize_impl-returns-in-EnumValueDefinition : goal.serialize_impl-returns-in-EnumValueDefinition
serialize_impl-returns-in-EnumValueDefinition t c =
    node_written (ap rule_of (sym (c.in-Ok.ensures ∙ c.kind_number.ensures) ∙ ap kind_number c.in-EnumValueDefinition.is)) c.of-own.ensures c.enum_value.ensures

pub serialize_impl-returns-in-Field : goal.serialize_impl-returns-in-Field
serialize_impl-returns-in-Field t c =
    node_written (ap rule_of (sym (c.in-Ok.ensures ∙ c.kind_number.ensures) ∙ ap kind_number c.in-Field.is)) c.of-own.ensures c.field.ensures

pub serialize_impl-returns-in-FragmentSpread : goal.serialize_impl-returns-in-FragmentSpread
serialize_impl-returns-in-FragmentSpread t c =
    node_written (ap rule_of (sym (c.in-Ok.ensures ∙ c.kind_number.ensures) ∙ ap kind_number c.in-FragmentSpread.is)) c.of-own.ensures c.spread.ensures

pub serialize_impl-returns-in-InlineFragment : goal.serialize_impl-returns-in-InlineFragment
serialize_impl-returns-in-InlineFragment t c =
    node_written (ap rule_of (sym (c.in-Ok.ensures ∙ c.kind_number.ensures) ∙ ap kind_number c.in-InlineFragment.is)) c.of-own.ensures c.inline.ensures

pub serialize_impl-returns-in-RootOperation : goal.serialize_impl-returns-in-RootOperation
unfolding rule_of
serialize_impl-returns-in-RootOperation t c =
    node_written (ap rule_of (sym (c.in-Ok.ensures ∙ c.kind_number.ensures) ∙ ap kind_number c.in-RootOperation.is)) c.of-own.ensures (c.root_operation.ensures _ _)

pub serialize_impl-returns-in-Location : goal.serialize_impl-returns-in-Location
unfolding rule_of
serialize_impl-returns-in-Location t c =
    node_written (ap rule_of (sym (c.in-Ok.ensures ∙ c.kind_number.ensures) ∙ ap kind_number c.in-Location.is)) c.of-own.ensures (c.location.ensures _ _ _)

pub serialize_impl-returns-in-Null : goal.serialize_impl-returns-in-Null
unfolding rule_of
serialize_impl-returns-in-Null t c =
    node_written (ap rule_of (sym (c.in-Ok.ensures ∙ c.kind_number.ensures) ∙ ap kind_number c.in-Null.is)) c.of-own.ensures (did_tokens (token "null") refl c.write.ensures)

pub serialize_impl-returns-in-Boolean : goal.serialize_impl-returns-in-Boolean
unfolding rule_of
serialize_impl-returns-in-Boolean t c =
    node_written (ap rule_of (sym (c.in-Ok.ensures ∙ c.kind_number.ensures) ∙ ap kind_number c.in-Boolean.is)) c.of-own.ensures (c.boolean.ensures _ _ _)

pub serialize_impl-returns-in-String : goal.serialize_impl-returns-in-String
unfolding rule_of
serialize_impl-returns-in-String t c =
    node_written (ap rule_of (sym (c.in-Ok.ensures ∙ c.kind_number.ensures) ∙ ap kind_number c.in-String.is)) c.of-own.ensures (did_literal false c.string_value-in-String.ensures)

pub serialize_impl-returns-in-Variable : goal.serialize_impl-returns-in-Variable
unfolding rule_of
serialize_impl-returns-in-Variable t c =
    node_written (ap rule_of (sym (c.in-Ok.ensures ∙ c.kind_number.ensures) ∙ ap kind_number c.in-Variable.is)) c.of-own.ensures (c.variable_value.ensures _ _)

pub serialize_impl-returns-in-List : goal.serialize_impl-returns-in-List
unfolding rule_of
serialize_impl-returns-in-List t c =
    node_written (ap rule_of (sym (c.in-Ok.ensures ∙ c.kind_number.ensures) ∙ ap kind_number c.in-List.is)) c.of-own.ensures (c.list.ensures _)

pub serialize_impl-returns-in-ObjectValue : goal.serialize_impl-returns-in-ObjectValue
unfolding rule_of
serialize_impl-returns-in-ObjectValue t c =
    node_written (ap rule_of (sym (c.in-Ok.ensures ∙ c.kind_number.ensures) ∙ ap kind_number c.in-ObjectValue.is)) c.of-own.ensures (c.object.ensures _)

pub serialize_impl-serialize_type-requires : goal.serialize_impl-serialize_type-requires
serialize_impl-serialize_type-requires t c = record {
  shaped = c.args.printer.now.shaped;
  lists = c.args.printer.now.lists;
  inside = c.requires.job.inside;
  is_type = type_kind c.in-NamedType.is (c.in-Ok.ensures ∙ c.kind_number.ensures) _;
}

pub serialize_impl-returns-in-NamedType : goal.serialize_impl-returns-in-NamedType
serialize_impl-returns-in-NamedType t c = c.serialize_type.ensures _

pub serialize_impl-returns-in-Argument : goal.serialize_impl-returns-in-Argument
serialize_impl-returns-in-Argument t c =
    node_written (ap rule_of (sym (c.in-Ok.ensures ∙ c.kind_number.ensures)) ∙ argument_kind c.in-Argument.is) c.of-own.ensures c.argument.ensures

pub serialize_impl-returns-in-InterfaceName : goal.serialize_impl-returns-in-InterfaceName
serialize_impl-returns-in-InterfaceName t c =
    node_written (ap rule_of (sym (c.in-Ok.ensures ∙ c.kind_number.ensures)) ∙ name_kind c.in-InterfaceName.is) c.of-own.ensures (did_name c.name.ensures)
