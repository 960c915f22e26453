-- `types::serialize_type` meets its contract: the parts of the two rules, one after the other.
use Rattle.std.proofs.Common.{rules, refl, sym, ◌∙◌, arith, eqb-true}
use Rattle.std.proofs.lemmas.Bool.{eqb-false}
use Rattle.meaning.specs.Rules.{token}
use Rattle.meaning.specs.declared.kind.Kind.TheVariants.{NamedType}
use Rattle.table.specs.Kinds.{same_kind}
use Rattle.types.specs.TypeJob.{start, passed, node_of, text_of, known_kind, is_list, inner_range, inner_there, inner_job, named_type_lem, list_type_lem}
use Rattle.types.proofs.+serialize_type.Goals.{then-eq, else-eq}
use Rattle.types.proofs.+serialize_type.Goals as goal

pub kind-requires : goal.kind-requires
kind-requires t c = known_kind c.requires

pub name-requires : goal.name-requires
name-requires t c = text_of c.requires

pub if_one-requires : goal.if_one-requires
if_one-requires t c = node_of c.requires

pub overflow_add-node : goal.overflow_add-node
overflow_add-node t c = omega (arith, (node_of c.requires).few)

pub serialize_type-requires : goal.serialize_type-requires
serialize_type-requires t c =
    let told = same_kind c.kind.result NamedType c.eq.result (λ e. search rules) (λ e. search rules) in
    let list = is_list c.requires (λ z. eqb-false _ 33 (sym told ∙ c.if-eq.false) (c.kind.ensures ∙ z)) in
    (omega (arith, c.decreases, c.requires.inside), inner_job c.requires list)

pub returns : goal.returns
returns t c = λ s.
    let told = same_kind c.kind.result NamedType c.eq.result (λ e. search rules) (λ e. search rules) in
    elim c.if-eq.branch [
      | then-eq w ↦
          named_type_lem s (sym c.kind.ensures ∙ eqb-true _ 33 (sym told ∙ w.if-eq.true)) w.name.ensures
          (rw w.pen-is at (c.if_one.ensures c.args.table.now.pool.now s (start c.args.table.now.words.now c.args.node.0) (token "!") refl refl))
      | else-eq w ↦
          let list = is_list c.requires (λ z. eqb-false _ 33 (sym told ∙ w.if-eq.false) (c.kind.ensures ∙ z)) in
          list_type_lem s (inner_range c.requires list) (inner_there c.requires list) list w.write.ensures (w.serialize_type.ensures s) w.write-else-eq.ensures
          (rw w.pen-is at (c.if_one.ensures c.args.table.now.pool.now s (passed c.args.table.now.words.now c.args.node.0) (token "!") refl refl))
    ]
