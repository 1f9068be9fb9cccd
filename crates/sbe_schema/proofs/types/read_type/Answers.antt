use Rattle.std.proofs.Common.{rules}
use Rattle.json_data.specs.Trees.{data_of, items_of}
use Rattle.sbe_schema.specs.TypeParts.{type_named}
use Rattle.sbe_schema.proofs.TypeParts.{type_read, type_refused}
use Rattle.sbe_schema.proofs.types.read_type.Goals as goal

pub returns-in_err-numbered : goal.returns-in_err-numbered
returns-in_err-numbered c =
    let refused = type_refused c.args.standing (data_of c.args.element.now) (items_of c.in_ok-children.children.now) c.in_ok-name.name
    c.in_ok-children.ensures c.in_ok-name.ensures c.in_err-numbered.field-0.0 (c.in_err-numbered.ensures (type_named c.in_ok-name.name)) in
    search (refused, rules)

pub returns : goal.returns
returns c =
    type_read c.args.standing (data_of c.args.element.now) (items_of c.in_ok-children.children.now) c.in_ok-name.name
    c.in_ok-children.ensures c.in_ok-name.ensures c.in_ok-numbered.numbered c.named_type.result c.named_type.ensures
    (c.in_ok-numbered.ensures (type_named c.in_ok-name.name))
