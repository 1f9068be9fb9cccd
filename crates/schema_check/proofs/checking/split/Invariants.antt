use Rattle.std.proofs.Common.{◌≡◌, ◌++◌, length}
use Rattle.std.specs.Prelude.{flat_map}
use Rattle.std.specs.Vec.Iter.{into_iter_items, into_iter_len}
use Rattle.schema_rules.specs.Names.{types_in, messages_in}
use Rattle.schema_check.proofs.checking.split.Given as goal

abbrev pub invariant-loop-item : goal.invariant-loop-item
invariant-loop-item l = record {
  types : l.children.types.items ++ flat_map types_in (into_iter_items l.item-iterator) ≡ flat_map types_in (into_iter_items l.initial.item-iterator);
  messages : l.children.messages.items ++ flat_map messages_in (into_iter_items l.item-iterator) ≡ flat_map messages_in (into_iter_items l.initial.item-iterator);
  count : into_iter_len l.item-iterator ≡ length (into_iter_items l.item-iterator);
}
