use Rattle.std.proofs.Common.{option_map, sym, ap, ◌∙◌}
use Rattle.sbe_types.specs.declared.message.DataVal.TheVariants as dataval
use Rattle.sbe_types.specs.declared.message.Value as value
use Rattle.bridge_rules.specs.Members.{text_in}
use Rattle.bridge_rules.proofs.OptionLemmas.{some_is, none_some}
use Rattle.field_blocks.proofs.Rows.{none_seen, seen_is}
use Rattle.field_blocks.proofs.fields.data_value.Goals as goal

pub returns-in_default : goal.returns-in_default
returns-in_default c = λ levels p k s bytes found at same is. none_seen c.read_slot.result (value.Text bytes) c.in_default.is (sym is ∙ c.read_slot.ensures levels p k s found at same)

pub returns-in-None : goal.returns-in-None
returns-in-None c = λ levels p k s bytes found at same is.
    let own = seen_is c.in-Some.read c.read_slot.result (value.Text bytes) c.in-Some.is (sym is ∙ c.read_slot.ensures levels p k s found at same) in
    none_some (ap (option_map (λ t. t.now)) (sym c.in-None.is) ∙ c.bytes_of.ensures ∙ ap text_in (sym own))

pub returns-in_ok-from_slice-in-Some-bytes_of : goal.returns-in_ok-from_slice-in-Some-bytes_of
returns-in_ok-from_slice-in-Some-bytes_of c = λ levels p k s bytes found at same is.
    let own = seen_is c.in-Some.read c.read_slot.result (value.Text bytes) c.in-Some.is (sym is ∙ c.read_slot.ensures levels p k s found at same) in
    ap dataval.Bytes (c.in_ok-from_slice-in-Some-bytes_of.ensures ∙ some_is (ap (option_map (λ t. t.now)) (sym c.in-Some-bytes_of.is) ∙ c.bytes_of.ensures ∙ ap text_in (sym own)))
