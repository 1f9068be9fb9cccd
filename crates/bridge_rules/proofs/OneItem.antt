-- A value and its text have one item for applications.
use Rattle.std.proofs.Common.{◌≡◌, ℕ, List, Option, Some, None, Result, Ok, sym, ap, ◌∙◌}
use Rattle.sbe_types.specs.declared.message.Value.{Value}
use Rattle.bridge_rules.specs.Rules.{Rule}
use Rattle.bridge_rules.specs.Members.{and_then}
use Rattle.bridge_rules.specs.Texts.{text_by}
use Rattle.bridge_rules.specs.Values.{value_by, missing_by}
use Rattle.bridge_rules.specs.Items.{Item, application_item, item_by, item_in, value_item, text_item}
use Rattle.bridge_rules.specs.Good.{Good}
use Rattle.bridge_rules.specs.Bounds.{IsBounded, CanShow}
use Rattle.bridge_rules.proofs.BoundedRules.{bounded_sound, bounded_shown}

-- one finer item, and so one that applications see
one_seen : {a b : Option Item} → a ≡ b → and_then a (λ item. Some (application_item item)) ≡ and_then b (λ item. Some (application_item item))
one_seen h = ap (λ o. and_then o (λ item. Some (application_item item))) h

pub read_item : (rule : Rule) (t : List ℕ) (v : Value) → IsBounded rule → value_by rule t ≡ Ok v → text_item rule t ≡ value_item rule v
read_item rule t v bounded h =
    let is = ((bounded_sound rule bounded).read t v h).1 in
    one_seen (is.1 ∙ sym is.2)

pub shown_item : (rule : Rule) (v : Value) (t : List ℕ) → IsBounded rule → CanShow rule → Good rule v → text_by rule v ≡ Ok (Some t) → text_item rule t ≡ value_item rule v
shown_item rule v t bounded shows good h =
    let is = (bounded_shown rule bounded shows v good).written t h in
    one_seen (is.1 ∙ sym is.2)

pub missing_item : (rule : Rule) (v : Value) → IsBounded rule → missing_by rule ≡ Some v → value_item rule v ≡ None
missing_item rule v bounded h = one_seen {b = None} ((bounded_sound rule bounded).missed v h).1

pub unwritten_item : (rule : Rule) (v : Value) → IsBounded rule → CanShow rule → Good rule v → text_by rule v ≡ Ok None → value_item rule v ≡ None
unwritten_item rule v bounded shows good h = one_seen {b = None} ((bounded_shown rule bounded shows v good).unwritten h)
