use Rattle.std.proofs.Common.{◌≡◌, List, ℕ, refl, sym, ap, subst, ◌∙◌}
use Rattle.std.specs.Prelude.{Ok}
use Rattle.sbe_types.specs.declared.schema.WireSchema.{WireSchema}
use Rattle.sbe_types.specs.declared.tree.MessageEl.{MessageEl}
use Rattle.sbe_types.specs.declared.tree.TypesItem.{TypesItem}
use Rattle.schema_rules.specs.Checked.{tree_check}
use Rattle.schema_rules.specs.Judging.{CheckResult}
use Rattle.schema_rules.specs.Names.{declared_types, messages_of}
use Rattle.schema_check.specs.Reach.{AreShortMessages}
use Rattle.schema_check.proofs.ReachLemmas.{judged_short}
use Rattle.schema_check.proofs.WholeSchema.{checked_is, built_is}
use Rattle.schema_check.proofs.checking.resolve_schema.Goals as goal

pub resolve_messages-requires : goal.resolve_messages-requires
resolve_messages-requires c =
    let short = judged_short _ _ c.in_ok-judge.ensures in
    let types : c.in_ok-resolver.resolver ≡ c.in_ok-known.known = c.in_ok-resolver.ensures in
    subst (λ (ts : List TypesItem). AreShortMessages ts c.as_slice-4.result.now) (sym types)
    (subst (AreShortMessages c.in_ok-known.known) (c.as_slice-2.ensures.value ∙ sym c.as_slice-4.ensures.value) short)

pub returns : goal.returns
returns c =
    let schema = c.args.schema in
    let known = c.in_ok-known.known in
    let messages = c.as_slice-2.result.now in
    let types : known ≡ declared_types schema = c.in_ok-known.ensures ∙ c.in_ok-children.ensures.types in
    let listed : messages ≡ messages_of schema = c.as_slice-2.ensures.value ∙ c.in_ok-children.ensures.messages in
    let in_order = ap (λ (name : List ℕ). tree_check (record { types = known; header_type = name; id = schema.id; version = schema.version }) messages) (sym c.as_slice.ensures) ∙ c.in_ok-judge.ensures in
    let built = built_is schema known c.in_ok-resolver.resolver c.as_slice-3.result.now messages c.as_slice-4.result.now
    c.in_ok-members_named.field-0 c.in_ok-resolve_messages.field-0 _
    c.in_ok-resolver.ensures c.as_slice-3.ensures (c.as_slice-4.ensures.value ∙ sym c.as_slice-2.ensures.value)
    c.in_ok-members_named.ensures c.in_ok-resolve_messages.ensures refl in
    checked_is schema known messages types listed in_order ∙ ap (λ (s : WireSchema). Ok s) (sym built)
