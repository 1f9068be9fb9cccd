-- The note of a message that lacks a part.
use Rattle.std.proofs.Common.{◌≡◌, ℕ, List, Option, Some, None, Err, refl, sym, ap, ◌∙◌, subst}
use Rattle.std.specs.Prelude.{slice_get}
use Rattle.std.specs.Option.{option_map, IsSome}
use Rattle.sbe_types.specs.declared.path.Step.{Step}
use Rattle.sbe_types.specs.declared.schema.Level.{Level, out-Level}
use Rattle.sbe_types.specs.declared.schema.WireSchema.{WireSchema}
use Rattle.sbe_types.specs.declared.message.Msg.{Msg}
use Rattle.sbe_wire.specs.Faults.{message_named}
use Rattle.layout_tables.specs.Paths.{IsPathOf}
use Rattle.refused_items.specs.Refused.{refused_line}
use Rattle.regrade_laws.specs.Regraded.{NoFill, moved, regraded}
use Rattle.regrade_command.specs.Regrade.{lack_line, of_no_fill}
use Rattle.regrade_command.proofs.Lacking.{lack_leads}
use Rattle.regrade_command.proofs.Templates.{number_of, template_moved}

module _ (from to : WireSchema) (m : Msg) (path : List Step) (item : ℕ) (lacks : regraded from to m ≡ Err (NoFill path)) where
  there : (o : Option Level) → slice_get from.messages m.template ≡ o → IsSome o → (id : ℕ) → option_map (λ l. (out-Level l).id) o ≡ Some id →
      (n : Msg) × (moved from to m ≡ Some n) × IsPathOf to n.template path × (Some n.template ≡ number_of (message_named 0 id to.messages))
  there None at some id is = cc
  there (Some level) at some id is =
      let leads = lack_leads to path (moved from to m) lacks in
      let same : (out-Level level).id ≡ id = cc in
      (leads.0, leads.1, leads.2, sym (ap (option_map (λ (n : Msg). n.template)) leads.1) ∙ template_moved from to m level at ∙ ap (λ i. number_of (message_named 0 i to.messages)) same)

  module _ (id : ℕ) (known : IsSome (slice_get from.messages m.template)) (is : option_map (λ l. (out-Level l).id) (slice_get from.messages m.template) ≡ Some id) where
    abbrev found : (n : Msg) × (moved from to m ≡ Some n) × IsPathOf to n.template path × (Some n.template ≡ number_of (message_named 0 id to.messages))
    found = there (slice_get from.messages m.template) refl known id is

    same_template : (template : ℕ) → Some template ≡ number_of (message_named 0 id to.messages) → found.0.template ≡ template
    same_template template h = let both : Some found.0.template ≡ Some template = found.3 ∙ sym h in cc

    pub path_leads : (template : ℕ) → Some template ≡ number_of (message_named 0 id to.messages) → IsPathOf to template path
    path_leads template h = subst (λ t. IsPathOf to t path) (same_template template h) found.2

    pub lack_is : (template : ℕ) → Some template ≡ number_of (message_named 0 id to.messages) →
        refused_line item (of_no_fill to template path) ≡ lack_line to item path (moved from to m)
    lack_is template h = ap (λ t. refused_line item (of_no_fill to t path)) (sym (same_template template h)) ∙ sym (ap (lack_line to item path) found.1)

    pub never_none : None ≡ number_of (message_named 0 id to.messages) → ⊥
    never_none h = let both : Some found.0.template ≡ None = found.3 ∙ sym h in cc
