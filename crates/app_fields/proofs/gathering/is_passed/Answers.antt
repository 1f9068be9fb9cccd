use Rattle.std.proofs.Common.{◌≡◌, true, false, map, sym, ap, ◌∙◌}
use Rattle.std.specs.Prelude.{◌||◌}
use Rattle.bridge_rules.proofs.BoolLemmas.{or_left}
use Rattle.bridge_terms.specs.Plans.{is_in}
use Rattle.bridge_plan.specs.Covers.{length_tags}
use Rattle.app_fields.proofs.gathering.is_passed.Goals as goal

pub returns-then-is_header : goal.returns-then-is_header
returns-then-is_header c = λ lists same.
    let tag = c.args.tag in
    let here : is_in tag lists.header ≡ true = sym (same.header tag) ∙ sym c.is_header.ensures ∙ c.if-is_header.true in
    sym (or_left (is_in tag lists.header) (is_in tag (length_tags lists)) here)

pub returns : goal.returns
returns c = λ lists same.
    let tag = c.args.tag in
    let other : is_in tag lists.header ≡ false = sym (same.header tag) ∙ sym c.is_header.ensures ∙ c.if-is_header.false in
    c.is_length.ensures ∙ ap (λ ps. is_in tag (map (λ pair. pair.0) ps)) same.lengths ∙ sym (ap (λ b. b || is_in tag (length_tags lists)) other)
