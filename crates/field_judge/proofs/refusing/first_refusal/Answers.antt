use Rattle.std.proofs.Common.{sym, ap, ◌∙◌}
use Rattle.bridge_terms.specs.WayBack.{or_else}
use Rattle.field_judge.specs.Fields.{fields_of}
use Rattle.field_judge.specs.Heads.{piece_missing}
use Rattle.field_judge.proofs.Judging.{if_ok, told_none, told_some}
use Rattle.field_judge.proofs.refusing.first_refusal.Goals as goal

pub returns-in-Some : goal.returns-in-Some
returns-in-Some c = λ p level numbered.
    sym (told_some c.in_ok-refused.field-0 c.in-Some.refused (piece_missing p (fields_of c.args.fields.now)) c.in-Some.is)
    ∙ ap (λ o. or_else o (piece_missing p (fields_of c.args.fields.now))) (c.in_ok-refused.ensures p level numbered)

pub returns : goal.returns
returns c = if_ok c.missing_field.result _ _ (λ told tells p level numbered.
    tells p level numbered ∙ sym (told_none c.in_ok-refused.field-0 (piece_missing p (fields_of c.args.fields.now)) c.in_default.is)
    ∙ ap (λ o. or_else o (piece_missing p (fields_of c.args.fields.now))) (c.in_ok-refused.ensures p level numbered)) c.missing_field.ensures
