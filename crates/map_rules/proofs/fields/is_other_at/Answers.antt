use Rattle.std.proofs.Common.{refl, sym, ap, ◌∙◌, length}
use Rattle.std.proofs.lemmas.Option.{slice_get_read, slice_get_past}
use Rattle.map_members.proofs.Lent.{seen_at}
use Rattle.map_rules.specs.Rules.{is_other}
use Rattle.map_rules.proofs.Keys.{seen_past}
use Rattle.map_rules.proofs.fields.is_other_at.Goals as goal

pub returns-in-Some : goal.returns-in-Some
returns-in-Some c =
    c.is_other.ensures
    ∙ ap is_other (sym (seen_at c.args.fields.now c.args.j c.in-Some.field.now
    (slice_get_read c.args.fields.now (length c.args.fields.now) c.args.j c.in-Some.field.now refl c.in-Some.ensures.lookup.3.0 c.in-Some.ensures.lookup.1)))

pub returns-in-None : goal.returns-in-None
returns-in-None c = sym (ap is_other (seen_past c.args.fields.now c.args.j (slice_get_past c.args.fields.now c.args.j c.in-None.ensures.lookup.3)))
