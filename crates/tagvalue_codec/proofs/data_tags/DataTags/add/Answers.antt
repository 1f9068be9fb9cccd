use Rattle.std.proofs.Common.{sym, ap, ◌∙◌}
use Rattle.std.specs.Prelude.{nat_eq}
use Rattle.std.specs.Map.{lookup}
use Rattle.tagvalue_codec.specs.declared.data_tags.Pair.{Pair}
use Rattle.tagvalue_codec.specs.declared.data_tags.Role.TheVariants as role
use Rattle.tagvalue_codec.specs.Pairs.{role_found, with_role}
use Rattle.tagvalue_codec.proofs.Marks.{marked_more}
use Rattle.tagvalue_codec.proofs.Roles.{role_more}
use Rattle.tagvalue_codec.proofs.data_tags.DataTags.add.Goals as goal

pub invariant_of-self-2 : goal.invariant_of-self-2
invariant_of-self-2 c =
    let pair : Pair = record { length_tag = c.args.length_tag; tag = c.args.tag } in (
      marked_more c.self.inside.marks.items c.self.inside.pairs c.push.new.self c.args.length_tag c.args.tag c.self.invariant.0 c.in_ok-push.ensures.ok,
      (λ t. c.set_role-2.ensures.roles t
          ∙ ap (with_role c.args.tag role.Data t) (c.set_role.ensures.roles t ∙ ap (with_role c.args.length_tag (role.Length c.args.tag) t) (ap (lookup (nat_eq t)) c.in_ok-reserve.ensures.entries ∙ c.self.invariant.1 t))
          ∙ sym (role_more c.self.inside.pairs pair t)
          ∙ ap (λ ps. role_found ps t) (sym c.in_ok-push.ensures.ok)),
    )
