use Rattle.std.proofs.Common.{◌≡◌, ◌%◌, Bool, get_or, sym, ap, ◌∙◌, subst}
use Rattle.std.specs.Option.{option_copied}
use Rattle.tagvalue_codec.specs.Pairs.{role_of}
use Rattle.tagvalue_codec.specs.declared.data_tags.TheConstants.{MARKS}
use Rattle.tagvalue_codec.proofs.Marks.{unmarked}
use Rattle.tagvalue_codec.proofs.Roles.{role_by, role_is}
use Rattle.tagvalue_codec.proofs.data_tags.DataTags.role.Goals as goal

pub returns-then-not-index : goal.returns-then-not-index
returns-then-not-index c =
    let marks = c.self.inside.marks.items in
    let unset = sym (subst (λ (mark : Bool). mark ≡ get_or marks (c.args.tag % MARKS) mark) c.if-not-index.true c.index.ensures) in
    sym (ap (λ ps. role_of ps c.args.tag) (sym c.self.view_is) ∙ unmarked marks c.self.inside.pairs c.args.tag c.self.invariant.0 unset)

pub returns-in-Some : goal.returns-in-Some
returns-in-Some c =
    ap role_by (sym (ap option_copied c.in-Some.is) ∙ c.get.ensures.value ∙ c.self.invariant.1 c.args.tag)
    ∙ sym (role_is c.self.inside.pairs c.args.tag)
    ∙ ap (λ ps. role_of ps c.args.tag) c.self.view_is

pub returns-in-None : goal.returns-in-None
returns-in-None c =
    ap role_by (sym (ap option_copied c.in-None.is) ∙ c.get.ensures.value ∙ c.self.invariant.1 c.args.tag)
    ∙ sym (role_is c.self.inside.pairs c.args.tag)
    ∙ ap (λ ps. role_of ps c.args.tag) c.self.view_is
