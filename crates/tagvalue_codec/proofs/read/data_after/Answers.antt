use Rattle.std.proofs.Common.{◌≡◌, ℕ, ◌+◌, Err, List, [], ◌∷◌, ◌++◌, refl, sym, ap, ◌∙◌, subst}
use Rattle.tagvalue_codec.specs.declared.table.FixField.{FixField}
use Rattle.tagvalue_codec.specs.declared.read.FixFault.{FixFault}
use Rattle.tagvalue_codec.specs.declared.data_tags.Pair.{Pair}
use Rattle.tagvalue_codec.specs.Places.{Cursor, Passes, TagAt}
use Rattle.tagvalue_codec.proofs.Filling.{refused, no_number, no_tag, zero_many, other_tag, is_length, full_is, room_left, no_room, no_data, both_in}
use Rattle.tagvalue_codec.proofs.read.data_after.Goals as goal

-- a fault by its equation
by : (tags : List Pair) (front : List ℕ) (before : Cursor) (after : List FixField) (f g : FixFault) → f ≡ g → Passes tags front before after (Err g) → Passes tags front before after (Err f)
by tags front before after f g e h = subst (λ (x : FixFault). Passes tags front before after (Err x)) (sym e) h

pub returns-in_default : goal.returns-in_default
returns-in_default c tags role =
    by tags _ _ _ _ _ c.fault.ensures
    (refused tags c.args.table.now c.args.table.now c.args.front.now c.args.size c.args.tag c.requires.found c.requires.few c.requires.free role (no_number c.args.tag c.args.size c.args.front.now c.in_default.ensures))

pub returns-in_default-tag_at : goal.returns-in_default-tag_at
returns-in_default-tag_at c tags role =
    by tags _ _ _ _ _ c.fault-in_default-tag_at.ensures
    (refused tags c.args.table.now c.args.table.now c.args.front.now c.args.size c.args.tag c.requires.found c.requires.few c.requires.free role (no_tag c.args.tag c.args.size c.args.front.now c.in_default-tag_at.ensures))

pub returns-then-many-eq0 : goal.returns-then-many-eq0
returns-then-many-eq0 c tags role =
    by tags _ _ _ _ _ c.fault-then-many-eq0.ensures
    (refused tags c.args.table.now c.args.table.now c.args.front.now c.args.size c.args.tag c.requires.found c.requires.few c.requires.free role
    (zero_many c.args.tag c.in-Some.many c.args.size c.args.front.now c.in-Some.ensures.0 c.in-Some.ensures.1 c.if-many-eq0.true))

pub returns-then-next-tag : goal.returns-then-next-tag
returns-then-next-tag c tags role =
    by tags _ _ _ _ _ c.fault-then-next-tag.ensures
    (refused tags c.args.table.now c.args.table.now c.args.front.now c.args.size c.args.tag c.requires.found c.requires.few c.requires.free role
    (other_tag c.args.tag c.in-Some-tag_at.next c.in-Some-tag_at.from c.args.size c.args.front.now c.in-Some-tag_at.ensures c.if-next-tag.true))

pub returns-then-is_full : goal.returns-then-is_full
returns-then-is_full c tags role =
    by tags _ _ _ _ _ c.fault-then-is_full.ensures
    (no_room tags c.args.table.now c.push.new.self c.args.front.now c.args.size c.args.tag c.in-Some.many
    (is_length tags c.args.table.now c.args.front.now c.args.size c.args.tag c.in-Some.many c.in-Some-tag_at.next c.in-Some-tag_at.from c.requires.found c.requires.few c.requires.free role c.in-Some.ensures c.if-many-eq0.false c.in-Some-tag_at.ensures c.if-next-tag.false)
    (full_is c.push.new.self _ c.is_full.result c.push.ensures c.is_full.ensures.same c.if-is_full.true))

pub returns-then-not-ends_at : goal.returns-then-not-ends_at
returns-then-not-ends_at c tags role =
    by tags _ _ _ _ _ c.fault-then-not-ends_at.ensures
    (no_data tags c.args.table.now c.push.new.self c.args.front.now c.args.size c.args.tag c.in-Some.many c.in-Some-tag_at.from (c.in-Some-tag_at.from + c.in-Some.many)
    (is_length tags c.args.table.now c.args.front.now c.args.size c.args.tag c.in-Some.many c.in-Some-tag_at.next c.in-Some-tag_at.from c.requires.found c.requires.few c.requires.free role c.in-Some.ensures c.if-many-eq0.false c.in-Some-tag_at.ensures c.if-next-tag.false)
    (room_left c.push.new.self _ c.is_full.result c.push.ensures c.is_full.ensures.same c.is_full.ensures.few c.if-is_full.false)
    (subst (λ (t : ℕ). TagAt c.args.front.now (c.args.size.to + 1) t c.in-Some-tag_at.from) c.if-next-tag.false c.in-Some-tag_at.ensures)
    refl (sym c.ends_at.ensures ∙ c.if-not-ends_at.true))

pub returns : goal.returns
returns c tags role =
    both_in tags c.args.table.now c.push-2.new.self c.args.front.now c.args.size c.args.tag c.in-Some.many c.in-Some-tag_at.from (c.in-Some-tag_at.from + c.in-Some.many)
    (is_length tags c.args.table.now c.args.front.now c.args.size c.args.tag c.in-Some.many c.in-Some-tag_at.next c.in-Some-tag_at.from c.requires.found c.requires.few c.requires.free role c.in-Some.ensures c.if-many-eq0.false c.in-Some-tag_at.ensures c.if-next-tag.false)
    (room_left c.push.new.self _ c.is_full.result c.push.ensures c.is_full.ensures.same c.is_full.ensures.few c.if-is_full.false)
    (subst (λ (t : ℕ). TagAt c.args.front.now (c.args.size.to + 1) t c.in-Some-tag_at.from) c.if-next-tag.false c.in-Some-tag_at.ensures)
    refl (sym c.ends_at.ensures ∙ c.if-not-ends_at.false) (c.push-2.ensures ∙ ap (λ t. t ++ (record { tag = c.args.tag; at = c.args.size.to + 1; from = c.in-Some-tag_at.from; to = c.in-Some-tag_at.from + c.in-Some.many } ∷ [])) c.push.ensures)
