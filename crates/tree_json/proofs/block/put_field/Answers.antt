use Rattle.std.specs.Prelude.{slice_get}
use Rattle.sbe_types.specs.declared.message.Block.{out-Block}
use Rattle.sbe_types.specs.declared.schema.Field.{Field}
use Rattle.tree_json.proofs.ViewSteps.{absent_written, absent_later, field_width, field_written, field_later, told_of}
use Rattle.tree_json.proofs.block.put_field.Goals as goal

pub put_shown-requires-clause-wide : goal.put_shown-requires-clause-wide
put_shown-requires-clause-wide g c = field_width c.in-Some.field _ c.in-Some.ensures.shows

pub returns-in-None-clause-later : goal.returns-in-None-clause-later
returns-in-None-clause-later g c = λ f v h k. absent_later c.args.later f v _ k c.in-None.ensures.absent

pub returns-in-None-clause-text : goal.returns-in-None-clause-text
returns-in-None-clause-text g c = λ f v h k. absent_written c.args.later f v _ k c.in-None.ensures.absent

pub returns-in-Some-clause-later : goal.returns-in-Some-clause-later
returns-in-Some-clause-later g c = λ f v h k.
    field_later c.args.later c.in-Some.field f v (slice_get (out-Block c.args.block.now.block).fields c.args.i)
    (told_of (λ (p : Field). p.kind) _ f _ h c.in-Some.ensures.kind) c.in-Some.ensures.shows k

pub returns-in-Some-clause-text : goal.returns-in-Some-clause-text
returns-in-Some-clause-text g c = λ f v h k.
    field_written c.args.later c.in-Some.field f v c.name.result.now (slice_get (out-Block c.args.block.now.block).fields c.args.i)
    (told_of (λ (p : Field). p.name) _ f _ h c.name.ensures) (told_of (λ (p : Field). p.kind) _ f _ h c.in-Some.ensures.kind) c.in-Some.ensures.shows k c.put_key.ensures c.put_shown.ensures
