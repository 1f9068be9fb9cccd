use Rattle.std.proofs.Common.{◌≡◌, length, ap, subst, ◌∙◌, arith}
use Rattle.sbe_types.specs.declared.schema.Level.{out-Level}
use Rattle.schema_facts.specs.Levels.{level_at}
use Rattle.typed_writer.specs.States.{level_of}
use Rattle.tree_codec.specs.Puts.{task_of}
use Rattle.tree_codec.proofs.FillSteps.{FilledTo, none_filled, next_filled, all_filled}
use Rattle.tree_codec.proofs.fills.fill_block.Goals as goal

pub loop-i-init : goal.loop-i-init
loop-i-init c = record { state = c.requires.state; filled = none_filled (task_of c.args.layout.now c.args.level.now c.args.block.now) c.args.buf.now }

pub set_field-requires-clause-level : goal.set_field-requires-clause-level
set_field-requires-clause-level c = ap (λ fs. level_at c.args.layout.now (level_of fs)) c.loop-i.invariant.filled.same.frames ∙ c.requires.level

pub set_field-requires-clause-value : goal.set_field-requires-clause-value
set_field-requires-clause-value c = omega (arith, c.requires.many, c.loop-i-test.true, c.len-i-end.ensures)

pub loop-i-preserved : goal.loop-i-preserved
loop-i-preserved c =
    record {
      state = c.set_field.ensures.ready;
      filled = next_filled (task_of c.args.layout.now c.args.level.now c.args.block.now) c.loop-i.i c.args.buf.now c.loop-i.buf c.set_field.new.buf c.loop-i.invariant.filled c.set_field.ensures.next;
    }

pub returns-clause-fills : goal.returns-clause-fills
returns-clause-fills c =
    let schema = c.args.layout.now in
    let level = c.args.level.now in
    let task = task_of schema level c.args.block.now in
    let at = ap (λ fs. level_at schema (level_of fs)) c.loop-i.invariant.filled.same.frames ∙ c.requires.level in
    let all : c.loop-i.i ≡ length (out-Level level).fields = omega (arith, c.loop-i-test.false, c.loop-i.auto.i-end, c.len-i-end.ensures) in
    all_filled schema level c.args.block.now c.args.buf.now c.loop-i.buf c.requires.schema c.loop-i.invariant.state at c.requires.many
    (subst (λ k. FilledTo task k c.args.buf.now c.loop-i.buf) all c.loop-i.invariant.filled)
