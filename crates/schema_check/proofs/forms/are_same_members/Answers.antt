use Rattle.std.proofs.Common.{refl, ap, ◌∙◌, arith}
use Rattle.sbe_types.specs.Places.{end_past}
use Rattle.schema_rules.specs.Facts.{counted}
use Rattle.type_kinds.proofs.WidthLemmas.{past_wide}
use Rattle.schema_check.proofs.FormLemmas.{StandsFor, first_stands, here, next_stands, all_stand}
use Rattle.schema_check.proofs.forms.are_same_members.Goals as goal

pub loop-i-init : goal.loop-i-init
loop-i-init c = (0, first_stands c.args.a.now c.args.b.now)

pub loop-i-preserved : goal.loop-i-preserved
loop-i-preserved c =
    let e = c.loop-i.invariant.0 in
    let so_far = c.loop-i.invariant.1 in
    let m = c.index-a-i.result in
    let n = c.index-b-i.result in
    let like = (c.is_like.ensures e so_far.reached).0 c.if-not-is_like.false in
    let reached = ap counted c.past-end.ensures
    ∙ past_wide c.loop-i.end e m.offset c.fact_of.result m.kind so_far.reached c.fact_of.ensures.fixed c.fact_of.ensures.wide in (
      end_past e m.offset m.kind,
      next_stands e c.loop-i.end c.past-end.result c.loop-i.i c.args.a.now c.args.b.now m n so_far like
          (here c.args.a.now c.loop-i.i m (omega arith) c.index-a-i.is) (here c.args.b.now c.loop-i.i n (omega arith) c.index-b-i.is) reached,
    )

pub returns : goal.returns
returns c =
    (λ _. all_stand c.loop-i.invariant.0 c.loop-i.end c.loop-i.i c.args.a.now c.args.b.now c.loop-i.invariant.1 (omega arith) (omega arith), λ _. refl)
