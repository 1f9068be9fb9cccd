use Rattle.std.proofs.Common.{◌≡◌, ◌+◌, ◌++◌, ◌∙◌, [], true, arith, sym, ap, ap₂, subst, length, drop, get_or, rules, FitsSigned}
use mir.Syntax.{w128}
use Rattle.std.proofs.lemmas.Int.{to_z-of_z}
use Rattle.std.proofs.lemmas.List.{drop_all}
use Rattle.serde_json.specs.Written.{comma_if}
use Rattle.json_values.specs.Plain.{key_text, plain_text}
use Rattle.json_fields.specs.Shown.{enum_shown}
use Rattle.json_values.specs.Values.{set_data}
use Rattle.printers.specs.Prints.{Prints}
use Rattle.printers.proofs.Printing.{reprinted}
use Rattle.json_values.proofs.Entries.{there}
use Rattle.json_fields.proofs.FromBytes.{enum_written, set_written, constant_written, leaf_written, written_as}
use Rattle.flat_rows.proofs.MembersFit.{AreFit, members_fit, fit_first}
use Rattle.json_fields.proofs.MembersShown.{Goes, goes_first, goes_next, goes_over}
use Rattle.json_fields.proofs.kinds.+kind.Goals as goal

pub put_shown-returns-in-Leaf : goal.put_shown-returns-in-Leaf
put_shown-returns-in-Leaf g t c =
    written_as c.args.order c.args.kind.now _ c.args.bytes.now c.in-Leaf.is (leaf_written c.args.order c.in-Leaf.leaf c.args.bytes.now c.put_leaf.ensures)

pub put_shown-returns-in-Enum : goal.put_shown-returns-in-Enum
put_shown-returns-in-Enum g t c =
    let fits : FitsSigned w128 c.get_num-number.result = search rules in
    let number = to_z-of_z w128 c.get_num-number.result fits ∙ c.get_num-number.ensures in
    let written = reprinted (ap₂ (λ names n. plain_text (enum_shown c.in-Enum.leaf names n)) c.as_slice.ensures number) c.put_listed.ensures in
    written_as c.args.order c.args.kind.now _ c.args.bytes.now c.in-Enum.is (enum_written c.args.order c.in-Enum.leaf c.in-Enum.names c.args.bytes.now written)

pub put_shown-returns-in-Set : goal.put_shown-returns-in-Set
put_shown-returns-in-Set g t c =
    let written = reprinted (ap (λ names. plain_text (set_data names c.set_number-bits.result)) c.as_slice-in-Set.ensures) c.put_set.ensures in
    written_as c.args.order c.args.kind.now _ c.args.bytes.now c.in-Set.is (set_written c.args.order c.in-Set.prim c.in-Set.names c.args.bytes.now c.set_number-bits.result c.set_number-bits.ensures written)

pub put_shown-returns-in-Comp : goal.put_shown-returns-in-Comp
put_shown-returns-in-Comp g t c =
    written_as c.args.order c.args.kind.now _ c.args.bytes.now c.in-Comp.is c.put_members.ensures

pub put_shown-returns-in-Const : goal.put_shown-returns-in-Const
put_shown-returns-in-Const g t c =
    written_as c.args.order c.args.kind.now _ c.args.bytes.now c.in-Const.is (constant_written c.args.order c.in-Const.constant c.args.bytes.now c.put_constant.ensures)

pub put_members-loop-member-init : goal.put_members-loop-member-init
put_members-loop-member-init g t c = record {
  fit = members_fit c.args.members.now _ c.requires.ready c.requires.wide;
  goes = goes_first;
}

pub put_members-loop-member-preserved : goal.put_members-loop-member-preserved
put_members-loop-member-preserved g t c =
    let all = c.args.members.now in
    let bytes = c.args.bytes.now in
    let i = c.loop-member.member-index in
    let m = c.member-item.result in
    let so_far = c.loop-member.invariant in
    let next : drop i all ≡ _ = there all i m (omega (arith, ap length c.as_slice-member-items.ensures)) (c.member-item.is ∙ ap (λ xs. get_or xs i m) c.as_slice-member-items.ensures) in
    let fit = fit_first (length bytes) c.loop-member.end m (drop (i + 1) all) (drop i all) next so_far.fit in
    let prints = Prints g.O.Sink.state c.put.new.self in
    let here = subst (Goes c.args.order all bytes (prints c.loop-member.printer) c.loop-member.later c.loop-member.end) next so_far.goes in
    let key = reprinted (ap (λ name. comma_if c.loop-member.later ++ key_text name) c.as_slice.ensures) c.put_key.ensures in
    let on = goes_next c.args.order all bytes c.loop-member.later c.loop-member.end m (drop (i + 1) all) c.member_bytes-part.result.now here key c.member_bytes-part.ensures c.put_shown.ensures in
    record {
      fit = subst (λ e. AreFit (length bytes) e (drop (i + 1) all)) (sym c.end_after-after.ensures) fit.1;
      goes = subst (λ e. Goes c.args.order all bytes (prints c.put_shown.new.printer) true e (drop (i + 1) all)) (sym c.end_after-after.ensures) on;
    }

pub put_members-returns : goal.put_members-returns
put_members-returns g t c =
    let all = c.args.members.now in
    let done : drop c.loop-member.member-index all ≡ [] = drop_all c.loop-member.member-index all (omega (arith, ap length c.as_slice-member-items.ensures)) in
    let over = subst (Goes c.args.order all c.args.bytes.now (Prints g.O.Sink.state c.put.new.self c.loop-member.printer) c.loop-member.later c.loop-member.end) done c.loop-member.invariant.goes in
    goes_over c.args.order all c.args.bytes.now c.loop-member.later c.loop-member.end c.put.ensures over c.put-2.ensures
