use Rattle.std.proofs.Common.{◌≡◌, Bool, cond, [], get_or, Some, option_map, take, sym, ap, ◌∙◌, arith}
use Rattle.json_data.specs.declared.data.Json.{Null}
use Rattle.json_data.specs.Trees.{members_of}
use Rattle.json_data.proofs.Growing.{Pair}
use Rattle.line_values.specs.Objects.{is_named, first_unknown}
use Rattle.line_values.specs.Code.{least_of, names_in}
use Rattle.line_values.proofs.Unknown.{unknown_there}
use Rattle.line_values.proofs.names.unknown.Goals.{then-not-has_near, else-not-has_near}
use Rattle.line_values.proofs.names.unknown.Goals as goal

pub loop-i-preserved : goal.loop-i-preserved
loop-i-preserved c =
    let names = names_in c.args.names.now in
    let other : Pair = (record { ref_ptr = (0, 0); now = [] }, Null) in
    let key = (get_or c.args.members.now c.loop-i.i other).0.now in
    let before = c.loop-i.invariant in
    let more = unknown_there names c.args.members.now c.loop-i.i other (omega arith) in
    let known = first_unknown names (members_of (take c.loop-i.i c.args.members.now)) in
    let named : c.has_near.result ≡ is_named key names = c.has_near.ensures ∙ ap (λ k. is_named k names) c.as_bytes.ensures.value in
    let by = λ (b : Bool). cond b known (Some (least_of known key)) in
    elim c.if-not-has_near.branch [
      | then-not-has_near w ↦
          ap (option_map (λ s. s.now)) w.least-is ∙ ap Some w.least_of.ensures ∙ ap (λ o. Some (least_of o key)) before ∙ sym (more ∙ ap by (sym named ∙ w.if-not-has_near.true))
      | else-not-has_near w ↦ ap (option_map (λ s. s.now)) w.least-is ∙ before ∙ sym (more ∙ ap by (sym named ∙ w.if-not-has_near.false))
    ]
