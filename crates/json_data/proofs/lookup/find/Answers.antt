use Rattle.std.proofs.Common.{◌≡◌, ◌+◌, ◌-◌, ◌<◌, length, take, sym, ap, ◌∙◌, arith, true≢false}
use Rattle.std.proofs.lemmas.Slice.Eq.{bytes_eq-Decides}
use Rattle.serde_json.specs.Find.{get_member}
use Rattle.json_data.specs.Trees.{members_of}
use Rattle.json_data.proofs.Growing.{found_here, found_before}
use Rattle.json_data.proofs.lookup.find.Goals as goal

pub returns-then-eq : goal.returns-then-eq
returns-then-eq c =
    let ms = c.args.members.now in
    let name = c.args.name.now in
    let i = c.loop-left.left - 1 in
    let within : i < length ms = omega (arith, c.loop-left.invariant.0) in
    let next : i + 1 ≡ c.loop-left.left = omega arith in
    let same = sym c.as_bytes.ensures.value ∙ (bytes_eq-Decides c.as_bytes.result.now name).0 (sym (c.if-eq.ensures)) in
    sym (found_here ms i _ within name same) ∙ ap (λ n. get_member name (members_of (take n ms))) next ∙ c.loop-left.invariant.1

pub loop-left-preserved : goal.loop-left-preserved
loop-left-preserved c =
    let ms = c.args.members.now in
    let name = c.args.name.now in
    let i = c.loop-left.left - 1 in
    let within : i < length ms = omega (arith, c.loop-left.invariant.0) in
    let next : i + 1 ≡ c.loop-left.left = omega arith in (
      omega (arith, c.loop-left.invariant.0),
      sym (found_before ms i _ within name (λ h. true≢false (sym ((bytes_eq-Decides c.as_bytes.result.now name).1 (c.as_bytes.ensures.value ∙ sym h)) ∙ sym (c.if-eq.ensures)))) ∙ ap (λ n. get_member name (members_of (take n ms))) next ∙ c.loop-left.invariant.1,
    )
