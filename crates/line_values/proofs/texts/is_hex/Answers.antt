use Rattle.std.proofs.Common.{◌≡◌, Bool, true, false, not, bytes_eq, refl, subst, sym, ap, ◌∙◌, arith, take_all, true≢false}
use Rattle.std.specs.List.{AllByRecursion}
use Rattle.std.proofs.lemmas.Slice.Eq.{bytes_eq-Decides}
use Rattle.line_values.proofs.HexKeys.{IsHexKey, hex_more, only_hex, other_key}
use Rattle.line_values.proofs.texts.is_hex.Goals as goal

not_false : (b : Bool) → false ≡ not b → b ≡ true
not_false true h = refl
not_false false h = absurd (true≢false (sym h))

pub returns-then-ne-clause-other : goal.returns-then-ne-clause-other
returns-then-ne-clause-other c never =
    other_key c.args.members.now c.loop-key.key-index _ (omega arith)
    (λ same. true≢false (c.if-ne.ensures ∙ ap not ((bytes_eq-Decides c.as_bytes.result.now c.as_bytes-in-loop-key.result.now).1 (c.as_bytes.ensures.value ∙ same ∙ sym c.as_bytes-in-loop-key.ensures.value))))

pub loop-key-preserved : goal.loop-key-preserved
loop-key-preserved c =
    hex_more c.args.members.now c.loop-key.key-index _ (omega arith)
    (sym c.as_bytes.ensures.value ∙ (bytes_eq-Decides c.as_bytes.result.now c.as_bytes-in-loop-key.result.now).0 (not_false (bytes_eq c.as_bytes.result.now c.as_bytes-in-loop-key.result.now) c.if-ne.ensures)
    ∙ c.as_bytes-in-loop-key.ensures.value)
    c.loop-key.invariant

pub returns-clause-only : goal.returns-clause-only
returns-clause-only c whole =
    only_hex c.args.members.now (subst (AllByRecursion IsHexKey) (take_all c.loop-key.key-index c.args.members.now c.loop-key-test.false) c.loop-key.invariant)
