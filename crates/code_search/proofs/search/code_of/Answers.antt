use Rattle.std.proofs.Common.{◌≡◌, ◌∙◌, ◌+◌, ◌-◌, ◌/◌, ◌<◌, ap, sym, arith, rules, Some, length}
use Rattle.std.proofs.lemmas.Option.{slice_get-get_or}
use Rattle.code_search.proofs.Searched.{first_found}
use Rattle.code_search.proofs.search.code_of.Goals as goal

pub returns-then-here-number : goal.returns-then-here-number
returns-then-here-number c =
    let codes = c.args.codes.now in
    let item = c.index-codes-middle.result in
    let middle = c.loop-low.low + (c.loop-low.high - c.loop-low.low) / 2 in
    let same : item.number ≡ c.args.number = search rules in
    let within : middle < length codes = omega (arith, c.loop-low-test.true, c.loop-low.invariant) in
    first_found codes middle item c.args.number c.requires (slice_get-get_or codes middle item within ∙ ap Some (sym c.index-codes-middle.is)) same
