use Rattle.std.proofs.Common.{◌≡◌, ◌<◌, ◌+◌, ◌/◌, true, length, ap, subst, arith, rules}
use Rattle.json_rows.specs.Codes.{AddsText}
use Rattle.json_rows.proofs.Coded.{more_whole, place_cleared, text_added}
use Rattle.json_rows.proofs.codes.add_text.Goals as goal

pub returns-then-not-is_kept-clause-texts : goal.returns-then-not-is_kept-clause-texts
returns-then-not-is_kept-clause-texts c = λ names h.
    let index = c.args.index.now in
    let within : c.in-Some.byte < length index = omega (arith, c.in-Some.ensures.small, c.requires.size) in
    place_cleared index c.args.texts.now.items c.args.leaf.now names c.args.named.now c.in-Some.byte within c.in-Some.ensures.some h

pub returns-clause-whole : goal.returns-clause-whole
returns-clause-whole c = more_whole c.args.texts.now.items c.put_text.new.texts.items _ c.requires.whole c.in_ok-put_text.ensures

pub returns-clause-texts : goal.returns-clause-texts
returns-clause-texts c = λ names h.
    let index = c.args.index.now in
    let old = c.args.texts.now.items in
    let new = c.put_text.new.texts.items in
    let named = c.args.named.now in
    let kept : c.is_kept.result ≡ true = search rules in
    let within : c.in-Some.byte < length index = omega (arith, c.in-Some.ensures.small, c.requires.size) in
    let long : c.len.result ≡ length old = omega (arith, c.len.ensures) in
    let adds = subst (AddsText old new) c.as_slice.ensures c.in_ok-put_text.ensures in
    text_added index old new c.args.leaf.now names named c.in-Some.byte (c.len.result / 16 + 1) within c.in-Some.ensures.some c.requires.byte (c.is_kept.ensures kept).value c.requires.whole
    (ap (λ n. n / 16 + 1) long) adds h
