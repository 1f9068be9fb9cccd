use Rattle.std.proofs.Common.{◌≡◌, ◌≤◌, ◌<◌, ℕ, suc, ◌-◌, true, false, List, length, drop, Some, refl, sym, ap, ◌∙◌, arith}
use Rattle.std.specs.Prelude.{slice_get, bytes_eq}
use Rattle.std.specs.List.{list_any}
use Rattle.std.proofs.lemmas.Option.{slice_get_read}
use Rattle.std.proofs.lemmas.Bool.Decides.{nat_tests}
use Rattle.fix_values.specs.declared.rule.Code.{Code}
use Rattle.fix_values.specs.Codes.{is_apart, same_text}
use Rattle.bridge_table.proofs.TextsApart.{apart_rest, apart_from, has, has_put, was_there, was_new}
use Rattle.bridge_table.proofs.codes.are_texts_apart.Goals as goal

pub returns-then-not-branch : goal.returns-then-not-branch
returns-then-not-branch c =
    let list : List Code = c.args.list.now in
    let i : ℕ = c.codes.i - 1 in
    let positive : 0 < c.codes.i = grind (arith, nat_tests, c.codes-test.true) in
    let above : suc i ≡ c.codes.i = omega (arith, positive) in
    let at : slice_get list i ≡ Some c.index-list-i.result = slice_get_read list (length list) i c.index-list-i.result refl (omega (arith, above, c.codes.invariant.0)) c.index-list-i.is in
    let there : has (λ k. k.now) c.codes.texts.keys c.as_slice.result.now ≡ true = was_there c.in_ok-insert.field-0 _ c.in_ok-insert.ensures.added c.if-not-branch.true in
    let text : c.as_slice.result.now ≡ c.index-list-i.result.text = c.as_slice.ensures ∙ ap (λ (x : Code). x.text) (sym c.index-list-i.is) in
    let later : list_any (λ (d : Code). bytes_eq c.index-list-i.result.text d.text) (drop (suc i) list) ≡ true =
    ap (λ t. list_any (λ (d : Code). bytes_eq t d.text) (drop (suc i) list)) (sym text)
    ∙ ap (λ k. list_any (λ (d : Code). bytes_eq c.as_slice.result.now d.text) (drop k list)) above
    ∙ sym (c.codes.invariant.2 c.as_slice.result.now) ∙ there in
    let apart : is_apart same_text (drop (suc i) list) ≡ true = ap (λ k. is_apart same_text (drop k list)) above ∙ c.codes.invariant.1 in
    sym (apart_rest list i (apart_from list i c.index-list-i.result at true later apart))

pub codes-preserved : goal.codes-preserved
codes-preserved c =
    let list : List Code = c.args.list.now in
    let i : ℕ = c.codes.i - 1 in
    let positive : 0 < c.codes.i = grind (arith, nat_tests, c.codes-test.true) in
    let above : suc i ≡ c.codes.i = omega (arith, positive) in
    let within : c.codes.i ≤ length list = c.codes.invariant.0 in
    let at : slice_get list i ≡ Some c.index-list-i.result = slice_get_read list (length list) i c.index-list-i.result refl (omega (arith, above, within)) c.index-list-i.is in
    let new : has (λ k. k.now) c.codes.texts.keys c.as_slice.result.now ≡ false = was_new c.in_ok-insert.field-0 _ c.in_ok-insert.ensures.added c.if-not-branch.false in
    let before : (text : List ℕ) → has (λ k. k.now) c.codes.texts.keys text ≡ list_any (λ (d : Code). bytes_eq text d.text) (drop (suc i) list) =
    λ text. c.codes.invariant.2 text ∙ ap (λ k. list_any (λ (d : Code). bytes_eq text d.text) (drop k list)) (sym above) in
    let is_text : c.as_slice.result.now ≡ c.index-list-i.result.text = c.as_slice.ensures ∙ ap (λ (x : Code). x.text) (sym c.index-list-i.is) in
    let later : list_any (λ (d : Code). bytes_eq c.index-list-i.result.text d.text) (drop (suc i) list) ≡ false =
    ap (λ t. list_any (λ (d : Code). bytes_eq t d.text) (drop (suc i) list)) (sym is_text) ∙ sym (before c.as_slice.result.now) ∙ new in
    let apart : is_apart same_text (drop (suc i) list) ≡ true = ap (λ k. is_apart same_text (drop k list)) above ∙ c.codes.invariant.1 in (
      omega (arith, within, above),
      apart_from list i c.index-list-i.result at false later apart,
      λ text.
          ap (λ ks. has (λ k. k.now) ks text) c.in_ok-insert.ensures.keys
          ∙ has_put (λ k. k.now) c.codes.texts.keys c.as_slice.result _ new list i c.index-list-i.result at is_text before text,
    )
