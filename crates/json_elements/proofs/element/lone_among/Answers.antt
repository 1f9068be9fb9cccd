use Rattle.std.proofs.Common.{◌≡◌, ℕ, List, false, true, sym, subst}
use Rattle.std.specs.List.{list_all}
use Rattle.std.specs.Str.{bytes_eq}
use Rattle.json_elements.proofs.Lone.{lone_is, not_lone, renamed}
use Rattle.json_elements.proofs.element.lone_among.Goals as goal

pub returns-then-not-all_have_key : goal.returns-then-not-all_have_key
returns-then-not-all_have_key c =
    let apart = subst (λ (k : List ℕ). false ≡ list_all (λ m. bytes_eq m.0.now k) c.args.members.now) c.as_bytes.ensures.value (c.if-not-all_have_key.ensures) in
    sym (not_lone c.args.members.now _ (sym (c.if-is_empty.ensures)) (sym apart))

pub returns : goal.returns
returns c =
    let same = subst (λ (k : List ℕ). true ≡ list_all (λ m. bytes_eq m.0.now k) c.args.members.now) c.as_bytes.ensures.value (c.if-not-all_have_key.ensures) in
    renamed _ _ _ _ (c.without_prefix.ensures) (lone_is c.args.members.now _ (sym (c.if-is_empty.ensures)) (sym same))
