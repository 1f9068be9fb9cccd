use Rattle.std.proofs.Common.{◌∷◌, ◌++◌, [], ap, ◌∙◌}
use Rattle.std.specs.Prelude.{codes}
use Rattle.json_rows.proofs.Coded.{text_is}
use Rattle.json_rows.proofs.codes.put_text.Goals as goal

pub returns : goal.returns
returns c =
    let name = c.args.name.now in
    let fill = c.spaces.result.now in
    let named = c.in_ok-extend_from_slice-2.ensures.items ∙ ap (λ l. l ++ name) c.in_ok-extend_from_slice.ensures.items in
    let text = c.in_ok-extend_from_slice-3.ensures.items ∙ ap (λ l. l ++ codes "\"") named in
    let filled = c.in_ok-extend_from_slice-4.ensures.items ∙ ap (λ l. l ++ fill) text in
    let count = c.count_of-count.result in
    text_is c.args.texts.now.items c.extend_from_slice-5.new.self.items name fill count (c.in_ok-extend_from_slice-5.ensures.items ∙ ap (λ l. l ++ count ∷ []) filled) c.requires c.spaces.ensures
    c.count_of-count.ensures
