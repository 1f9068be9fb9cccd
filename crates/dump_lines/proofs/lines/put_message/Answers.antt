use Rattle.std.proofs.Common.{◌≡◌, ap, sym, ◌++◌, ◌∙◌, append_assoc}
use Rattle.std.specs.Prelude.{codes}
use Rattle.dump_lines.specs.Dumped.{before_message, behind_message, view_line}
use Rattle.printers.proofs.Printing.{then_prints, reprinted}
use Rattle.dump_lines.proofs.lines.put_message.Goals as goal

pub returns : goal.returns
returns g c =
    let line = c.put_open_line.ensures in
    let after = behind_message c.args.schemas.now.also in
    let whole : line.done ++ (codes "}" ++ after) ≡ view_line c.args.view.now ++ after = sym (append_assoc line.done (codes "}") after) ∙ ap (λ text. text ++ after) line.whole in
    then_prints (reprinted (ap (before_message c.args.schemas.now.also) c.id.ensures) c.put_before.ensures) (reprinted whole (then_prints line.printed c.put_behind.ensures))
