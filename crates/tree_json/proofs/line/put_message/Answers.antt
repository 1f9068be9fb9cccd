use Rattle.std.proofs.Common.{◌≡◌, ℕ, List, ap, sym, subst, ◌++◌, ◌∙◌, append_assoc}
use Rattle.std.specs.Prelude.{Some, codes, decimal}
use Rattle.json.specs.Print.{escape}
use Rattle.sbe_types.specs.declared.schema.Level.{out-Level}
use Rattle.tree_json.specs.Lines.{message_at}
use Rattle.json_values.specs.Plain.{plain_text}
use Rattle.tree_json.specs.Texts.{AreTexts}
use Rattle.tree_json.specs.Views.{block_front}
use Rattle.printers.proofs.Printing.{then_prints, reprinted}
use Rattle.tree_json.proofs.Blocks.{message_is, name_between}
use Rattle.tree_json.proofs.LevelTextsOf.{root_texts}
use Rattle.tree_json.proofs.line.put_message.Goals as goal

pub put_front-requires : goal.put_front-requires
put_front-requires g c =
    subst (AreTexts (g.T.Kept.texts c.args.texts)) (sym c.root.ensures) (root_texts c.args.view.now.level c.args.view.now.message.block (g.T.Kept.texts c.args.texts) c.requires.texts)

pub returns : goal.returns
returns g c =
    let level = c.args.view.now.level in
    let name = escape (out-Level level).name in
    let between = λ (text : List ℕ). codes ",\"template\":\"" ++ (text ++ codes "\",\"version\":") in
    let front = block_front c.root.result in
    let version = decimal c.version.result in
    let named = reprinted (ap between (c.name.ensures ∙ sym c.requires.name)) c.put_between.ensures in
    let same : block_front c.root.result ++ (codes ",\"template\":" ++ ((codes "\"" ++ (escape (out-Level level).name ++ codes "\"")) ++ (codes ",\"version\":" ++ (decimal c.version.result ++ codes "}")))) ≡ plain_text (message_at (Some level) c.args.view.now.message) =
    rw (c.root.ensures, c.version.ensures) (message_is level c.args.view.now.message) in
    record {
      done = front ++ (between name ++ version);
      printed = then_prints c.put_front.ensures (then_prints named c.put_count.ensures);
      whole =
          append_assoc front (between name ++ version) (codes "}")
          ∙ ap (λ rest. front ++ rest) (append_assoc (between name) version (codes "}") ∙ name_between name (version ++ codes "}"))
          ∙ same;
    }
