use Rattle.std.proofs.Common.{◌≡◌, ◌∙◌, List, Option, ℕ, length, refl, sym, ap}
use Rattle.std.proofs.lemmas.Option.{slice_get_read}
use Rattle.reference_graph.specs.Marking.{node_word}
use Rattle.reference_graph.proofs.Passes.{passed_one}
use Rattle.reference_graph.proofs.distinct.pass_at.Goals as goal

pub returns-in-Some : goal.returns-in-Some
returns-in-Some c p =
    let told : c.node_word.result ≡ node_word c.args.words.now.items c.args.first c.index-nodes-i.result =
    c.node_word.ensures ∙ ap (λ (ws : List (Option ℕ)). node_word ws c.args.first c.index-nodes-i.result) c.as_slice.ensures.value in
    passed_one c.args.nodes.now c.args.first c.args.before.now c.args.words.now.items c.args.i c.index-nodes-i.result c.node_word.result _
    (slice_get_read c.args.nodes.now (length c.args.nodes.now) c.args.i c.index-nodes-i.result refl c.requires.within c.index-nodes-i.is) c.in-Some.ensures (sym told) p
