use Rattle.std.proofs.Common.{sym, ap, ◌∙◌}
use Rattle.std.specs.Prelude.{◌&&◌, not}
use Rattle.bridge_cover.proofs.Passed.{free_is}
use Rattle.bridge_cover.proofs.level.is_free.Goals as goal

pub returns-then-not-length : goal.returns-then-not-length
returns-then-not-length c = λ m before same taken.
    let header = sym c.if-not-header.true in
    let length = sym c.if-not-length.true in
    (λ j. not (header j) && (not (length j) && not c.args.taken))
    ∙ free_is m before c.args.tags.now c.args.tag c.is_header-header.result c.is_length-length.result c.args.taken same
    c.is_header-header.ensures c.is_length-length.ensures taken

pub returns-else-not-length : goal.returns-else-not-length
returns-else-not-length c = λ m before same taken.
    let header = sym c.if-not-header.true in
    let length = sym c.if-not-length.false in
    ap not c.if-not-length.false ∙ (λ j. not (header j) && (not (length j) && not c.args.taken))
    ∙ free_is m before c.args.tags.now c.args.tag c.is_header-header.result c.is_length-length.result c.args.taken same
    c.is_header-header.ensures c.is_length-length.ensures taken

pub returns-else-not-header : goal.returns-else-not-header
returns-else-not-header c = λ m before same taken.
    let header = sym c.if-not-header.false in
    ap not c.if-not-header.false ∙ (λ j. not (header j) && (not c.is_length-length.result && not c.args.taken))
    ∙ free_is m before c.args.tags.now c.args.tag c.is_header-header.result c.is_length-length.result c.args.taken same
    c.is_header-header.ensures c.is_length-length.ensures taken
