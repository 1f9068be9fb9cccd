use Rattle.printers.proofs.Printing.{reprinted}
use Rattle.std.proofs.Common.{ap, sym, ◌∙◌}
use Rattle.bridge_terms.specs.Places.{no_text, no_delimiter}
use Rattle.message_walk.specs.declared.halt.Halt.{Halt}
use Rattle.refused_items.specs.Refused.{refused_line}
use Rattle.way_texts.specs.WayTexts.{way_text}
use Rattle.tofix_replies.specs.Unsent.{of_why, unsent_line_is}
use Rattle.tofix_replies.proofs.Noting.{told_full, told_text, told_delimiter}
use Rattle.tofix_replies.proofs.notes.put_halt.Goals as goal

pub returns-in-Full-clause-text : goal.returns-in-Full-clause-text
returns-in-Full-clause-text g c = λ lists p u rows is near.
    let told = told_full c.args.root.now p u c.in-Full.needed (ap (λ (h : Halt). h.cause) (sym is) ∙ c.in-Full.is) in
    reprinted (ap (refused_line c.args.item) told ∙ sym (unsent_line_is c.args.item c.args.root.now p u)) c.put_full.ensures

pub returns-in-NoText-clause-text : goal.returns-in-NoText-clause-text
returns-in-NoText-clause-text g c = λ lists p u rows is near.
    let level = c.args.root.now in
    let told = told_text level p u c.in-NoText.why (ap (λ (h : Halt). h.cause) (sym is) ∙ c.in-NoText.is) near in
    let way = c.steps.ensures ∙ ap (λ (h : Halt). h.way) is in
    reprinted (ap (λ way. refused_line c.args.item (of_why (no_text c.in-NoText.why) (way_text p level way))) way ∙ ap (refused_line c.args.item) told ∙ sym (unsent_line_is c.args.item level p u))
    (c.put_no_text.ensures.text lists p rows)

pub returns-in-NoDelimiter-clause-text : goal.returns-in-NoDelimiter-clause-text
returns-in-NoDelimiter-clause-text g c = λ lists p u rows is near.
    let level = c.args.root.now in
    let told = told_delimiter level p u (ap (λ (h : Halt). h.cause) (sym is) ∙ c.in-NoDelimiter.is) near in
    let way = c.steps-in-NoDelimiter.ensures ∙ ap (λ (h : Halt). h.way) is in
    reprinted (ap (λ way. refused_line c.args.item (of_why no_delimiter (way_text p level way))) way ∙ ap (refused_line c.args.item) told ∙ sym (unsent_line_is c.args.item level p u))
    (c.put_no_delimiter.ensures.text lists p rows)
