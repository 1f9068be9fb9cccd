use Rattle.std.proofs.Common.{sym, ap, ap₂, subst}
use Rattle.printers.proofs.Printing.{reprinted}
use Rattle.refused_items.specs.Refused.{refused_line}
use Rattle.dump_lines.specs.Refused.{IsWay, of_fault_in}
use Rattle.dump_lines.proofs.refused.put_fault.Goals as goal

pub put_refusal-requires : goal.put_refusal-requires
put_refusal-requires g c =
    let template = sym c.refusal.ensures.template in
    let path = sym (ap (λ f. f.path) c.refusal.ensures.fault) in
    subst (λ t. IsWay c.args.layout.now t c.refusal.result.path) template (subst (λ p. IsWay c.args.layout.now c.args.last.now.template p) path c.requires)

pub returns : goal.returns
returns g c =
    reprinted (ap₂ (λ t f. refused_line c.args.item (of_fault_in c.args.layout.now t f)) c.refusal.ensures.template c.refusal.ensures.fault) c.put_refusal.ensures
