use Rattle.std.proofs.Common.{refl, sym, ap, ◌∙◌}
use Rattle.printers.specs.Chunks.{Gathered}
use Rattle.printers.proofs.Printing.{breaks, spills}
use Rattle.printers.proofs.printer.Printer.spill.Goals as goal

pub returns-then-has_fault : goal.returns-then-has_fault
returns-then-has_fault g c =
    breaks (sym c.has_failed.ensures ∙ c.if-has_failed.false) refl (rw (c.if-has_fault.true, c.as_slice-waiting.ensures) at c.has_fault.ensures) (ap (λ (g : Gathered). g.failed) c.clear.ensures)

pub returns : goal.returns
returns g c =
    spills c.has_fault.new.sink c.has_fault-failed.result (sym c.has_failed.ensures ∙ c.if-has_failed.false) refl (rw (c.if-has_fault.false, c.as_slice-waiting.ensures) at c.has_fault.ensures) c.has_fault-failed.ensures c.clear-2.ensures
