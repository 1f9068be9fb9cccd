use Rattle.line_laws.proofs.Differ.{do_differ}
use Rattle.line_laws.proofs.NamedBack.{names_of, numbers_of, are_bits, set_back}
use Rattle.line_laws.proofs.laws.a_set_reads_back.Goals as goal

pub returns : goal.returns
returns c = λ prim names bits h within.
    set_back names bits within (are_bits prim names h.numbers) (do_differ (names_of names) h.names_differ) (do_differ (numbers_of names) h.numbers_differ)
