use Rattle.line_laws.proofs.Differ.{do_differ}
use Rattle.line_laws.proofs.NamedBack.{names_of, enum_back}
use Rattle.line_laws.proofs.laws.an_enum_reads_back.Goals as goal

pub returns : goal.returns
returns c = λ l names n h. enum_back l names n (do_differ (names_of names) h.names_differ)
