use Rattle.schema_facts.proofs.KindCounters.{header_is, dimension_is, length_is}
use Rattle.schema_facts.proofs.kinds.counters_are_found.Goals as goal

pub returns-clause-header : goal.returns-clause-header
returns-clause-header c = λ types name accepted h. header_is types accepted name h

pub returns-clause-dimension : goal.returns-clause-dimension
returns-clause-dimension c = λ types name accepted h. dimension_is types accepted name h

pub returns-clause-data : goal.returns-clause-data
returns-clause-data c = λ types name accepted h. length_is types accepted name h
