use Rattle.std.proofs.Common.{drop}
use Rattle.printers.specs.Prints.{Prints}
use Rattle.layout_tables.specs.Paths.{path_found, path_from}
use Rattle.path_text.specs.Walks.{inside_of}
use Rattle.path_text.proofs.PathSteps.{PathSo}
use Rattle.path_text.proofs.paths.put_path.Given as goal

abbrev pub invariant-loop-i : goal.invariant-loop-i
invariant-loop-i g l =
    PathSo (path_found l.layout l.template l.path) (path_from l.first (inside_of l.place) (drop l.i l.path)) (Prints g.O.Sink.state l.fn.printer l.printer)
