-- What the handle of a schema owns.
use mathlib.Core.Bool.{Bool, true, false}
use base.Fml.{Fml, feq, fsep}
use base.Stored.{Coded}
use denote.RawPtr.{Ptr}
use Rattle.std.specs.Coded.{coded_option}
use Rattle.std.specs.declared.option.Option.{Option}
use Rattle.std.specs.declared.option.Option.TheVariants.{None, Some}
use Rattle.std.specs.Global.{Global}
use Rattle.std_heap.specs.contracts.GlobalAllocator.TheImpl.{ghosts}
use Rattle.std.specs.Box.Ownership.{box_owns}
use Rattle.sbe_c.specs.contracts.opened.Opened.{the_row}

-- an open handle owns its box, and a closed one nothing
abbrev pub handle_owns : Global → Ptr → Bool → Option the_row.Denot → Fml
handle_owns alloc p is_open None = feq Bool is_open false
handle_owns alloc p is_open (Some x) = fsep (feq Bool is_open true) (box_owns (ghosts.dealloc_token alloc) the_row p x)

-- what it owns, as data that the logic can store
abbrev pub opened_coded : Coded (Option the_row.Denot)
opened_coded = coded_option the_row.coded
