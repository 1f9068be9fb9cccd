-- Who holds a buffer that was lent to a writer: the writer if there is one, else the caller again.
use Rattle.std.specs.Borrow.{MutBor, Fml, RestsIfErr}
use Rattle.std.specs.Prelude.{◌≡◌, [], Result}
use Rattle.typed_writer.specs.Held.{Held}
use Rattle.typed_writer.specs.declared.states.FieldsW.{FieldsW}
use Rattle.typed_writer.specs.declared.states.TailW.{TailW}
use Rattle.typed_writer.specs.declared.states.EntriesW.{EntriesW}
use Rattle.typed_writer.specs.contracts.buffer.FrameBuf.{the_row}

-- after a refusal the buffer holds what it held before
abbrev pub FieldsRest : {E : Type 0} → MutBor Held → Result FieldsW E → Fml
FieldsRest buf result = RestsIfErr the_row buf (λ f. f.buf.ghost_name) result (λ last. last ≡ buf.now)

-- the same if entries are handed out
abbrev pub EntriesRest : {E : Type 0} → MutBor Held → Result EntriesW E → Fml
EntriesRest buf result = RestsIfErr the_row buf (λ e. e.buf.ghost_name) result (λ last. last ≡ buf.now)

-- the same if the groups and data are handed out
abbrev pub TailRests : {E : Type 0} → MutBor Held → Result TailW E → Fml
TailRests buf result = RestsIfErr the_row buf (λ t. t.buf.ghost_name) result (λ last. last ≡ buf.now)

-- after a refused beginning the buffer is empty
abbrev pub RootRests : {E : Type 0} → MutBor Held → Result FieldsW E → Fml
RootRests buf result = RestsIfErr the_row buf (λ f. f.buf.ghost_name) result (λ last. (last.bytes ≡ []) × (last.limit ≡ buf.now.limit))
