-- What lends a text is as it was once the text isn't borrowed any more. Own profile.
use Rattle.std.specs.Prelude.{◌≡◌, ⊤}
use Rattle.std.specs.Borrow.{MutBor, Fml, follows_so}
use mathlib.Core.Option.{none}
use Rattle.tagvalue_codec.specs.Rooms.{Around}
use Rattle.tagvalue_codec.specs.Drafts.{Draft}
use Rattle.tagvalue_codec.specs.contracts.framed.Framed as framed
use Rattle.tagvalue_codec.specs.contracts.write.FixWriter as writer

-- the body is as it was
abbrev pub BodyRests : MutBor Around → Fml
BodyRests body = follows_so framed.the_row framed.the_row body.ghost_name none (λ _ _. ⊤) (λ last. last ≡ body.now)

-- the draft is as it was
abbrev pub DraftRests : MutBor Draft → Fml
DraftRests draft = follows_so writer.the_row writer.the_row draft.ghost_name none (λ _ _. ⊤) (λ last. last ≡ draft.now)
