-- The notes of texts that aren't translated. Own profile.
use Rattle.std.specs.Prelude.{ℕ, List, [], None, codes}
use Rattle.std.specs.Fmt.{decimal}
use Rattle.bridge_terms.specs.WayBack.{Refusal, unreadable, unknown, repeated, misgrouped, unlike, missing}
use Rattle.refused_items.specs.Refused.{Refused as RefusedItem}
use Rattle.tofix_replies.specs.Unsent.{value_code}

-- the refusal of a text whose MsgType several templates have
abbrev pub of_several : RefusedItem
of_several = record { code = codes "B01"; offset = None; path = []; detail = codes "several" }

-- a refusal with this code and detail, at the field with this tag
abbrev pub at_tag : List ℕ → ℕ → List ℕ → RefusedItem
at_tag code tag detail = record { code = code; offset = None; path = decimal tag; detail = detail }

-- the first refusal of fields
abbrev pub of_refusal : Refusal → RefusedItem
of_refusal (unreadable tag v) = at_tag (codes "B03") tag (value_code v)
of_refusal (unknown tag) = at_tag (codes "B04") tag []
of_refusal (repeated tag) = at_tag (codes "B05") tag []
of_refusal (misgrouped tag) = at_tag (codes "B06") tag []
of_refusal (missing tag) = at_tag (codes "B07") tag []
of_refusal (unlike tag) = at_tag (codes "B08") tag []
