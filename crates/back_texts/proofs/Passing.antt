-- The fields that frame a text are passed over, and so are those of its head.
use Rattle.std.proofs.Common.{◌≡◌, ℕ, true, List, ◌∷◌, ◌++◌, length}
use Rattle.tagvalue_codec.specs.Drafts.{typed}
use Rattle.tagvalue_codec.specs.Fields.{Field}
use Rattle.tagvalue_codec.specs.Texts.{fields_over, size_field, sized, sum_field}
use Rattle.bridge_terms.specs.MessageFields.{with_lengths}
use Rattle.bridge_terms.specs.Parts.{TagLists, application_fields}
use Rattle.bridge_terms.specs.Plans.{Each, is_in}
use Rattle.fix_messages.specs.Heads.{Head, given_fields}
use Rattle.same_texts.specs.Follow.{IsFramed}
use Rattle.same_texts.proofs.Passing.{header_passed, last_passed}

module _ (lists : TagLists) (frames : IsFramed lists) (kind : List ℕ) (head : Head) (fields : List Field) (body : List ℕ) where
  -- the fields of a text before those of its message
  abbrev pub front_fields : List Field
  front_fields = record { tag = 8; value = head.begin } ∷ size_field (length body) ∷ typed kind ∷ given_fields head

  pub front_headed : Each (λ f. is_in f.tag lists.header ≡ true) (given_fields head) → Each (λ f. is_in f.tag lists.header ≡ true) front_fields
  front_headed given = (frames.begin, (frames.size, (frames.kind, given)))

  -- the last field of a text is passed over
  pub text_fields : application_fields lists (fields_over head.begin (typed kind) (given_fields head ++ with_lengths lists fields) body) ≡ application_fields lists (front_fields ++ with_lengths lists fields)
  text_fields =
      let last = sum_field (sized head.begin body) in
      last_passed lists (front_fields ++ with_lengths lists fields) last (header_passed lists last frames.last)
