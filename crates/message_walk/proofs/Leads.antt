-- The digits of a tag and =, in an array.
use Rattle.std.proofs.Common.{◌≡◌, ◌<◌, ◌≤◌, ℕ, false, List, [], ◌∷◌, ◌++◌, length, take, arith, ap, ◌∙◌}
use Rattle.std.specs.Prelude.{decimal}
use Rattle.std.proofs.lemmas.Fmt.{length-decimal-le}
use Rattle.tagvalue_codec.specs.Fields.{IsTag}
use Rattle.tagvalue_codec.specs.Drafts.{IsReady}
use Rattle.tagvalue_codec.specs.Texts.{is_locked}
use Rattle.message_walk.specs.Leads.{IsLead}

pub few_digits : (tag : ℕ) → tag < 1000000000 → length (decimal tag) ≤ 9
few_digits tag small = length-decimal-le 9 tag (omega arith) (omega arith) (omega arith)

pub ready_lead : (tag : ℕ) (bytes : List ℕ) → IsLead tag bytes → IsReady bytes
ready_lead tag bytes is = record { tag = tag; tagged = is.tagged; unlocked = is.unlocked; bytes_are = is.shown }

pub lead_made : (tag many used : ℕ) (digits first second third : List ℕ) → IsTag tag → is_locked tag ≡ false → digits ≡ decimal tag
    → take many second ≡ take 0 first ++ digits → take used third ≡ take many second ++ 61 ∷ [] → IsLead tag (take used third)
lead_made tag many used digits first second third tagged unlocked shown one last = record {
  shown = last ∙ ap (λ xs. xs ++ 61 ∷ []) (one ∙ shown);
  tagged = tagged;
  unlocked = unlocked;
}
