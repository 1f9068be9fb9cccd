-- The fields that are given for a head stand alone.
use Rattle.std.proofs.Common.{◌≡◌, ◌<◌, ◌^◌, ℕ, true, false, List, [], ◌∷◌, ◌++◌, decimal, Option, Some, None, refl, arith, lit<}
use Rattle.std.specs.Option.{option_map}
use Rattle.std.proofs.lemmas.Fmt.{decimal_nonempty}
use Rattle.tagvalue_codec.specs.declared.data_tags.Pair.{Pair}
use Rattle.tagvalue_codec.specs.Fields.{Field, IsTag, soh}
use Rattle.tagvalue_codec.specs.Texts.{IsOrdinary, is_locked}
use Rattle.bridge_terms.specs.Parts.{TagLists}
use Rattle.bridge_terms.specs.Plans.{Each, is_in}
use Rattle.fix_messages.specs.Heads.{Head, IsGivenValue, IsHeadReady, given, given_fields}
use Rattle.tofix_replies.specs.ToFix.{head_after, number_after}
use Rattle.same_texts.specs.Follow.{IsAlone}
use Rattle.same_texts.proofs.Splits.{decimal_without}
use Rattle.same_texts.proofs.Values.{each_append}
use Rattle.round_trip.specs.Returns.{IsGiven}

given_ordinary : (tag : ℕ) (o : Option (List ℕ)) → IsTag tag → is_locked tag ≡ false → IsGivenValue o → Each IsOrdinary (given tag o)
given_ordinary tag None tagged unlocked is = tt
given_ordinary tag (Some value) tagged unlocked is =
    (record { plain = record { tagged = tagged; some = is.some; plain = is.plain }; unlocked = unlocked }, tt)

number_small : (translated first : ℕ) → number_after translated first < 2 ^ 64
number_small translated first = omega arith

seq_given : (translated : ℕ) (o : Option ℕ) → IsGivenValue (option_map decimal (option_map (number_after translated) o))
seq_given translated None = tt
seq_given translated (Some first) =
    let n = number_after translated first in
    let small = number_small translated first in
    record { some = decimal_nonempty n small; plain = decimal_without soh n refl small }

head_ordinary : (translated : ℕ) (head : Head) → IsHeadReady head → Each IsOrdinary (given_fields (head_after translated head))
head_ordinary translated head ready =
    let seq = option_map decimal (option_map (number_after translated) head.seq) in
    each_append IsOrdinary (given 49 head.sender) (given 56 head.target ++ (given 34 seq ++ given 52 head.time)) (given_ordinary 49 head.sender (record { above = lit< tt; below = lit< tt }) refl ready.sender)
    (each_append IsOrdinary (given 56 head.target) (given 34 seq ++ given 52 head.time) (given_ordinary 56 head.target (record { above = lit< tt; below = lit< tt }) refl ready.target)
    (each_append IsOrdinary (given 34 seq) (given 52 head.time) (given_ordinary 34 seq (record { above = lit< tt; below = lit< tt }) refl (seq_given translated head.seq))
    (given_ordinary 52 head.time (record { above = lit< tt; below = lit< tt }) refl ready.time)))

each_alone : (tags : List Pair) (lists : TagLists) (fs : List Field) → Each IsOrdinary fs → Each (IsGiven tags lists) fs → Each (IsAlone tags) fs
each_alone tags lists [] ordinary is = tt
each_alone tags lists (f ∷ fs) ordinary is = (record { ordinary = ordinary.0; plain = is.0.plain }, each_alone tags lists fs ordinary.1 is.1)

pub head_alone : (tags : List Pair) (lists : TagLists) (translated : ℕ) (head : Head) → IsHeadReady head → Each (IsGiven tags lists) (given_fields (head_after translated head))
    → Each (IsAlone tags) (given_fields (head_after translated head))
head_alone tags lists translated head ready is = each_alone tags lists (given_fields (head_after translated head)) (head_ordinary translated head ready) is

pub given_headed : (tags : List Pair) (lists : TagLists) (fs : List Field) → Each (IsGiven tags lists) fs → Each (λ f. is_in f.tag lists.header ≡ true) fs
given_headed tags lists [] is = tt
given_headed tags lists (f ∷ fs) is = (is.0.header, given_headed tags lists fs is.1)
