-- What was listed is found by its names, and no other key is there.
use Rattle.std.proofs.Common.{◌≡◌, ℕ, List, [], ◌∷◌, Some, None, Ordering, Less, Equal, Greater, refl, sym, ◌∙◌}
use Rattle.std.specs.Prelude.{IsTrue, ⊤}
use Rattle.std.specs.Ordering.{nat_cmp, match_ordering}
use Rattle.std.specs.Cmp.Lexicographic.{slice_cmp}
use Rattle.serde_json.specs.Data.{Data, Members, no_members, member, put}
use Rattle.serde_json.specs.Find.{get_member}
use Rattle.serde_json.proofs.Views.{get_member-put, get_member-put_other}
use Rattle.line_laws.specs.AsRead.{as_read, put_all}
use Rattle.json_values.specs.Values.{Entry, listed}
use Rattle.line_values.specs.Objects.{is_named, first_unknown}
use Rattle.line_laws.specs.Listed.{IsNew, AreDistinct, Finds, ListedIsFound, AreKnown, ListedIsKnown}

kept : (q : List ℕ) (es : List Entry) (found : Members) → IsNew q es → get_member q (put_all (listed es) found) ≡ get_member q found
kept q [] found h = refl
kept q ((k, None) ∷ es) found h = kept q es found h.1
kept q ((k, Some d) ∷ es) found h = kept q es (put k (as_read d) found) h.1 ∙ get_member-put_other q k (as_read d) found h.0

abbrev AreMissing : List Entry → Members → Type 0
AreMissing [] ms = ⊤
AreMissing (e ∷ es) ms = (get_member e.0 ms ≡ None) × AreMissing es ms

still_missing : (k : List ℕ) (d : Data) (es : List Entry) (ms : Members) → IsNew k es → AreMissing es ms → AreMissing es (put k d ms)
still_missing k d [] ms new h = tt
still_missing k d (e ∷ es) ms new h = (get_member-put_other e.0 k d ms (λ same. new.0 (sym same)) ∙ h.0, still_missing k d es ms new.1 h.1)

found_all : (es : List Entry) (found : Members) → AreDistinct es → AreMissing es found → Finds es (put_all (listed es) found)
found_all [] found h missing = tt
found_all ((k, None) ∷ es) found h missing = (kept k es found h.0 ∙ missing.0, found_all es found h.1 missing.1)
found_all ((k, Some d) ∷ es) found h missing =
    (kept k es (put k (as_read d) found) h.0 ∙ get_member-put k (as_read d) found, found_all es (put k (as_read d) found) h.1 (still_missing k (as_read d) es found h.0 missing.1))

none_there : (es : List Entry) → AreMissing es no_members
none_there [] = tt
none_there (e ∷ es) = (refl, none_there es)

pub listed_is_found : ListedIsFound
listed_is_found es h = found_all es no_members h (none_there es)

-- ---- unknown keys

abbrev AllNamed : List (List ℕ) → Members → Type 0
AllNamed names no_members = ⊤
AllNamed names (member k d ms) = IsTrue (is_named k names) × AllNamed names ms

put_by : (o : Ordering) (names : List (List ℕ)) (a b c : Members) → AllNamed names a → AllNamed names b → AllNamed names c → AllNamed names (match_ordering o a b c)
put_by Less names a b c p q r = p
put_by Equal names a b c p q r = q
put_by Greater names a b c p q r = r

put_named : (names : List (List ℕ)) (k : List ℕ) (d : Data) (ms : Members) → IsTrue (is_named k names) → AllNamed names ms → AllNamed names (put k d ms)
put_named names k d no_members h all = (h, tt)
put_named names k d (member l e ms) h all =
    put_by (slice_cmp nat_cmp k l) names (member k d (member l e ms)) (member l d ms) (member l e (put k d ms)) (h, all) all (all.0, put_named names k d ms h all.1)

all_named : (names : List (List ℕ)) (es : List Entry) (found : Members) → AreKnown names es → AllNamed names found → AllNamed names (put_all (listed es) found)
all_named names [] found h all = all
all_named names ((k, None) ∷ es) found h all = all_named names es found h.1 all
all_named names ((k, Some d) ∷ es) found h all = all_named names es (put k (as_read d) found) h.1 (put_named names k (as_read d) found h.0 all)

none_unknown : (names : List (List ℕ)) (ms : Members) → AllNamed names ms → first_unknown names ms ≡ None
none_unknown names no_members h = refl
none_unknown names (member k d ms) h = rw h.0 (none_unknown names ms h.1)

pub listed_is_known : ListedIsKnown
listed_is_known names es h = none_unknown names _ (all_named names es no_members h tt)
