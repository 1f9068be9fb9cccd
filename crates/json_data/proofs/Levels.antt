-- The data of a tree, a level at a time.
use Rattle.std.proofs.Common.{◌≡◌, ℕ, List, Bool, Bor, rules}
use Rattle.serde_json.specs.Data.{null, boolean, number, string, array, object}
use Rattle.json_data.specs.declared.number.Number.{Number as NumberOf}
use Rattle.json_data.specs.declared.data.Json.{Json, Null, Bool as Truth, Number, String, Array, Object, the_lemmas}
use Rattle.json_data.specs.Trees.{data_of, num_of, items_of, members_of}
use Rattle.json_data.proofs.Growing.{Pair}

pub of_null : data_of Null ≡ null
of_null = search (rules, the_lemmas)

pub of_truth : (b : Bool) → data_of (Truth b) ≡ boolean b
of_truth b = search (rules, the_lemmas)

pub of_number : (n : NumberOf) → data_of (Number n) ≡ number (num_of n)
of_number n = search (rules, the_lemmas)

pub of_string : (s : Bor (List ℕ)) → data_of (String s) ≡ string s.now
of_string s = search (rules, the_lemmas)

pub of_array : (v : Bor (List Json)) → data_of (Array v) ≡ array (items_of v.now)
of_array v = search (rules, the_lemmas)

pub of_object : (v : Bor (List Pair)) → data_of (Object v) ≡ object (members_of v.now)
of_object v = search (rules, the_lemmas)
