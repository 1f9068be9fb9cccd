-- A printed text is read as its data, with the members put in one by one.
use Rattle.std.proofs.Common.{◌≡◌, ◌≤◌, pos, negsuc, List, [], ◌++◌, Option, Some, option_map, option_and_then, max, suc, refl, sym, ap, ap₂, ◌∙◌, arith, append-nil}
use Rattle.json.specs.Token.{Token}
use Rattle.json.specs.Lex.{tokens}
use Rattle.json.specs.Json as json
use Rattle.json.specs.Tree as tree
use Rattle.json.specs.Tree.{json_tokens, HasNumbers, ItemsHaveNumbers, MembersHaveNumbers}
use Rattle.json.proofs.Printed.Tokens.{tokens-print}
use Rattle.json.proofs.Printed.Trees.{value-json_tokens, ArePrintable-json_tokens}
use Rattle.json.proofs.Printed.Decimals.{IsNumber-decimal, IsNumber-signed_decimal}
use Rattle.serde_json.specs.Data.{Num, unsigned, negative, float, Data, null, boolean, number, string, array, object, Items, no_items, item, Members, no_members, member, put, depth, items_depth, members_depth}
use Rattle.serde_json.specs.Read.{max_depth, number_of, of_json, of_items, of_members}
use Rattle.serde_json.specs.Written.{number_text, outline, items_outline, members_outline, compact_text}
use Rattle.serde_json.proofs.Numbers.{number_of-decimal, number_of-negative}
use Rattle.serde_json.proofs.Texts.{print-outline}
use Rattle.json.specs.Print.{IsNumber}
use Rattle.line_laws.specs.AsRead.{as_read, items_as_read, put_all, IsInteger, HasIntegers, ItemsHaveIntegers, MembersHaveIntegers, TextIsRead}

number_reads : (n : Num) → IsInteger n → number_of (number_text n) ≡ Some n
number_reads (unsigned n) h = number_of-decimal n h
number_reads (negative (pos n)) h = absurd h
number_reads (negative (negsuc n)) h = number_of-negative n h
number_reads (float x) h = absurd h

number_is : (n : Num) → IsInteger n → IsNumber (number_text n)
number_is (unsigned n) h = IsNumber-decimal n h
number_is (negative (pos n)) h = absurd h
number_is (negative (negsuc n)) h = IsNumber-signed_decimal (negsuc n) h
number_is (float x) h = absurd h

mutual
  numbers : (d : Data) → HasIntegers d → HasNumbers (outline d)
  numbers null h = tt
  numbers (boolean b) h = tt
  numbers (number n) h = number_is n h
  numbers (string s) h = tt
  numbers (array ds) h = items_numbers ds h
  numbers (object ms) h = members_numbers ms h

  items_numbers : (ds : Items) → ItemsHaveIntegers ds → ItemsHaveNumbers (items_outline ds)
  items_numbers no_items h = tt
  items_numbers (item d ds) h = (numbers d h.0, items_numbers ds h.1)

  members_numbers : (ms : Members) → MembersHaveIntegers ms → MembersHaveNumbers (members_outline ms)
  members_numbers no_members h = tt
  members_numbers (member k d ms) h = (numbers d h.0, members_numbers ms h.1)

mutual
  same_depth : (d : Data) → tree.depth (outline d) ≡ depth d
  same_depth null = refl
  same_depth (boolean b) = refl
  same_depth (number n) = refl
  same_depth (string s) = refl
  same_depth (array ds) = ap suc (items_same ds)
  same_depth (object ms) = ap suc (members_same ms)

  items_same : (ds : Items) → tree.items_depth (items_outline ds) ≡ items_depth ds
  items_same no_items = refl
  items_same (item d ds) = ap₂ max (same_depth d) (items_same ds)

  members_same : (ms : Members) → tree.members_depth (members_outline ms) ≡ members_depth ms
  members_same no_members = refl
  members_same (member k d ms) = ap₂ max (same_depth d) (members_same ms)

mutual
  of_outline : (d : Data) → HasIntegers d → of_json (outline d) ≡ Some (as_read d)
  of_outline null h = refl
  of_outline (boolean b) h = refl
  of_outline (number n) h = ap (option_map number) (number_reads n h)
  of_outline (string s) h = refl
  of_outline (array ds) h = ap (option_map array) (of_items_outline ds h)
  of_outline (object ms) h = ap (option_map object) (of_members_outline ms no_members h)

  of_items_outline : (ds : Items) → ItemsHaveIntegers ds → of_items (items_outline ds) ≡ Some (items_as_read ds)
  of_items_outline no_items h = refl
  of_items_outline (item d ds) h = rw (of_outline d h.0, of_items_outline ds h.1)

  of_members_outline : (ms found : Members) → MembersHaveIntegers ms → of_members (members_outline ms) found ≡ Some (put_all ms found)
  of_members_outline no_members found h = refl
  of_members_outline (member k d ms) found h = rw (of_outline d h.0) (of_members_outline ms (put k (as_read d) found) h.1)

abbrev whole : Option (json.Json × List Token) → Option Data
whole o = option_and_then of_json (option_and_then (λ p. json.if_last p.0 p.1) o)

pub text_is_read : TextIsRead
text_is_read d integers shallow =
    let ts = json_tokens (outline d) in
    let same : tokens (compact_text d) ≡ ts ++ [] = ap tokens (sym (print-outline d)) ∙ tokens-print ts (ArePrintable-json_tokens (outline d) (numbers d integers)) ∙ sym (append-nil ts) in
    let within : tree.depth (outline d) ≤ max_depth = omega (arith, same_depth d) in
    ap whole (ap (json.value max_depth) same ∙ value-json_tokens (outline d) max_depth [] within) ∙ of_outline d integers
