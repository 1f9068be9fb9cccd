use Rattle.std.proofs.Common.{◌≡◌, ◌-◌, ◌<◌, [], ◌∷◌, length, Some, None, sym, ap, ap₂, ◌∙◌, arith}
use Rattle.json.specs.Token.{Token}
use Rattle.json.specs.Json.{parse_map, after_end_array, read_key, items, members, value}
use Rattle.json.specs.Reads.{token_of}
use Rattle.json.proofs.Grammar.{value_is, value-begin_array, value-begin_object, read_key-shorter}
use Rattle.serde_json.specs.Data.{array, object, put}
use Rattle.serde_json.specs.Read.{of_json, of_items, of_members, converted}
use Rattle.json_data.proofs.Turns.{array_of, object_of, item_turn, item_refused, items_over, member_turn, member_refused, no_key, members_over}
use Rattle.json_data.specs.Trees.{data_of, items_of, members_of}
use Rattle.json_data.proofs.Growing.{ahead, ahead-none, one_more_item, one_more_member}
use Rattle.json_data.proofs.Levels.{of_null, of_truth, of_number, of_string, of_array, of_object}
use Rattle.json_data.proofs.reading.+read.Goals as goal

pub read_data-returns-in_err-token-clause-err : goal.read_data-returns-in_err-token-clause-err
read_data-returns-in_err-token-clause-err t c refused =
    let over : c.args.reader.now ≡ [] = grind arith in
    ap (converted of_json) (ap (value c.args.depth) over ∙ value_is c.args.depth [])

pub read_data-returns-then-depth-eq0-clause-err : goal.read_data-returns-then-depth-eq0-clause-err
unfolding value
read_data-returns-then-depth-eq0-clause-err t c refused =
    let first : c.args.reader.now ≡ token_of c.in_ok-token.token ∷ c.next.new.self = grind arith in
    let none : c.args.depth ≡ 0 = omega arith in
    ap (converted of_json) (ap₂ value none (first ∙ ap (λ k. token_of k ∷ c.next.new.self) c.in-BeginArray.is))

pub read_data-returns-in_err-read_items-in-BeginArray-clause-err : goal.read_data-returns-in_err-read_items-in-BeginArray-clause-err
read_data-returns-in_err-read_items-in-BeginArray-clause-err t c refused =
    let first : c.args.reader.now ≡ token_of c.in_ok-token.token ∷ c.next.new.self = grind arith in
    let opened = ap (converted of_json) (ap (value c.args.depth) (first ∙ ap (λ k. token_of k ∷ c.next.new.self) c.in-BeginArray.is) ∙ value-begin_array c.args.depth c.next.new.self (omega arith)) ∙ array_of (items (value (c.args.depth - 1)) (length c.next.new.self) c.next.new.self) in
    opened ∙ ap (parse_map array) (c.read_items.ensures.err (grind arith))

pub read_data-returns-then-depth-eq0-2-clause-err : goal.read_data-returns-then-depth-eq0-2-clause-err
unfolding value
read_data-returns-then-depth-eq0-2-clause-err t c refused =
    let first : c.args.reader.now ≡ token_of c.in_ok-token.token ∷ c.next.new.self = grind arith in
    let none : c.args.depth ≡ 0 = omega arith in
    ap (converted of_json) (ap₂ value none (first ∙ ap (λ k. token_of k ∷ c.next.new.self) c.in-BeginObject.is))

pub read_data-returns-in_err-read_members-in-BeginObject-clause-err : goal.read_data-returns-in_err-read_members-in-BeginObject-clause-err
read_data-returns-in_err-read_members-in-BeginObject-clause-err t c refused =
    let first : c.args.reader.now ≡ token_of c.in_ok-token.token ∷ c.next.new.self = grind arith in
    let opened = ap (converted of_json) (ap (value c.args.depth) (first ∙ ap (λ k. token_of k ∷ c.next.new.self) c.in-BeginObject.is) ∙ value-begin_object c.args.depth c.next.new.self (omega arith)) ∙ object_of (members (value (c.args.depth - 1)) (length c.next.new.self) c.next.new.self) in
    opened ∙ ap (parse_map object) (c.read_members.ensures.err (grind arith))

pub read_data-returns-in-String-clause-ok : goal.read_data-returns-in-String-clause-ok
read_data-returns-in-String-clause-ok t c =
    let first : c.args.reader.now ≡ token_of c.in_ok-token.token ∷ c.next.new.self = grind arith in
    let is : c.args.reader.now ≡ Token.string c.in-String.text.now ∷ c.next.new.self = grind (arith, first) in
    ap (converted of_json) (ap (value c.args.depth) is ∙ value_is c.args.depth _) ∙ ap (λ d. Some (d, c.next.new.self)) (sym (of_string c.in-String.text))

pub read_data-returns-in-Some-clause-ok : goal.read_data-returns-in-Some-clause-ok
read_data-returns-in-Some-clause-ok t c =
    let first : c.args.reader.now ≡ token_of c.in_ok-token.token ∷ c.next.new.self = grind arith in
    let is : c.args.reader.now ≡ Token.number c.in-Number.text.now ∷ c.next.new.self = grind (arith, first) in
    ap (converted of_json) (ap (value c.args.depth) is ∙ value_is c.args.depth _) ∙ rw (← c.in-Some.ensures, of_number c.in-Some.number)

pub read_data-returns-in-None-clause-err : goal.read_data-returns-in-None-clause-err
read_data-returns-in-None-clause-err t c refused =
    let first : c.args.reader.now ≡ token_of c.in_ok-token.token ∷ c.next.new.self = grind arith in
    let is : c.args.reader.now ≡ Token.number c.in-Number.text.now ∷ c.next.new.self = grind (arith, first) in
    ap (converted of_json) (ap (value c.args.depth) is ∙ value_is c.args.depth _) ∙ rw (← c.in-None.ensures)

pub read_data-returns-in-Bool-clause-ok : goal.read_data-returns-in-Bool-clause-ok
read_data-returns-in-Bool-clause-ok t c =
    let first : c.args.reader.now ≡ token_of c.in_ok-token.token ∷ c.next.new.self = grind arith in
    let is : c.args.reader.now ≡ Token.boolean c.in-Bool.truth ∷ c.next.new.self = grind (arith, first) in
    ap (converted of_json) (ap (value c.args.depth) is ∙ value_is c.args.depth _) ∙ ap (λ d. Some (d, c.next.new.self)) (sym (of_truth c.in-Bool.truth))

pub read_data-returns-in-Null-clause-ok : goal.read_data-returns-in-Null-clause-ok
read_data-returns-in-Null-clause-ok t c =
    let first : c.args.reader.now ≡ token_of c.in_ok-token.token ∷ c.next.new.self = grind arith in
    let is : c.args.reader.now ≡ Token.null ∷ c.next.new.self = grind (arith, first) in
    ap (converted of_json) (ap (value c.args.depth) is ∙ value_is c.args.depth _) ∙ ap (λ d. Some (d, c.next.new.self)) (sym of_null)

pub read_data-returns-in-EndObject-clause-err : goal.read_data-returns-in-EndObject-clause-err
read_data-returns-in-EndObject-clause-err t c refused =
    let first : c.args.reader.now ≡ token_of c.in_ok-token.token ∷ c.next.new.self = grind arith in
    let none : value c.args.depth c.args.reader.now ≡ None = rw (value_is c.args.depth c.args.reader.now, first) (grind arith) in
    ap (converted of_json) none

pub read_data-returns-in_ok-read_items-in-BeginArray-clause-ok : goal.read_data-returns-in_ok-read_items-in-BeginArray-clause-ok
read_data-returns-in_ok-read_items-in-BeginArray-clause-ok t c =
    let first : c.args.reader.now ≡ token_of c.in_ok-token.token ∷ c.next.new.self = grind arith in
    let opened = ap (converted of_json) (ap (value c.args.depth) (first ∙ ap (λ k. token_of k ∷ c.next.new.self) c.in-BeginArray.is) ∙ value-begin_array c.args.depth c.next.new.self (omega arith)) ∙ array_of (items (value (c.args.depth - 1)) (length c.next.new.self) c.next.new.self) in
    let found = c.in_ok-read_items-in-BeginArray in
    opened ∙ ap (parse_map array) found.ensures.ok ∙ ap (λ d. Some (d, c.read_items.new.reader)) (sym (of_array found.field-0))

pub read_data-returns-in_ok-read_members-in-BeginObject-clause-ok : goal.read_data-returns-in_ok-read_members-in-BeginObject-clause-ok
read_data-returns-in_ok-read_members-in-BeginObject-clause-ok t c =
    let first : c.args.reader.now ≡ token_of c.in_ok-token.token ∷ c.next.new.self = grind arith in
    let opened = ap (converted of_json) (ap (value c.args.depth) (first ∙ ap (λ k. token_of k ∷ c.next.new.self) c.in-BeginObject.is) ∙ value-begin_object c.args.depth c.next.new.self (omega arith)) ∙ object_of (members (value (c.args.depth - 1)) (length c.next.new.self) c.next.new.self) in
    let found = c.in_ok-read_members-in-BeginObject in
    opened ∙ ap (parse_map object) found.ensures.ok ∙ ap (λ d. Some (d, c.read_members.new.reader)) (sym (of_object found.field-0))

pub read_items-returns-in_err-item-clause-err : goal.read_items-returns-in_err-item-clause-err
read_items-returns-in_err-item-clause-err t c refused =
    let l = c.items in
    let going : (after_end_array l.reader ≡ None) × (c.take_end_array.new.self ≡ l.reader) = grind arith in
    l.invariant.2 ∙ ap (parse_map (ahead l.found.items)) (item_refused (value c.args.depth) l.invariant.0 l.reader going.0 (rw (← going.1) (c.read_data.ensures.err (grind arith))))

pub read_items-items-preserved : goal.read_items-items-preserved
read_items-items-preserved t c =
    let p = value c.args.depth in
    let l = c.items in
    let n = l.invariant.0 in
    let going : (after_end_array l.reader ≡ None) × (c.take_end_array.new.self ≡ l.reader) = grind arith in
    let done = c.in_ok-item.ensures in
    let d = c.in_ok-item.item in
    let r = c.read_data.new.reader in
    let less : length r < length l.reader = rw (← going.1) done.shorter in
    let turn = item_turn p n l.reader r (data_of d) (omega (arith, l.invariant.1)) going.0 (rw (← going.1) done.ok) in (
      n - 1,
      omega (arith, l.invariant.1),
      l.invariant.2 ∙ ap (parse_map (ahead l.found.items)) turn ∙ one_more_item l.found.items d _
          ∙ ap (λ ds. parse_map (ahead ds) (converted of_items (items p (n - 1) r))) (sym c.in_ok-push.ensures.ok),
      omega (arith, l.invariant.3),
    )

pub read_items-returns-clause-ok : goal.read_items-returns-clause-ok
read_items-returns-clause-ok t c =
    let l = c.items in
    let rest = c.take_end_array.new.self in
    l.invariant.2 ∙ ap (parse_map (ahead l.found.items)) (items_over (value c.args.depth) l.invariant.0 l.reader rest l.invariant.1 (grind arith)) ∙ ap (λ ds. Some (ds, rest)) (ahead-none l.found.items ∙ ap items_of (sym c.into_bump_slice.ensures))

pub read_members-returns-in_err-key-clause-err : goal.read_members-returns-in_err-key-clause-err
read_members-returns-in_err-key-clause-err t c refused =
    let l = c.members in
    l.invariant.2 ∙ no_key (value c.args.depth) l.invariant.0 l.reader (members_of l.found.items) c.in_err-key.ensures.value

pub read_members-returns-in_err-member-clause-err : goal.read_members-returns-in_err-member-clause-err
read_members-returns-in_err-member-clause-err t c refused =
    let l = c.members in
    let key = c.in-Some.key.now in
    let s = c.next_key.new.self in
    let named : read_key l.reader ≡ Some (Some key, s) = grind arith in
    l.invariant.2 ∙ member_refused (value c.args.depth) l.invariant.0 l.reader (members_of l.found.items) key s named (c.read_data.ensures.err (grind arith))

pub read_members-members-preserved : goal.read_members-members-preserved
read_members-members-preserved t c =
    let p = value c.args.depth in
    let l = c.members in
    let n = l.invariant.0 in
    let key = c.in-Some.key.now in
    let s = c.next_key.new.self in
    let named : read_key l.reader ≡ Some (Some key, s) = grind arith in
    let done = c.in_ok-member.ensures in
    let d = c.in_ok-member.member in
    let r = c.read_data.new.reader in
    let less = read_key-shorter l.reader (Some key) s named in
    let lesser = done.shorter in
    let grown : members_of c.push.new.items.items ≡ put key (data_of d) (members_of l.found.items) = ap members_of c.in_ok-push.ensures.ok ∙ one_more_member l.found.items (c.in-Some.key, d) in (
      n - 1,
      omega (arith, l.invariant.1),
      l.invariant.2 ∙ member_turn p n l.reader (members_of l.found.items) key s r (data_of d) (omega (arith, l.invariant.1)) named done.ok
          ∙ ap (λ found. converted (λ ms. of_members ms found) (members p (n - 1) r)) (sym grown),
      omega (arith, l.invariant.3),
    )

pub read_members-returns-clause-ok : goal.read_members-returns-clause-ok
read_members-returns-clause-ok t c =
    let l = c.members in
    l.invariant.2 ∙ members_over (value c.args.depth) l.invariant.0 l.reader (members_of l.found.items) c.next_key.new.self l.invariant.1 (grind arith)
    ∙ ap (λ ms. Some (members_of ms, c.next_key.new.self)) (sym c.into_bump_slice.ensures)
