-- The search for a message by its id.
use Rattle.std.proofs.Common.{◌≡◌, ◌≢◌, ◌≤◌, ◌<◌, ◌+◌, ℕ, suc, Bool, true, false, cond, List, length, drop, Option, Some, None, sym, ap, ◌∙◌, arith}
use Rattle.std.proofs.lemmas.List.{drop_all}
use Rattle.std.proofs.lemmas.Bool.Decides.{nat_tests}
use Rattle.std.proofs.lemmas.Option.{slice_get_within}
use Rattle.std.specs.Prelude.{◌==◌, slice_get}
use Rattle.std.specs.Str.{bytes_eq}
use Rattle.sbe_types.specs.declared.schema.Level.{Level, out-Level}
use Rattle.sbe_wire.specs.Faults.{message_named}
use Rattle.version_laws.specs.declared.difference.Difference.{Difference}
use Rattle.version_laws.specs.declared.difference.Reason.TheVariants as reason
use Rattle.version_laws.specs.Differ.{or_else, differs, in_part, level_differs, message_differs, messages_differ}
use Rattle.version_project.specs.Sought.{Finds}
use Rattle.version_project.proofs.Items.{some_is, drop_at}

same_id : (m n : ℕ) → m ≡ n → (m == n) ≡ true
same_id m n h = grind (arith, nat_tests)

other_id : (m n : ℕ) → m ≢ n → (m == n) ≡ false
other_id m n h = grind (arith, nat_tests)

one_step : (levels : List Level) (id i : ℕ) (level : Level) → slice_get levels i ≡ Some level →
    message_named i id (drop i levels) ≡ cond ((out-Level level).id == id) (Some (i, level)) (message_named (i + 1) id (drop (i + 1) levels))
one_step levels id i level at =
    let next : suc i ≡ i + 1 = omega arith in
    ap (message_named i id) (drop_at levels i level at)
    ∙ ap (λ n. cond ((out-Level level).id == id) (Some (i, level)) (message_named n id (drop (i + 1) levels))) next

pub found_here : (levels : List Level) (id i : ℕ) (level : Level) → slice_get levels i ≡ Some level → (out-Level level).id ≡ id →
    message_named i id (drop i levels) ≡ message_named 0 id levels → Finds levels (message_named 0 id levels) (Some i)
found_here levels id i level at is so_far =
    (level, at, sym so_far ∙ one_step levels id i level at ∙ ap (λ t. cond t (Some (i, level)) (message_named (i + 1) id (drop (i + 1) levels))) (same_id _ _ is))

pub passed_by : (levels : List Level) (id i : ℕ) (level : Level) → slice_get levels i ≡ Some level → (out-Level level).id ≢ id →
    message_named i id (drop i levels) ≡ message_named 0 id levels → message_named (i + 1) id (drop (i + 1) levels) ≡ message_named 0 id levels
passed_by levels id i level at is so_far =
    sym (one_step levels id i level at ∙ ap (λ t. cond t (Some (i, level)) (message_named (i + 1) id (drop (i + 1) levels))) (other_id _ _ is)) ∙ so_far

pub none_left : (levels : List Level) (id n : ℕ) → length levels ≤ n → message_named n id (drop n levels) ≡ message_named 0 id levels → Finds levels (message_named 0 id levels) None
none_left levels id n h so_far = sym so_far ∙ ap (message_named n id) (drop_all n levels h)

-- ---- message by message

module _ (version : ℕ) (more : Bool) (olds news : List Level) (whole : Option Difference) where
  abbrev here : Level → Option Difference
  here old = message_differs version more old (message_named 0 (out-Level old).id news)

  messages_step : (i : ℕ) (old : Level) → slice_get olds i ≡ Some old → messages_differ version more (drop i olds) news ≡ or_else (here old) (messages_differ version more (drop (i + 1) olds) news)
  messages_step i old at = ap (λ l. messages_differ version more l news) (drop_at olds i old at)

  pub messages_go : (i : ℕ) (old : Level) (x : Option Difference) → slice_get olds i ≡ Some old → x ≡ here old → x ≡ None →
      messages_differ version more (drop i olds) news ≡ whole → messages_differ version more (drop (i + 1) olds) news ≡ whole
  messages_go i old x at is none so_far =
      sym (messages_step i old at ∙ ap (λ d. or_else d (messages_differ version more (drop (i + 1) olds) news)) (sym is ∙ none)) ∙ so_far

  pub messages_stop : (i : ℕ) (old : Level) (x : Option Difference) (d : Difference) → slice_get olds i ≡ Some old → x ≡ here old → x ≡ Some d →
      messages_differ version more (drop i olds) news ≡ whole → Some d ≡ whole
  messages_stop i old x d at is some so_far =
      sym (messages_step i old at ∙ ap (λ d. or_else d (messages_differ version more (drop (i + 1) olds) news)) (sym is ∙ some)) ∙ so_far

-- ---- one message

pub found_is : (levels : List Level) (sought : Option (ℕ × Level)) (i : ℕ) (level : Level) → Finds levels sought (Some i) → slice_get levels i ≡ Some level → sought ≡ Some (i, level)
found_is levels sought i level found at = found.2 ∙ ap (λ l. Some (i, l)) (some_is (sym found.1 ∙ at))

pub found_within : (levels : List Level) (sought : Option (ℕ × Level)) (i : ℕ) → Finds levels sought (Some i) → i < length levels
found_within levels sought i found = slice_get_within levels i found.0 found.1

pub message_missing : (version : ℕ) (more : Bool) (old : Level) (levels : List Level) (sought : Option (ℕ × Level)) → Finds levels sought None →
    differs (out-Level old).name reason.Message ≡ message_differs version more old sought
message_missing version more old levels sought none = ap (message_differs version more old) (sym none)

pub message_renamed : (version : ℕ) (more : Bool) (old new : Level) (i : ℕ) (sought : Option (ℕ × Level)) → sought ≡ Some (i, new) → bytes_eq (out-Level old).name (out-Level new).name ≡ false →
    differs (out-Level old).name reason.Message ≡ message_differs version more old sought
message_renamed version more old new i sought is other =
    sym (ap (message_differs version more old) is
    ∙ ap (λ t. cond t (in_part (out-Level old).name (level_differs version more old new)) (differs (out-Level old).name reason.Message)) other)

pub message_inside : (version : ℕ) (more : Bool) (old new : Level) (i : ℕ) (sought : Option (ℕ × Level)) (x d : Option Difference) → sought ≡ Some (i, new) →
    bytes_eq (out-Level old).name (out-Level new).name ≡ true → x ≡ level_differs version more old new → d ≡ in_part (out-Level old).name x → d ≡ message_differs version more old sought
message_inside version more old new i sought x d is same inner outer =
    outer ∙ ap (in_part (out-Level old).name) inner
    ∙ sym (ap (message_differs version more old) is
    ∙ ap (λ t. cond t (in_part (out-Level old).name (level_differs version more old new)) (differs (out-Level old).name reason.Message)) same)
