-- The next level in a list of levels.
use Rattle.std.proofs.Common.{◌≡◌, ℕ, ◌+◌, ◌<◌, cond, List, length, drop, get_or, Some, sym, ap, ◌∙◌, add-one}
use Rattle.std.specs.Str.{bytes_eq}
use Rattle.sbe_types.specs.declared.schema.Level.{Level, out-Level}
use Rattle.line_values.proofs.NameSteps.{there}
use Rattle.line_reading.specs.Lines.{level_named}
use Rattle.line_reading.specs.Code.{template}

pub level_next : (s : List ℕ) (levels : List Level) (i : ℕ) (level : Level) → i < length levels → level ≡ get_or levels i level
    → level_named i (drop i levels) s ≡ cond (bytes_eq (out-Level level).name s) (Some (template i level)) (level_named (i + 1) (drop (i + 1) levels) s)
level_next s levels i level h is =
    ap (λ xs. level_named i xs s) (there levels i level h is) ∙ ap (λ n. cond (bytes_eq (out-Level level).name s) (Some (template i level)) (level_named n (drop (i + 1) levels) s)) (sym (add-one i))
