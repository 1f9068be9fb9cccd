use Rattle.std.proofs.Common.{◌≡◌, ◌∙◌, ap, sym, false, ◌∷◌, [], ◌++◌, List, map, ℕ}
use Rattle.std.specs.Prelude.{Vec}
use Rattle.std.specs.List.{list_any}
use Rattle.std.specs.Str.{bytes_eq}
use Rattle.std.specs.declared.alloc.Global.{Global}
use Rattle.type_check.proofs.Seen.{any_seen, pushed_seen}
use Rattle.type_check.proofs.name_table.NameTable.push.Goals as goal

pub returns-clause-ok : goal.returns-clause-ok
returns-clause-ok c =
    let seen : Vec ℕ Global → List ℕ = λ v. v.items in
    let ks : List (Vec ℕ Global) = c.self.inside.names.keys in
    let was : map seen ks ≡ c.args.self.now = c.self.view_is in
    let is : c.in_ok-name.name.items ≡ c.args.name.now = c.in_ok-name.ensures.items in
    let fresh : list_any (λ (k : Vec ℕ Global). bytes_eq c.in_ok-name.name.items k.items) ks ≡ false =
    any_seen seen (bytes_eq c.in_ok-name.name.items) ks ∙ ap (λ (n : List ℕ). list_any (bytes_eq n) (map seen ks)) is ∙ ap (list_any (bytes_eq c.args.name.now)) was ∙ c.requires in
    ap (map seen) c.in_ok-insert.ensures.keys
    ∙ pushed_seen seen (bytes_eq []) ks c.in_ok-name.name (list_any (λ (k : Vec ℕ Global). bytes_eq c.in_ok-name.name.items k.items) ks) fresh
    ∙ ap (λ (n : List ℕ). map seen ks ++ n ∷ []) is ∙ ap (λ (ns : List (List ℕ)). ns ++ c.args.name.now ∷ []) was
