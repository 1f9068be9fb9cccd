-- Which words ask for a page about the program itself.
use Rattle.std.specs.Prelude.{List, [], ◌∷◌, ℕ, codes, Option, Some, None, if◌then◌else◌, ◌||◌}
use Rattle.std.specs.Str.{bytes_eq}
use Rattle.sbe.specs.declared.pages.Page.{Page}
use Rattle.sbe.specs.declared.pages.Page.TheVariants.{Help, Version}

-- `--help` and `-h` ask for help, and `--version` for the version
abbrev pub named_page : List ℕ → Option Page
named_page word =
    if bytes_eq word (codes "--help") || bytes_eq word (codes "-h") then Some Help
    else (if bytes_eq word (codes "--version") then Some Version else None)

-- The page that words ask for, if they are a single word that names one.
abbrev pub page_of : List (List ℕ) → Option Page
page_of [] = None
page_of (word ∷ []) = named_page word
page_of (word ∷ next ∷ more) = None
