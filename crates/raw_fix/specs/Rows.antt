-- Streams on which the definitions are computed. Own profile.
use Rattle.std.specs.Prelude.{ℕ, List, [], ◌∷◌, ◌++◌, codes}
use Rattle.std.specs.Str.{bytes_eq}
use Rattle.raw_fix.specs.declared.code.PCode.{PCode}
use Rattle.tagvalue_codec.specs.Fields.{soh}
use Rattle.raw_fix.specs.Raw.{Texts, Item, Garbled}

-- a text of 26 bytes
abbrev pub heartbeat : List ℕ
heartbeat = codes "8=FIX.4.4" ++ soh ∷ (codes "9=5" ++ soh ∷ (codes "35=0" ++ soh ∷ (codes "10=163" ++ soh ∷ [])))

-- the same with a wrong sum
abbrev pub broken : List ℕ
broken = codes "8=FIX.4.4" ++ soh ∷ (codes "9=5" ++ soh ∷ (codes "35=0" ++ soh ∷ (codes "10=164" ++ soh ∷ [])))

-- only that one text is a text
abbrev pub only_heartbeat : Texts
only_heartbeat = record { is_text = λ bytes. bytes_eq bytes heartbeat; most = 58 }

-- an item of garbled bytes
abbrev pub garbled : PCode → List ℕ → Item
garbled code bytes = record { kind = Garbled code; bytes = bytes }
