-- Prints, one after another.
use Rattle.std.proofs.Common.{◌≡◌, ℕ, ◌-◌, Bool, true, false, List, [], ◌++◌, length, take, drop, Result, refl, sym, ap, ◌∙◌, subst, append_assoc, append-nil}
use Rattle.std.specs.Io.KnownBytes.{Appends}
use Rattle.std.proofs.lemmas.List.{take-append-drop, take_rest}
use Rattle.sbe_base.specs.Objects.{Object}
use Rattle.sbe_base.specs.Writes.{Ends, Writes}
use Rattle.sbe_base.specs.declared.stream.WriteFault.{WriteFault}
use Rattle.sbe_base.proofs.Written.{ends_more, longer_part, writes_more}
use Rattle.printers.specs.Chunks.{Gathered}
use Rattle.printers.specs.Prints.{StandsBy, Stands, Prints}
use Rattle.printers.specs.declared.printer.Printer.{Printer}

module _ {O : Type 0} {state : O → Object (List ℕ)} where
  -- one print after another
  pub then_prints : {a b c : Printer O} {x y : List ℕ} → Prints state a b x → Prints state b c y → Prints state a c (x ++ y)
  then_prints {a} {b} {c} {x} {y} h k = record {
    same_reference = k.same_reference ∙ h.same_reference;
    more = λ origin text s. subst (Stands state origin c) (append_assoc text x y) (k.more origin (text ++ x) (h.more origin text s));
  }

  -- the same text in another form
  pub reprinted : {a b : Printer O} {x y : List ℕ} → x ≡ y → Prints state a b x → Prints state a b y
  reprinted {a} {b} same h = subst (λ t. Prints state a b t) same h

  -- nothing is printed
  pub prints_nothing : {a : Printer O} → Prints state a a []
  prints_nothing {a} = record { same_reference = refl; more = λ origin text h. subst (Stands state origin a) (sym (append-nil text)) h }

-- ---- what a chunk holds

-- more bytes wait
waits_more : (failed : Bool) (origin sink : Object (List ℕ)) (waiting text bytes : List ℕ) → StandsBy failed origin sink waiting text → StandsBy failed origin sink (waiting ++ bytes) (text ++ bytes)
waits_more false origin sink waiting text bytes h = (h.0, ap (λ t. t ++ bytes) h.1 ∙ append_assoc h.0 waiting bytes, h.2)
waits_more true origin sink waiting text bytes h = longer_part bytes h

-- after a failed write nothing more is written
stays : (failed : Bool) (origin sink : Object (List ℕ)) (waiting text bytes : List ℕ) → failed ≡ true → StandsBy failed origin sink waiting text → StandsBy failed origin sink waiting (text ++ bytes)
stays true origin sink waiting text bytes is h = longer_part bytes h
stays false origin sink waiting text bytes is h = absurd cc

-- all that waits is written
drained : (failed late : Bool) (origin old new : Object (List ℕ)) (waiting text : List ℕ) → failed ≡ false → Ends late old new waiting → StandsBy failed origin old waiting text → Ends late origin new text
drained true late origin old new waiting text is ends h = absurd cc
drained false late origin old new waiting text is ends h = subst (Ends late origin new) (sym h.1) (ends_more new waiting late h.2 ends)

-- with nothing more that waits
none_waits : (failed : Bool) (origin sink : Object (List ℕ)) (text : List ℕ) → Ends failed origin sink text → StandsBy failed origin sink [] text
none_waits false origin sink text h = (text, sym (append-nil text), h)
none_waits true origin sink text h = h

module _ {O : Type 0} {state : O → Object (List ℕ)} where
  -- bytes are gathered
  pub gathers : {a b : Printer O} {bytes : List ℕ} → b.sink.ghost_name ≡ a.sink.ghost_name → b.sink.now ≡ a.sink.now → b.chunk.now ≡ record a.chunk.now { bytes = a.chunk.now.bytes ++ bytes } → Prints state a b bytes
  gathers {a} {b} {bytes} same sink chunk = record {
    same_reference = same;
    more = λ origin text h.
        subst (λ (o : O). StandsBy b.chunk.now.failed origin (state o) b.chunk.now.bytes (text ++ bytes)) (sym sink)
        (subst (λ (g : Gathered). StandsBy g.failed origin (state a.sink.now) g.bytes (text ++ bytes)) (sym chunk)
        (waits_more a.chunk.now.failed origin (state a.sink.now) a.chunk.now.bytes text bytes h));
  }

  -- nothing more is written after a fault
  pub ignores : {a : Printer O} {bytes : List ℕ} → a.chunk.now.failed ≡ true → Prints state a a bytes
  ignores {a} {bytes} failed = record { same_reference = refl; more = λ origin text h. stays a.chunk.now.failed origin (state a.sink.now) a.chunk.now.bytes text bytes failed h }

  -- what waits isn't written
  pub breaks : {a b : Printer O} {bytes : List ℕ} → a.chunk.now.failed ≡ false → b.sink.ghost_name ≡ a.sink.ghost_name → Ends true (state a.sink.now) (state b.sink.now) a.chunk.now.bytes → b.chunk.now.failed ≡ true → Prints state a b bytes
  breaks {a} {b} {bytes} was same ends is = record {
    same_reference = same;
    more = λ origin text h.
        subst (λ f. StandsBy f origin (state b.sink.now) b.chunk.now.bytes (text ++ bytes)) (sym is)
        (longer_part bytes (drained a.chunk.now.failed true origin (state a.sink.now) (state b.sink.now) a.chunk.now.bytes text was ends h));
  }

  -- what waits is written, and then bytes, or a front of them
  pub spills : {a b : Printer O} {bytes : List ℕ} (middle : O) (late : Bool) → a.chunk.now.failed ≡ false → b.sink.ghost_name ≡ a.sink.ghost_name → Ends false (state a.sink.now) (state middle) a.chunk.now.bytes
      → Ends late (state middle) (state b.sink.now) bytes → b.chunk.now ≡ record { bytes = []; failed = late } → Prints state a b bytes
  spills {a} {b} {bytes} middle late was same first second is = record {
    same_reference = same;
    more = λ origin text h.
        subst (λ (g : Gathered). StandsBy g.failed origin (state b.sink.now) g.bytes (text ++ bytes)) (sym is)
        (none_waits late origin (state b.sink.now) (text ++ bytes)
        (ends_more (state b.sink.now) bytes late (drained a.chunk.now.failed false origin (state a.sink.now) (state middle) a.chunk.now.bytes text was first h) second));
  }

-- the bytes that one call took, and then the rest
pub rest_written : (a b c : Object (List ℕ)) (bytes : List ℕ) (n : ℕ) (r : Result (Unit {0}) WriteFault) → Appends a.told b.told (take n bytes) → b.faults ≡ a.faults
    → Writes b c (take (length bytes - n) (drop n bytes)) r → Writes a c bytes r
rest_written a b c bytes n r taken kept rest =
    let whole : take n bytes ++ take (length bytes - n) (drop n bytes) ≡ bytes = ap (λ t. take n bytes ++ t) (take_rest bytes n) ∙ take-append-drop n bytes in
    subst (λ t. Writes a c t r) whole (writes_more c _ r (record { all = taken; kept = kept }) rest)
