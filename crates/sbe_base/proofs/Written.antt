-- Texts that are written one after another.
use Rattle.std.proofs.Common.{◌≡◌, ℕ, ◌+◌, ◌-◌, ◌≤◌, Bool, true, false, List, [], ◌++◌, length, take, drop, Option, Some, None, Result, Ok, Err, refl, sym, ap, ◌∙◌, subst, append_assoc, append-nil}
use Rattle.std.specs.Io.KnownBytes.{Appends, Keeps}
use Rattle.sbe_base.specs.Causes.{Rose}
use Rattle.sbe_base.specs.Objects.{Object}
use Rattle.sbe_base.specs.Writes.{WroteAll, WrotePart, Ends, Writes}
use Rattle.sbe_base.specs.declared.stream.WriteFault.{WriteFault}
use Rattle.sbe_base.proofs.Known.{appends_more, appends_kept, part_of_front, front_more}

-- no bytes are appended
pub appends_nothing : (told : Option (List ℕ)) → Appends told told []
appends_nothing None = tt
appends_nothing (Some xs) = sym (append-nil xs)

-- nothing is written
pub wrote_nothing : {a : Object (List ℕ)} → WroteAll a a []
wrote_nothing {a} = record { all = appends_nothing a.told; kept = refl }

-- a front of a text is a front of what is longer
pub longer_part : {a b : Object (List ℕ)} {x : List ℕ} (y : List ℕ) → WrotePart a b x → WrotePart a b (x ++ y)
longer_part y h = record {
  part = (h.part.0, h.part.1 ++ y, ap (λ r. r ++ y) h.part.2 ∙ append_assoc h.part.0 h.part.1 y, h.part.3);
  failed = h.failed;
}

-- a text after one that was written
pub ends_more : {a b : Object (List ℕ)} {x : List ℕ} (c : Object (List ℕ)) (y : List ℕ) (failed : Bool) → WroteAll a b x → Ends failed b c y → Ends failed a c (x ++ y)
ends_more {a} {b} {x} c y false h k = record { all = appends_more a.told b.told c.told x y h.all k.all; kept = k.kept ∙ h.kept }
ends_more {a} {b} {x} c y true h k = record {
  part = (x ++ k.part.0, k.part.1, ap (λ r. x ++ r) k.part.2 ∙ sym (append_assoc x k.part.0 k.part.1), appends_more a.told b.told c.told x k.part.0 h.all k.part.3);
  failed = record { rose = subst (λ n. Rose n c.faults) h.kept k.failed.rose; later = subst (λ n. n ≤ c.faults) h.kept k.failed.later };
}

-- the same by the result of a call
pub writes_more : {a b : Object (List ℕ)} {x : List ℕ} (c : Object (List ℕ)) (y : List ℕ) (r : Result (Unit {0}) WriteFault) → WroteAll a b x → Writes b c y r → Writes a c (x ++ y) r
writes_more c y (Ok done) h k = ends_more c y false h k
writes_more c y (Err fault) h k = ends_more c y true h k

module _ {a b c : Object (List ℕ)} (bytes : List ℕ) (done : ℕ) (so_far : WroteAll a b (take done bytes)) where
  -- a call that took a front of the rest
  pub took_more : (n : ℕ) → Appends b.told c.told (take n (take (length bytes - done) (drop done bytes))) → c.faults ≡ b.faults → WroteAll a c (take (done + n) bytes)
  took_more n taken kept = subst (WroteAll a c) (sym (front_more bytes done n)) (ends_more c _ false so_far (record { all = taken; kept = kept }))

  -- a call that failed and took none
  pub took_none : Keeps b.told c.told → b.faults ≤ c.faults → Rose b.faults c.faults → WrotePart a c bytes
  took_none keeps later rose = record {
    part = part_of_front a.told c.told bytes done (appends_kept a.told b.told c.told (take done bytes) so_far.all keeps);
    failed = record { rose = subst (λ n. Rose n c.faults) so_far.kept rose; later = subst (λ n. n ≤ c.faults) so_far.kept later };
  }
