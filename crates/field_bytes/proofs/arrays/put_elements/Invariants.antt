use Rattle.std.proofs.Common.{◌≡◌, ◌*◌, None, Some, length, take, drop}
use Rattle.sbe_types.specs.Numbers.{prim_width}
use Rattle.sbe_types.specs.Wire.{elements_bytes}
use Rattle.sbe_wire.specs.Misfit.{elements_misfit}
use Rattle.field_bytes.proofs.arrays.put_elements.Given as goal

abbrev pub invariant-loop-i : goal.invariant-loop-i
invariant-loop-i l =
    record {
      long : length l.out ≡ prim_width l.leaf.prim * length l.elements;
      fits : elements_misfit l.leaf l.i (drop l.i l.elements) ≡ None;
      bytes : elements_bytes l.order l.leaf (take l.i l.elements) ≡ Some (take (prim_width l.leaf.prim * l.i) l.out);
    }
