use Rattle.std.proofs.Common.{◌≡◌, ◌+◌, ◌∙◌, ap, sym, take, length, ◌++◌, rules, FitsSigned, to_z, of_z, to_z-of_z}
use mir.Syntax.{w128}
use Rattle.std.specs.Prelude.{Some}
use Rattle.sbe_types.specs.Numbers.{bytes_of}
use Rattle.kind_bytes.specs.Members.{followed_by}
use Rattle.typed_writer.specs.Held.{Filled}
use Rattle.typed_writer.proofs.Lists.{front_put}
use Rattle.typed_writer.proofs.room.Room.number.Goals as goal

pub returns-clause-bytes : goal.returns-clause-bytes
returns-clause-bytes c =
    let k = c.self.inside.len in
    let xs = c.deref_mut.result.now in
    let front : take k xs ≡ c.args.self.now.bytes = ap (take k) c.deref_mut.ensures.value ∙ ap (λ (h : Filled). h.bytes) c.self.view_is in
    let long : length (take k xs) + length c.put_num.new.out ≡ k + c.width.result = search rules in
    let n_fits : FitsSigned w128 c.args.n = search rules in
    let same : to_z w128 (of_z w128 c.args.n) ≡ c.args.n = to_z-of_z n_fits in
    ap (λ n. followed_by c.args.self.now.bytes (bytes_of c.args.order c.args.prim n)) (sym same)
    ∙ ap (followed_by c.args.self.now.bytes) c.put_num.ensures.bytes
    ∙ ap (λ z. Some (z ++ c.put_num.new.out)) (sym front)
    ∙ ap Some (sym (front_put (k + c.width.result) _ (take k xs) c.put_num.new.out _ _ long (search rules)))
