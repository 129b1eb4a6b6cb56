use Rattle.std.proofs.Common.{◌≡◌, ◌≤◌, [], sym, subst, arith}
use Rattle.std.specs.Prelude.{Vec, vec_len, vec_capacity}
use Rattle.std.specs.Global.{Global}
use Rattle.std.specs.List.{All}
use Rattle.std.proofs.lemmas.List.Elements.{All-push}
use Rattle.scq_files.specs.declared.own_file.OwnFile.{OwnFile}
use Rattle.scq_files.proofs.own_lists.make_lists.Goals as goal

pub lists-preserved : goal.lists-preserved
lists-preserved g c =
    let inv = c.lists.invariant in
    let made = c.in_ok-with_capacity.ensures in
    let IsNew : Vec (OwnFile g.row.S.Denot) Global → Type 0 = λ list. (list.items ≡ []) × (vec_len list ≡ 0) × (c.args.files ≤ vec_capacity list) in
    record {
      count = let many = inv.count in let more = c.push_reserved.ensures.len in omega arith;
      room = let room = inv.room in let same = c.push_reserved.ensures.capacity in omega arith;
      each = subst (All IsNew) (sym c.push_reserved.ensures.items)
          (All-push IsNew c.lists.lists.items c.in_ok-with_capacity.field-0 inv.each (made.items, made.len, made.capacity));
    }
