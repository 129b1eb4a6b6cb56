use Rattle.std.proofs.Common.{◌∙◌, sym, ap, subst, ◌≡◌, ℕ, List, ◌+◌, ◌-◌, ◌≤◌, length, drop, arith}
use Rattle.scq_frames.proofs.PartLemmas.{drop-part, length-part}
use Rattle.scq_frames.proofs.window.Window.skip.Goals as goal

pub returns : goal.returns
returns c =
    let w = c.self.inside in
    let held : length c.args.self.now ≡ w.end - w.start =
    subst (λ (bytes : List ℕ). length bytes ≡ w.end - w.start) c.self.view_is (length-part w.room.items w.start w.end c.self.invariant.end) in
    let inside : w.start + c.args.len ≤ w.end = omega arith in
    sym (drop-part w.room.items w.start w.end c.args.len inside) ∙ ap (drop c.args.len) c.self.view_is
