-- The front was moved up to the rest, so the bytes held are both, and no line feed is among them.
use Rattle.std.proofs.Common.{◌≡◌, ℕ, List, ◌+◌, ◌-◌, ◌++◌, length, take, drop, sym, ◌∙◌, ap, subst, arith}
use Rattle.scq_frames.specs.Exports.{HasNoLineFeed}
use Rattle.scq_frames.proofs.PartLemmas.{part-cut, clear_from_part, length-part}
use Rattle.scq_frames.proofs.TrimLemmas.{clear-cut}
use Rattle.scq_frames.proofs.window.Window.cut.Goals as goal

pub invariant_of-self : goal.invariant_of-self
invariant_of-self c =
    let w = c.self.inside in
    let room = c.close_gap.new.room.items in
    let from = c.args.from in
    let to = c.args.to in
    let len = c.close_gap.ensures.len in
    let held : length c.args.self.now ≡ w.end - w.start =
    subst (λ (bytes : List ℕ). length bytes ≡ w.end - w.start) c.self.view_is (length-part w.room.items w.start w.end c.self.invariant.end) in
    let view = part-cut w.room.items room w.start from to w.end c.requires.ordered (omega arith) c.close_gap.ensures.moved c.close_gap.ensures.behind
    ∙ ap (λ (l : List ℕ). take from l ++ drop to l) c.self.view_is in
    record {
      start = omega arith;
      searched = omega arith;
      end = omega (arith, len, c.self.invariant.end);
      clear =
          clear_from_part room (w.start + (to - from)) w.end (omega (arith, len, c.self.invariant.end))
          (subst (λ (l : List ℕ). HasNoLineFeed l 0 (length l)) (sym view) (clear-cut from to c.args.self.now c.requires.clear));
    }

pub returns : goal.returns
returns c =
    let w = c.self.inside in
    let from = c.args.from in
    let to = c.args.to in
    let held : length c.args.self.now ≡ w.end - w.start =
    subst (λ (bytes : List ℕ). length bytes ≡ w.end - w.start) c.self.view_is (length-part w.room.items w.start w.end c.self.invariant.end) in
    part-cut w.room.items c.close_gap.new.room.items w.start from to w.end c.requires.ordered (omega arith) c.close_gap.ensures.moved c.close_gap.ensures.behind
    ∙ ap (λ (l : List ℕ). take from l ++ drop to l) c.self.view_is
