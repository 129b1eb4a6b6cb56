-- The held bytes stand where `make_room` moved them, and `read_at` changed nothing before its position.
use Rattle.std.proofs.Common.{◌≡◌, ◌∙◌, ap, ℕ, ◌+◌, ◌-◌, ◌++◌, arith}
use Rattle.std.specs.Prelude.{slice_range}
use Rattle.scq_frames.specs.Exports.{HasNoLineFeed}
use Rattle.scq_frames.proofs.ResultLemmas.{on_err}
use Rattle.scq_frames.proofs.PartLemmas.{part_again, clear_again, part-append, length-part}
use Rattle.scq_frames.proofs.window.Window.read.Goals as goal
use Rattle.scq_frames.proofs.window.Window.read.Goals.{After-read_at}

-- the held bytes stand there at the end, and none that was searched is a line feed
again : (g : _) (c : After-read_at g) → let w = c.self.inside in let room = c.read_at.new.room.items in let from = c.in_ok-from.from in
    (slice_range room from (from + (w.end - w.start)) ≡ slice_range w.room.items w.start w.end) × HasNoLineFeed room from (from + (w.searched - w.start))
again g c =
    let w = c.self.inside in
    let room = c.read_at.new.room.items in
    let from = c.in_ok-from.from in
    let same = part_again w.room.items c.make_room.new.room.items room w.start w.end from c.in_ok-from.ensures.held c.read_at.ensures.before.before in
    (same, clear_again w.room.items room w.start w.searched w.end from same c.self.invariant.start c.self.invariant.searched c.self.invariant.clear)

pub invariant_of-self-in_err-got : goal.invariant_of-self-in_err-got
invariant_of-self-in_err-got g c = record {
  start = omega arith;
  searched = omega arith;
  end = omega (arith, c.read_at.new.room.ok.0, c.read_at.ensures.before.len, c.in_ok-from.ensures.enough);
  clear = (again g (goal.at.invariant_of-self-in_err-got g c).After-read_at).1;
}

pub returns-in_err-got-clause-unmoved : goal.returns-in_err-got-clause-unmoved
returns-in_err-got-clause-unmoved g c =
    on_err c.from_residual-in_err-got.result
    ((again g (goal.at.returns-in_err-got-clause-unmoved g c).After-read_at).0 ∙ c.self.view_is, c.in_err-got.ensures.unmoved)

pub invariant_of-self-2 : goal.invariant_of-self-2
invariant_of-self-2 g c = record {
  start = omega arith;
  searched = omega arith;
  end = omega (arith, c.read_at.new.room.ok.0, c.read_at.ensures.before.len, c.in_ok-from.ensures.enough, c.in_ok-got.ensures.came.few);
  clear = (again g (goal.at.invariant_of-self-2 g c).After-read_at).1;
}

pub returns-clause-reads : goal.returns-clause-reads
returns-clause-reads g c =
    let w = c.self.inside in
    let from = c.in_ok-from.from in
    let at : ℕ = from + (w.end - w.start) in
    let room = c.read_at.new.room.items in
    let got = c.in_ok-got.got in
    let same = (again g (goal.at.returns-clause-reads g c).After-read_at).0 in
    record {
      few = c.in_ok-got.ensures.came.few;
      bytes = slice_range room at (at + got);
      held = part-append room from at (at + got) (omega arith) (omega arith) ∙ ap (λ l. l ++ slice_range room at (at + got)) (same ∙ c.self.view_is);
      count = omega (
        arith,
        length-part room at (at + got)
            (omega (arith, c.read_at.new.room.ok.0, c.read_at.ensures.before.len, c.in_ok-from.ensures.enough, c.in_ok-got.ensures.came.few)),
      );
      moved = c.in_ok-got.ensures.came.moved;
      end = c.in_ok-got.ensures.came.end;
    }
