-- Each part goes behind those that were passed on before it.
use Rattle.std.proofs.Common.{rules, ◌≡◌, ◌≤◌, ◌+◌, sym, subst, arith, ℕ, ◌++◌, ◌∷◌, [], List, map, length}
use Rattle.std.specs.List.{range_with_len}
use Rattle.std.proofs.lemmas.List.{length-append}
use Rattle.std.proofs.lemmas.List.FromFn.{length-map-range_with_len, map-range_with_len_more}
use Rattle.scq_frames.specs.declared.message.Message.{Message}
use Rattle.scq_frames.specs.Exports.{Part, part_of, parts_of, all_parts}
use Rattle.scq_worker.specs.Exports.{same-worker, ClosesWhereFull, HasGathered, gathered-along, gathered-nothing, still-along, still-same, stopped-along}
use Rattle.scq_files.proofs.Results.{err-of}
use Rattle.scq_worker.proofs.Going.{closes-more, closes-nothing, stopped-within}
use Rattle.scq_worker.proofs.worker.Worker.pass_on.Goals as goal

-- the first parts of a message
abbrev first : ℕ → Message → ℕ → List Part
first size m count = map (part_of size m) (range_with_len 1 count)

-- one part more
grown : (size before : ℕ) (m : Message) → first size m before ++ part_of size m (before + 1) ∷ [] ≡ first size m (before + 1)
grown size before m = sym (map-range_with_len_more (part_of size m) 1 before (before + 1) (omega arith))

-- so many are no more than all
within : (size before : ℕ) (m : Message) → before + 1 ≤ parts_of size m.payload
    → length (first size m before ++ part_of size m (before + 1) ∷ []) ≤ length (all_parts size m)
within size before m low =
    let short : length (first size m before) ≡ before = length-map-range_with_len (part_of size m) 1 before in
    let long : length (all_parts size m) ≡ parts_of size m.payload = length-map-range_with_len (part_of size m) 1 (parts_of size m.payload) in
    omega (arith, low, short, long, length-append (first size m before) (part_of size m (before + 1) ∷ []))

pub parts-init : goal.parts-init
parts-init g c = record {
  gathered = gathered-nothing c.args.queue.now c.args.job.now c.args.self.now (g.W.Bell.seen c.args.stand.now) c.requires.suits c.requires.stays
      c.requires.opens;
  closes = closes-nothing c.args.job.now.most c.args.message.now.topic c.args.self.now;
  still = still-same c.args.self.now (g.W.Bell.seen c.args.stand.now);
}

pub parts-preserved : goal.parts-preserved
parts-preserved g c =
    let inv = c.parts.invariant in
    let q = c.args.queue.now in
    let job = c.args.job.now in
    let m = c.args.message.now in
    let start = c.args.self.now in
    let old = c.parts.self in
    let now = c.pass_part.new.self in
    let wakes = g.W.Bell.seen in
    let kept = g.W.Bell.seen in
    record {
      gathered = subst (λ (l : List Part). HasGathered q job l start now (wakes c.args.stand.now) (wakes c.pass_part.new.stand))
          (grown job.size c.parts.before m)
          (gathered-along q job (first job.size m c.parts.before) (part_of job.size m (c.parts.before + 1) ∷ []) start old now
          (wakes c.args.stand.now) (wakes c.parts.stand) (wakes c.pass_part.new.stand) (same-worker (wakes c.args.stand.now) (wakes c.parts.stand) inv.still.bell) inv.gathered
          c.in_ok-pass_part.ensures.gathered);
      closes = subst (λ (l : List Part). ClosesWhereFull job.most m.topic l start now) (grown job.size c.parts.before m)
          (closes-more job.most m.topic (first job.size m c.parts.before) (part_of job.size m (c.parts.before + 1)) start old now
          c.pass_part.ensures.still.starved inv.closes c.in_ok-pass_part.ensures.closes);
      still = still-along start old now (kept c.args.stand.now) (kept c.parts.stand) (kept c.pass_part.new.stand) inv.still c.pass_part.ensures.still;
    }

pub pass_part-requires-clause-bell : goal.pass_part-requires-clause-bell
pass_part-requires-clause-bell g c κs within =
    subst (λ k. g.W.Bell.fits c.args.bell.now k c.args.job.now.workers) (sym c.parts.invariant.still.bell) c.requires.bell

-- a part met Spent
pub returns-in_err-pass_part-clause-left : goal.returns-in_err-pass_part-clause-left
returns-in_err-pass_part-clause-left g c =
    let q = c.args.queue.now in
    let job = c.args.job.now in
    let m = c.args.message.now in
    let start = c.args.self.now in
    let now = c.pass_part.new.self in
    let held = c.in_err-pass_part.field-0.0.held in
    let front = first job.size m c.parts.before in
    let one : List Part = part_of job.size m (c.parts.before + 1) ∷ [] in
    let few : c.parts.before + 1 ≤ parts_of job.size m.payload = omega arith in
    err-of _ c.from_residual.result c.in_err-pass_part.field-0.0 (search rules)
    (stopped-within q job (front ++ one) (all_parts job.size m) start now held (within job.size c.parts.before m few)
    (stopped-along q job front one start c.parts.self now (g.W.Bell.seen c.args.stand.now) (g.W.Bell.seen c.parts.stand) held
    c.parts.invariant.gathered c.in_err-pass_part.ensures.left))

pub returns-in_err-pass_part-clause-still : goal.returns-in_err-pass_part-clause-still
returns-in_err-pass_part-clause-still g c =
    let kept = g.W.Bell.seen in
    still-along c.args.self.now c.parts.self c.pass_part.new.self (kept c.args.stand.now) (kept c.parts.stand) (kept c.pass_part.new.stand)
    c.parts.invariant.still c.pass_part.ensures.still
