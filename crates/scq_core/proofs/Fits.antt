-- Every word of a reachable state is one of 64 bits, with room for a step; what a step changes; catch-ups lag.
use Rattle.std.proofs.Common.{◌≡◌, ℕ, refl, arith}
use Rattle.scq_word.specs.declared.setup.Setup.{Setup}
use Rattle.std.specs.Prelude.{Some}
use Rattle.scq_core.specs.declared.step.Step.{Step}
use Rattle.scq_core.specs.Exports.{read, beside, location_of, writes, stores, after, step_of, IsReachable, RankRises, CountersRise, WordsFit}
use Rattle.scq_core.specs.Exports.{ChangesOne, CatchUpLags}
use Rattle.scq_core.specs.Machine.{Machine}
use Rattle.scq_core.proofs.UpdatedLemmas.{updated_else}
use Rattle.scq_core.proofs.Turns.{turned}
use Rattle.scq_core.proofs.Entries.{limit_low, few_seats, zero_level_is, reset_small, word_fits}
use Rattle.scq_core.proofs.Ranks.{rank_rises, counters_rise}
use Rattle.scq_core.proofs.Steady.{has, steady}
use Rattle.scq_core.proofs.Limits.{counters_bounded, cycles_bounded}
use Rattle.scq_core.proofs.Floor.{threshold_floor}

-- every word fits
pub words_fit : (c : Setup) (m : Machine) → IsReachable c m → WordsFit c m.cells
words_fit c m reach =
    let bounds = counters_bounded c m reach in
    let levels = threshold_floor c m reach in
    let cycles = cycles_bounded c m reach in
    let limit = limit_low c in
    let seats = few_seats c in
    let level = zero_level_is in
    let reset = reset_small c in
    let spent = bounds.spent in
    record {
      tail = λ r. let le = bounds.tail r in omega arith;
      head = λ r. let le = bounds.head r in omega arith;
      threshold = λ r. let low = levels.floor r in let high = levels.ceiling r in (omega arith, omega arith);
      entry = λ r s. word_fits c (m.cells.entries.word r s) (cycles.cycles r s);
    }

-- a step from a reachable state lowers no rank and no counter
pub step_rises : (c : Setup) (m m' : Machine) (k : ℕ) (s : Step) → IsReachable c m → step_of c m k s ≡ Some m'
    → RankRises c m.cells m'.cells × CountersRise m.cells m'.cells
step_rises c m m' k s reach e =
    let t = turned c m k s m' e in
    let p = m.part k in
    let was = has c m.cells p s t.turn ((steady c m reach).busy k) t.enabled in
    rw t.next (rank_rises c m.cells p.hand t.turn was, counters_rise c m.cells p.hand t.turn was)

-- a step changes one word and one part
pub step_changes : (c : Setup) (m m' : Machine) (k : ℕ) (s : Step) → step_of c m k s ≡ Some m' → ChangesOne m k m'
step_changes c m m' k s e =
    let t = turned c m k s m' e in
    let x = read m.cells (location_of c t.turn) in
    let y = beside m.cells (location_of c t.turn) in
    rw t.next
    (record {
      location = location_of c t.turn;
      value = writes c t.turn x;
      content = stores t.turn x y;
      cells = refl;
      parts = λ j apart. updated_else m.part k (after c t.turn x y (m.part k)) j apart;
      opening = refl;
    })

-- catch-ups lag
pub catch_up_lags : (c : Setup) (m : Machine) → IsReachable c m → CatchUpLags m
catch_up_lags c m reach =
    let all = steady c m reach in
    record {
      at_head = λ k r h from e. (rw e at (all.busy k)).2;
      at_tail = λ k r h from to e. (rw e at (all.busy k)).2;
    }
