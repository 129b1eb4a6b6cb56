-- A worker that has retired, and what its sweeps and rests make of it.
use Rattle.std.proofs.Common.{◌≡◌, ◌∙◌, ap, sym, subst, ℕ, ◌+◌, List, length, Option, Some}
use Rattle.scq_band.specs.Exports.{Identity}
use Rattle.scq_queue.specs.Exports.{PassStanding, HeldStanding}
use Rattle.scq_files.specs.declared.own_file.OwnFile.{OwnFile}
use Rattle.scq_passes.specs.Exports.{HasTaken, after_retire, IsReturn, SweepsInVain}
use Rattle.scq_passes.proofs.Vain.{sweeps-begin}
use Rattle.scq_files.specs.Exports.{SourceOf}
use Rattle.scq_worker.specs.Exports.{IsToSweep, takes_behind}
use Rattle.scq_worker.specs.declared.job.Job.{Job}
use Rattle.scq_worker.specs.declared.worker.Worker.{Worker}
use Rattle.scq_desk.proofs.Passes.{none-or}
use Rattle.scq_worker.proofs.Produced.{queue-swept}
use Rattle.scq_rest.specs.Exports.{HasLeftTold, HasSweptTold, HasWaited}

module _ {B : Type 0} where
  -- one that met a ticket past the limit is asked for nothing more
  pub waited-spent : (contents : B → List ℕ) (topics behind rests ticket : ℕ) (p : PassStanding B) → p.spent ≡ Some ticket
      → HasWaited contents topics behind rests p
  waited-spent contents topics behind rests ticket p is = record {
    told = λ none. absurd (none-or p.spent ticket is none);
    vain = λ none. absurd (none-or p.spent ticket is none);
    left = λ none. absurd (none-or p.spent ticket is none);
  }

module _ {B Place S : Type 0} (shared : Identity B) (job : Job) (src : SourceOf S) (files : List (OwnFile S)) (was now : Worker B Place) (kept : Option (HeldStanding B))
    (t : IsToSweep shared job.topics job.size job.most job.longest src files was.pass was.members was.starved kept) where
  -- it asked nothing before
  pub sweep-unasked : was.pass.gates ≡ 0
  sweep-unasked = ap (λ (p : PassStanding B). p.gates) t.retired ∙ t.work.passed.producing.unasked

  left-told : (contents : B → List ℕ) (topics rests : ℕ) → HasTaken was.pass now.pass → HasSweptTold contents shared IsReturn topics rests was.pass now.pass
      → HasLeftTold contents IsReturn topics rests now.pass
  left-told contents topics rests taken end = record {
    before = t.before;
    unasked = t.work.passed.producing.unasked;
    swept = subst (λ (k : Identity B). HasSweptTold contents k IsReturn topics rests (after_retire t.before) now.pass)
        (sym (queue-swept shared job src files was now kept t taken))
        (subst (λ (x : PassStanding B). HasSweptTold contents shared IsReturn topics rests x now.pass) t.retired end);
  }

  -- it swept and rested until it was told
  pub waited-told : (contents : B → List ℕ) (first rests n : ℕ) → n ≡ length job.topics → HasTaken was.pass now.pass
      → HasSweptTold contents shared IsReturn (n + 1) rests was.pass now.pass → now.pass.gate ≡ Some 0
      → ((behind : ℕ) → SweepsInVain (n + 1) behind 0 first was.pass → SweepsInVain (n + 1) behind 1 rests now.pass)
      → HasWaited contents (length job.topics + 1) (takes_behind job.most) rests now.pass
  waited-told contents first rests n many taken end told more =
      record {
        told = λ awake. told;
        vain = λ awake. subst (λ m. SweepsInVain (m + 1) (takes_behind job.most) 1 rests now.pass) many
            (more (takes_behind job.most) (subst (λ m. SweepsInVain (m + 1) (takes_behind job.most) 0 first was.pass) (sym many)
            (subst (λ (x : PassStanding B). SweepsInVain (length job.topics + 1) (takes_behind job.most) 0 first x) (sym t.retired)
            (sweeps-begin (length job.topics + 1) (takes_behind job.most) first t.before t.vain))));
        left = λ awake. subst (λ m. HasLeftTold contents IsReturn (m + 1) rests now.pass) many (left-told contents (n + 1) rests taken end);
      }
