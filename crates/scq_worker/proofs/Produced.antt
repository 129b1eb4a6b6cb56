-- A worker that has read its files and retired, and what becomes of it by its sweeps.
use Rattle.std.proofs.Common.{◌≡◌, sym, ◌∙◌, ap, subst, arith, ℕ, ◌+◌, ◌<◌, List, [], length, Option, None, Bool}
use Rattle.scq_topics.specs.declared.kind.Kind.{Kind}
use Rattle.scq_collect.specs.declared.answered.Answered.{Answered}
use Rattle.scq_band.specs.Exports.{Identity}
use Rattle.scq_queue.specs.Exports.{PassStanding, HeldStanding, first_pass, known_on}
use Rattle.scq_files.specs.Exports.{StopsAtAFault, all_given, AreRead, SourceOf}
use Rattle.scq_worker.specs.Exports.{IsToSweep, HasProduced, HasRun, takes_behind, parts_in, HasAnswered, IsAtWork, HasStopped, Seated}
use Rattle.scq_worker.specs.Exports.{HasAnsweredAll}
use Rattle.scq_passes.specs.Exports.{HasLeftSwept, HasSweptLast, IsReturn, HelpsInVain, Suits, HasTaken, HasLeft, after_retire}
use Rattle.scq_files.specs.declared.own_file.OwnFile.{OwnFile}
use Rattle.scq_worker.specs.declared.job.Job.{Job}
use Rattle.scq_worker.specs.declared.worker.Worker.{Worker}
use Rattle.scq_desk.proofs.Passes.{none-or}
use Rattle.scq_worker.proofs.RunLemmas.{run-left, run-late, run-stopped}

module _ {B : Type 0} where
  -- a new pass took nothing in vain
  pub vain-first : (shared : Identity B) (topics behind number : ℕ) (p : PassStanding B) → p ≡ first_pass shared number → HelpsInVain topics behind p
  vain-first shared topics behind number p is = subst (λ (q : PassStanding B). HelpsInVain topics behind q) (sym is) (omega arith)

  -- that it has retired makes no difference to whether it suits, nor to what it took
  pub suits-retired : (shared : Identity B) (topics : ℕ) (p : PassStanding B) → Suits shared topics p → Suits shared topics (after_retire p)
  suits-retired shared topics p was = record { queue = was.queue; rings = was.rings; numbers = was.numbers; spent = was.spent }

  answered-awake : (topics : List (List ℕ × Kind)) (p q : PassStanding B) (was is : List Answered) → HasAnswered topics (after_retire p) q was is
      → HasAnswered topics p q was is
  answered-awake topics p q was is h = record { takes = h.takes; directs = h.directs }

module _ {B S : Type 0} (shared : Identity B) (topics : List (List ℕ × Kind)) (size most longest : ℕ) (src : SourceOf S) (files : List (OwnFile S)) where
  -- it has passed all on, and retired
  pub produced-awake : (p q : PassStanding B) (was is : List Answered) (before after : Bool) (kept : Option (HeldStanding B))
      → AreRead topics longest src files → StopsAtAFault files → Suits shared (length topics) p
      → IsAtWork topics most (parts_in size (all_given files)) [] p was before
      → HelpsInVain (length topics + 1) (takes_behind most) p → q ≡ after_retire p → is ≡ was → after ≡ before → kept ≡ None
      → HasProduced shared topics size most longest src files q is after kept
  produced-awake p q was is before after kept read stops suits work vain retired members starved none =
      record {
        awake = λ awake. record {
          read = read;
          stops = stops;
          before = p;
          retired = retired;
          suits = suits;
          work = subst (λ (s : Bool). IsAtWork topics most (parts_in size (all_given files)) [] p is s) (sym starved)
              (subst (λ (l : List Answered). IsAtWork topics most (parts_in size (all_given files)) [] p l before) (sym members) work);
          vain = vain;
          none = none;
        };
        done = λ ticket spent. absurd (none-or q.spent ticket spent (ap (λ (x : PassStanding B). x.spent) retired ∙ suits.spent));
      }

  -- it met a ticket past the limit, and retired
  pub produced-stopped : (p q : PassStanding B) (is : List Answered) (after : Bool) (kept held : Option (HeldStanding B))
      → AreRead topics longest src files → StopsAtAFault files → HasStopped shared (length (parts_in size (all_given files))) p held
      → q ≡ after_retire p → kept ≡ held
      → HasProduced shared topics size most longest src files q is after kept
  produced-stopped p q is after kept held read stops end retired same =
      record {
        awake = λ awake. absurd (none-or q.spent end.spent.0 (ap (λ (x : PassStanding B). x.spent) retired ∙ end.spent.1) awake);
        done = λ ticket spent.
            run-stopped shared topics size most longest src files p q is after kept held read stops end retired same;
      }

module _ {B Place S : Type 0} (shared : Identity B) (job : Job) (src : SourceOf S) (files : List (OwnFile S)) (was now : Worker B Place) (kept : Option (HeldStanding B))
    (t : IsToSweep shared job.topics job.size job.most job.longest src files was.pass was.members was.starved kept) where
  -- so its calls find its pass
  pub sweep-suits : Suits shared (length job.topics) was.pass
  sweep-suits = subst (λ (x : PassStanding B). Suits shared (length job.topics) x) (sym t.retired) (suits-retired shared (length job.topics) t.before t.suits)

  -- it has swept, and left
  pub swept-out : (n : ℕ) → n ≡ length job.topics → HasTaken was.pass now.pass
      → ((k : ℕ) → k < n + 1 → (known_on k now.pass).finished < (known_on k now.pass).head) → HasAnsweredAll job.topics was now
      → HasRun shared job.topics job.size job.most job.longest src files now.pass now.members now.starved kept
  swept-out n many taken past made =
      run-left shared job.topics job.size job.most job.longest src files t.before now.pass was.members now.members was.starved now.starved
      kept t.read t.stops t.suits t.work (subst (λ (x : PassStanding B). HasTaken x now.pass) t.retired taken)
      (subst (λ m. (k : ℕ) → k < m + 1 → (known_on k now.pass).finished < (known_on k now.pass).head) many past) made.fed
      (λ all. answered-awake job.topics t.before now.pass was.members now.members
      (subst (λ (x : PassStanding B). HasAnswered job.topics x now.pass was.members now.members) t.retired (made.answered all))) t.none

  -- it met a ticket past the limit in a sweep, and keeps what came back
  pub late-out : (seat : Seated B Place) (held : Option (HeldStanding B)) → ((n : ℕ) → HasLeft n n was.pass now.pass held) → seat.worker ≡ now → seat.kept ≡ held
      → HasRun shared job.topics job.size job.most job.longest src files seat.worker.pass seat.worker.members seat.worker.starved seat.kept
  late-out seat held end same keeps =
      let n = length (parts_in job.size (all_given files)) in
      subst (λ (w : Worker B Place). HasRun shared job.topics job.size job.most job.longest src files w.pass w.members w.starved seat.kept) (sym same)
      (run-late shared job.topics job.size job.most job.longest src files t.before now.pass was.members now.members was.starved now.starved
      seat.kept held t.read t.stops t.suits t.work (subst (λ (x : PassStanding B). HasLeft n n x now.pass held) t.retired (end n)) keeps)

  -- its queue, once it has swept
  pub queue-swept : HasTaken was.pass now.pass → now.pass.queue ≡ shared
  queue-swept taken =
      ap (λ (x : PassStanding B). x.queue) taken.pass ∙ ap (λ (x : PassStanding B). x.queue) t.retired ∙ t.suits.queue

  -- it swept until it left
  pub left-swept : (contents : B → List ℕ) (n : ℕ) → n ≡ length job.topics → HasTaken was.pass now.pass
      → HasSweptLast contents shared IsReturn (n + 1) 64 was.pass now.pass → HasLeftSwept contents IsReturn (length job.topics + 1) 64 now.pass
  left-swept contents n many taken end = record {
    before = t.before;
    unasked = t.work.passed.producing.unasked;
    swept = subst (λ m. HasSweptLast contents now.pass.queue IsReturn (m + 1) 64 (after_retire t.before) now.pass) many
        (subst (λ (k : Identity B). HasSweptLast contents k IsReturn (n + 1) 64 (after_retire t.before) now.pass) (sym (queue-swept taken))
        (subst (λ (x : PassStanding B). HasSweptLast contents shared IsReturn (n + 1) 64 x now.pass) t.retired end));
  }
