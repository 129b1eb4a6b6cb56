-- Where a get decides that its ring is empty, each finished put's place has been drawn by a get that had started.
use Rattle.std.proofs.Common.{◌≡◌, ℕ, ◌<◌, inl, inr, List, length, ap, arith}
use Rattle.scq_word.specs.declared.setup.Setup.{Setup}
use Rattle.scq_word.specs.Exports.{n_of}
use Rattle.scq_core.specs.Machine.{Machine}
use Rattle.scq_core.specs.Exports.{ring_slots, Stance}
use Rattle.scq_hist.specs.declared.events.Event as history
use Rattle.scq_hist.specs.declared.events.PutName.{PutName}
use Rattle.scq_law.proofs.Base.Ghosts.{Ghost, is_placed}
use Rattle.scq_law.proofs.Aspects.CallsUnderWay.{GetsNow}
use Rattle.scq_law.proofs.Aspects.Coupling.{calls_of, IsTied}
use Rattle.std.proofs.lemmas.Bool.{cases_lt}
use Rattle.scq_hist.specs.Exports.{IsFinishedAt}
use Rattle.scq_hist.proofs.UnderWay.{started_within}
use Rattle.scq_law.specs.Exports.{IsFinished}
use Rattle.scq_law.proofs.Aspects.SeenEmpty.{Passed, Emptying}
use Rattle.scq_law.proofs.Aspects.FinishedPuts.{settled}
use Rattle.scq_law.proofs.Places.RecordsAgree.{RecordsAgree}
use Rattle.scq_law.proofs.Places.ReachedTickets.{IsReached}
use Rattle.scq_law.proofs.Base.Based.{IsBased}

module _ (c : Setup) (opening : List (List ℕ)) (full : length opening ≡ n_of c.order) (events : List history.Event) (begun : ℕ → ℕ) (placer : ℕ → ℕ → PutName)
    (g : Ghost) (m : Machine) (k : ℕ) (stances : ℕ → Stance) (tied : IsTied c opening events begun placer stances (calls_of m) g)
    (records : RecordsAgree c g m) (reach : IsReached c g m) where
  -- where no finished place is at or past Head, each has been drawn by a get that had started
  passed_now : IsBased c g m → (r : ℕ) → ((p : ℕ) → IsFinished c m r p → p < m.cells.head r) → GetsNow events k r → (name : PutName)
      → IsFinishedAt opening events r (length events) name → Passed placer g.puts g.gets tied.since r (length events) name
  passed_now base r below does name is =
      let a = settled c opening full events begun placer stances m g tied base records r (length events) name is in
      let low = below a.p a.finished in
      let some = started_within events k (length events) does.s does.under in
      let there = a.is in
      record {
        p = a.p;
        is = a.is;
        named = a.named;
        drawn =
            λ at.
            elim (cases_lt a.p (ring_slots c)) [
              | inl less ↦ let none = ap is_placed (base.drawn.put_first r a.p less) in cc
              | inr first ↦
                  elim (cases_lt a.p c.limit) [
                    | inl under ↦ reach.reached r a.p first low under at
                    | inr past ↦ let none = ap is_placed (base.drawn.put_limit r a.p past) in cc
                  ]
            ];
        before = elim (tied.taken.early r a.p) [ inl none ↦ omega arith | inr less ↦ less ];
      }

  pub emptying : IsBased c g m → (r : ℕ) → ((p : ℕ) → IsFinished c m r p → p < m.cells.head r) → GetsNow events k r
      → Emptying opening events placer g.puts g.gets tied.since k r
  emptying base r below does =
      record {
        m = length events;
        low = omega arith;
        after = λ z under. started_within events k (length events) z under;
        passed = passed_now base r below does;
      }
