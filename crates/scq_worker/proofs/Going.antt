-- A worker that goes on, one thing after the other.
use Rattle.std.proofs.Common.{◌≡◌, refl, sym, ◌∙◌, ap, subst, arith, ℕ, ◌+◌, ◌≤◌, List, [], ◌∷◌, ◌++◌, length, Option, Result, Ok, Err, None, false, if◌then◌else◌, ◌==◌, ◌<◌}
use Rattle.std.specs.Prelude.{IfErr, OnOk}
use Rattle.std.proofs.lemmas.List.{append-nil, length-append}
use Rattle.scq_topics.specs.declared.kind.Kind.{Kind}
use Rattle.scq_frames.specs.Exports.{Part}
use Rattle.scq_park.specs.Exports.{Post}
use Rattle.scq_band.specs.Exports.{Identity}
use Rattle.scq_queue.specs.Exports.{HeldStanding, PassStanding}
use Rattle.scq_passes.specs.Exports.{Suits, HelpsInVain}
use Rattle.scq_worker.specs.Exports.{RingsOn, PartsAreGathered, AreOpen, open_on, takes_behind, KeepsCalling, goes-along, HasGathered, HasPassedOn}
use Rattle.scq_worker.specs.Exports.{HasStoppedBehind, HasStoppedIn, IsSameWorker, IsWorking, HasTakenAll, KeepsItsOwn, ClosesWhereFull, IsOpenBehind}
use Rattle.scq_worker.specs.declared.job.Job.{Job}
use Rattle.scq_worker.specs.declared.worker.Worker.{Worker}
use Rattle.scq_passes.proofs.PassLemmas.{taken-along, taken-nothing}
use Rattle.scq_worker.proofs.Gathered.{few-batches, gathered-added, gathered-alone, behind-more}
use Rattle.scq_worker.proofs.PassedOn.{passed-as, stopped-more, working-as}
use Rattle.scq_worker.proofs.WorkerSteps.{answered-along, answered-nothing}

module _ {B Place : Type 0} where
  pub still-as : (u v : Worker B Place) (p : Post) → (v.starved ≡ false → u.starved ≡ false) → v.number ≡ u.number → v.pass ≡ u.pass
      → IsSameWorker u v p p
  still-as u v p starved number pass =
      record { starved = starved; number = number; pass = ap (λ (x : PassStanding B). x.number) pass; bell = refl }

  pub closes-nothing : (most topic : ℕ) (w : Worker B Place) → ClosesWhereFull most topic [] w w
  closes-nothing most topic w = record { own = λ fed. refl; others = λ t apart. refl }

  -- one part more
  pub closes-more : (most topic : ℕ) (ps : List Part) (p : Part) (u v w : Worker B Place) → (w.starved ≡ false → v.starved ≡ false)
      → ClosesWhereFull most topic ps u v → ClosesWhereFull most topic (p ∷ []) v w → ClosesWhereFull most topic (ps ++ p ∷ []) u w
  closes-more most topic ps p u v w fed_before one more = record {
    own = λ fed.
        let last = more.own fed in
        let mid = open_on topic v.opens.items in
        behind-more most (open_on topic u.opens.items) ps mid p (open_on topic w.opens.items) (one.own (fed_before fed))
        (subst (λ (l : List Part). IsOpenBehind most mid p l) (sym last.2) last.1);
    others = λ t apart. more.others t apart ∙ one.others t apart;
  }

  pub own-same : (w : Worker B Place) → KeepsItsOwn w w
  own-same w = record { starved = λ fed. fed; number = refl; opens = refl }

  pub own-along : (u v w : Worker B Place) → KeepsItsOwn u v → KeepsItsOwn v w → KeepsItsOwn u w
  own-along u v w one more =
      record { starved = λ fed. one.starved (more.starved fed); number = more.number ∙ one.number; opens = more.opens ∙ one.opens }

  pub took-nothing : (topics : List (List ℕ × Kind)) (w : Worker B Place) → HasTakenAll topics 0 w w
  took-nothing topics w =
      record { taken = taken-nothing w.pass; gates = refl; vain = omega arith; answered = λ fed. answered-nothing topics w.pass w.members }

  pub took-along : (topics : List (List ℕ × Kind)) (m n : ℕ) (u v w : Worker B Place) → (w.starved ≡ false → v.starved ≡ false)
      → HasTakenAll topics m u v → HasTakenAll topics n v w → HasTakenAll topics (m + n) u w
  took-along topics m n u v w fed one more = record {
    taken = taken-along u.pass v.pass w.pass one.taken more.taken;
    gates = more.gates ∙ one.gates;
    vain = omega (arith, one.vain, more.vain);
    answered = λ now. answered-along topics u.pass v.pass w.pass u.members v.members w.members (one.answered (fed now)) (more.answered now);
  }

module _ {B Place : Type 0} (q : Identity B) (j : Job) where
  -- so it did of more parts
  pub stopped-within : (ps ns : List Part) (u w : Worker B Place) (kept : Option (HeldStanding B)) → length ps ≤ length ns → HasStoppedIn q j ps u w kept
      → HasStoppedIn q j ns u w kept
  stopped-within ps ns u w kept few one parts at =
      stopped-more q (length (parts ++ ps)) (length (parts ++ ns)) w.pass kept
      (omega (arith, few, length-append parts ps, length-append parts ns)) (one parts at)

  -- its pass is the same
  pub goes-same : (w v : Worker B Place) (was : Post) → Suits q (length j.topics) w.pass → w.pass.retired ≡ None → v.pass ≡ w.pass
      → KeepsCalling q j w v was was
  goes-same w v was suits stays same =
      let Goes : PassStanding B → Type 0 = λ p. Suits q (length j.topics) p × (p.retired ≡ None)
      × (HelpsInVain (length j.topics + 1) (takes_behind j.most) w.pass → HelpsInVain (length j.topics + 1) (takes_behind j.most) p)
      × RingsOn was.worker j.workers w.pass p was.wakes was.wakes in
      let its = subst Goes (sym same) (suits, stays, (λ few. few), (λ first rings. rings)) in
      record { suits = its.0; stays = its.1; vain = its.2; rung = its.3 }

  -- nothing that is open has changed
  pub gathered-still : (w v : Worker B Place) (was : Post) → Suits q (length j.topics) w.pass → w.pass.retired ≡ None
      → AreOpen j.most (length j.topics + 1) v.opens.items → ((t : ℕ) → open_on t v.opens.items ≡ open_on t w.opens.items)
      → v.pass ≡ w.pass → v.members ≡ w.members → (v.starved ≡ false → w.starved ≡ false) → HasGathered q j [] w v was was
  gathered-still w v was suits stays opens same pass list starved = record {
    goes = goes-same w v was suits stays pass;
    opens = opens;
    work = λ parts at.
        subst (λ (l : List Part). IsWorking j.topics j.most l v) (sym (append-nil parts))
        (working-as j.topics j.most parts w v same pass list starved at);
  }

  -- a part is added to those that are open on its topic
  pub gathered-one : (p : Part) (w v : Worker B Place) (was : Post) → Suits q (length j.topics) w.pass → w.pass.retired ≡ None
      → AreOpen j.most (length j.topics + 1) v.opens.items → 0 < j.most
      → ((t : ℕ) → open_on t v.opens.items ≡ open_on t w.opens.items ++ (if t == p.topic then p ∷ [] else []))
      → v.pass ≡ w.pass → v.members ≡ w.members → (v.starved ≡ false → w.starved ≡ false) → HasGathered q j (p ∷ []) w v was was
  gathered-one p w v was suits stays opens many added pass list starved = record {
    goes = goes-same w v was suits stays pass;
    opens = opens;
    work = λ parts at. record {
      batches = at.batches;
      gathered = gathered-added j.most parts at.batches w.opens.items at.gathered p v.opens.items many added;
      passed = passed-as j.topics at.batches w.pass v.pass w.members v.members w.starved v.starved pass list starved at.passed;
    };
  }

  -- a part goes alone, where nothing is open on its topic
  pub gone-alone : (p : Part) (u v w : Worker B Place) (was mid is : Post) → mid.worker ≡ was.worker → HasGathered q j [] u v was mid
      → open_on p.topic v.opens.items ≡ [] → KeepsCalling q j v w mid is → HasPassedOn j (p ∷ []) v w → w.opens ≡ v.opens
      → HasGathered q j (p ∷ []) u w was is
  gone-alone p u v w was mid is same one none goes passed kept = record {
    goes = goes-along q j u v w was mid is same one.goes goes;
    opens = subst (λ o. AreOpen j.most (length j.topics + 1) o.items) (sym kept) one.opens;
    work = λ parts at.
        let last = one.work parts at in
        let its = gathered-alone j.most (parts ++ []) last.batches v.opens.items last.gathered p none in
        subst (λ (l : List Part). IsWorking j.topics j.most (l ++ p ∷ []) w) (append-nil parts)
        (record {
          batches = last.batches ++ (p ∷ []) ∷ [];
          gathered = subst (λ o. PartsAreGathered j.most ((parts ++ []) ++ p ∷ []) (last.batches ++ (p ∷ []) ∷ []) o.items) (sym kept) its;
          passed = passed last.batches last.passed;
        });
  }

  -- or it stopped there
  pub stopped-alone : (p : Part) (u v w : Worker B Place) (was mid : Post) (kept : Option (HeldStanding B)) → HasGathered q j [] u v was mid
      → HasStoppedBehind q j v w kept → HasStoppedIn q j (p ∷ []) u w kept
  stopped-alone p u v w was mid kept one left parts at =
      let last = one.work parts at in
      stopped-more q (length last.batches + 1) (length (parts ++ p ∷ [])) w.pass kept
      (omega (arith, length-append parts (p ∷ []), length-append parts [], few-batches j.most (parts ++ []) last.batches v.opens.items last.gathered))
      (left last.batches last.passed)

  -- what is told of an answer with these parts, of the same parts
  pub told-gathered : {X E : Type 0} (r : Result X E) (ps ns : List Part) (u w : Worker B Place) (was is a b : Post) → ps ≡ ns
      → OnOk r (HasGathered q j ps u w was is) → IsSameWorker u w a b → OnOk r (HasGathered q j ns u w was is × IsSameWorker u w a b)
  told-gathered (Ok x) ps ns u w was is a b same gathered still = (subst (λ (l : List Part). HasGathered q j l u w was is) same gathered, still)
  told-gathered (Err e) ps ns u w was is a b same gathered still = tt

  pub told-stopped : {X E : Type 0} (held : E → Option (HeldStanding B)) (r : Result X E) (ps ns : List Part) (u w : Worker B Place) (a b : Post) → ps ≡ ns
      → IfErr r (λ l. HasStoppedIn q j ps u w (held l)) → IsSameWorker u w a b → IfErr r (λ l. HasStoppedIn q j ns u w (held l) × IsSameWorker u w a b)
  told-stopped held (Ok x) ps ns u w a b same stopped still = tt
  told-stopped held (Err e) ps ns u w a b same stopped still = (subst (λ (l : List Part). HasStoppedIn q j l u w (held e)) same stopped, still)
