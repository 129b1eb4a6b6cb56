use Rattle.std.proofs.Common.{◌≡◌, ◌∙◌, refl, ap, subst, ℕ, List, Option, Some, None, Err}
use Rattle.std.specs.Prelude.{◌+◌, IfSome, IsSomeAnd}
use Rattle.scq_block.specs.declared.frame.Frame.{Frame}
use Rattle.scq_queue.specs.Exports.{PassStanding}
use Rattle.scq_desk.specs.declared.fault.EndFault.TheVariants.{NoMemory}
use Rattle.scq_stages.specs.Exports.{NothingIsStranded}
use Rattle.scq_stages.specs.declared.job.StageJob.{StageJob}
use Rattle.scq_service.specs.Exports.{SourceOf, fault_of_work, status_of, TellsStages, IsThereAt, HasGotSources, Inputs}
use Rattle.scq_service.specs.declared.fault.Fault.TheVariants as fault
use Rattle.scq_service.specs.declared.outcome.Outcome.{Outcome}
use Rattle.scq_service.proofs.Told.{told-over}
use Rattle.scq_service.proofs.Working.{at-ok, on-ok, told-met, told-stopped, told-whole}
use Rattle.scq_service.proofs.commands.stages.conclude.Goals as goal

-- where there was a queue, nothing is stranded in it, by passes that are these
nothing-stranded : {L P F : Type 0} (order workers : ℕ) (left : Option L) (passes : Option P) (frames : Option F) (in_rings : L → List ℕ)
    (own : P → List (PassStanding Frame)) (back : F → List Frame)
    (these : List (PassStanding Frame)) → (left ≡ None → ⊥) → IsSomeAnd passes (λ p. own p ≡ these)
    → IfSome left (λ l. IsSomeAnd passes (λ p. IsSomeAnd frames (λ f. NothingIsStranded order workers (own p) (back f) (in_rings l))))
    → (all : List Frame) × (rings : List ℕ) × NothingIsStranded order workers these all rings
nothing-stranded order workers None passes frames in_rings own back these gone same closed = absurd (gone refl)
nothing-stranded order workers (Some l) None frames in_rings own back these gone same closed = absurd same
nothing-stranded order workers (Some l) (Some p) None in_rings own back these gone same closed = absurd closed
nothing-stranded order workers (Some l) (Some p) (Some f) in_rings own back these gone same closed =
    (back f, in_rings l, subst (λ (passes : List (PassStanding Frame)). NothingIsStranded order workers passes (back f) (in_rings l)) same closed)

-- where nothing was finished, what is told is of the sources
unfinished : {S : Type 0} (j : StageJob) (src : SourceOf S) (names : List (List ℕ)) (r : Inputs S) (o : Outcome S) → o.staged ≡ None
    → HasGotSources src names o.got.items r → o.status ≡ status_of o.fault → o.worked ≡ None → IsThereAt o.fault o.staged → o.left ≡ None → o.waited ≡ None
    → TellsStages j src names r o
unfinished j src names r o none got status unworked staged left leaves = record {
  got = got;
  status = status;
  unworked = unworked;
  staged = staged;
  handled = rw none tt;
  told = rw none tt;
  work = rw none tt;
  stranded = rw none tt;
  left = left;
  leaves = leaves;
}

pub returns-then-all : goal.returns-then-all
returns-then-all g c =
    let end = c.finished.ensures in
    let after = c.behind.ensures in
    let did = c.requires in
    let left : c.behind.result.sources.items ≡ c.args.end.sources.items = ap (λ v. v.items) after.sources ∙ end.sources in
    let job = c.args.job.now in
    let its = c.args.end.result in
    let come : c.behind.result.got.items ≡ c.args.got.value.items = after.got in
    let gave = at-ok its _ c.in-Ok.is did.end.staged in
    let told = told-whole job.size c.args.end did.end.reading did.come c.args.all did.all after.got left _ _ c.in-Ok.is c.if-all.true
    (after.read ∙ end.read) (after.fault ∙ end.fault) in
    record {
      tells = record {
        got = told.0;
        status = rw (after.fault ∙ end.fault) (after.status ∙ end.status);
        unworked = after.worked ∙ end.worked;
        staged = rw (after.fault ∙ end.fault, after.staged ∙ end.staged) refl;
        handled = rw (after.staged ∙ end.staged, come) (at-ok its _ c.in-Ok.is did.end.handled);
        told = rw (after.staged ∙ end.staged, come) (at-ok its _ c.in-Ok.is did.end.told);
        work = rw (after.staged ∙ end.staged, come, left)
            (gave.0, record { count = did.end.reading.count; whole = on-ok its _ c.in-Ok.is did.end.reading.whole; gave = gave.1 }, gave.2);
        -- the queue was closed, over the passes that came with what was finished
        stranded = rw (after.staged ∙ end.staged)
            (nothing-stranded job.order job.workers c.args.end.left c.args.end.passes c.args.end.frames (λ l. l.items) (λ p. p.value.items) (λ f. f.value.items) _
            (λ none. let err : its ≡ Err NoMemory = did.end.reading.none none in absurd (cc (c.in-Ok.is, err)))
            (at-ok its _ c.in-Ok.is did.end.same) did.end.left);
        left = after.left.0;
        leaves = after.waited;
      };
      ends = told.1;
      caused = λ sink. rw (after.fault ∙ end.fault) (after.cause ∙ end.cause);
    }

pub returns-in-Ok : goal.returns-in-Ok
returns-in-Ok g c =
    let end = c.unopened.ensures in
    let after = c.behind-else-all.ensures in
    let did = c.requires in
    let left : c.behind-else-all.result.sources.items ≡ c.args.end.sources.items = ap (λ v. v.items) after.sources ∙ end.sources in
    let told = told-stopped c.args.job.now.size c.args.end did.end.reading did.come c.args.all did.all after.got left _ _ c.in-Ok.is c.if-all.false
    (after.read ∙ end.read) (after.fault ∙ end.fault ∙ ap (λ n. Some (fault.OpenFault (n + 1))) did.number) in
    record {
      tells = unfinished _ _ _ _ _ (after.staged ∙ end.staged) told.0 (rw (after.fault ∙ end.fault) (after.status ∙ end.status))
          (after.worked ∙ end.worked) (rw (after.fault ∙ end.fault, after.staged ∙ end.staged) refl) after.left.0 after.waited;
      ends = told.1;
      caused = λ sink. rw (after.fault ∙ end.fault) (after.cause ∙ end.cause ∙ c.cause.ensures);
    }

pub returns : goal.returns
returns g c =
    let end = c.of_work.ensures in
    let after = c.behind-in-Err.ensures in
    let did = c.requires in
    let left : c.behind-in-Err.result.sources.items ≡ c.args.end.sources.items = ap (λ v. v.items) after.sources ∙ end.sources in
    let told = told-met c.args.job.now.size c.args.end did.end.reading did.come c.args.all did.all after.got left _ _ c.in-Err.is
    (after.read ∙ end.read) (after.fault ∙ end.fault) in
    record {
      tells = unfinished _ _ _ _ _ (after.staged ∙ end.unstaged) told.0 (rw (after.fault ∙ end.fault) (after.status ∙ end.status))
          (after.worked ∙ end.none) (rw (after.fault, after.staged) end.staged) after.left.0 after.waited;
      ends = told.1;
      caused = λ sink. rw (after.fault ∙ end.fault)
          (after.cause ∙ end.cause (g.F.Files.cause c.args.files.now) sink
          ∙ told-over g.F.Src.Source.cause (g.F.Files.cause c.args.files.now) sink _ _ (Some (fault_of_work c.args.job.now.size c.in-Err.fault)) left);
    }
