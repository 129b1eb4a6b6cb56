use Rattle.std.proofs.Common.{◌≡◌, ◌∙◌, refl, sym, ap, ℕ, List, Some, None, Err, rules}
use Rattle.scq_desk.specs.declared.fault.EndFault.TheVariants.{NoMemory}
use Rattle.scq_work.specs.Exports.{NothingIsStranded}
use Rattle.scq_worker.specs.declared.job.Job.{Job}
use Rattle.std.specs.Prelude.{◌+◌, length, IfSome, IsNone, IsSomeAnd}
use Rattle.scq_service.specs.Exports.{SourceOf, fault_of_work, status_of, TellsWork, IsThereAt, HasGotSources, Inputs}
use Rattle.scq_service.specs.declared.fault.Fault.TheVariants as fault
use Rattle.scq_service.specs.declared.outcome.Outcome.{Outcome}
use Rattle.scq_service.proofs.Seen.{none-seen, some-seen}
use Rattle.scq_service.proofs.Told.{told-over}
use Rattle.scq_service.proofs.Working.{at-ok, on-ok, told-met, told-stopped, told-whole}
use Rattle.scq_service.proofs.reading.conclude.Goals as goal

-- where nothing was answered, what is told is of the sources and of the queue
unanswered : {S : Type 0} (j : Job) (src : SourceOf S) (names : List (List ℕ)) (r : Inputs S) (o : Outcome S) → o.worked ≡ None
    → HasGotSources src names o.got.items r → o.status ≡ status_of o.fault → IsThereAt o.fault o.worked → o.staged ≡ None
    → IfSome o.left (λ l. IsSomeAnd o.passes (λ p. IsSomeAnd o.frames (λ f.
    NothingIsStranded j.order (length j.topics + 1) j.workers p.value.items f.value.items l.items)))
    → (IsNone o.left → o.fault ≡ Some fault.NoMemory) → TellsWork j src names r o
unanswered j src names r o none got status worked unstaged stranded seen = record {
  got = got;
  status = status;
  worked = worked;
  unstaged = unstaged;
  known = rw none tt;
  answers = rw none tt;
  told = rw none tt;
  work = rw none tt;
  none_stranded = stranded;
  there = rw none tt;
  seen = seen;
  same = rw none tt;
}

pub returns-then-all : goal.returns-then-all
returns-then-all g c =
    let end = c.answered.ensures in
    let after = c.behind.ensures in
    let did = c.requires in
    let left : c.behind.result.sources.items ≡ c.args.end.sources.items = ap (λ v. v.items) after.sources ∙ end.sources in
    let its = c.args.end.result in
    let come : c.behind.result.got.items ≡ c.args.got.value.items = after.got in
    let gave = at-ok its _ c.in-Ok.is did.end.worked in
    let had : c.args.end.left ≡ None → ⊥ = λ none. let err : its ≡ Err NoMemory = did.end.reading.none none in cc (c.in-Ok.is, err) in
    let told = told-whole c.args.job.now.longest c.args.end did.end.reading did.come c.args.all did.all after.got left _ _ c.in-Ok.is c.if-all.true
    (after.read ∙ end.read) (after.fault ∙ end.fault) in
    record {
      tells = record {
        got = told.0;
        status = rw (after.fault ∙ end.fault) (after.status ∙ end.status);
        worked = rw (after.fault ∙ end.fault, after.worked ∙ end.worked) refl;
        unstaged = after.staged ∙ end.staged;
        known = search rules;
        answers = rw (after.worked ∙ end.worked, come) (at-ok its _ c.in-Ok.is did.end.answers);
        told = rw (after.worked ∙ end.worked, come) (at-ok its _ c.in-Ok.is did.end.told);
        work = rw (after.worked ∙ end.worked, come, left)
            (gave.0, record { count = did.end.reading.count; whole = on-ok its _ c.in-Ok.is did.end.reading.whole; gave = gave.1 }, gave.2);
        none_stranded = rw (after.left.0, after.left.1, after.left.2) did.end.none_stranded;
        there = rw (after.worked ∙ end.worked, after.left.0) (some-seen c.args.end.left had);
        seen = λ none. absurd (had (sym after.left.0 ∙ none-seen _ none));
        same = rw (after.worked ∙ end.worked, after.left.1) (at-ok its _ c.in-Ok.is did.end.same);
      };
      ends = told.1;
      caused = λ sink. rw (after.fault ∙ end.fault) (after.cause ∙ end.cause);
      waited = after.waited;
      closed = after.left;
      wanting = λ err. absurd (cc (c.in-Ok.is, err));
    }

pub returns-else-all : goal.returns-else-all
returns-else-all g c =
    let end = c.unopened.ensures in
    let after = c.behind-else-all.ensures in
    let did = c.requires in
    let left : c.behind-else-all.result.sources.items ≡ c.args.end.sources.items = ap (λ v. v.items) after.sources ∙ end.sources in
    let told = told-stopped c.args.job.now.longest c.args.end did.end.reading did.come c.args.all did.all after.got left _ _ c.in-Ok.is c.if-all.false
    (after.read ∙ end.read) (after.fault ∙ end.fault ∙ ap (λ n. Some (fault.OpenFault (n + 1))) did.number) in
    record {
      tells = unanswered _ _ _ _ _ (after.worked ∙ end.worked) told.0 (rw (after.fault ∙ end.fault) (after.status ∙ end.status))
          (rw (after.fault ∙ end.fault, after.worked ∙ end.worked) refl) (after.staged ∙ end.staged)
          (rw (after.left.0, after.left.1, after.left.2) did.end.none_stranded)
          (λ none. let err : c.args.end.result ≡ Err NoMemory = did.end.reading.none (sym after.left.0 ∙ none-seen _ none) in
          absurd (cc (c.in-Ok.is, err)));
      ends = told.1;
      caused = λ sink. rw (after.fault ∙ end.fault) (after.cause ∙ end.cause ∙ c.cause.ensures);
      waited = after.waited;
      closed = after.left;
      wanting = λ err. absurd (cc (c.in-Ok.is, err));
    }

pub returns-in-Err : goal.returns-in-Err
returns-in-Err g c =
    let end = c.of_work.ensures in
    let after = c.behind-in-Err.ensures in
    let did = c.requires in
    let left : c.behind-in-Err.result.sources.items ≡ c.args.end.sources.items = ap (λ v. v.items) after.sources ∙ end.sources in
    let told = told-met c.args.job.now.longest c.args.end did.end.reading did.come c.args.all did.all after.got left _ _ c.in-Err.is
    (after.read ∙ end.read) (after.fault ∙ end.fault) in
    let wants : c.args.end.result ≡ Err NoMemory → c.behind-in-Err.result.fault ≡ Some fault.NoMemory = λ err.
    let is : c.in-Err.fault ≡ NoMemory = cc (c.in-Err.is, err) in
    after.fault ∙ end.fault ∙ ap (λ f. Some (fault_of_work c.args.job.now.longest f)) is in
    record {
      tells = unanswered _ _ _ _ _ (after.worked ∙ end.none) told.0 (rw (after.fault ∙ end.fault) (after.status ∙ end.status))
          (rw (after.fault, after.worked) end.worked) (after.staged ∙ end.unstaged) (rw (after.left.0, after.left.1, after.left.2) did.end.none_stranded)
          (λ none. wants (did.end.reading.none (sym after.left.0 ∙ none-seen _ none)));
      ends = told.1;
      caused = λ sink. rw (after.fault ∙ end.fault)
          (after.cause ∙ end.cause (g.F.Files.cause c.args.files.now) sink
          ∙ told-over g.F.Src.Source.cause (g.F.Files.cause c.args.files.now) sink _ _ (Some (fault_of_work c.args.job.now.longest c.in-Err.fault)) left);
      waited = after.waited;
      closed = after.left;
      wanting = λ err. (wants err, after.worked ∙ end.none);
    }
