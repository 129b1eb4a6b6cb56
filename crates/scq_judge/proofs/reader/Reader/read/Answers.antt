use Rattle.std.proofs.Common.{[], ◌∷◌, ◌++◌, ap, sym, subst}
use Rattle.scq_hist.proofs.HandedOn.{handed_on}
use Rattle.scq_judge.specs.Exports.{ReadingStopped, HaveBeenRead, Progress}
use Rattle.scq_judge.proofs.ReaderLemmas.{read_next, read_stopped}
use Rattle.scq_judge.proofs.reader.Reader.read.Goals as goal

pub returns-clause-read : goal.returns-clause-read
returns-clause-read g c = λ olds news had.
    let said = c.in_ok-read.ensures in
    let P : Progress → Type 0 = λ reader. HaveBeenRead g.S.Source.faults g.S.Source.ends g.S.Source.left olds news reader in
    read_next _ _ _ _ _ olds news _ _ _ _ (subst P (sym c.self.view_is) had) said.added said.files said.whole said.given

pub returns-in_err-read-clause-stopped : goal.returns-in_err-read-clause-stopped
returns-in_err-read-clause-stopped g c = handed_on c.from_residual.result c.in_err-read.field-0.0 _ c.from_residual.ensures.1 (λ olds news had.
    let S = g.S.Source in
    let said = c.in_err-read.ensures in
    let stopped = read_stopped S.faults S.ends S.left _ _ olds news _ _ _ c.read.new.recorded
    (subst (λ (reader : Progress). HaveBeenRead S.faults S.ends S.left olds news reader) (sym c.self.view_is) had)
    c.in_err-read.field-0.0 said.refused said.counted said.given in
    subst (λ lone. ReadingStopped S.faults S.ends S.left lone (olds ++ c.args.source.now ∷ []) (news ++ c.read.new.source ∷ []) c.in_err-read.field-0.0)
    (ap (λ (r : Progress). r.lone) c.self.view_is) stopped)
