-- The end of stages for which there was no memory: no source was read.
use Rattle.std.proofs.Common.{◌≡◌, List, None, Err}
use Rattle.scq_files.specs.Exports.{SourceOf}
use Rattle.scq_desk.proofs.Ends.{reading-starved}
use Rattle.scq_desk.specs.declared.end.End.{End}
use Rattle.scq_desk.specs.declared.fault.EndFault.TheVariants.{NoMemory}
use Rattle.scq_stages.specs.Exports.{EndsStages}
use Rattle.scq_stages.specs.declared.job.StageJob.{StageJob}
use Rattle.scq_stages.specs.declared.staged.Staged.{Staged}

pub stages-starved : {S : Type 0} (j : StageJob) (src : SourceOf S) (sources : List S) (end : End Staged S)
    → end.sources.items ≡ sources → end.result ≡ Err NoMemory → end.left ≡ None → EndsStages j src sources end
stages-starved j src sources end same fault none = record {
  reading = reading-starved j.workers j.size src sources end same fault;
  handled = rw fault tt;
  told = rw fault tt;
  staged = rw fault tt;
  left = rw none tt;
  same = rw fault tt;
}
