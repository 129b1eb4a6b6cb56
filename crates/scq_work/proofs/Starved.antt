-- The end of work for which there was no memory: no source was read.
use Rattle.std.proofs.Common.{◌≡◌, List, None, Err}
use Rattle.scq_files.specs.Exports.{SourceOf}
use Rattle.scq_desk.proofs.Ends.{reading-starved}
use Rattle.scq_work.specs.Exports.{EndsWork}
use Rattle.scq_work.specs.declared.worked.Worked.{Worked}
use Rattle.scq_desk.specs.declared.end.End.{End}
use Rattle.scq_desk.specs.declared.fault.EndFault.TheVariants.{NoMemory}
use Rattle.scq_worker.specs.declared.job.Job.{Job}

pub ends-starved : {S : Type 0} (j : Job) (src : SourceOf S) (sources : List S) (end : End Worked S)
    → end.sources.items ≡ sources → end.result ≡ Err NoMemory → end.left ≡ None → EndsWork j src sources end
ends-starved j src sources end same fault none = record {
  reading = reading-starved j.workers j.longest src sources end same fault;
  answers = rw fault tt;
  told = rw fault tt;
  worked = rw fault tt;
  none_stranded = rw none tt;
  same = rw fault tt;
}
