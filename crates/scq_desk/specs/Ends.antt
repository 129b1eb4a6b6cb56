-- How the reading of all files ended, whatever the workers made of them.
use Rattle.std.specs.Prelude.{◌≡◌, ℕ, ◌<◌, List, length, slice_index_or, None, IfErr, IsErrOf, OnOk}
use Rattle.scq_files.specs.Exports.{HasMoved, StopsAtFaults, IsWhole, SourceOf}
use Rattle.scq_desk.specs.Faults.{HasCause, NoneStarved}
use Rattle.scq_desk.specs.declared.end.End.{End}
use Rattle.scq_desk.specs.declared.fault.EndFault.TheVariants.{NoMemory}

-- what is known of the end of the work of so many workers on these sources, of messages that have
-- at most `longest` bytes: as many come back in every case, each as one that its own may have
-- become
pub record EndsReading {T S : Type 0} (workers longest : ℕ) (src : SourceOf S) (sources : List S)
    (end : End T S) : Type 0 where
  pub count : length end.sources.items ≡ length sources
  pub moved : (k : ℕ) (d : S) → k < length sources
      → HasMoved src (slice_index_or sources k d) (slice_index_or end.sources.items k d)
  -- no worker read a file behind one of its own at which it stopped
  pub stops : StopsAtFaults workers longest src sources end.sources.items
  -- each source was read to its end
  pub whole : OnOk end.result ((k : ℕ) (d : S) → k < length sources
      → IsWhole longest src (slice_index_or sources k d) (slice_index_or end.sources.items k d))
  -- where no queue was closed, there was no memory
  pub none : end.left ≡ None → IsErrOf end.result NoMemory
  -- a fault is that of its file, and those in front of it were read to their ends. Where there is
  -- one of a file, each source is as one whose reading didn't stop for want of memory. Where bytes
  -- aren't visible they say nothing of what stood in a file: only of which sources a read failed,
  -- and by the counts of ends that those in front were read to their ends
  pub cause : IfErr end.result (HasCause longest src sources end.sources.items)
  pub none_starved : IfErr end.result (NoneStarved longest src sources end.sources.items)
