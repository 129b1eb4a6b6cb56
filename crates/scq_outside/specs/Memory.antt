-- Files in memory.
use Rattle.std.specs.Prelude.{ℕ, List, Option}
use Rattle.std.specs.HashMap.{get_by_text}
use Rattle.std.specs.Option.{option_map}
use Rattle.scq_outside.specs.Readable.{Readable}
use Rattle.scq_outside.specs.Table.{Table}
use Rattle.scq_outside.specs.declared.mem_files.MemFiles.{MemFiles}

-- the source that was added under a name and not yet given out
abbrev pub source_in : MemFiles → List ℕ → Option Readable
source_in files name = get_by_text files.sources name

-- the contents of those sources
abbrev pub table_of : MemFiles → Table
table_of files name = option_map (λ source. source.left) (source_in files name)

-- how often a source was asked for that isn't there
abbrev pub faults_of : MemFiles → ℕ
faults_of files = files.faults
