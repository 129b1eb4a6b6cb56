use Rattle.std.proofs.Common.{None}
use Rattle.std.proofs.lemmas.Map.Text.{hash_map_updates_text}
use Rattle.scq_outside.proofs.mem_files.MemFilesFiles.source.Goals as goal

pub returns-in-Some-clause-given : goal.returns-in-Some-clause-given
returns-in-Some-clause-given c =
    hash_map_updates_text c.args.name.now c.args.self.now.sources c.remove.new.self None c.remove.ensures.updates
