use Rattle.std.proofs.Common.{Some}
use Rattle.std.specs.String.{string_bytes}
use Rattle.std.proofs.lemmas.Map.Text.{hash_map_updates_text}
use Rattle.scq_outside.proofs.mem_files.MemFiles.add.Goals as goal

pub returns-clause-added : goal.returns-clause-added
returns-clause-added c = λ other.
    let changed = hash_map_updates_text (string_bytes c.in_ok-name.name) c.args.self.now.sources c.insert.new.self (Some c.args.source)
    c.in_ok-insert.ensures.updates other
    in rw c.in_ok-name.ensures.ok at changed
