-- What is to go in one value.
use Rattle.std.specs.Prelude.{◌≡◌, ◌<◌, ◌≤◌, ℕ, List, [], ◌∷◌, length}
use Rattle.scq_frames.specs.Exports.{Part, IsNumbered, parts_of, part_of}
use Rattle.scq_worker.specs.Opening.{IsOpen}
use Rattle.scq_worker.specs.declared.worker.load.Load.{Load}
use Rattle.scq_worker.specs.declared.worker.load.Load.TheVariants.{Alone, Together}

-- its parts, where a part of a message has at most `size` bytes
abbrev pub parts_of_load : ℕ → Load → List Part
parts_of_load size (Alone message part) = part_of size message.now part ∷ []
parts_of_load size (Together batch) = batch.now

-- it may go on this topic: it is a part of a message of the topic, which has at most `longest`
-- bytes, or a batch that was open there
abbrev pub IsLoad : ℕ → ℕ → ℕ → ℕ → Load → Type 0
IsLoad size longest most topic (Alone message part) =
    (message.now.topic ≡ topic) × (length message.now.payload ≤ longest)
    × IsNumbered part (parts_of size message.now.payload)
IsLoad size longest most topic (Together batch) =
    IsOpen most topic batch.now × (0 < length batch.now)
