-- What a call of the example is given, and what came back.
use Rattle.std.specs.Prelude.{◌≡◌, ◌≤◌, List, [], ◌∷◌, Result, Ok, Err, vec_capacity}
use Rattle.scq_queue.specs.Exports.{first_passes}
use Rattle.example_queue.specs.declared.Made.{Made}

-- the value that came back from a call, as a list: of one, or empty
abbrev pub values_in : {A B : Type 0} → Result A B → List B
values_in (Ok a) = []
values_in (Err b) = b ∷ []

-- a queue of one topic, its two passes, which have made no call, and room for a value of each
abbrev pub IsMadeAnew : Made → Type 0
IsMadeAnew made =
    (made.queue.setup.rings ≡ 2) × (made.queue.setup.seats ≡ 2)
    × (made.passes.items ≡ first_passes made.queue 2) × (made.values.items ≡ [])
    × (2 ≤ vec_capacity made.values)
