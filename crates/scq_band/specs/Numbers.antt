-- The three numbers that a view knows of each ring: a finished place, what Tail is above, and what
-- Head has reached. Each is true for good once it is true, and only rises.
use Rattle.std.specs.Prelude.{◌≡◌, ℕ, zero, suc, ◌+◌, ◌-◌, ◌<◌, ◌≤◌, ◌⊎◌, ◌==◌, if◌then◌else◌, max}
use Rattle.std.specs.Prelude.{Option, Some, None, List, [], ◌∷◌, ◌++◌, slice_index_or, slice_set}
use Rattle.scq_word.specs.declared.setup.Setup.{Setup}
use Rattle.scq_word.specs.Exports.{n_of}
use Rattle.scq_core.specs.Machine.{Machine}
use Rattle.scq_core.specs.Exports.{ring_slots}
use Rattle.scq_law.specs.Exports.{IsFinished}
use Rattle.scq_band.specs.declared.numbers.Numbers.{Numbers}

-- the number before the first place at which a call can place on a ring; on ring 0 the opening puts
-- come first
abbrev pub before_places : Setup → ℕ → ℕ
before_places c r = (if r == 0 then ring_slots c + n_of c.order else ring_slots c) - 1

abbrev pub first_numbers_of : Setup → ℕ → Numbers
first_numbers_of c r =
    record { finished = before_places c r; seen = before_places c r; head = ring_slots c }

-- those of the rings below a number, in order
abbrev pub first_numbers : Setup → ℕ → List Numbers
first_numbers c zero = []
first_numbers c (suc r) = first_numbers c r ++ first_numbers_of c r ∷ []

-- past the last ring nothing is known
abbrev pub known_of : List Numbers → ℕ → Numbers
known_of numbers r = slice_index_or numbers r (record { finished = 0; seen = 0; head = 0 })

-- `finished` is the place of a put that has ended, or what was known at the start; Tail is above
-- `seen`, Head is at or past `head`
pub record IsTrue (c : Setup) (m : Machine) (r : ℕ) (x : Numbers) : Type 0 where
  pub finished : (x.finished ≡ before_places c r) ⊎ IsFinished c m r x.finished
  pub order : x.finished ≤ x.seen
  pub seen : x.seen < m.cells.tail r
  pub head : x.head ≤ m.cells.head r

-- a put of one's own has ended at a place
abbrev pub finishes : ℕ → Numbers → Numbers
finishes place x =
    record { finished = max x.finished place; seen = max x.seen place; head = x.head }

-- an index was got at a place
abbrev pub sees : ℕ → Numbers → Numbers
sees place x = record x { seen = max x.seen place }

-- Head is at or past a number
abbrev pub passes : ℕ → Numbers → Numbers
passes head x = record x { head = max x.head head }

-- the last ticket that was drawn from Head, if any, is behind it
abbrev pub drew : Option ℕ → Numbers → Numbers
drew None x = x
drew (Some ticket) x = passes (ticket + 1) x

-- nothing finished that was known was left: Head is past it
abbrev pub empties : Numbers → Numbers
empties x = passes (x.finished + 1) x

-- the one number that may have risen is the head
pub record RisesInHead (x y : Numbers) : Type 0 where
  pub finished : y.finished ≡ x.finished
  pub seen : y.seen ≡ x.seen
  pub head : x.head ≤ y.head

-- the larger of each
abbrev pub larger : Numbers → Numbers → Numbers
larger x y = record {
  finished = max x.finished y.finished;
  seen = max x.seen y.seen;
  head =
      max x.head y.head;
}

-- the numbers of one ring changed
abbrev pub changed : (Numbers → Numbers) → ℕ → List Numbers → List Numbers
changed f r numbers = slice_set numbers r (f (known_of numbers r))

-- the first list, each number raised by that of the second
abbrev pub raised_by : List Numbers → List Numbers → List Numbers
raised_by [] ys = []
raised_by (x ∷ xs) [] = x ∷ xs
raised_by (x ∷ xs) (y ∷ ys) = larger x y ∷ raised_by xs ys
