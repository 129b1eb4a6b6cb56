-- For the rule of the table and the law of views (`each_view_knows_the_truth`) alone; no public
-- call's contract cites it. What a seat of the table knows, its view: the seats of the machine that
-- stand in it with their parts, a lower bound of each ring's counters, and what it read at the
-- gate. A note is a view in which no seat stands.
use Rattle.std.specs.Prelude.{ℕ, List, [], ◌∷◌, ◌++◌, Option, Some, None, min}
use Rattle.scq_core.specs.Exports.{SeatPart}
use Rattle.scq_band.specs.declared.numbers.Numbers.{Numbers}
use Rattle.scq_band.specs.Numbers.{raised_by}

-- a seat: its number, its part, how many calls stood in its record when it retired, and the indices
-- in its hand whose slots were brought home before the table closes, each with the bytes of its
-- buffer
pub record Member : Type 0 where
  pub number : ℕ
  pub part : SeatPart
  pub retired : Option ℕ
  pub brought : List (ℕ × List ℕ)

pub record Known : Type 0 where
  pub seats : List Member
  pub numbers : List Numbers
  -- how often the gate was read, and what the last reading found
  pub gates : ℕ
  pub gate : Option ℕ

-- the view that knows nothing: what a seat is left with that was joined to another
abbrev pub nobody : Known
nobody = record { seats = []; numbers = []; gates = 0; gate = None }

-- a note of a view: what it knows of the rings
abbrev pub note_of_view : Known → Known
note_of_view v = record { seats = []; numbers = v.numbers; gates = 0; gate = None }

-- the seats behind the first, and the first alone
abbrev pub behind_first : List Member → List Member
behind_first [] = []
behind_first (x ∷ xs) = xs

abbrev pub first_alone : List Member → List Member
first_alone [] = []
first_alone (x ∷ xs) = x ∷ []

-- a view without its first seat, and the view of that seat
abbrev pub others_of : Known → Known
others_of v = record v { seats = behind_first v.seats }

abbrev pub first_of : Known → Known
first_of v = record v { seats = first_alone v.seats }

-- the lower of two readings of the gate, where there are two
abbrev pub lower_gate : Option ℕ → Option ℕ → Option ℕ
lower_gate x None = x
lower_gate None (Some b) = Some b
lower_gate (Some a) (Some b) = Some (min a b)

-- a view that has taken in another: the other's seats stand first, each number is the larger, and
-- the gate's reading the lower
abbrev pub both_of : Known → Known → Known
both_of v w =
    record v {
      seats = w.seats ++ v.seats;
      numbers = raised_by v.numbers w.numbers;
      gate =
          lower_gate v.gate w.gate;
    }
