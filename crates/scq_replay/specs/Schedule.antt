-- What the lines of a schedule say: `setup ORDER RINGS SEATS LIMIT`, and then a step a line. The
-- fields of a line stand one space apart
use Rattle.std.specs.Prelude.{◌≡◌, ℕ, ◌≤◌, List, [], ◌∷◌, Option, Some, None, codes, if◌then◌else◌}
use Rattle.std.specs.Option.{option_map}
use Rattle.std.specs.Str.{bytes_eq}
use Rattle.scq_word.specs.Exports.{n_of}
use Rattle.scq_word.specs.declared.setup.Setup.{Setup}
use Rattle.scq_core.specs.declared.step.Step.{Step}
use Rattle.scq_core.specs.declared.step.Step.TheVariants.{E1, E1Again, E2, E3, E4, E5, E6, D1, D2}
use Rattle.scq_core.specs.declared.step.Step.TheVariants.{D3, D4, D5, D6, D7, D8, D9, D10}
use Rattle.scq_lines.specs.Exports.{fields_of, number_of, number_below, field_content}
use Rattle.scq_replay.specs.declared.schedule.SetupNumbers.{SetupNumbers}

-- the numbers of `setup ORDER RINGS SEATS LIMIT`
abbrev pub setup_of : Option ℕ → Option ℕ → Option ℕ → Option ℕ → Option SetupNumbers
setup_of (Some order) (Some rings) (Some seats) (Some limit) =
    Some (record { order = order; rings = rings; seats = seats; limit = limit })
setup_of _ _ _ _ = None

abbrev pub setup_said : List (List ℕ) → Option SetupNumbers
setup_said (word ∷ order ∷ rings ∷ seats ∷ limit ∷ []) =
    if bytes_eq word (codes "setup")
    then setup_of (number_of order) (number_of rings) (number_of seats) (number_of limit)
    else None
setup_said _ = None

-- the highest order of a schedule, and the most rings
abbrev pub most_order : ℕ
most_order = 4

abbrev pub most_rings : ℕ
most_rings = 18

-- the line says this setup, within these
pub record IsSetupLine (line : List ℕ) (c : Setup) : Type 0 where
  pub says : setup_said (fields_of line)
      ≡ Some (record { order = c.order; rings = c.rings; seats = c.seats; limit = c.limit })
  pub small : c.order ≤ most_order
  pub few : c.rings ≤ most_rings

-- the step of this name, where it stands alone: `E1` draws a next ticket
abbrev pub bare_step : List ℕ → Option Step
bare_step name =
    if bytes_eq name (codes "E1") then Some E1Again
    else if bytes_eq name (codes "E2") then Some E2
    else if bytes_eq name (codes "E3") then Some E3
    else if bytes_eq name (codes "E4") then Some E4
    else if bytes_eq name (codes "E5") then Some E5
    else if bytes_eq name (codes "E6") then Some E6
    else if bytes_eq name (codes "D2") then Some D2
    else if bytes_eq name (codes "D3") then Some D3
    else if bytes_eq name (codes "D4") then Some D4
    else if bytes_eq name (codes "D5") then Some D5
    else if bytes_eq name (codes "D6") then Some D6
    else if bytes_eq name (codes "D7") then Some D7
    else if bytes_eq name (codes "D8") then Some D8
    else if bytes_eq name (codes "D9") then Some D9
    else if bytes_eq name (codes "D10") then Some D10
    else None

-- `E1 R I X`
abbrev pub put_of : Option ℕ → Option ℕ → Option (List ℕ) → Option Step
put_of (Some ring) (Some index) (Some content) = Some (E1 ring index content)
put_of _ _ _ = None

-- the step of these fields, for rings, indices and seats of the setup
abbrev pub step_said : Setup → List (List ℕ) → Option Step
step_said c (name ∷ []) = bare_step name
step_said c (name ∷ ring ∷ []) =
    if bytes_eq name (codes "D1") then option_map D1 (number_below c.rings ring) else None
step_said c (name ∷ ring ∷ index ∷ content ∷ []) =
    if bytes_eq name (codes "E1")
    then put_of (number_below c.rings ring) (number_below (n_of c.order) index)
    (field_content 16 content)
    else None
step_said c _ = None

abbrev pub of_seat : Option ℕ → Option Step → Option (ℕ × Step)
of_seat (Some seat) (Some step) = Some (seat, step)
of_seat _ _ = None

abbrev pub turn_said : Setup → List (List ℕ) → Option (ℕ × Step)
turn_said c (seat ∷ more) = of_seat (number_below c.seats seat) (step_said c more)
turn_said c [] = None

-- the seat and its step that a line says, if it is of the form: `S STEP`
abbrev pub turn_in : Setup → List ℕ → Option (ℕ × Step)
turn_in c line = turn_said c (fields_of line)
