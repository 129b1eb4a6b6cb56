-- For private calls: what contracts see of a band and of a seat, out of the table, and what a seat
-- keeps beside its token.
use Rattle.std.specs.Prelude.{◌≡◌, ℕ, ◌<◌, ◌≤◌, ◌^◌, ◌==◌, Bool, false, if◌then◌else◌, List, []}
use Rattle.std.specs.Prelude.{◌∷◌, ◌++◌, map, length, take, Option, Some, None, slice_index_or}
use Rattle.atomic_table.specs.Seated.{TableId}
use Rattle.atomic_table.specs.Table.{Me}
use Rattle.scq_word.specs.declared.setup.Setup.{Setup}
use Rattle.scq_word.specs.Exports.{n_of}
use Rattle.scq_core.specs.declared.phase.Phase.TheVariants.{Idle}
use Rattle.scq_law.specs.Exports.{times}
use Rattle.scq_band.specs.declared.numbers.Numbers.{Numbers}
use Rattle.scq_band.specs.Slots.{SlotStanding}
use Rattle.scq_band.specs.declared.rule.Key.{Key}
use Rattle.scq_band.specs.declared.ring.Ring.{Ring}
use Rattle.scq_band.specs.Rings.{AreRings}
use Rattle.scq_band.specs.Numbers.{known_of}
use Rattle.scq_band.specs.Layout.{word_count}
use Rattle.scq_band.specs.RunSeen.{Seen, nothing_seen}
use Rattle.scq_band.specs.Known.{Known}
use Rattle.scq_band.specs.Sights.{Sight, known_me, mark_with}
use Rattle.scq_band.specs.Steps.{my, front_index}
use Rattle.scq_band.specs.Seats.{IsAlone}
use Rattle.scq_band.specs.Standing.{Identity, Standing, IsAsGiven}
use Rattle.scq_band.specs.Closing.{indices_of}

-- how often a seat has an index, where it is noted of each whether it has it
abbrev pub noted : List Bool → ℕ → ℕ
noted held i = if slice_index_or held i false then 1 else 0

-- these slots are those of the indices that are noted as held, each once
abbrev pub AreNoted : {S : Type 0} → List Bool → List (ℕ × S) → Type 0
AreNoted held slots = (i : ℕ) → times i (indices_of slots) ≡ noted held i

module _ {B : Type 0} where
  -- the buffer in the slot of an index
  abbrev pub buffer_in : List (ℕ × SlotStanding B) → ℕ → Option B
  buffer_in [] i = None
  buffer_in (x ∷ xs) i = if x.0 == i then x.1.buffer else buffer_in xs i

  -- the indices of a hand, each with the buffer in its slot
  abbrev pub hand_of : List (ℕ × SlotStanding B) → List ℕ → List (ℕ × Option B)
  hand_of slots hand = map (λ i. (i, buffer_in slots i)) hand

  abbrev pub identity_of : TableId → Key B → Identity B
  identity_of table key = record { table = table; setup = key.setup; given = key.given.value.items }

  abbrev pub standing_from : Seen → TableId → Key B → Me (SlotStanding B) Known → Standing B
  standing_from seen table key me =
      record {
        band = identity_of table key;
        number = (my me.0).number;
        calls = (my me.0).part.calls;
        hand = hand_of me.1 (my me.0).part.hand;
        numbers = me.0.numbers;
        spent = (my me.0).part.spent;
        gates = me.0.gates;
        gate = me.0.gate;
        retired = (my me.0).retired;
        seen = seen;
      }

  abbrev pub standing_of : TableId → Key B → Me (SlotStanding B) Sight → Standing B
  standing_of table key me = standing_from me.0.seen table key (known_me me)

  -- each buffer that is laid in one of the slots is the same as the one given for its index
  abbrev pub AllGiven : (B → B → Type 0) → List B → List (ℕ × SlotStanding B) → Type 0
  AllGiven IsSame given [] = Unit {0}
  AllGiven IsSame given (x ∷ xs) =
      ((b : B) → x.1.buffer ≡ Some b → IsAsGiven IsSame given x.0 b) × AllGiven IsSame given xs

-- which numbers a seat can count on from: a known finished place is below the largest limit, and
-- not above the seen one
abbrev pub IsSmall : Numbers → Type 0
IsSmall x = (x.finished < 2 ^ 60) × (x.finished ≤ x.seen)

abbrev pub AreSmall : List Numbers → Type 0
AreSmall numbers = (r : ℕ) → IsSmall (known_of numbers r)

-- what a seat keeps: of each index whether it holds its slot; its numbers; its spent ticket
pub record IsKept {B : Type 0} (IsSame : B → B
    → Type 0) (key : Key B) (me : Me (SlotStanding B) Known) (held : List Bool)
    (known : List Numbers)
    (kept : Option ℕ) : Type 0 where
  pub alone : IsAlone me.0
  pub idle : (my me.0).part.phase ≡ Idle
  pub slots : AreNoted held me.1
  pub each : length held ≡ n_of key.setup.order
  -- they are the slots of the indices in its hand
  pub same : (i : ℕ) → times i (indices_of me.1) ≡ times i (my me.0).part.hand
  pub numbers : known ≡ me.0.numbers
  pub rings : length known ≡ key.setup.rings
  pub small : AreSmall known
  pub spent : kept ≡ (my me.0).part.spent
  pub given : AllGiven IsSame key.given.value.items me.1

-- what a band keeps: the words and slots of its setup, and empty lists with room for what it hands
-- out when it closes
pub record IsBand {B : Type 0} (table : TableId) (key : Key B) (setup : Setup) (rings : List Ring)
    (buffers : List B) (room : ℕ) (left : List ℕ) (places : ℕ) : Type 0 where
  pub same : setup ≡ key.setup
  pub words : table.words ≡ word_count key.setup
  pub slots : table.slots ≡ n_of key.setup.order
  pub given : length key.given.value.items ≡ n_of key.setup.order
  pub each : AreRings key.setup key.setup.rings rings
  pub no_buffer : buffers ≡ []
  pub holds_all : n_of key.setup.order ≤ room
  pub none_left : left ≡ []
  pub each_ring : key.setup.rings ≤ places

-- the slots in another turn
pub record IsRotation {S : Type 0} (slots later : List (ℕ × S)) : Type 0 where
  pub front : List (ℕ × S)
  pub behind : List (ℕ × S)
  pub was : slots ≡ front ++ behind
  pub turned : later ≡ behind ++ front

-- the slots were turned, and that of the index i stands first
pub record StandsFirst {S V : Type 0} (i : ℕ) (me later : Me S V) : Type 0 where
  pub view : later.0 ≡ me.0
  pub slots : IsRotation me.1 later.1
  pub first : front_index later.1 ≡ i

-- the view of a note with these numbers
abbrev pub note_with : List Numbers → Known
note_with numbers = record { seats = []; numbers = numbers; gates = 0; gate = None }

abbrev pub note_sight_with : Seen → List Numbers → Sight
note_sight_with seen numbers = record { known = note_with numbers; seen = seen }

-- what a view has seen of the run, where there is one
abbrev pub seen_in : List Sight → Seen
seen_in [] = nothing_seen
seen_in (v ∷ vs) = v.seen

-- what a note keeps: the one view that its badge has, and in its first cells the numbers of each
-- ring
pub record IsNote (views : List Sight) (cells : List Numbers) (rings : ℕ) : Type 0 where
  pub is : views ≡ note_sight_with (seen_in views) (take rings cells) ∷ []
  pub small : AreSmall (take rings cells)
  pub few : rings ≤ length cells

-- what a mark keeps: its badge has one view, which knows nothing
pub record IsMark (views : List Sight) : Type 0 where
  pub is : views ≡ mark_with (seen_in views) ∷ []
