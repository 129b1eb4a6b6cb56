-- For the rule of the table and the law of views (`each_view_knows_the_truth`): that the running
-- words and views show a state of the machine that steps reach. No public call's contract cites it.
-- Slot i of the table is the place of the buffer of index i: it is at home while the index stands
-- in an entry, and from when a seat has brought it home before the table closes. No line says with
-- which seat a slot is that is out.
use Rattle.std.specs.Prelude.{◌≡◌, ◌⊎◌, ℕ, zero, suc, ◌+◌, ◌<◌, ◌≤◌, false, if◌then◌else◌, is_none}
use Rattle.std.specs.Prelude.{List, [], ◌∷◌, length, Option, Some, None, slice_index, slice_get}
use Rattle.std.specs.List.{Contains}
use mathlib.Core.Option.{some}
use mathlib.Core.Option as maybe
use lib.ListN.{get_elem?}
use Rattle.atomic_table.specs.Table.{State}
use Rattle.scq_word.specs.declared.setup.Setup.{Setup}
use Rattle.scq_word.specs.Exports.{n_of, index_in, is_none_in}
use Rattle.scq_core.specs.Exports.{Entries, Cells, Location, read, ring_slots, idle_part}
use Rattle.scq_core.specs.Machine.{Machine}
use Rattle.scq_core.specs.declared.step.Step.{Step}
use Rattle.scq_law.specs.Exports.{Recorded, IsRun, times}
use Rattle.scq_band.specs.declared.numbers.Numbers.{Numbers}
use Rattle.scq_band.specs.Layout.{gate_word, at, word_count, IsLocation}
use Rattle.scq_band.specs.Known.{Member, Known}
use Rattle.scq_band.specs.Numbers.{IsTrue, first_numbers}

-- which state is shown, which seats have retired and with how many calls in their record, and of
-- each seat the view that it stands in and how many seats stand behind it there
pub record Scene : Type 0 where
  pub state : Machine
  pub gone : ℕ → Option ℕ
  pub owner : ℕ → ℕ × ℕ

-- how many seats below a number have not retired
abbrev pub awake : (ℕ → Option ℕ) → ℕ → ℕ
awake gone zero = 0
awake gone (suc k) = (if is_none (gone k) then 1 else 0) + awake gone k

-- these steps are a run from these opening contents that ends in this state
pub record LeadsTo (c : Setup) (opening : List (List ℕ)) (steps : List (ℕ × Step))
    (m : Machine) : Type 0 where
  pub recorded : Recorded
  pub is_run : IsRun c opening steps recorded
  pub ends : recorded.state ≡ m

-- each word of a ring stands where the layout says
pub record ShowsWords (c : Setup) (words : List ℕ) (m : Cells) : Type 0 where
  pub count : length words ≡ word_count c
  pub shows : (l : Location) → IsLocation c l → slice_index words (at c l) ≡ read m l

-- the seat of this number stands among these
abbrev pub StandsAmong : ℕ → List Member → Type 0
StandsAmong k [] = ⊥
StandsAmong k (x ∷ xs) = (x.number ≡ k) ⊎ StandsAmong k xs

-- it stands in one of these views
pub record StandsInAView (k : ℕ) (views : List Known) : Type 0 where
  pub id : ℕ
  pub view : Known
  pub there : get_elem? views id ≡ some view
  pub stands : StandsAmong k view.seats

-- Lies i y w: the value y of slot i is the buffer that was given for index i, with the bytes w
module _ {S : Type 0} (Lies : ℕ → S → List ℕ → Type 0) where
  -- slot i is at home, with a buffer of these bytes
  pub record Has (homes : List (maybe.Option S)) (i : ℕ) (w : List ℕ) : Type 0 where
    pub value : S
    pub here : get_elem? homes i ≡ some (some value)
    pub lies : Lies i value w

  -- the slot of an index in an entry is at home, with the content beside the entry as its bytes
  abbrev pub Stored : Setup → Entries → List (maybe.Option S) → Type 0
  Stored c e homes =
      (r s : ℕ) → s < ring_slots c → is_none_in (ring_slots c) (e.word r s) ≡ false
      → Has homes (index_in (ring_slots c) (e.word r s)) (e.content r s)

  -- a seat of the view `id`, with so many seats behind it there: its part is the state's
  pub record IsMember (c : Setup) (z : Scene) (homes : List (maybe.Option S)) (id : ℕ) (behind : ℕ)
      (x : Member) : Type 0 where
    pub low : x.number < c.seats
    pub owner : z.owner x.number ≡ (id, behind)
    pub part : z.state.part x.number ≡ x.part
    pub gone : z.gone x.number ≡ x.retired
    pub brought : (b : ℕ × List ℕ) → Contains x.brought b
        → (0 < times b.0 x.part.hand) × Has homes b.0 b.1

  abbrev pub Owns : Setup → Scene → List (maybe.Option S) → ℕ → List Member → Type 0
  Owns c z homes id [] = Unit {0}
  Owns c z homes id (x ∷ xs) = IsMember c z homes id (length xs) x × Owns c z homes id xs

  -- what a view knows is true, where `word` is the gate's word
  pub record IsView (c : Setup) (z : Scene) (homes : List (maybe.Option S)) (word id : ℕ)
      (v : Known) : Type 0 where
    pub seats : Owns c z homes id v.seats
    pub rings : (v.seats ≡ []) ⊎ (length v.numbers ≡ c.rings)
    pub numbers : (r : ℕ) (x : Numbers) → slice_get v.numbers r ≡ Some x → IsTrue c z.state r x
    pub last_gate : (n : ℕ) → v.gate ≡ Some n → word ≤ n

  -- `opening` has the contents of the opening puts, the run is the steps that all seats have made,
  -- and `gone` tells of each seat that has retired how many calls it had made before. Each seat
  -- stands in some view (`all_stand`), and in no other nor twice there, since the scene says in
  -- which view and how many stand behind it there (`owner` of `IsMember`)
  pub record Shown (opening : List (List ℕ)) (c : Setup) (gone : ℕ
      → Option ℕ) (run : List (ℕ × Step)) (s : State S Known) : Type 0 where
    pub scene : Scene
    pub leads : LeadsTo c opening run scene.state
    pub gone_is : scene.gone ≡ gone
    pub made : (k n : ℕ) → gone k ≡ Some n → n ≤ length (scene.state.part k).calls
    pub words : ShowsWords c s.words scene.state.cells
    pub awake_seats : slice_index s.words gate_word ≡ awake scene.gone c.seats
    pub room : length s.homes ≡ n_of c.order
    pub views : (id : ℕ) (v : Known) → get_elem? s.views id ≡ some v
        → IsView c scene s.homes (slice_index s.words gate_word) id v
    pub stored : Stored c scene.state.cells.entries s.homes
    pub all_stand : (k : ℕ) → k < c.seats → StandsInAView k s.views

-- the view of the first seat of the table: all seats of the setup stand in it, idle with empty
-- hands, the last one first
abbrev pub first_members : ℕ → List Member
first_members zero = []
first_members (suc k) =
    record { number = k; part = idle_part; retired = None; brought = [] } ∷ first_members k

abbrev pub first_view : Setup → Known
first_view c = record {
  seats = first_members c.seats;
  numbers = first_numbers c c.rings;
  gates =
      0;
  gate = Some c.seats;
}
