-- The table in which ports leave their passes when they close, each in the slot of its number. A
-- slot's word is 0 as long as its port is open, 1 while it closes, and 2 once its pass lies there.
use Rattle.std.specs.Prelude.{◌≡◌, ℕ, ◌<◌, List, [], ◌∷◌, length, Option, Some, None}
use Rattle.std.specs.Prelude.{slice_get, slice_index}
use mathlib.Core.Option.{some, none}
use mathlib.Core.Option as maybe
use lib.ListN.{get_elem?}
use Rattle.atomic_table.specs.Table.{State, Me}
use Rattle.scq_queue.specs.Exports.{PassStanding, AreTheHeld}
use Rattle.scq_port.specs.declared.port_buffer.PortBuffer.{PortBuffer}
use Rattle.scq_port.specs.Ports.{PortQueue, Value}

-- what may lie in a slot: a pass, or nothing
abbrev pub Laid : Type 0
Laid = Option (PassStanding PortBuffer)

-- what a token knows: nothing; that this slot is out with it; or that this pass lies there
pub record Claim : Type 0 where
  pub at : Option ℕ
  pub pass : Laid

abbrev pub no_claim : Claim
no_claim = record { at = None; pass = None }

abbrev pub claimed_at : ℕ → Claim
claimed_at k = record { at = Some k; pass = None }

abbrev pub laid_at : ℕ → PassStanding PortBuffer → Claim
laid_at k p = record { at = Some k; pass = Some p }

-- what is at home in the slot of a claim: what was laid there, or else the slot is out
abbrev pub home_of : Laid → maybe.Option Laid
home_of None = none
home_of (Some p) = some (Some p)

-- the pass of this number of the queue
pub record IsPassOf (queue : PortQueue) (k : ℕ) (p : PassStanding PortBuffer) : Type 0 where
  pub own : p.queue ≡ queue
  pub number : p.number ≡ k

-- a claim on slot k is true of the table's words and slots
pub record IsTrueClaim (words : List ℕ) (homes : List (maybe.Option Laid)) (b : Claim) (k : ℕ)
    : Type 0 where
  pub begun : slice_index words k ≡ 0 → ⊥
  pub home : get_elem? homes k ≡ some (home_of b.pass)

-- the rule of the table: a slot whose port is open is at home; where a port has closed the pass of
-- this number lies there; what tokens know is true, and no two of them know of one slot
pub record EndsHold (queue : PortQueue) (s : State Laid Claim) : Type 0 where
  pub count : length s.words ≡ length s.homes
  pub fresh : (k : ℕ) → k < length s.homes → slice_index s.words k ≡ 0
      → (y : Laid) × (get_elem? s.homes k ≡ some (some y))
  pub left : (k : ℕ) → k < length s.homes → slice_index s.words k ≡ 2
      → (p : PassStanding PortBuffer) × (get_elem? s.homes k ≡ some (some (Some p)))
      × IsPassOf queue k p
  pub claims : (id : ℕ) (b : Claim) (k : ℕ) → get_elem? s.views id ≡ some b → b.at ≡ Some k
      → IsTrueClaim s.words s.homes b k
  pub apart : (one other : ℕ) (a b : Claim) (k : ℕ) → get_elem? s.views one ≡ some a
      → get_elem? s.views other ≡ some b → a.at ≡ Some k → b.at ≡ Some k → one ≡ other

-- one who found 0 in the word of slot k took the slot
pub record HasClaimed (k found : ℕ) (later : Me Laid Claim) : Type 0 where
  pub took : found ≡ 0 → (y : Laid) × (later ≡ (claimed_at k, (k, y) ∷ []))

-- one who had slot k, with a pass in it, left the pass there
abbrev pub HasLaid : ℕ → List (ℕ × Laid) → Claim → Type 0
HasLaid k slots later =
    (p : PassStanding PortBuffer) → slots ≡ (k, Some p) ∷ [] → later ≡ laid_at k p

-- all passes of a queue, in the order of their numbers, one of which is this; and just the values
-- that they hold
pub record AreAllPasses (queue : PortQueue) (its : PassStanding PortBuffer)
    (passes : List (PassStanding PortBuffer)) (values : List Value) : Type 0 where
  pub all : length passes ≡ queue.setup.seats
  pub each : (k : ℕ) (p : PassStanding PortBuffer) → slice_get passes k ≡ Some p
      → IsPassOf queue k p
  pub its_place : slice_get passes its.number ≡ Some its
  pub held : AreTheHeld queue passes values
