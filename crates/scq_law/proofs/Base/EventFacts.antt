-- What is known of a turn by its event alone: what must have held before it, and how each part of the state changes.
use Rattle.std.specs.Prelude.{◌≡◌, ◌≢◌, ℕ, ◌+◌, ◌<◌, ◌≤◌, ◌⊎◌, true, false, List, ◌++◌, length, None}
use Rattle.scq_word.specs.declared.setup.Setup.{Setup}
use Rattle.scq_word.specs.Exports.{n_of}
use Rattle.scq_core.specs.Machine.{Machine}
use Rattle.scq_core.specs.Exports.{zero_level, holds_index, slot, Stance, resting, drawing, putting, landed, seeking, trying, gave_up, stance_of}
use Rattle.scq_law.specs.Exports.{Maker, call_of}
use Rattle.scq_law.proofs.Base.Ghosts.{Ghost, fresh, pending, placed, unopened, opened, dead, is_placed, waiting}
use Rattle.scq_law.proofs.Base.TicketEvents.{TicketEvent, calm, drew, fell, laid, finished, entered, refused, began, died, saw_end, lifted, taken, lowered, emptied, overran, stance_by, hand_by, ended_by, kept_by, tail_by, head_by, threshold_by}

abbrev pub stance : Machine → ℕ → Stance
stance m k = stance_of (m.part k).phase

-- an index stands at a place and nobody took it or gave its ticket up
pub record Live (g : Ghost) (r p i : ℕ) : Type 0 where
  pub content : List ℕ
  pub maker : Maker
  pub is : g.puts r p ≡ placed i content maker
  pub waits : waiting (g.gets r p) ≡ true

-- a live place of a ticket's slot, other than the ticket itself, holds the index that its drawer found there
pub record Blocks (c : Setup) (g : Ghost) (r t i : ℕ) : Type 0 where
  pub place : ℕ
  pub slot : slot c place ≡ slot c t
  pub other : place ≢ t
  pub live : Live g r place i

-- an idle seat that keeps no ticket may begin a call
pub record Rests (m : Machine) (k : ℕ) : Type 0 where
  pub rests : stance m k ≡ resting
  pub keeps : (m.part k).spent ≡ None

pub record Drew (c : Setup) (m : Machine) (g : Ghost) (k r i : ℕ) (w : List ℕ) (t : ℕ) : Type 0 where
  pub at_tail : t ≡ m.cells.tail r
  pub low : t < c.limit
  pub ring : r < c.rings
  pub index : i < n_of c.order
  pub held : holds_index (m.part k).hand i ≡ true
  pub was : Rests m k ⊎ (stance m k ≡ drawing r i w)
  pub fresh : g.puts r t ≡ fresh

pub record Fell (c : Setup) (m : Machine) (g : Ghost) (k r i : ℕ) (w : List ℕ) (t found : ℕ) : Type 0 where
  pub was : stance m k ≡ putting r i w t
  pub pending : g.puts r t ≡ pending k i
  pub index : i < n_of c.order
  pub held : holds_index (m.part k).hand i ≡ true
  pub cause : (t < m.cells.head r) ⊎ Blocks c g r t found

pub record WasLaid (c : Setup) (m : Machine) (g : Ghost) (k r i : ℕ) (w : List ℕ) (t : ℕ) : Type 0 where
  pub was : stance m k ≡ putting r i w t
  pub pending : g.puts r t ≡ pending k i
  pub index : i < n_of c.order
  pub held : holds_index (m.part k).hand i ≡ true
  pub waits : waiting (g.gets r t) ≡ true

pub record Finished (c : Setup) (m : Machine) (g : Ghost) (k r i : ℕ) (w : List ℕ) (t : ℕ) : Type 0 where
  pub was : stance m k ≡ landed r i w t
  pub placed : g.puts r t ≡ placed i w (call_of k (length (m.part k).calls))

pub record Entered (c : Setup) (m : Machine) (g : Ghost) (k r : ℕ) : Type 0 where
  pub was : Rests m k
  pub ring : r < c.rings
  pub level : zero_level ≤ m.cells.threshold r

pub record Refused (c : Setup) (m : Machine) (g : Ghost) (k r : ℕ) : Type 0 where
  pub was : Rests m k
  pub ring : r < c.rings
  pub level : m.cells.threshold r < zero_level

pub record Began (c : Setup) (m : Machine) (g : Ghost) (k r h : ℕ) : Type 0 where
  pub at_head : h ≡ m.cells.head r
  pub low : h < c.limit
  pub was : stance m k ≡ seeking r
  pub unopened : g.gets r h ≡ unopened

pub record Died (c : Setup) (m : Machine) (g : Ghost) (k r h : ℕ) : Type 0 where
  pub was : stance m k ≡ trying r h
  pub opened : g.gets r h ≡ opened k
  pub empty : is_placed (g.puts r h) ≡ false

pub record SawEnd (c : Setup) (m : Machine) (g : Ghost) (k r h : ℕ) : Type 0 where
  pub was : stance m k ≡ gave_up r h false
  pub dead : g.gets r h ≡ dead
  pub low : m.cells.tail r ≤ h + 1

pub record Lifted (c : Setup) (m : Machine) (g : Ghost) (k r h to : ℕ) : Type 0 where
  pub was : stance m k ≡ gave_up r h true
  pub rises : m.cells.tail r ≤ to
  pub low : to ≤ m.cells.head r

pub record Taken (c : Setup) (m : Machine) (g : Ghost) (k r h i : ℕ) (w : List ℕ) : Type 0 where
  pub was : stance m k ≡ trying r h
  pub opened : g.gets r h ≡ opened k
  pub maker : Maker
  pub placed : g.puts r h ≡ placed i w maker

pub record Lowered (c : Setup) (m : Machine) (g : Ghost) (k r h : ℕ) : Type 0 where
  pub was : stance m k ≡ gave_up r h false
  pub dead : g.gets r h ≡ dead
  pub level : zero_level < m.cells.threshold r

pub record Emptied (c : Setup) (m : Machine) (g : Ghost) (k r h : ℕ) : Type 0 where
  pub was : (stance m k ≡ gave_up r h true) ⊎ ((stance m k ≡ gave_up r h false) × (m.cells.threshold r ≤ zero_level))
  pub dead : g.gets r h ≡ dead

-- a put draws a ticket at or past the limit
pub record PutOverran (c : Setup) (m : Machine) (k r t : ℕ) : Type 0 where
  pub at_tail : t ≡ m.cells.tail r
  pub past : c.limit ≤ t
  pub ring : r < c.rings
  pub was : Rests m k ⊎ ((i : ℕ) × (w : List ℕ) × (stance m k ≡ drawing r i w))

-- a get does
pub record GetOverran (c : Setup) (m : Machine) (k r h : ℕ) : Type 0 where
  pub at_head : h ≡ m.cells.head r
  pub past : c.limit ≤ h
  pub was : stance m k ≡ seeking r

-- what holds before an event of a seat
abbrev pub Proper : Setup → Machine → Ghost → ℕ → TicketEvent → Type 0
Proper c m g k calm = Unit {0}
Proper c m g k (drew r i w t) = Drew c m g k r i w t
Proper c m g k (fell r i w t found) = Fell c m g k r i w t found
Proper c m g k (laid r i w t) = WasLaid c m g k r i w t
Proper c m g k (finished r i w t) = Finished c m g k r i w t
Proper c m g k (entered r) = Entered c m g k r
Proper c m g k (refused r) = Refused c m g k r
Proper c m g k (began r h) = Began c m g k r h
Proper c m g k (died r h) = Died c m g k r h
Proper c m g k (saw_end r h) = SawEnd c m g k r h
Proper c m g k (lifted r h to) = Lifted c m g k r h to
Proper c m g k (taken r h i w) = Taken c m g k r h i w
Proper c m g k (lowered r h) = Lowered c m g k r h
Proper c m g k (emptied r h) = Emptied c m g k r h
Proper c m g k (overran r t true) = PutOverran c m k r t
Proper c m g k (overran r h false) = GetOverran c m k r h

-- an event of a seat: what held before it, and the state n after it
pub record EventFacts (c : Setup) (m : Machine) (g : Ghost) (k : ℕ) (e : TicketEvent) (n : Machine) : Type 0 where
  pub proper : Proper c m g k e
  pub stance : stance n k ≡ stance_by e (stance m k)
  pub hand : (n.part k).hand ≡ hand_by e (m.part k).hand
  pub calls : (n.part k).calls ≡ (m.part k).calls ++ ended_by e
  pub kept : (n.part k).spent ≡ kept_by e (m.part k).spent
  pub others : (j : ℕ) → j ≢ k → n.part j ≡ m.part j
  pub tail : n.cells.tail ≡ tail_by e m.cells.tail
  pub head : n.cells.head ≡ head_by e m.cells.head
  pub threshold : n.cells.threshold ≡ threshold_by c e m.cells.threshold
  pub opening : n.opening ≡ m.opening
