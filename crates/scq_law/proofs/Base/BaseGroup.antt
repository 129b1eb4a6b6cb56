-- The base group: how the tickets' states and the entries fit together, which tickets are drawn, what each seat has.
use Rattle.std.proofs.Common.{inl, inr}
use Rattle.std.specs.Prelude.{◌≡◌, ◌≢◌, ℕ, ◌<◌, ◌≤◌, ◌⊎◌, true, false, List}
use Rattle.scq_word.specs.declared.setup.Setup.{Setup}
use Rattle.scq_word.specs.Exports.{n_of, index_in, safe_in, cycle_in, is_none_in}
use Rattle.scq_core.specs.declared.phase.Phase.{Phase}
use Rattle.scq_core.specs.declared.phase.Phase.TheVariants.{AtE4, AtD4}
use Rattle.scq_core.specs.Exports.{Entries, updated_entry, ring_slots, cycle, slot, Lags, Stance, putting, landed, trying, gave_up}
use Rattle.scq_core.proofs.UpdatedLemmas.{updated_entry_or}
use Rattle.scq_law.specs.Exports.{Maker, call_of}
use Rattle.scq_law.proofs.Base.Ghosts.{Ghost, GetState, fresh, pending, placed, unopened, opened, dead, took, is_placed, waiting}

-- elsewhere a changed function of two arguments is as it was
pub updated_entry_else : {A : Type 0} → (f : ℕ → ℕ → A) (r s : ℕ) (x : A) (q z : ℕ) → (q ≡ r → z ≡ s → ⊥) → updated_entry f r s x q z ≡ f q z
updated_entry_else f r s x q z apart = elim (updated_entry_or f r s x q z) [ inl a ↦ absurd (apart a.0 a.1) | inr a ↦ a.1 ]

-- the word of a ticket's entry
abbrev pub at_ticket : Setup → (ℕ → ℕ → ℕ) → ℕ → ℕ → ℕ
at_ticket c word r t = word r (slot c t)

-- an index stands at this place
pub record Holds (c : Setup) (word : ℕ → ℕ → ℕ) (r t : ℕ) : Type 0 where
  pub cycle : cycle_in (ring_slots c) (at_ticket c word r t) ≡ cycle c t
  pub index : is_none_in (ring_slots c) (at_ticket c word r t) ≡ false

-- this index stands there, with this content beside it
pub record Stands (c : Setup) (e : Entries) (r t i : ℕ) (w : List ℕ) : Type 0 where
  pub holds : Holds c e.word r t
  pub index : index_in (ring_slots c) (at_ticket c e.word r t) ≡ i
  pub content : e.content r (slot c t) ≡ w
  pub small : i < n_of c.order

-- an entry whose cycle is at or past a cycle, or that is unsafe: no index comes to that cycle's place
abbrev pub Shut : Setup → ℕ → ℕ → Type 0
Shut c word at = (at ≤ cycle_in (ring_slots c) word) ⊎ (safe_in (ring_slots c) word ≡ 0)

pub record IsBooked (c : Setup) (e : Entries) (g : Ghost) : Type 0 where
  -- where an index stands, one was placed and may be taken
  pub live : (r p : ℕ) → Holds c e.word r p → (is_placed (g.puts r p) ≡ true) × (waiting (g.gets r p) ≡ true)
  -- what was placed and may be taken stands there
  pub stands : (r p i : ℕ) (w : List ℕ) (b : Maker) → g.puts r p ≡ placed i w b → waiting (g.gets r p) ≡ true → Stands c e r p i w
  -- where no index stands, the ticket of the entry's cycle is over
  pub over : (r p : ℕ) → ring_slots c ≤ p → cycle_in (ring_slots c) (at_ticket c e.word r p) ≡ cycle c p
      → is_none_in (ring_slots c) (at_ticket c e.word r p) ≡ true → waiting (g.gets r p) ≡ false
  pub taken : (r p k j : ℕ) → g.gets r p ≡ took k j → is_placed (g.puts r p) ≡ true
  pub never : (r p : ℕ) → g.gets r p ≡ dead → is_placed (g.puts r p) ≡ false
  pub shut : (r p : ℕ) → g.gets r p ≡ dead → Shut c (at_ticket c e.word r p) (cycle c p)

-- tickets are drawn below Tail and Head, below the limit, and from the number of slots on
pub record IsDrawn (c : Setup) (tail head : ℕ → ℕ) (g : Ghost) : Type 0 where
  pub tails : (r t : ℕ) → tail r ≤ t → g.puts r t ≡ fresh
  pub heads : (r t : ℕ) → head r ≤ t → g.gets r t ≡ unopened
  pub put_limit : (r t : ℕ) → c.limit ≤ t → g.puts r t ≡ fresh
  pub get_limit : (r t : ℕ) → c.limit ≤ t → g.gets r t ≡ unopened
  pub put_first : (r t : ℕ) → t < ring_slots c → g.puts r t ≡ fresh
  pub get_first : (r t : ℕ) → t < ring_slots c → g.gets r t ≡ unopened
  pub first_tail : (r : ℕ) → ring_slots c ≤ tail r
  pub first_head : (r : ℕ) → ring_slots c ≤ head r

-- what a seat's stance says of its ticket; number is how many calls its record has
abbrev pub Claims : Ghost → ℕ → ℕ → Stance → Type 0
Claims g k number (putting r i w t) = g.puts r t ≡ pending k i
Claims g k number (landed r i w t) = g.puts r t ≡ placed i w (call_of k number)
Claims g k number (trying r h) = g.gets r h ≡ opened k
Claims g k number (gave_up r h leaves) = g.gets r h ≡ dead
Claims g k number _ = Unit {0}

-- where the word that an enqueue loaded is unsafe and still there, each ticket of this slot that was given up is lower
pub record Passed (c : Setup) (word : ℕ → ℕ → ℕ) (gets : ℕ → ℕ → GetState) (r t v : ℕ) : Type 0 where
  pub passed : at_ticket c word r t ≡ v → safe_in (ring_slots c) v ≡ 0 → (h : ℕ) → slot c h ≡ slot c t → gets r h ≡ dead → h < t

-- what a seat knows beyond its stance, where its next step may change an entry
abbrev pub Knows : Setup → (ℕ → ℕ → ℕ) → (ℕ → ℕ → GetState) → Phase → Type 0
Knows c word gets (AtE4 r i w t e) = Passed c word gets r t e
Knows c word gets (AtD4 r h) = Holds c word r h
Knows c word gets _ = Unit {0}

-- a word that an enqueue loaded: no index in it, of an earlier cycle, and the entry is as it was or has risen
pub record Loaded (c : Setup) (word : ℕ → ℕ → ℕ) (r t v : ℕ) : Type 0 where
  pub empty : is_none_in (ring_slots c) v ≡ true
  pub lags : Lags c t v (at_ticket c word r t)

-- what stays for the other seats over a turn of seat k, from entries and ghost e and g to f and h
pub record Moves (c : Setup) (e : Entries) (g : Ghost) (k : ℕ) (f : Entries) (h : Ghost) : Type 0 where
  pub pends : (j r t i : ℕ) → j ≢ k → g.puts r t ≡ pending j i → h.puts r t ≡ pending j i
  pub lies : (r t i : ℕ) (w : List ℕ) (b : Maker) → g.puts r t ≡ placed i w b → h.puts r t ≡ placed i w b
  pub opens : (j r t : ℕ) → j ≢ k → g.gets r t ≡ opened j → h.gets r t ≡ opened j
  pub ends : (r t : ℕ) → g.gets r t ≡ dead → h.gets r t ≡ dead
  pub takes : (r t j x : ℕ) → g.gets r t ≡ took j x → h.gets r t ≡ took j x
  pub holds : (j r t : ℕ) → j ≢ k → g.gets r t ≡ opened j → Holds c e.word r t → Holds c f.word r t
  pub passes : (r t v : ℕ) → Loaded c e.word r t v → Passed c e.word g.gets r t v → Passed c f.word h.gets r t v

-- a change that keeps the books, and what stays for the other seats
pub record Effect (c : Setup) (e : Entries) (g : Ghost) (k : ℕ) (f : Entries) (h : Ghost) : Type 0 where
  pub booked : IsBooked c f h
  pub moves : Moves c e g k f h
