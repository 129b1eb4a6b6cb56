-- The public law on places, from the tickets' states. Plan: what is placed by the records and phases is what the ticket's
-- state says, in both directions; then each field is a fact of states.
use Rattle.std.proofs.Common.{◌≡◌, ℕ, ◌-◌, ◌<◌, ◌≤◌, true, false, List, length, refl, ap, sym, subst, ◌∙◌, ◌⊎◌, inl, inr, arith}
use Rattle.std.proofs.lemmas.Bool.{cases_lt}
use Rattle.scq_word.specs.declared.setup.Setup.{Setup}
use Rattle.scq_word.specs.Exports.{is_none_in}
use Rattle.scq_core.specs.declared.phase.Phase.{Phase}
use Rattle.scq_core.specs.declared.phase.Phase.TheVariants.{Idle, AtD4}
use Rattle.scq_core.specs.Exports.{SeatPart, ring_slots, slot, word_at, IsReachable, resting, trying, stance_of}
use Rattle.scq_core.specs.Machine.{Machine}
use Rattle.scq_law.specs.Exports.{Maker, opening_put, call_of, LooksAt, GaveUp, IsPlacedBy, at_opening, in_record, under_way, IsTakenBy, IsTaken}
use Rattle.scq_law.specs.Exports.{IsUntaken, OneLooks, AllIdle, PlacesOnce}
use Rattle.scq_law.proofs.Base.Ghosts.{Ghost, GetState, placed, unopened, opened, dead, took, is_placed}
use Rattle.scq_law.proofs.Base.Traces.{has_trace}
use Rattle.scq_law.proofs.Base.EventFacts.{stance}
use Rattle.scq_law.proofs.Base.BaseGroup.{Claims, Knows}
use Rattle.scq_law.proofs.Window.FailCauses.{placement}
use Rattle.scq_law.proofs.Base.Based.{IsBased, based}
use Rattle.scq_law.proofs.Places.SeatTickets.{IsRooted}
use Rattle.scq_law.proofs.Places.ReachedTickets.{IsReached}
use Rattle.scq_law.proofs.Places.RecordsAgree.{RecordsAgree}
use Rattle.scq_law.proofs.Places.Throughout.{rooted, reached, records_agree}

-- a ticket that a dequeue has given up is dead
pub gave_up_dead : (g : Ghost) (k number : ℕ) (phase : Phase) (r h : ℕ) → Claims g k number (stance_of phase) → GaveUp phase r h → g.gets r h ≡ dead
gave_up_dead g k number phase r h claims gave = subst (Claims g k number) gave.1 claims

module _ (c : Setup) (g : Ghost) (m : Machine) (base : IsBased c g m) (records_agree : RecordsAgree c g m) where
  pub placed_by : (r p : ℕ) (w : List ℕ) (a : Maker) → IsPlacedBy c m r p w a → (i : ℕ) × (g.puts r p ≡ placed i w a)
  placed_by r p w a (at_opening ring first last content) =
      (p - ring_slots c, rw (ring, content) (records_agree.opens p first last))
  placed_by r p w a (in_record k j is) = let made = records_agree.done k j r p w is in (made.index, made.is)
  placed_by r p w a (under_way k has) =
      (has.0, subst (Claims g k (length (m.part k).calls)) has.1 (base.claims k))

  pub by_placed : (r p i : ℕ) (w : List ℕ) (a : Maker) → g.puts r p ≡ placed i w a → IsPlacedBy c m r p w a
  by_placed r p i w opening_put is =
      let s = records_agree.stood r p i w is in at_opening s.ring s.first s.last s.content
  by_placed r p i w (call_of k j) is =
      elim (records_agree.made r p i w k j is) [
        | inl call ↦ in_record k j call
        | inr lands ↦ rw lands.0 (under_way k (i, lands.1))
      ]

  -- one maker and one content, since a ticket has one state
  one_maker : (r p : ℕ) (v w : List ℕ) (a b : Maker) → IsPlacedBy c m r p v a → IsPlacedBy c m r p w b → (a ≡ b) × (v ≡ w)
  one_maker r p v w a b at_a at_b =
      let x = placed_by r p v a at_a in
      let y = placed_by r p w b at_b in
      let same : placed x.0 v a ≡ placed y.0 w b = sym x.1 ∙ y.1 in
      let maker : a ≡ b = cc in
      let content : v ≡ w = cc in
      (maker, content)

  place_below_limit : (r p : ℕ) (w : List ℕ) (a : Maker) → IsPlacedBy c m r p w a → (ring_slots c ≤ p) × (p < m.cells.tail r) × (p < c.limit)
  place_below_limit r p w a by =
      let x = placed_by r p w a by in
      let is = x.1 in
      let drawn = base.drawn in
      let first : ring_slots c ≤ p =
      elim (cases_lt p (ring_slots c)) [
        | inl low ↦ let bad = drawn.put_first r p low in absurd (cc)
        | inr high ↦ high
      ] in
      let below : p < m.cells.tail r =
      elim (cases_lt p (m.cells.tail r)) [
        | inl low ↦ low
        | inr high ↦ let bad = drawn.tails r p high in absurd (cc)
      ] in
      let below_limit : p < c.limit =
      elim (cases_lt p c.limit) [ inl low ↦ low | inr high ↦ let bad = drawn.put_limit r p high in absurd (cc) ] in
      (first, below, below_limit)

  one_taker : (r p : ℕ) (v w : List ℕ) (k x j y : ℕ) → IsTakenBy m r p v k x → IsTakenBy m r p w j y → (k ≡ j) × (x ≡ y)
  one_taker r p v w k x j y at_k at_j =
      let a = records_agree.got k x r p v at_k in
      let b = records_agree.got j y r p w at_j in
      let same : took k x ≡ took j y = sym a.took ∙ b.took in
      let seat : k ≡ j = cc in
      let number : x ≡ y = cc in
      (seat, number)

  taken_below : (r p : ℕ) (w : List ℕ) (k x : ℕ) → IsTakenBy m r p w k x → p < m.cells.head r
  taken_below r p w k x by =
      let t = records_agree.got k x r p w by in
      let is = t.took in
      elim (cases_lt p (m.cells.head r)) [
        | inl low ↦ low
        | inr high ↦ let bad = base.drawn.heads r p high in absurd (cc)
      ]

  -- the ticket at which a seat looks is open, and its own
  opened_by : (k r h : ℕ) → LooksAt (m.part k).phase r h → g.gets r h ≡ opened k
  opened_by k r h looks = subst (Claims g k (length (m.part k).calls)) looks (base.claims k)

  -- an open ticket is that of one seat, which looks at it
  one_looks : IsRooted g m → IsReached c g m → (r h k : ℕ) → g.gets r h ≡ opened k → OneLooks c m r h
  one_looks roots reach r h k is =
      record {
        seat = k;
        low =
            elim (cases_lt k c.seats) [
              | inl low ↦ low
              | inr high ↦
                  let idle = reach.absent k high in
                  let at : stance m k ≡ trying r h = roots.opens k r h is in
                  let rests : stance m k ≡ resting = ap (λ (p : SeatPart). stance_of p.phase) idle in
                  absurd (cc)
            ];
        looks = roots.opens k r h is;
        alone =
            λ j looks.
            let own = opened_by j r h looks in
            cc;
      }

  -- a call that took at a place has the content that was placed there
  pub taken_at : (r p : ℕ) (w : List ℕ) (a : Maker) (k j : ℕ) → IsPlacedBy c m r p w a → g.gets r p ≡ took k j → IsTaken m r p w
  taken_at r p w a k j by is =
      let t = records_agree.taken r p k j is in
      let made = records_agree.got k j r p t.0 t.1 in
      let x = placed_by r p w a by in
      let same : placed made.index t.0 made.maker ≡ placed x.0 w a = sym made.is ∙ x.1 in
      let content : t.0 ≡ w = cc in
      record { seat = k; number = j; taken = rw (← content) t.1 }

  -- nobody gave up a ticket at which something was placed
  pub not_dead : (r p : ℕ) (w : List ℕ) (a : Maker) → IsPlacedBy c m r p w a → g.gets r p ≡ dead → ⊥
  not_dead r p w a by is =
      let x = placed_by r p w a by in
      let has : is_placed (g.puts r p) ≡ true = ap is_placed x.1 in
      let not = base.booked.never r p is in
      absurd (cc)

  claimed : IsRooted g m → IsReached c g m → (r p : ℕ) (w : List ℕ) (a : Maker) → IsPlacedBy c m r p w a
      → IsTaken m r p w ⊎ (m.cells.head r ≤ p) ⊎ OneLooks c m r p
  claimed roots reach r p w a by = go (g.gets r p) refl
    where
      go : (x : GetState) → g.gets r p ≡ x → IsTaken m r p w ⊎ (m.cells.head r ≤ p) ⊎ OneLooks c m r p
      go unopened is =
          elim (cases_lt p (m.cells.head r)) [
            | inl low ↦
                let below_limit = place_below_limit r p w a by in absurd (reach.reached r p below_limit.0 low below_limit.2 is)
            | inr high ↦ inr (inl high)
          ]
      go (opened k) is = inr (inr (one_looks roots reach r p k is))
      go dead is = absurd (not_dead r p w a by is)
      go (took k j) is = inl (taken_at r p w a k j by is)

  looked_at : (k r h : ℕ) → LooksAt (m.part k).phase r h → (h < m.cells.head r) × IsUntaken m r h
  looked_at k r h looks =
      let own = opened_by k r h looks in
      let passed : h < m.cells.head r =
      elim (cases_lt h (m.cells.head r)) [
        | inl low ↦ low
        | inr high ↦ let undrawn = base.drawn.heads r h high in absurd (cc)
      ] in
      (passed, λ w j x by. let t = records_agree.got j x r h w by in let clash : opened k ≡ took j x = sym own ∙ t.took in cc)

  nothing_given_up : (k r h : ℕ) → GaveUp (m.part k).phase r h → (w : List ℕ) (a : Maker) → IsPlacedBy c m r h w a → ⊥
  nothing_given_up k r h gave w a by =
      not_dead r h w a by (gave_up_dead g k (length (m.part k).calls) (m.part k).phase r h (base.claims k) gave)

  stands_to_take : (k r h : ℕ) → (m.part k).phase ≡ AtD4 r h → is_none_in (ring_slots c) (word_at c m.cells r h) ≡ false
  stands_to_take k r h is =
      let knows : Knows c m.cells.entries.word g.gets (AtD4 r h) = rw is at (base.knows k) in knows.index

  answered : (k r h : ℕ) → (m.part k).phase ≡ AtD4 r h → (a : Maker) × IsPlacedBy c m r h (m.cells.entries.content r (slot c h)) a
  answered k r h is =
      let knows : Knows c m.cells.entries.word g.gets (AtD4 r h) = rw is at (base.knows k) in
      let both = base.booked.live r h knows in
      let at = placement g r h both.0 in
      let stands = base.booked.stands r h at.index at.content at.maker at.is both.1 in
      (at.maker, rw stands.content (by_placed r h at.index at.content at.maker at.is))

-- the law, of every reachable state
pub places_once : (c : Setup) (m : Machine) → IsReachable c m → PlacesOnce c m
places_once c m reach =
    let s = has_trace c m reach in
    let g = s.ghost in
    let base = based c s.time g m s.trace in
    let records = records_agree c s.time g m s.trace in
    let roots = rooted c s.time g m s.trace in
    let reach_g = reached c s.time g m s.trace in
    record {
      once = one_maker c g m base records;
      below_limit = place_below_limit c g m base records;
      taken_once = one_taker c g m base records;
      taken_below = taken_below c g m base records;
      fresh =
          λ r p w k x by. let t = records.got k x r p w by in (t.maker, by_placed c g m base records r p t.index w t.maker t.is);
      claimed = claimed c g m base records roots reach_g;
      looked_at = looked_at c g m base records;
      given_up = nothing_given_up c g m base records;
      stands = stands_to_take c g m base records;
      answered = answered c g m base records;
    }

-- with all seats idle, what was placed below Head has been taken
pub got_below : (c : Setup) (m : Machine) → IsReachable c m → AllIdle c m → (r p : ℕ) (w : List ℕ) (a : Maker) → IsPlacedBy c m r p w a → p < m.cells.head r
    → IsTaken m r p w
got_below c m reach idle r p w a by low =
    elim ((places_once c m reach).claimed r p w a by) [
      | inl taken ↦ taken
      | inr (inl high) ↦ absurd (omega arith)
      | inr (inr one) ↦
          let at : LooksAt Idle r p = rw (idle one.seat one.low) at one.looks in absurd (cc)
    ]
