-- The public law on what stands in the entries. Plan: the index of an entry is live at the place of its cycle; what was
-- placed is live there until it is taken.
use Rattle.std.specs.Prelude.{Some}
use Rattle.std.proofs.Common.{◌≡◌, ℕ, ◌<◌, true, false, List, refl, ap, sym, ◌∙◌, ◌⊎◌, inl, inr}
use Rattle.scq_word.specs.declared.setup.Setup.{Setup}
use Rattle.scq_word.specs.Exports.{is_none_in}
use Rattle.scq_core.specs.declared.phase.Phase.{Phase}
use Rattle.scq_core.specs.declared.phase.Phase.TheVariants.{AtD4}
use Rattle.scq_core.specs.declared.step.Step.{Step}
use Rattle.scq_core.specs.Exports.{SeatPart, ring_slots, turn_of, word_at, IsReachable}
use Rattle.scq_core.specs.Machine.{Machine}
use Rattle.scq_core.proofs.Turns.{Begins, begins_put, begins_get, begins}
use Rattle.scq_law.specs.Exports.{Maker, IsPlacedBy, IsTaken, IsUntaken, StandsInSlot, StandsFor, EntriesMatchPlaces}
use Rattle.scq_law.proofs.Base.Ghosts.{Ghost, GetState, unopened, opened, dead, took, waiting}
use Rattle.scq_law.proofs.Base.Traces.{has_trace}
use Rattle.scq_law.proofs.Base.Based.{IsBased, based}
use Rattle.scq_law.proofs.Places.RecordsAgree.{RecordsAgree}
use Rattle.scq_law.proofs.Places.Throughout.{records_agree}
use Rattle.scq_law.proofs.Places.HandLaws.{stood_at}
use Rattle.scq_law.proofs.Places.PlaceLaws.{placed_by, by_placed, taken_at, not_dead, places_once}

module _ (c : Setup) (g : Ghost) (m : Machine) (base : IsBased c g m) (records : RecordsAgree c g m) where
  -- where something may still be taken, nobody has taken
  waits_untaken : (r p : ℕ) → waiting (g.gets r p) ≡ true → IsUntaken m r p
  waits_untaken r p waits w k x by =
      let t = records.got k x r p w by in
      let over : waiting (g.gets r p) ≡ false = ap waiting t.took in
      absurd (cc)

  stands_for : (r s : ℕ) → s < ring_slots c → is_none_in (ring_slots c) (m.cells.entries.word r s) ≡ false → StandsFor c m r s
  stands_for r s low some =
      let at = stood_at c g m base r s low some in
      let live = at.live in
      let stands = base.booked.stands r at.place _ live.content live.maker live.is live.waits in
      let content : m.cells.entries.content r s ≡ live.content = ap (m.cells.entries.content r) (sym at.slot) ∙ stands.content in
      record {
        place = at.place;
        maker = live.maker;
        slot = at.slot;
        placed = rw content (by_placed c g m base records r at.place _ live.content live.maker live.is);
        untaken = waits_untaken r at.place live.waits;
        cycle = sym at.cycle;
      }

  taken_or_stands : (r p : ℕ) (w : List ℕ) (a : Maker) → IsPlacedBy c m r p w a → IsTaken m r p w ⊎ StandsInSlot c m.cells r p w
  taken_or_stands r p w a by = go (g.gets r p) refl
    where
      standing : waiting (g.gets r p) ≡ true → StandsInSlot c m.cells r p w
      standing waits =
          let x = placed_by c g m base records r p w a by in
          let stands = base.booked.stands r p x.0 w a x.1 waits in
          record {
            cycle = stands.holds.cycle;
            index = rw stands.index stands.small;
            content = stands.content;
          }

      go : (x : GetState) → g.gets r p ≡ x → IsTaken m r p w ⊎ StandsInSlot c m.cells r p w
      go unopened is = inr (standing (ap waiting is))
      go (opened k) is = inr (standing (ap waiting is))
      go dead is = absurd (not_dead c g m base records r p w a by is)
      go (took k j) is = inl (taken_at c g m base records r p w a k j by is)

-- the law, of every reachable state
pub entries_match_places : (c : Setup) (m : Machine) → IsReachable c m → EntriesMatchPlaces c m
entries_match_places c m reach =
    let s = has_trace c m reach in
    let base = based c s.time s.ghost m s.trace in
    let records = records_agree c s.time s.ghost m s.trace in
    record { placed = stands_for c s.ghost m base records; stands = taken_or_stands c s.ghost m base records }

-- the place of an entry's index, with the content that stands beside it
pub stands_placed : (c : Setup) (m : Machine) (r s : ℕ) → IsReachable c m → s < ring_slots c → is_none_in (ring_slots c) (m.cells.entries.word r s) ≡ false
    → StandsFor c m r s
stands_placed c m r s reach low some = (entries_match_places c m reach).placed r s low some

-- no call begins by taking
begun_takes_nothing : (c : Setup) (hand : List ℕ) (r h : ℕ) (turn : Phase) → Begins c hand turn → turn ≡ AtD4 r h → ⊥
begun_takes_nothing c hand r h turn (begins_put q i w low small held) is = cc
begun_takes_nothing c hand r h turn (begins_get q low) is = cc

-- a turn that takes is its seat's phase
pub takes_phase : (c : Setup) (p : SeatPart) (s : Step) (r h : ℕ) → turn_of c p s ≡ Some (AtD4 r h) → p.phase ≡ AtD4 r h
takes_phase c p s r h enabled =
    elim (begins c p.hand p.spent p.phase s (AtD4 r h) enabled) [
      | inl same ↦ sym same
      | inr new ↦ absurd (begun_takes_nothing c p.hand r h (AtD4 r h) new.2 refl)
    ]

-- where a turn takes, an index stands
pub stands_at_turn : (c : Setup) (m : Machine) (k : ℕ) (s : Step) (r h : ℕ) → IsReachable c m → turn_of c (m.part k) s ≡ Some (AtD4 r h)
    → is_none_in (ring_slots c) (word_at c m.cells r h) ≡ false
stands_at_turn c m k s r h reach enabled = (places_once c m reach).stands k r h (takes_phase c (m.part k) s r h enabled)
