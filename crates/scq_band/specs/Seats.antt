-- For private calls: the view of one seat that stands alone, and what becomes of it.
use Rattle.std.specs.Prelude.{◌≡◌, ◌⊎◌, ◌+◌, ◌^◌, ◌<◌, ◌≤◌, ℕ, Bool, true, false, List, [], ◌∷◌}
use Rattle.std.specs.Prelude.{◌++◌, length, Option, Some, slice_get}
use Rattle.scq_word.specs.declared.setup.Setup.{Setup}
use Rattle.scq_word.specs.Exports.{n_of}
use Rattle.scq_law.specs.Exports.{times}
use Rattle.scq_core.specs.declared.phase.Phase.{Phase}
use Rattle.scq_core.specs.declared.phase.Phase.TheVariants.{Idle, AtE1, AtE2, AtE3, AtE4, AtE5}
use Rattle.scq_core.specs.declared.phase.Phase.TheVariants.{AtE6, AtD2, AtD3, AtD7}
use Rattle.scq_core.specs.Exports.{SeatPart, hand_without, ends, spends}
use Rattle.scq_core.specs.declared.ended.Ended.TheVariants.{Done, Got, Nothing}
use Rattle.scq_band.specs.Numbers.{changed, finishes, sees, passes, drew, empties}
use Rattle.scq_band.specs.declared.numbers.Numbers.{Numbers}
use Rattle.scq_band.specs.Known.{Member, Known}
use Rattle.atomic_table.specs.Table.{Me, rest}
use Rattle.scq_band.specs.Slots.{SlotStanding}
use Rattle.scq_band.specs.Turns.{Takes}
use Rattle.scq_band.specs.Steps.{my, front_bytes}

-- one seat stands in the view, and none of its slots was brought home
pub record IsAlone (v : Known) : Type 0 where
  pub seats : v.seats ≡ my v ∷ []
  pub out : (my v).brought ≡ []

abbrev pub with_part : SeatPart → Member → Member
with_part q x = record x { part = q }

-- a seat whose call goes on
abbrev pub at_phase : Phase → Member → Member
at_phase t x = record x { part = record x.part { phase = t } }

-- the view of this seat with these numbers
abbrev pub seated : Member → List Numbers → Known → Known
seated x numbers v = record v { seats = x ∷ []; numbers = numbers }

-- the view of a seat whose call goes on, and which has learned nothing
abbrev pub goes_to : Phase → Known → Known
goes_to t v = seated (at_phase t (my v)) v.numbers v

-- the view of a seat that has placed an index: it has left the hand
abbrev pub placed_to : ℕ → ℕ → List ℕ → ℕ → Known → Known
placed_to r i w t v =
    seated (with_part (record (my v).part {
      phase = AtE5 r i w t;
      hand =
          hand_without i (my v).part.hand;
    }) (my v)) v.numbers v

-- the view of a seat whose put has ended at a place
abbrev pub done_at : ℕ → ℕ → List ℕ → Known → Known
done_at r p w v =
    seated (with_part (ends (Done r p w) (my v).part) (my v)) (changed (finishes p) r v.numbers) v

-- the view of a seat that has put an index: it has left the hand, and the put stands in the record
abbrev pub put_at : ℕ → ℕ → ℕ → List ℕ → Known → Known
put_at r i p w v =
    seated (with_part
    (ends (Done r p w) (record (my v).part { hand = hand_without i (my v).part.hand })) (my v))
    (changed (finishes p) r v.numbers) v

-- the view of a seat that has got an index at a place
abbrev pub got_at : ℕ → ℕ → ℕ → List ℕ → Known → Known
got_at r h i w v =
    seated (with_part (ends (Got r h w) (record (my v).part { hand = (my v).part.hand ++ i ∷ [] }))
    (my v)) (changed (sees h) r v.numbers) v

-- the view of a seat whose get has found nothing
abbrev pub nothing_at : ℕ → Known → Known
nothing_at r v =
    seated (with_part (ends (Nothing r) (my v).part) (my v)) (changed empties r v.numbers) v

-- the view of a seat whose call drew a ticket at or past the limit
abbrev pub spent_at : ℕ → ℕ → Bool → Known → Known
spent_at r ticket is_put v =
    seated (with_part (spends r ticket is_put (my v).part) (my v)) v.numbers v

-- the index of a put under way
abbrev pub put_index : Phase → ℕ
put_index (AtE1 r i w l) = i
put_index (AtE2 r i w t l) = i
put_index (AtE3 r i w t e) = i
put_index (AtE4 r i w t e) = i
put_index (AtE5 r i w t) = i
put_index (AtE6 r i w t) = i
put_index phase = 0

-- the content of a put under way
abbrev pub content_of : Phase → List ℕ
content_of (AtE1 r i w l) = w
content_of (AtE2 r i w t l) = w
content_of (AtE3 r i w t e) = w
content_of (AtE4 r i w t e) = w
content_of (AtE5 r i w t) = w
content_of (AtE6 r i w t) = w
content_of phase = []

-- the least number that a step is known to find
abbrev pub least_of : Phase → ℕ
least_of (AtE1 r i w l) = l
least_of (AtE2 r i w t l) = l
least_of (AtD2 r l) = l
least_of (AtD3 r h l) = l
least_of phase = 0

-- a put is about to look at its ticket's slot, and to reset Threshold
abbrev pub IsLooking : ℕ → ℕ → Phase → Type 0
IsLooking r t phase = phase ≡ AtE2 r (put_index phase) (content_of phase) t (least_of phase)

abbrev pub IsEnding : ℕ → ℕ → Phase → Type 0
IsEnding r t phase = phase ≡ AtE5 r (put_index phase) (content_of phase) t

-- a put is about to draw its first ticket, or its next
abbrev pub IsToDraw : ℕ → ℕ → List ℕ → Phase → Type 0
IsToDraw r i w phase = (phase ≡ Idle) ⊎ (phase ≡ AtE1 r i w (least_of phase))

-- a get is about to look at its ticket's slot
abbrev pub IsSeeking : ℕ → ℕ → Phase → Type 0
IsSeeking r h phase = phase ≡ AtD3 r h (least_of phase)

-- a put of the index whose slot stood first has ended at a place, below the limit and above what
-- was known of Tail: the index has left the hand, and its slot the seat
pub record HasPut {B : Type 0} (contents : B
    → List ℕ) (c : Setup) (r i p : ℕ) (me later : Me (SlotStanding B) Known) : Type 0 where
  pub view : later.0 ≡ put_at r i p (front_bytes contents me.1) me.0
  pub slots : later.1 ≡ rest me.1
  pub low : p < c.limit
  pub above : (known : Numbers) → slice_get me.0.numbers r ≡ Some known → known.seen < p

-- a put has drawn a ticket at or past the limit
pub record HasSpentPut {S : Type 0} (c : Setup) (r ticket : ℕ) (me later : Me S Known)
    : Type 0 where
  pub view : later.0 ≡ spent_at r ticket true me.0
  pub slots : later.1 ≡ me.1
  pub past : c.limit ≤ ticket

-- a seat has got the index i at the place h, and its slot
pub record SeatHasGot {S : Type 0} (Lies : ℕ → S → List ℕ
    → Type 0) (c : Setup) (r h i : ℕ) (me later : Me S Known) : Type 0 where
  pub content : List ℕ
  pub view : later.0 ≡ got_at r h i content me.0
  pub slots : Takes Lies i content me.1 later.1
  pub low : i < n_of c.order
  -- its hand has room for no more than all indices, and has each of them once
  pub fits : length (my later.0).part.hand ≤ n_of c.order
  pub once : (j : ℕ) → times j (my later.0).part.hand ≤ 1

-- a get that leaves is about to lift Tail
abbrev pub IsBehind : ℕ → ℕ → ℕ → ℕ → Phase → Type 0
IsBehind r h from to phase = phase ≡ AtD7 r h from to

-- the view of a seat that has drawn a ticket from Head
abbrev pub drew_head : ℕ → ℕ → Known → Known
drew_head r h v = seated (my v) (changed (passes (h + 1)) r v.numbers) v

-- a seat has got an index with the last ticket that it drew, below the limit and no lower than
-- what was known of Head
pub record HasGotAfter {S : Type 0} (Lies : ℕ → S → List ℕ
    → Type 0) (c : Setup) (r h i : ℕ) (me later : Me S Known) : Type 0 where
  pub got : SeatHasGot Lies c r h i (drew_head r h me.0, me.1) later
  pub below : h < c.limit
  pub above : (known : Numbers) → slice_get me.0.numbers r ≡ Some known → known.head ≤ h

-- the view of a get that has found nothing, with the last ticket that it drew, if any
abbrev pub none_at : ℕ → Option ℕ → Known → Known
none_at r drawn v =
    seated (with_part (ends (Nothing r) (my v).part) (my v))
    (changed (λ x. empties (drew drawn x)) r v.numbers) v

-- a get has found nothing. The last ticket that it drew, if any, is below the limit and no lower
-- than what was known of Head
pub record HasFoundNone {S : Type 0} (c : Setup) (r : ℕ) (drawn : Option ℕ)
    (me later : Me S Known) : Type 0 where
  pub view : later.0 ≡ none_at r drawn me.0
  pub slots : later.1 ≡ me.1
  pub below : (t : ℕ) → drawn ≡ Some t → t < c.limit
  pub past : (t : ℕ) → drawn ≡ Some t → (known : Numbers) → slice_get me.0.numbers r ≡ Some known
      → known.head ≤ t

-- the view of a seat whose get drew a ticket at or past the limit
abbrev pub drawn_spent : ℕ → ℕ → Known → Known
drawn_spent r ticket v = spent_at r ticket false (drew_head r ticket v)

-- a get has drawn a ticket at or past the limit
pub record HasSpentGet {S : Type 0} (c : Setup) (r ticket : ℕ) (me later : Me S Known)
    : Type 0 where
  pub view : later.0 ≡ drawn_spent r ticket me.0
  pub slots : later.1 ≡ me.1
  pub past : c.limit ≤ ticket
  pub short : ticket + 1 < 2 ^ 64

-- the view of a get that is to draw: it has drawn the tickets below a number
abbrev pub to_draw : ℕ → ℕ → Known → Known
to_draw r l v = seated (at_phase (AtD2 r l) (my v)) (changed (passes l) r v.numbers) v

-- the view of a seat that has read the gate
abbrev pub looked : ℕ → Known → Known
looked x v = record v { gates = v.gates + 1; gate = Some x }

-- the view of a seat that has retired
abbrev pub retired_at : Known → Known
retired_at v = record v { seats = record (my v) { retired = Some (length (my v).part.calls) } ∷ [] }
