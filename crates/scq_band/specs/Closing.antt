-- What the records of all seats say together once a band is closed, when no seat is in the middle
-- of a call. The records stand in the order in which the seats were given. A call is told by its
-- seat's number in that order and by its own in the record, from 0.
use Rattle.std.specs.Prelude.{◌≡◌, ◌⊎◌, ℕ, ◌+◌, ◌<◌, ◌≤◌, Bool, if◌then◌else◌, is_none, List, []}
use Rattle.std.specs.Prelude.{◌∷◌, ◌++◌, map, length, Option, Some, slice_get, slice_index}
use Rattle.std.specs.Prelude.{slice_index_or, sum, sum_by, All, None}
use Rattle.std.specs.List.{Contains}
use Rattle.scq_word.specs.declared.setup.Setup.{Setup}
use Rattle.scq_word.specs.Exports.{n_of, ticket_bound, limit_for, index_in, cycle_in}
use Rattle.scq_core.specs.declared.ended.Ended.{Ended}
use Rattle.scq_core.specs.declared.ended.Ended.TheVariants.{Done, Got, Spent}
use Rattle.scq_core.specs.declared.step.Step.{Step}
use Rattle.scq_core.specs.Machine.{Machine}
use Rattle.scq_core.specs.Exports.{ring_slots, slot, cycle}
use Rattle.scq_law.specs.Exports.{times, tally, was_put, openings, was_done, was_got, run_of}
use Rattle.scq_law.specs.Exports.{IsFinishedRun, HistoryHasAspects, HistoryShowsRecords}
use Rattle.scq_law.specs.Exports.{IsLinearization, IsOneOrder, AllPrefixes, HasProgress}
use Rattle.scq_law.specs.Exports.{DelayedByEnds, EndsAlone}
use Rattle.scq_law.specs.declared.ordered.Ordered.{Ordered}
use Rattle.scq_band.specs.RunSeen.{Caller}
use Rattle.scq_band.specs.Buffers.{opening_of}
use Rattle.scq_band.specs.declared.numbers.Numbers.{Numbers}
use Rattle.scq_band.specs.Numbers.{known_of}
use Rattle.scq_band.specs.Standing.{Identity, Standing, IsAsGiven, caller_of}

-- this call ended so
abbrev pub CallEndedSo : List (List Ended) → ℕ → ℕ → Ended → Type 0
CallEndedSo records seat number ended =
    (calls : List Ended) × (slice_get records seat ≡ Some calls)
    × (slice_get calls number ≡ Some ended)

-- some call ended so
pub record SomeCallEndedSo (records : List (List Ended)) (ended : Ended) : Type 0 where
  pub seat : ℕ
  pub number : ℕ
  pub is : CallEndedSo records seat number ended

-- the opening put of an index: at the place 2n + index of ring 0, with the bytes that its buffer
-- was given with
pub record IsOpeningPut (c : Setup) (opening : List (List ℕ)) (r p : ℕ) (w : List ℕ) : Type 0 where
  pub index : ℕ
  pub ring : r ≡ 0
  pub place : p ≡ ring_slots c + index
  pub bytes : slice_get opening index ≡ Some w

-- a put placed these bytes at the place p of ring r: an opening put, or a call
abbrev pub WasPut : Setup → List (List ℕ) → List (List Ended) → ℕ → ℕ → List ℕ → Type 0
WasPut c opening records r p w = IsOpeningPut c opening r p w ⊎ SomeCallEndedSo records (Done r p w)

-- some seat knows that Head of ring r is past the place p
pub record IsKnownPassed (known : List (List Numbers)) (r p : ℕ) : Type 0 where
  pub seat : ℕ
  pub numbers : List Numbers
  pub its : slice_get known seat ≡ Some numbers
  pub passed : p < (known_of numbers r).head

-- each place that was got is the place of a put with the same bytes
abbrev pub EachGetHasItsPut : Setup → List (List ℕ) → List (List Ended) → Type 0
EachGetHasItsPut c opening records =
    (r p : ℕ) (w : List ℕ) → SomeCallEndedSo records (Got r p w) → WasPut c opening records r p w

-- no place was put at twice, neither by two calls nor by a call where an opening put is
pub record NoneIsPutTwice (c : Setup) (opening : List (List ℕ))
    (records : List (List Ended)) : Type 0 where
  pub once : (r p : ℕ) (v w : List ℕ) (a x b y : ℕ) → CallEndedSo records a x (Done r p v)
      → CallEndedSo records b y (Done r p w) → (a ≡ b) × (x ≡ y)
  pub apart : (r p : ℕ) (v w : List ℕ) → IsOpeningPut c opening r p v
      → SomeCallEndedSo records (Done r p w) → ⊥

-- no place was got twice
abbrev pub NoneIsGotTwice : List (List Ended) → Type 0
NoneIsGotTwice records =
    (r p : ℕ) (v w : List ℕ) (a x b y : ℕ) → CallEndedSo records a x (Got r p v)
    → CallEndedSo records b y (Got r p w) → (a ≡ b) × (x ≡ y)

-- each put whose place some seat knows to be below Head was got
abbrev pub EachPutPassedIsGot : Setup → List (List ℕ) → List (List Ended) → List (List Numbers)
    → Type 0
EachPutPassedIsGot c opening records known =
    (r p : ℕ) (w : List ℕ) → WasPut c opening records r p w → IsKnownPassed known r p
    → SomeCallEndedSo records (Got r p w)

-- how many puts of a ring placed an index, the opening puts among them, how many gets took one, and
-- how many puts were begun
abbrev pub puts_on : Setup → List (List Ended) → ℕ → ℕ
puts_on c records r = sum_by (tally (was_done r)) records + openings c r

abbrev pub gets_on : List (List Ended) → ℕ → ℕ
gets_on records r = sum_by (tally (was_got r)) records

abbrev pub begun_on : Setup → List (List Ended) → ℕ → ℕ
begun_on c records r = sum_by (tally (was_put r)) records + openings c r

-- on each ring, what is left and what was got is what was put
pub record IsBalance (c : Setup) (records : List (List Ended)) (left : List ℕ) : Type 0 where
  pub rings : length left ≡ c.rings
  pub balance : (r : ℕ) → r < c.rings → slice_index left r + gets_on records r ≡ puts_on c records r

-- what is left in all rings and the indices in all hands are n together
abbrev pub IsAllThere : Setup → List (List ℕ) → List ℕ → Type 0
IsAllThere c hands left = sum left + sum_by length hands ≡ n_of c.order

-- the call of a seat that ended with Spent and this ticket, on a ring whose ticket bound for the
-- puts begun there is past the limit
pub record IsPastTheBound (c : Setup) (records : List (List Ended)) (seat ticket : ℕ) : Type 0 where
  pub ring : ℕ
  pub low : ring < c.rings
  pub number : ℕ
  pub is_put : Bool
  pub call : CallEndedSo records seat number (Spent ring ticket is_put)
  pub past : c.limit < ticket_bound c.order c.seats (begun_on c records ring)

-- where a seat keeps a spent ticket, the bound of the ticket's ring is past the limit
abbrev pub EachSpentIsPastTheBound : Setup → List (List Ended) → List (Option ℕ) → Type 0
EachSpentIsPastTheBound c records kept =
    (seat ticket : ℕ) → slice_get kept seat ≡ Some (Some ticket)
    → IsPastTheBound c records seat ticket

-- where the limit is enough for so many puts, and on no ring more were begun by all calls together,
-- those that met Spent among them, no seat keeps a spent ticket
abbrev pub NoneIsSpentWithinTheLimit : Setup → List (List Ended) → List (Option ℕ) → Type 0
NoneIsSpentWithinTheLimit c records kept =
    (puts : ℕ) → limit_for c.order c.seats puts ≤ c.limit
    → ((r : ℕ) → r < c.rings → sum_by (tally (was_put r)) records ≤ puts)
    → All (λ spent. spent ≡ None) kept

-- the indices of a hand, or of buffers that are out; and those of a hand that are lifted
abbrev pub indices_of : {A : Type 0} → List (ℕ × A) → List ℕ
indices_of {A} hand = map (λ (x : ℕ × A). x.0) hand

abbrev pub lifted_of : {B : Type 0} → List (ℕ × Option B) → List ℕ
lifted_of [] = []
lifted_of (x ∷ xs) = if is_none x.1 then x.0 ∷ lifted_of xs else lifted_of xs

-- each buffer in the hand of a seat is lifted
abbrev pub HoldsLifted : {B : Type 0} → Standing B → Type 0
HoldsLifted s = (i : ℕ) → times i (lifted_of s.hand) ≡ times i (indices_of s.hand)

-- the buffers that are laid in a hand, each with its index; and those that seats hold: laid in
-- their hands, or out
abbrev pub with_laid : {B : Type 0} → ℕ → Option B → List (ℕ × B) → List (ℕ × B)
with_laid i None others = others
with_laid i (Some b) others = (i, b) ∷ others

abbrev pub laid_of : {B : Type 0} → List (ℕ × Option B) → List (ℕ × B)
laid_of [] = []
laid_of (x ∷ xs) = with_laid x.0 x.1 (laid_of xs)

abbrev pub held_buffers : {B : Type 0} → List (Standing B) → List (ℕ × B) → List (ℕ × B)
held_buffers [] out = out
held_buffers (s ∷ ss) out = laid_of s.hand ++ held_buffers ss out

-- a buffer that was held: the one that comes back for its index has the bytes that it had
abbrev pub ComesBackAsItWas : {B : Type 0} → (B → List ℕ) → List B → ℕ × B → Type 0
ComesBackAsItWas contents buffers held =
    slice_get (map contents buffers) held.0 ≡ Some (contents held.1)

-- an index that is in no hand
abbrev pub IsLeft : List (List ℕ) → ℕ → Type 0
IsLeft hands i = sum_by (times i) hands ≡ 0

-- a put that was not got: its ring and its place
pub record LeftPut (c : Setup) (opening : List (List ℕ)) (records : List (List Ended))
    (w : List ℕ) : Type 0 where
  pub ring : ℕ
  pub place : ℕ
  pub put : WasPut c opening records ring place w
  pub not_got : (v : List ℕ) → SomeCallEndedSo records (Got ring place v) → ⊥

-- each hand has indices of the setup alone, and no index stands twice in all hands
pub record EachIsInOneHand (c : Setup) (hands : List (List ℕ)) : Type 0 where
  pub low : (i : ℕ) → 0 < sum_by (times i) hands → i < n_of c.order
  pub once : (i : ℕ) → sum_by (times i) hands ≤ 1

-- each index that is in no hand stands for a put that was not got, whose bytes are in its buffer,
-- and each for another
pub record EachLeftIsItsPut (c : Setup) (opening : List (List ℕ)) (records : List (List Ended))
    (hands bytes : List (List ℕ)) : Type 0 where
  pub put : (i : ℕ) → i < n_of c.order → IsLeft hands i
      → LeftPut c opening records (slice_index_or bytes i [])
  pub apart : (i j : ℕ) (a : i < n_of c.order) (b : j
      < n_of c.order) (x : IsLeft hands i) (y : IsLeft hands j)
      → (put i a x).ring ≡ (put j b y).ring → (put i a x).place ≡ (put j b y).place → i ≡ j

-- the buffers, in order of index, are the same as the ones given
abbrev pub AreTheSame : {B : Type 0} → (B → B → Type 0) → List B → List B → Type 0
AreTheSame {B} IsSame given buffers =
    (length buffers ≡ length given)
    × ((i : ℕ) (first last : B) → slice_get given i ≡ Some first → slice_get buffers i ≡ Some last
    → IsSame first last)

-- where some seat read 0 at the gate, each seat has retired
abbrev pub AllRetiredWhereClosed : {B : Type 0} → List (Standing B) → Type 0
AllRetiredWhereClosed {B} seats =
    (a b : ℕ) (reader other : Standing B) → slice_get seats a ≡ Some reader → reader.gate ≡ Some 0
    → slice_get seats b ≡ Some other
    → (calls : ℕ) × (other.retired ≡ Some calls)

-- each seat that some seat had seen retired has retired, with so many calls made before
abbrev pub EachSeenRetiredHas : {B : Type 0} → List (Standing B) → Type 0
EachSeenRetiredHas {B} seats =
    (a b calls : ℕ) (one other : Standing B) → slice_get seats a ≡ Some one
    → slice_get seats b ≡ Some other
    → Contains one.seen.retirees (other.number, calls) → other.retired ≡ Some calls

-- the records of all seats, their hands, what they know, and the spent tickets that they keep
abbrev pub all_calls : {B : Type 0} → List (Standing B) → List (List Ended)
all_calls seats = map (λ s. s.calls) seats

abbrev pub all_hands : {B : Type 0} → List (Standing B) → List (List ℕ)
all_hands seats = map (λ s. indices_of s.hand) seats

abbrev pub all_known : {B : Type 0} → List (Standing B) → List (List Numbers)
all_known seats = map (λ s. s.numbers) seats

abbrev pub all_spent : {B : Type 0} → List (Standing B) → List (Option ℕ)
all_spent seats = map (λ s. s.spent) seats

-- the seats as those who made calls in the run
abbrev pub callers_of : {B : Type 0} → List (Standing B) → List Caller
callers_of seats = map caller_of seats

-- the buffers that are out are just those that are lifted, each the same as the one given for its
-- index
pub record AreTheLifted {B : Type 0} (IsSame : B → B
    → Type 0) (band : Identity B) (seats : List (Standing B)) (out : List (ℕ × B)) : Type 0 where
  pub lifted : (i : ℕ)
      → times i (indices_of out) ≡ sum_by (λ (s : Standing B). times i (lifted_of s.hand)) seats
  pub same : (o : ℕ × B) → Contains out o → IsAsGiven IsSame band.given o.0 o.1

-- what the records of all seats say of one another
pub record RecordsAgree (c : Setup) (opening : List (List ℕ)) (records : List (List Ended))
    (known : List (List Numbers)) : Type 0 where
  pub gets : EachGetHasItsPut c opening records
  pub put_once : NoneIsPutTwice c opening records
  pub once : NoneIsGotTwice records
  pub passed : EachPutPassedIsGot c opening records known

-- where the indices are: as many in each ring as were put there and not got, each once, and in one
-- hand at most
pub record IndicesAgree (c : Setup) (records : List (List Ended)) (held : List (List ℕ))
    (left : List ℕ) : Type 0 where
  pub balance : IsBalance c records left
  pub all_there : IsAllThere c held left
  pub hands : EachIsInOneHand c held

-- the buffers that come back are those that were given, with the bytes that they had in hands, and
-- those of their puts in rings
pub record BuffersComeBack {B : Type 0} (contents : B → List ℕ) (IsSame : B → B
    → Type 0) (band : Identity B) (seats : List (Standing B)) (out : List (ℕ × B))
    (buffers : List B) : Type 0 where
  pub same : AreTheSame IsSame band.given buffers
  pub held : All (ComesBackAsItWas contents buffers) (held_buffers seats out)
  pub left : EachLeftIsItsPut band.setup (opening_of contents band.given) (all_calls seats)
      (all_hands seats) (map contents buffers)

-- what seats were told of those that retired is so
pub record RetiredAgree {B : Type 0} (seats : List (Standing B)) : Type 0 where
  pub gate : AllRetiredWhereClosed seats
  pub retirees : EachSeenRetiredHas seats

-- spent tickets are kept past the bounds alone
pub record SpentAgree (c : Setup) (records : List (List Ended)) (kept : List (Option ℕ))
    : Type 0 where
  pub bounds : EachSpentIsPastTheBound c records kept
  pub limits : NoneIsSpentWithinTheLimit c records kept

-- one run behind all calls. Its calls have all ended, each seat is just one of these callers, and
-- each caller's record is the run's; all that any of them had seen are prefixes of it. Its history
-- has the four aspects, and shows each seat's calls as its record has them. Some call ends among so
-- many steps of it that follow one another; calls are delayed by what others finish on their ring,
-- and by nothing else; and a call that runs alone ends soon. The calls of each ring, but those that
-- ended with Spent, stand in one order, in which every reply is a plain queue's, and which keeps
-- each call behind those that ended before it began
pub record IsOneRun (c : Setup) (opening : List (List ℕ)) (callers : List Caller) : Type 0 where
  pub steps : List (ℕ × Step)
  pub finished : IsFinishedRun (run_of c opening steps)
  pub all : (k : ℕ) → k < c.seats
      → (a : ℕ) × (x : Caller) × (slice_get callers a ≡ Some x) × (x.seat ≡ k)
  pub apart : (a b : ℕ) (x y : Caller) → slice_get callers a ≡ Some x → slice_get callers b ≡ Some y
      → x.seat ≡ y.seat → a ≡ b
  pub low : (a : ℕ) (x : Caller) → slice_get callers a ≡ Some x → x.seat < c.seats
  pub records : (a : ℕ) (x : Caller) → slice_get callers a ≡ Some x
      → (finished.recorded.state.part x.seat).calls ≡ x.calls
  pub had_seen : (a : ℕ) (x : Caller) → slice_get callers a ≡ Some x → AllPrefixes x.seen.runs steps
  pub aspects : HistoryHasAspects opening finished.recorded
  pub progress : HasProgress c opening steps
  pub delayed : DelayedByEnds c opening steps
  pub alone : EndsAlone c opening steps
  pub history : HistoryShowsRecords finished.recorded
  pub orders : (r : ℕ) → (order : List Ordered) × IsLinearization (run_of c opening steps) r order
      × IsOneOrder (run_of c opening steps) r order

-- in this state an index stands in the entry of a place, which a put placed there with these bytes
pub record StandsAtItsPut (c : Setup) (opening : List (List ℕ)) (records : List (List Ended))
    (m : Machine) (i : ℕ) (w : List ℕ) : Type 0 where
  pub ring : ℕ
  pub place : ℕ
  pub index : index_in (ring_slots c) (m.cells.entries.word ring (slot c place)) ≡ i
  pub cycle_is : cycle_in (ring_slots c) (m.cells.entries.word ring (slot c place)) ≡ cycle c place
  pub put : WasPut c opening records ring place w

-- one run behind all calls, at whose end each index that is in no hand stands at the place of the
-- put that placed it, and its buffer has that put's bytes
pub record IsOneRunToTheEnd (c : Setup) (opening : List (List ℕ)) (callers : List Caller)
    (records : List (List Ended)) (hands bytes : List
    (List ℕ)) : Type 0 where
  pub one : IsOneRun c opening callers
  pub left : (i : ℕ) → i < n_of c.order → IsLeft hands i
      → StandsAtItsPut c opening records one.finished.recorded.state i (slice_index_or bytes i [])
