-- What all passes say together once a queue is closed. A pass is told by its position among those
-- that were given, a send or a take by its position among those of its pass.
use Rattle.std.specs.Prelude.{◌≡◌, ℕ, suc, ◌+◌, ◌<◌, List, map, length, Some, slice_get}
use Rattle.std.specs.Prelude.{slice_index, All, sum, sum_by, Bool}
use Rattle.std.specs.List.{Contains}
use Rattle.scq_core.specs.declared.ended.Ended.{Ended}
use Rattle.scq_word.specs.declared.setup.Setup.{Setup}
use Rattle.scq_word.specs.Exports.{n_of}
use Rattle.scq_law.specs.Exports.{times}
use Rattle.scq_band.specs.Exports.{Caller, Identity, EachSpentIsPastTheBound}
use Rattle.scq_band.specs.Exports.{NoneIsSpentWithinTheLimit, AreTheSame, ComesBackAsItWas}
use Rattle.scq_band.specs.Exports.{EachIsInOneHand, EachLeftIsItsPut}
use Rattle.scq_queue.specs.declared.counts.Counts.{Counts}
use Rattle.scq_queue.specs.Lists.{Placed, sends_of, takes_of, on_topic, fulls_in, counts_of}
use Rattle.scq_queue.specs.Passes.{PassStanding, HeldStanding, known_on, caller_of, lists_of}
use Rattle.scq_queue.specs.Passes.{was_told}
use Rattle.scq_queue.specs.Kept.{value_of}

module _ {B : Type 0} where
  -- the records of all passes, and the indices that each holds
  abbrev pub records_of : List (PassStanding B) → List (List Ended)
  records_of passes = map (λ p. p.calls) passes

  -- the passes as those who made calls in the run
  abbrev pub callers_of : List (PassStanding B) → List Caller
  callers_of passes = map caller_of passes

  abbrev pub all_held : List (PassStanding B) → List (List ℕ)
  all_held passes = map (λ p. p.held) passes

  -- the send, or the take, of these numbers is this
  abbrev pub IsSend : List (PassStanding B) → ℕ → ℕ → Placed → Type 0
  IsSend passes pass number m = (p : PassStanding B) × (slice_get passes pass ≡ Some p)
      × (slice_get (sends_of p.calls) number ≡ Some m)

  abbrev pub IsTake : List (PassStanding B) → ℕ → ℕ → Placed → Type 0
  IsTake passes pass number m = (p : PassStanding B) × (slice_get passes pass ≡ Some p)
      × (slice_get (takes_of p.calls) number ≡ Some m)

  -- some pass sent it, or took it
  pub record WasSent (passes : List (PassStanding B)) (m : Placed) : Type 0 where
    pub pass : ℕ
    pub number : ℕ
    pub is : IsSend passes pass number m

  pub record WasTaken (passes : List (PassStanding B)) (m : Placed) : Type 0 where
    pub pass : ℕ
    pub number : ℕ
    pub is : IsTake passes pass number m

  -- each take is a send of the same topic, place and bytes
  abbrev pub EachTakeIsASend : List (PassStanding B) → Type 0
  EachTakeIsASend passes = (m : Placed) → WasTaken passes m → WasSent passes m

  -- no place of a topic was sent at twice
  abbrev pub NoPlaceIsSentTwice : List (PassStanding B) → Type 0
  NoPlaceIsSentTwice passes =
      (a x b y : ℕ) (m n : Placed) → IsSend passes a x m → IsSend passes b y n → m.topic ≡ n.topic
      → m.place ≡ n.place → (a ≡ b) × (x ≡ y)

  -- no place of a topic was taken twice
  abbrev pub NoPlaceIsTakenTwice : List (PassStanding B) → Type 0
  NoPlaceIsTakenTwice passes =
      (a x b y : ℕ) (m n : Placed) → IsTake passes a x m → IsTake passes b y n → m.topic ≡ n.topic
      → m.place ≡ n.place → (a ≡ b) × (x ≡ y)

  -- how many sends, and takes, of a topic all passes made
  abbrev pub sends_on : ℕ → List (PassStanding B) → ℕ
  sends_on topic passes = sum_by (λ p. on_topic topic (sends_of p.calls)) passes

  abbrev pub takes_on : ℕ → List (PassStanding B) → ℕ
  takes_on topic passes = sum_by (λ p. on_topic topic (takes_of p.calls)) passes

  -- on each topic, the sends less the takes are what is left
  pub record IsBalance (c : Setup) (passes : List (PassStanding B)) (left : List ℕ) : Type 0 where
    pub rings : length left ≡ c.rings
    pub balance : (topic : ℕ) → suc topic < c.rings
        → slice_index left (suc topic) + takes_on topic passes ≡ sends_on topic passes

  -- each send whose place is below a head that some pass knows was taken
  abbrev pub EachSendPassedIsTaken : List (PassStanding B) → Type 0
  EachSendPassedIsTaken passes =
      (m : Placed) (pass : ℕ) (p : PassStanding B) → WasSent passes m
      → slice_get passes pass ≡ Some p → m.place < (known_on m.topic p).head
      → WasTaken passes m

  -- what is left in all rings and the held values are n together
  abbrev pub IsAllThere : Setup → List (HeldStanding B) → List ℕ → Type 0
  IsAllThere c held left = sum left + length held ≡ n_of c.order

  -- the Full replies of each pass are as many as its record has
  abbrev pub AllFullsStand : List (PassStanding B) → Type 0
  AllFullsStand passes = All (λ p. length p.fulls ≡ fulls_in p.calls) passes

  -- where a pass keeps a spent ticket, the ticket bound of the ticket's ring is past the limit
  abbrev pub EachKeptIsPastTheBound : Setup → List (PassStanding B) → Type 0
  EachKeptIsPastTheBound c passes =
      EachSpentIsPastTheBound c (records_of passes) (map (λ p. p.spent) passes)

  -- where the limit is enough for so many puts, and on no ring more were begun, none keeps one
  abbrev pub NoneIsKeptWithinTheLimit : Setup → List (PassStanding B) → Type 0
  NoneIsKeptWithinTheLimit c passes =
      NoneIsSpentWithinTheLimit c (records_of passes) (map (λ p. p.spent) passes)

  -- where some pass was told that all had retired, each has
  abbrev pub AllRetiredWhereTold : List (PassStanding B) → Type 0
  AllRetiredWhereTold passes =
      (a b : ℕ) (told other : PassStanding B) → slice_get passes a ≡ Some told → told.gate ≡ Some 0
      → slice_get passes b ≡ Some other
      → (calls : ℕ) × (other.retired ≡ Some calls)

  -- each pass that some pass had seen retired has retired, with so many calls made before
  abbrev pub EachSeenRetiredHas : List (PassStanding B) → Type 0
  EachSeenRetiredHas passes =
      (a b calls : ℕ) (one other : PassStanding B) → slice_get passes a ≡ Some one
      → slice_get passes b ≡ Some other
      → Contains one.seen.retirees (other.number, calls) → other.retired ≡ Some calls

  -- these values are of the queue, with just the indices that its passes hold
  pub record AreTheHeld (queue : Identity B) (passes : List (PassStanding B))
      (held : List (HeldStanding B)) : Type 0 where
    pub queue_of : (k : ℕ) (h : HeldStanding B) → slice_get held k ≡ Some h → h.queue ≡ queue
    pub all : (i : ℕ) → times i (map (λ h. h.index) held)
        ≡ sum_by (λ (p : PassStanding B). times i p.held) passes

  -- what comes back: the buffers, in order of index, each the same as the one given, and those that
  -- were held as they were; of each pass, in order, its counts and whether it was told that all had
  -- retired; and the passes
  pub record ComeBack (contents : B → List ℕ) (IsSame : B → B → Type 0) (given : List B)
      (all : List (PassStanding B)) (values : List (HeldStanding B)) (out : List B)
      (tallies : List Counts) (told : List Bool) (its : List (PassStanding B)) : Type 0 where
    pub buffers : AreTheSame IsSame given out
    pub held : All (ComesBackAsItWas contents out) (map value_of values)
    pub counts : tallies ≡ map (λ p. counts_of (lists_of p)) all
    pub saw : told ≡ map (λ p. was_told p.gate) all
    pub passes : its ≡ all

  -- what all passes sent and took together, where so many indices were left in the rings
  pub record SentAndTook (c : Setup) (passes : List (PassStanding B)) (left : List ℕ)
      : Type 0 where
    pub takes : EachTakeIsASend passes
    pub sent_once : NoPlaceIsSentTwice passes
    pub taken_once : NoPlaceIsTakenTwice passes
    pub balance : IsBalance c passes left
    pub passed : EachSendPassedIsTaken passes
    pub fulls : AllFullsStand passes

  -- no value is lost: each is in one hand at most, or left in a ring, with the bytes of the put
  -- that placed it there
  pub record NoneIsLost (c : Setup) (opening : List (List ℕ)) (passes : List (PassStanding B))
      (held : List (HeldStanding B)) (rest : List ℕ) (bytes : List (List ℕ)) : Type 0 where
    pub all_there : IsAllThere c held rest
    pub hands : EachIsInOneHand c (all_held passes)
    pub left : EachLeftIsItsPut c opening (records_of passes) (all_held passes) bytes

  -- what a spent ticket that some pass keeps says of the limit
  pub record KeptSpeakOfTheLimit (c : Setup) (passes : List (PassStanding B)) : Type 0 where
    pub kept : EachKeptIsPastTheBound c passes
    pub limits : NoneIsKeptWithinTheLimit c passes

  -- what passes were told of those that had retired is so
  pub record RetiredAsTold (passes : List (PassStanding B)) : Type 0 where
    pub gate : AllRetiredWhereTold passes
    pub retirees : EachSeenRetiredHas passes
