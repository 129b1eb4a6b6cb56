-- What a worker's calls make of its pass, whatever it sends and makes of what it takes.
use Rattle.std.specs.Prelude.{◌≡◌, ℕ, zero, suc, ◌+◌, ◌-◌, ◌<◌, ◌≤◌, List, [], ◌∷◌, ◌++◌, length}
use Rattle.std.specs.Prelude.{take, drop, count_by, Option, Some, None, unwrap_or, IfSome}
use Rattle.std.specs.List.{Contains}
use Rattle.scq_core.specs.declared.ended.Ended.{Ended}
use Rattle.scq_core.specs.declared.ended.Ended.TheVariants.{Done, Got, Nothing}
use Rattle.scq_law.specs.Exports.{tally, was_put}
use Rattle.scq_band.specs.Exports.{Identity, with_retiree}
use Rattle.scq_queue.specs.Exports.{Placed, sends_of, takes_of, PassStanding, HeldStanding}
use Rattle.scq_queue.specs.Exports.{known_on}
use Rattle.scq_passes.specs.Records.{is_got, is_put, on, Puts, AreTakesFollowed, IsReturn}
use Rattle.scq_passes.specs.Records.{HoldsNothingAtEachFull, MeetsNoSpent}

-- the index of a value, where there is one
abbrev pub index_of : {B : Type 0} → Option (HeldStanding B) → List ℕ
index_of None = []
index_of (Some h) = h.index ∷ []

module _ {B : Type 0} where
  -- a pass of this queue, whose topics are so many declared ones and one more, and which has met no
  -- Spent
  pub record Suits (shared : Identity B) (declared : ℕ) (p : PassStanding B) : Type 0 where
    pub queue : p.queue ≡ shared
    pub rings : shared.setup.rings ≡ declared + 2
    pub numbers : length p.numbers ≡ declared + 2
    pub spent : p.spent ≡ None

  -- what is known of the rings was kept: of no topic the finished place known fell, and no head
  pub record KnowsMore (old new : PassStanding B) : Type 0 where
    pub rings : length new.numbers ≡ length old.numbers
    pub finished : (topic : ℕ) → (known_on topic old).finished ≤ (known_on topic new).finished
    pub head : (topic : ℕ) → (known_on topic old).head ≤ (known_on topic new).head

  -- each send of a pass is on one of its topics, and the pass knows of its place as finished
  pub record KnowsItsSends (p : PassStanding B) : Type 0 where
    pub sends : (m : Placed) → Contains (sends_of p.calls) m
        → (suc m.topic < length p.numbers) × (m.place ≤ (known_on m.topic p).finished)

  -- a pass that has taken from topics, each take followed by such a put of what it got, and has
  -- done nothing else but ask whether all had retired. Of a topic on which it put nothing the
  -- finished place known stays, and it knows of its sends still.
  pub record HasTakenFollowed (By : Puts) (old new : PassStanding B) : Type 0 where
    pub block : List Ended
    pub are : AreTakesFollowed By block
    pub pass : new ≡ record old {
      calls = old.calls ++ block;
      numbers = new.numbers;
      gates =
          new.gates;
      gate = new.gate;
      seen = new.seen;
    }
    pub knows : KnowsMore old new
    pub same : (topic : ℕ) → tally (was_put (suc topic)) block ≡ 0
        → (known_on topic new).finished ≡ (known_on topic old).finished
    pub sends : KnowsItsSends old → KnowsItsSends new

  -- it gave back what it took, as it was
  abbrev pub HasTaken : PassStanding B → PassStanding B → Type 0
  HasTaken old new = HasTakenFollowed IsReturn old new

  -- the calls that a pass made meanwhile, and what it took from a topic by them
  abbrev pub since : PassStanding B → PassStanding B → List Ended
  since old new = drop (length old.calls) new.calls

  abbrev pub taken_since : ℕ → PassStanding B → PassStanding B → List Placed
  taken_since topic old new = on topic (takes_of (since old new))

  -- no take of the topic meanwhile has a place below the head that was known
  abbrev pub TookNoneBelow : ℕ → PassStanding B → PassStanding B → Type 0
  TookNoneBelow topic old new =
      (m : Placed) → Contains (taken_since topic old new) m → (known_on topic old).head ≤ m.place

  -- a pass that was lent a buffer and sent it on this topic, where what it sent is so
  pub record HasSentSo (topic : ℕ) (So : Placed → Type 0) (old new : PassStanding B) : Type 0 where
    pub from : ℕ
    pub over : List ℕ
    pub place : ℕ
    pub bytes : List ℕ
    pub pass : new ≡ record old {
      calls = (old.calls ++ Got 0 from over ∷ []) ++ Done (suc topic) place bytes ∷ [];
      numbers = new.numbers;
      seen = new.seen;
    }
    pub sends : So (record { topic = topic; place = place; bytes = bytes })
    pub knows : KnowsMore old new
    pub finished : place ≤ (known_on topic new).finished

  -- a pass that found no buffer free
  pub record HasFoundFull (head : ℕ) (old new : PassStanding B) : Type 0 where
    pub pass : new ≡ record old {
      calls = old.calls ++ Nothing 0 ∷ [];
      fulls =
          old.fulls ++ head ∷ [];
      numbers = new.numbers;
      seen = new.seen;
    }
    pub knows : KnowsMore old new

  -- a pass between two parts: it holds nothing, now and at each Full, and has put as often as it
  -- got; it has met no Spent, and knows each of its sends as finished
  pub record IsBetweenParts (p : PassStanding B) : Type 0 where
    pub alone : HoldsNothingAtEachFull p.calls
    pub even : count_by is_got p.calls ≡ count_by is_put p.calls
    pub none : p.held ≡ []
    pub unspent : MeetsNoSpent p.calls
    pub knows : KnowsItsSends p

  -- it has few calls for so many parts: at most one send and one Full for each, and a return for
  -- each take. `late` is 1 for a pass that met Spent
  pub record HasFewCalls (late parts : ℕ) (p : PassStanding B) : Type 0 where
    pub sends : length (sends_of p.calls) ≤ parts
    pub fulls : length p.fulls ≤ parts
    pub puts : (topic : ℕ) → tally (was_put (suc topic)) p.calls ≤ parts + late
    pub returns : tally (was_put 0) p.calls ≤ length (takes_of p.calls) + late

  -- a pass that met Spent, with the value that it keeps. `Few late parts p` says that it has few
  -- calls for so many parts, `late` as above: before it had passed on at most so many, and now at
  -- most so many
  pub record HasLeftSo (Few : ℕ → ℕ → PassStanding B
      → Type 0) (before after : ℕ) (old new : PassStanding B) (kept : Option (HeldStanding B))
      : Type 0 where
    pub spent : (ticket : ℕ) × (new.spent ≡ Some ticket)
    pub few_calls : Few 0 before old → Few 1 after new
    pub held : new.held ≡ old.held ++ index_of kept
    pub own : (new.queue ≡ old.queue) × (new.number ≡ old.number) × (new.retired ≡ old.retired)
    pub its : IfSome kept (λ h. h.queue ≡ old.queue)

  -- the same where all parts are sent or made directly
  abbrev pub HasLeft : ℕ → ℕ → PassStanding B → PassStanding B → Option (HeldStanding B) → Type 0
  HasLeft before after old new kept = HasLeftSo HasFewCalls before after old new kept

  -- how many more tickets takes of so many topics could draw: each take that gets something uses
  -- one up
  abbrev pub takes_left : ℕ → ℕ → PassStanding B → ℕ
  takes_left limit zero p = 0
  takes_left limit (suc topics) p = takes_left limit topics p + (limit - (known_on topics p).head)

  -- the calls that stood in a pass's record when it retired, or all where it hasn't; and those
  -- behind them
  abbrev pub calls_before : PassStanding B → List Ended
  calls_before p = take (unwrap_or p.retired (length p.calls)) p.calls

  abbrev pub calls_behind : PassStanding B → List Ended
  calls_behind p = drop (unwrap_or p.retired (length p.calls)) p.calls

  -- a pass that has retired
  abbrev pub after_retire : PassStanding B → PassStanding B
  after_retire p = record p {
    retired = Some (length p.calls);
    seen =
        with_retiree (p.number, length p.calls) p.seen;
  }
