-- What a worker's calls make of its pass and of its list, told by the calls that it made meanwhile.
use Rattle.std.specs.Prelude.{◌≡◌, ◌⊎◌, ℕ, suc, Bool, List, [], ◌∷◌, ◌++◌, filter}
use Rattle.std.specs.List.{filter_map}
use Rattle.scq_queue.specs.Exports.{Placed, sends_of, PassStanding}
use Rattle.scq_passes.specs.Exports.{IsGivenBack, on, BecomeSoFar, HasTakenFollowed, TookNoneBelow}
use Rattle.scq_passes.specs.Exports.{since, taken_since}
use Rattle.scq_stages.specs.declared.finished.Finished.{Finished}
use Rattle.scq_stages.specs.declared.finished.StageWay.TheVariants.{Second, First}
use Rattle.scq_stages.specs.Stages.{squeezed, both}
use Rattle.scq_stages.specs.Members.{FinishesTake, IsMove, IsNoPart, is_second, is_first, is_direct}
use Rattle.scq_stages.specs.Records.{first, second, take_topic}

-- what was taken from second so far became Second members, but for what is no part's bytes; and
-- what from first, First members
abbrev pub SecondsSoFar : List Placed → List Finished → Type 0
SecondsSoFar takes members = BecomeSoFar IsNoPart (FinishesTake Second squeezed) takes members

abbrev pub FirstsSoFar : List Placed → List Finished → Type 0
FirstsSoFar takes members = BecomeSoFar IsNoPart (FinishesTake First both) takes members

-- what was taken from first so far was sent to second, redacted
abbrev pub MovesSoFar : List Placed → List Placed → Type 0
MovesSoFar takes sends = BecomeSoFar IsNoPart IsMove takes sends

-- the put is a return, or a move to second of what was taken from first
abbrev pub IsReturnOrMove : ℕ → List ℕ → ℕ → List ℕ → Type 0
IsReturnOrMove topic bytes ring later = (ring ≡ 0) ⊎ ((topic ≡ first) × (ring ≡ suc second))

-- the list got no member of this kind
abbrev pub GotNo : (Finished → Bool) → List Finished → List Finished → Type 0
GotNo is_kind was is = filter is_kind is ≡ filter is_kind was

module _ {B : Type 0} where
  -- a pass that has taken from topics and given back what it took, and has done nothing else but
  -- ask whether all had retired
  abbrev pub HasGivenBack : PassStanding B → PassStanding B → Type 0
  HasGivenBack old new = HasTakenFollowed IsGivenBack old new

  -- a pass that has taken from topics, and given back or moved what it took
  abbrev pub HasTakenOrMoved : PassStanding B → PassStanding B → Type 0
  HasTakenOrMoved old new = HasTakenFollowed IsReturnOrMove old new

  -- what it took from first meanwhile it sent to second, redacted
  abbrev pub HasMovedIts : PassStanding B → PassStanding B → Type 0
  HasMovedIts old new =
      (takes sends : List Placed) → MovesSoFar takes sends
      → MovesSoFar (takes ++ taken_since first old new) (sends
      ++ on second (sends_of (since old new)))

  -- what it took from second meanwhile became Second members, and there are no others of them more
  abbrev pub HasFinishedSeconds : PassStanding B → PassStanding B → List Finished → List Finished
      → Type 0
  HasFinishedSeconds old new was is =
      (takes : List Placed) → SecondsSoFar takes (filter is_second was)
      → SecondsSoFar (takes ++ taken_since second old new) (filter is_second is)

  -- and what it took from first became First members
  abbrev pub HasFinishedFirsts : PassStanding B → PassStanding B → List Finished → List Finished
      → Type 0
  HasFinishedFirsts old new was is =
      (takes : List Placed) → FirstsSoFar takes (filter is_first was)
      → FirstsSoFar (takes ++ taken_since first old new) (filter is_first is)

  -- all that it took meanwhile became members, and there are no others more
  pub record HasFinished (old new : PassStanding B) (was is : List Finished) : Type 0 where
    pub seconds : HasFinishedSeconds old new was is
    pub firsts : HasFinishedFirsts old new was is
    pub directs : GotNo is_direct was is

  -- a pass that has taken once from this topic, and given back what it got: nothing from below the
  -- head that it knew of first, and from second nothing was moved
  pub record HasTakenOne (topic : ℕ) (old new : PassStanding B) : Type 0 where
    pub taken : HasGivenBack old new
    pub one : filter_map take_topic (since old new) ≡ topic ∷ []
    pub below : TookNoneBelow first old new
    pub moves : topic ≡ second → HasMovedIts old new

  -- what it got became a member, and from second no First one
  pub record HasFinishedOne (topic : ℕ) (old new : PassStanding B)
      (was is : List Finished) : Type 0 where
    pub finished : HasFinished old new was is
    pub firsts : topic ≡ second → GotNo is_first was is

  -- before it retired: what it took from second became members, and there are no others more
  pub record HasFinishedOnlySeconds (old new : PassStanding B)
      (was is : List Finished) : Type 0 where
    pub seconds : HasFinishedSeconds old new was is
    pub firsts : GotNo is_first was is
    pub directs : GotNo is_direct was is
