-- A worker that met no Spent: what its run says of its pass and of its list at the end, by what they were when it retired.
use Rattle.std.proofs.Common.{◌≡◌, refl, sym, ◌∙◌, ap, subst, suc, Bool, List, [], ◌∷◌, ◌++◌}
use Rattle.std.specs.Prelude.{filter}
use Rattle.std.specs.List.{Contains}
use Rattle.std.proofs.lemmas.List.Elements.{filter-append}
use Rattle.scq_core.specs.declared.ended.Ended.{Ended}
use Rattle.scq_core.specs.declared.ended.Ended.TheVariants.{Done, Got, Nothing}
use Rattle.scq_frames.specs.declared.message.Message.{Message}
use Rattle.scq_queue.specs.Exports.{Placed, sends_of, takes_of, PassStanding}
use Rattle.scq_passes.specs.Exports.{calls_before, calls_behind, EachHasItsCall, AreReturns, AreTakesFollowed, IsGivenBack, on, and_got}
use Rattle.scq_passes.specs.Exports.{and_found_none, HasRetired}
use Rattle.scq_passes.specs.Records.{none}
use Rattle.scq_passes.proofs.Following.{follows-others}
use Rattle.scq_passes.proofs.Kept.{taken-calls}
use Rattle.scq_passes.proofs.Retired.{before-retired, nothing-behind, retired-sends, retired-taken}
use Rattle.scq_stages.specs.declared.finished.Finished.{Finished}
use Rattle.scq_stages.specs.Exports.{FoundFirstEmpty, first, is_next, second, IsNextOf, MovesSoFar, HasMovedAllAndSwept}

-- what is given back goes to the free ring
home : AreReturns IsGivenBack
home topic bytes ring later is = is

-- among takes whose buffers are given back is neither a send to first nor a Full
takes-no_next : (calls : List Ended) → AreTakesFollowed IsGivenBack calls → filter is_next calls ≡ []
takes-no_next calls none = refl
takes-no_next calls (and_got {calls = before} topic place bytes ring back later more by) =
    let got : List Ended = Got (suc topic) place bytes ∷ [] in
    let put : List Ended = Done ring back later ∷ [] in
    let last : filter is_next put ≡ [] = ap (λ r. filter is_next (Done r back later ∷ [])) by in
    filter-append is_next (before ++ got) put ∙ ap (λ l. filter is_next (before ++ got) ++ l) last ∙ ap (λ l. l ++ []) (filter-append is_next before got)
    ∙ ap (λ l. (l ++ []) ++ []) (takes-no_next before more)
takes-no_next calls (and_found_none {calls = before} topic more) =
    filter-append is_next before (Nothing (suc topic) ∷ []) ∙ ap (λ l. l ++ []) (takes-no_next before more)

module _ {B : Type 0} (messages : List Message) (p : PassStanding B) (members : List Finished) (starved : Bool)
    (ended : HasMovedAllAndSwept messages p members starved) where
  -- its record is that from before its retirement, and takes
  calls-are : p.calls ≡ ended.at.calls ++ ended.leaving.taken.block
  calls-are = taken-calls _ p ended.leaving.taken

  -- it had helped after each Full, and found first empty, when it retired
  pub retired-empty : HasRetired FoundFirstEmpty p
  retired-empty = retired-taken FoundFirstEmpty home ended.at p ended.moved.moved_all ended.leaving.taken

  -- what it took from first before is what it sent to second
  pub moves-so-far : MovesSoFar (on first (takes_of (calls_before p))) (on second (sends_of p.calls))
  moves-so-far =
      subst (λ (calls : List Ended). MovesSoFar (on first (takes_of calls)) (on second (sends_of p.calls)))
      (sym (before-retired ended.at p ended.leaving.taken))
      (subst (λ (sends : List Placed). MovesSoFar (on first (takes_of ended.at.calls)) (on second sends))
      (sym (retired-sends home ended.at p ended.leaving.taken)) ended.moved.moves)

  -- its messages are its sends to first and its Fulls, in the order of its record
  pub follows-all : EachHasItsCall IsNextOf is_next messages p.calls
  follows-all =
      subst (EachHasItsCall IsNextOf is_next messages) (sym calls-are)
      (follows-others IsNextOf is_next messages ended.at.calls ended.leaving.taken.block
      (takes-no_next ended.leaving.taken.block ended.leaving.taken.are) ended.moved.follows)

  -- where it took from first only what it had sent itself, it took nothing there behind its retirement
  pub nothing-behind-alone : ((m : Placed) → Contains (on first (takes_of (calls_behind p))) m → Contains (sends_of p.calls) m)
      → on first (takes_of (calls_behind p)) ≡ []
  nothing-behind-alone own =
      nothing-behind first ended.at p ended.moved.between.knows ended.moved.past ended.leaving.high
      (λ m has. subst (λ (sends : List Placed). Contains sends m) (retired-sends home ended.at p ended.leaving.taken) (own m has))
