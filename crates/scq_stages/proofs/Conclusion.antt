-- All workers together, once the queue is closed. Plan: each take of first is a send to first of some worker, so its bytes are those of a message; so what
-- a worker took from first it moved, or finished, and none was passed over. Each take of second is such a move, which reads by the second stage as
-- the take of first does by both. Over all workers the takes of a topic are the sends to it.
use Rattle.std.proofs.Common.{◌≡◌, refl, sym, ◌∙◌, ap, subst, Bool, List, [], ◌∷◌, ◌++◌, map, Option}
use Rattle.std.specs.Prelude.{filter, flat_map, Vec}
use Rattle.std.specs.Global.{Global}
use Rattle.std.specs.List.{All, Contains}
use Rattle.std.specs.List.Sorted.{IsPermutation}
use Rattle.std.proofs.lemmas.List.{map-append}
use Rattle.std.proofs.lemmas.List.Elements.{All-contains, Contains-append_left, Contains-append_right}
use Rattle.std.proofs.lemmas.List.Folds.{flat_map-map}
use Rattle.std.proofs.lemmas.List.Sorted.{IsPermutation-refl, IsPermutation-sym, IsPermutation-trans, IsPermutation-append_left, IsPermutation-map}
use Rattle.scq_frames.specs.declared.message.Message.{Message}
use Rattle.scq_collect.proofs.Orders.{contains-first, contains-more}
use Rattle.scq_queue.specs.Exports.{EachTakeIsASend, NoPlaceIsTakenTwice, Placed, sends_of, takes_of, PassStanding, HeldStanding}
use Rattle.scq_passes.specs.Exports.{BecomeSoFar, calls_before, calls_behind, ArePassedOn, EachHasItsCall, on, all_sends, all_takes}
use Rattle.scq_passes.specs.Exports.{NoPlaceStandsTwice, SendsAreTakes}
use Rattle.scq_passes.proofs.Becoming.{so-far-all, so-far-results}
use Rattle.scq_passes.proofs.ManyLists.{flat-map, found-at, from-all, in-all, stands-at, together}
use Rattle.scq_passes.proofs.OnTopics.{member-on, on-all, on-append, on-member, sends-are-takes-on}
use Rattle.scq_passes.proofs.Retired.{takes-before-and-behind}
use Rattle.scq_passes.proofs.SendsAndTakes.{take-was-sent}
use Rattle.scq_stages.specs.declared.finished.Finished.{Finished}
use Rattle.scq_stages.specs.declared.finished.StageWay.TheVariants.{Second, First}
use Rattle.scq_stages.specs.Exports.{squeezed, both, handled_of, AreMoves, DirectsAre, FinishesTake, FirstsAre, IsMove, IsNoPart, SecondsAre}
use Rattle.scq_stages.specs.Exports.{is_direct, is_first, is_second, first, is_next, second, Handled, finished_in, without_way, FinishesItself}
use Rattle.scq_stages.specs.Exports.{IsNextOf, SendsToFirst}
use Rattle.scq_stages.proofs.Readings.{IsPart, finished-reads, in-three, moved-part, moved-reads, not-over, passed-reads, read_part, sent-part}
use Rattle.scq_stages.proofs.Zips.{zip-from, zip-reads}

-- what a worker did: its pass, its list, the messages of its files, whether it wanted memory, and the value that it keeps where it met Spent
pub record Work (B : Type 0) : Type 0 where
  pub pass : PassStanding B
  pub list : Vec Finished Global
  pub messages : List Message
  pub starved : Bool
  pub kept : Option (HeldStanding B)

same : {A : Type 0} {xs ys : List A} → xs ≡ ys → IsPermutation xs ys
same {A} {xs} e = subst (IsPermutation xs) e (IsPermutation-refl xs)

-- of lists that are the same for each of several
flat-same : {W A : Type 0} (f g : W → List A) (ws : List W) → ((w : W) → Contains ws w → f w ≡ g w) → flat_map f ws ≡ flat_map g ws
flat-same f g [] each = refl
flat-same f g (w ∷ ws) each =
    ap (λ l. l ++ flat_map f ws) (each w (contains-first w ws)) ∙ ap (λ l. g w ++ l) (flat-same f g ws (λ v has. each v (contains-more w v ws has)))

module _ {B : Type 0} where
  -- the pass answers for the messages, and for what it took before it retired: so far, since what was taken might be no part's bytes
  pub record IsMoving (w : Work B) : Type 0 where
    pub follows : EachHasItsCall IsNextOf is_next w.messages w.pass.calls
    pub moves : BecomeSoFar IsNoPart IsMove (on first (takes_of (calls_before w.pass))) (on second (sends_of w.pass.calls))

  -- and so does the list
  pub record IsWork (w : Work B) : Type 0 where
    pub passed : ArePassedOn SendsToFirst FinishesItself w.messages (on first (sends_of w.pass.calls)) (filter is_direct w.list.items)
    pub firsts : BecomeSoFar IsNoPart (FinishesTake First both) (on first (takes_of (calls_behind w.pass))) (filter is_first w.list.items)
    pub seconds : BecomeSoFar IsNoPart (FinishesTake Second squeezed) (on second (takes_of w.pass.calls)) (filter is_second w.list.items)
    pub directs : DirectsAre w.pass.fulls w.list.items

  abbrev pub passes_in : List (Work B) → List (PassStanding B)
  passes_in works = map (λ (w : Work B). w.pass) works

  abbrev pub lists_in : List (Work B) → List (Vec Finished Global)
  lists_in works = map (λ (w : Work B). w.list) works

  abbrev pub worked_messages : List (Work B) → List Message
  worked_messages works = flat_map (λ (w : Work B). w.messages) works

  sends-in : (works : List (Work B)) → all_sends (passes_in works) ≡ flat_map (λ (w : Work B). sends_of w.pass.calls) works
  sends-in works = flat_map-map (λ (p : PassStanding B). sends_of p.calls) (λ (w : Work B). w.pass) works

  takes-in : (works : List (Work B)) → all_takes (passes_in works) ≡ flat_map (λ (w : Work B). takes_of w.pass.calls) works
  takes-in works = flat_map-map (λ (p : PassStanding B). takes_of p.calls) (λ (w : Work B). w.pass) works

  module _ (works : List (Work B)) (each : All IsMoving works) (sent : EachTakeIsASend (passes_in works)) where
    -- what a worker took is a send of one of them
    pub was-sent : (w : Work B) → Contains works w → (t : Placed) → Contains (takes_of w.pass.calls) t
        → (v : Work B) × Contains works v × Contains (sends_of v.pass.calls) t
    was-sent w has t took =
        let at = found-at works w has in
        let among = in-all (λ (v : Work B). takes_of v.pass.calls) works at.0 w t at.1 took in
        let there = take-was-sent (passes_in works) sent t (subst (λ (l : List Placed). Contains l t) (sym (takes-in works)) among) in
        let from = from-all (λ (v : Work B). sends_of v.pass.calls) works t (subst (λ (l : List Placed). Contains l t) (sends-in works) there) in
        (from.1, stands-at works from.1 from.0 from.2, from.3)

    -- the takes before a pass retired are some of all, and so are those behind
    took-before : (w : Work B) (t : Placed) → Contains (takes_of (calls_before w.pass)) t → Contains (takes_of w.pass.calls) t
    took-before w t has =
        subst (λ (l : List Placed). Contains l t) (sym (takes-before-and-behind w.pass))
        (Contains-append_left (takes_of (calls_before w.pass)) (takes_of (calls_behind w.pass)) t has)

    pub took-behind : (w : Work B) (t : Placed) → Contains (takes_of (calls_behind w.pass)) t → Contains (takes_of w.pass.calls) t
    took-behind w t has =
        subst (λ (l : List Placed). Contains l t) (sym (takes-before-and-behind w.pass))
        (Contains-append_right (takes_of (calls_before w.pass)) (takes_of (calls_behind w.pass)) t has)

    -- what was taken from first has the bytes of a part
    first-part : (w : Work B) → Contains works w → (t : Placed) → Contains (takes_of w.pass.calls) t → t.topic ≡ first → IsPart t
    first-part w has t took topic =
        let from = was-sent w has t took in
        let its = All-contains IsMoving works from.0 each from.1 in
        sent-part from.0.messages from.0.pass.calls its.follows t from.2 topic

    moved-part-of : (w : Work B) → Contains works w → (t : Placed) → Contains (on first (takes_of (calls_before w.pass))) t → IsPart t
    moved-part-of w has t took =
        let its = on-member first (takes_of (calls_before w.pass)) t took in
        first-part w has t (took-before w t its.0) its.1

    -- so all of it was moved
    pub moved-all : (w : Work B) → Contains works w → AreMoves (on first (takes_of (calls_before w.pass))) (on second (sends_of w.pass.calls))
    moved-all w has =
        so-far-all (on first (takes_of (calls_before w.pass))) (on second (sends_of w.pass.calls)) (All-contains IsMoving works w each has).moves
        (λ t took over. not-over t (moved-part-of w has t took) over)

    moved-reads-all : (w : Work B) → Contains works w
        → map (read_part both) (on first (takes_of (calls_before w.pass))) ≡ map (read_part squeezed) (on second (sends_of w.pass.calls))
    moved-reads-all w has =
        zip-reads IsMove (read_part both) (read_part squeezed) (on first (takes_of (calls_before w.pass))) (on second (sends_of w.pass.calls))
        (λ t s took move. moved-reads t s move (moved-part-of w has t took)) (moved-all w has)

    -- or finished, behind the retirement
    firsts-part : (w : Work B) → Contains works w → (t : Placed) → Contains (on first (takes_of (calls_behind w.pass))) t → IsPart t
    firsts-part w has t took =
        let its = on-member first (takes_of (calls_behind w.pass)) t took in
        first-part w has t (took-behind w t its.0) its.1

    -- what was taken from second is a move
    seconds-part : (w : Work B) → Contains works w → (t : Placed) → Contains (on second (takes_of w.pass.calls)) t → IsPart t
    seconds-part w has t took =
        let its = on-member second (takes_of w.pass.calls) t took in
        let from = was-sent w has t its.0 in
        let v : Work B = from.0 in
        let by = zip-from IsMove (on first (takes_of (calls_before v.pass))) (on second (sends_of v.pass.calls)) t (moved-all v from.1)
        (member-on second (sends_of v.pass.calls) t from.2 its.1) in
        moved-part by.0 t by.2 (moved-part-of v from.1 by.0 by.1)

    -- the kinds of what a worker did, as handled messages
    abbrev of_seconds : Work B → List Handled
    of_seconds w = map (read_part squeezed) (on second (takes_of w.pass.calls))

    abbrev of_firsts : Work B → List Handled
    of_firsts w = map (read_part both) (on first (takes_of (calls_behind w.pass)))

    abbrev of_moved : Work B → List Handled
    of_moved w = map (read_part both) (on first (takes_of (calls_before w.pass)))

    abbrev of_takes : Work B → List Handled
    of_takes w = map (read_part both) (on first (takes_of w.pass.calls))

    abbrev of_sends : Work B → List Handled
    of_sends w = map (read_part both) (on first (sends_of w.pass.calls))

    abbrev of_directs : Work B → List Handled
    of_directs w = map without_way (filter is_direct w.list.items)

    abbrev of_members : Work B → List Handled
    of_members w = map without_way w.list.items

    abbrev of_messages : Work B → List Handled
    of_messages w = map handled_of w.messages

    -- what it took from first is what it took before its retirement, and behind
    takes-read : (w : Work B) → of_takes w ≡ of_moved w ++ of_firsts w
    takes-read w =
        ap (λ (l : List Placed). map (read_part both) (on first l)) (takes-before-and-behind w.pass)
        ∙ ap (map (read_part both)) (on-append first (takes_of (calls_before w.pass)) (takes_of (calls_behind w.pass)))
        ∙ map-append (read_part both) (on first (takes_of (calls_before w.pass))) (on first (takes_of (calls_behind w.pass)))

    module _ (listed : All IsWork works) where
      pub firsts-all : (w : Work B) → Contains works w → FirstsAre (on first (takes_of (calls_behind w.pass))) w.list.items
      firsts-all w has =
          so-far-all (on first (takes_of (calls_behind w.pass))) (filter is_first w.list.items) (All-contains IsWork works w listed has).firsts
          (λ t took over. not-over t (firsts-part w has t took) over)

      firsts-read : (w : Work B) → Contains works w
          → map without_way (filter is_first w.list.items) ≡ map (read_part both) (on first (takes_of (calls_behind w.pass)))
      firsts-read w has =
          so-far-results (read_part both) without_way (on first (takes_of (calls_behind w.pass))) (filter is_first w.list.items)
          (All-contains IsWork works w listed has).firsts (λ t took over. not-over t (firsts-part w has t took) over)
          (λ t f took its. finished-reads First both t f its)

      pub seconds-all : (w : Work B) → Contains works w → SecondsAre (on second (takes_of w.pass.calls)) w.list.items
      seconds-all w has =
          so-far-all (on second (takes_of w.pass.calls)) (filter is_second w.list.items) (All-contains IsWork works w listed has).seconds
          (λ t took over. not-over t (seconds-part w has t took) over)

      seconds-read : (w : Work B) → Contains works w
          → map without_way (filter is_second w.list.items) ≡ map (read_part squeezed) (on second (takes_of w.pass.calls))
      seconds-read w has =
          so-far-results (read_part squeezed) without_way (on second (takes_of w.pass.calls)) (filter is_second w.list.items)
          (All-contains IsWork works w listed has).seconds (λ t took over. not-over t (seconds-part w has t took) over)
          (λ t f took its. finished-reads Second squeezed t f its)

      -- a worker's list is what it took from second, what it took from first behind its retirement, and its Direct members
      list-reads : (w : Work B) → Contains works w → IsPermutation (of_members w) ((of_seconds w ++ of_firsts w) ++ of_directs w)
      list-reads w has =
          let items : List Finished = w.list.items in
          let two : List Finished = filter is_second items ++ filter is_first items in
          let split : map without_way (two ++ filter is_direct items)
          ≡ (map without_way (filter is_second items) ++ map without_way (filter is_first items)) ++ of_directs w =
          map-append without_way two (filter is_direct items)
          ∙ ap (λ (l : List Handled). l ++ of_directs w) (map-append without_way (filter is_second items) (filter is_first items)) in
          subst (λ (l : List Handled). IsPermutation (of_members w) ((l ++ of_firsts w) ++ of_directs w)) (seconds-read w has)
          (subst (λ (l : List Handled). IsPermutation (of_members w) ((map without_way (filter is_second items) ++ l) ++ of_directs w)) (firsts-read w has)
          (subst (IsPermutation (of_members w)) split (IsPermutation-map without_way items (two ++ filter is_direct items) (in-three items))))

      module _ (places : NoPlaceStandsTwice (passes_in works)) (once : NoPlaceIsTakenTwice (passes_in works)) (swept : SendsAreTakes (passes_in works)) where
        -- over all workers the sends to a topic, as they are read, are the takes of it
        topic-reads : (topic : _) (stage : _) → IsPermutation (flat_map (λ (w : Work B). map (read_part stage) (on topic (takes_of w.pass.calls))) works)
            (flat_map (λ (w : Work B). map (read_part stage) (on topic (sends_of w.pass.calls))) works)
        topic-reads topic stage =
            let takes : flat_map (λ (w : Work B). map (read_part stage) (on topic (takes_of w.pass.calls))) works
            ≡ map (read_part stage) (on topic (all_takes (passes_in works))) =
            flat-map (read_part stage) (λ (w : Work B). on topic (takes_of w.pass.calls)) works
            ∙ ap (map (read_part stage)) (sym (ap (on topic) (takes-in works) ∙ on-all topic (λ (w : Work B). takes_of w.pass.calls) works)) in
            let sends : flat_map (λ (w : Work B). map (read_part stage) (on topic (sends_of w.pass.calls))) works
            ≡ map (read_part stage) (on topic (all_sends (passes_in works))) =
            flat-map (read_part stage) (λ (w : Work B). on topic (sends_of w.pass.calls)) works
            ∙ ap (map (read_part stage)) (sym (ap (on topic) (sends-in works) ∙ on-all topic (λ (w : Work B). sends_of w.pass.calls) works)) in
            subst (λ (l : List Handled). IsPermutation l (flat_map (λ (w : Work B). map (read_part stage) (on topic (sends_of w.pass.calls))) works)) (sym takes)
            (subst (IsPermutation (map (read_part stage) (on topic (all_takes (passes_in works))))) (sym sends)
            (IsPermutation-map (read_part stage) (on topic (all_takes (passes_in works))) (on topic (all_sends (passes_in works)))
            (IsPermutation-sym (on topic (all_sends (passes_in works))) (on topic (all_takes (passes_in works)))
            (sends-are-takes-on (passes_in works) places once swept topic))))

        -- what was moved by all is what was taken from second by all
        moved-were-taken : flat_map (λ (w : Work B). map (read_part squeezed) (on second (sends_of w.pass.calls))) works ≡ flat_map of_moved works
        moved-were-taken = flat-same (λ (w : Work B). map (read_part squeezed) (on second (sends_of w.pass.calls))) of_moved works
            (λ w has. sym (moved-reads-all w has))

        -- so what was taken from second, and from first behind all retirements, is what was sent to first
        taken-were-sent : IsPermutation (flat_map (λ (w : Work B). of_seconds w ++ of_firsts w) works) (flat_map of_sends works)
        taken-were-sent =
            let apart = together (λ (w : Work B). of_seconds w ++ of_firsts w) of_seconds of_firsts works (λ w has. IsPermutation-refl (of_seconds w ++ of_firsts w)) in
            let seconds : IsPermutation (flat_map of_seconds works) (flat_map of_moved works) =
            subst (IsPermutation (flat_map of_seconds works)) moved-were-taken (topic-reads second squeezed) in
            let takes = together of_takes of_moved of_firsts works (λ w has. same (takes-read w)) in
            IsPermutation-trans (flat_map (λ (w : Work B). of_seconds w ++ of_firsts w) works) (flat_map of_seconds works ++ flat_map of_firsts works)
            (flat_map of_sends works) apart
            (IsPermutation-trans (flat_map of_seconds works ++ flat_map of_firsts works) (flat_map of_moved works ++ flat_map of_firsts works)
            (flat_map of_sends works) (IsPermutation-append_left (flat_map of_firsts works) (flat_map of_seconds works) (flat_map of_moved works) seconds)
            (IsPermutation-trans (flat_map of_moved works ++ flat_map of_firsts works) (flat_map of_takes works) (flat_map of_sends works)
            (IsPermutation-sym (flat_map of_takes works) (flat_map of_moved works ++ flat_map of_firsts works) takes) (topic-reads first both)))

        -- the members of all workers are what becomes of the messages of all, each once
        pub all-finished : IsPermutation (map without_way (finished_in (lists_in works))) (map handled_of (worked_messages works))
        all-finished =
            let taken : Work B → List Handled = λ w. of_seconds w ++ of_firsts w in
            let lists = together of_members taken of_directs works list-reads in
            let messages = together of_messages of_sends of_directs works (λ w has.
            passed-reads w.messages (on first (sends_of w.pass.calls)) (filter is_direct w.list.items) (All-contains IsWork works w listed has).passed) in
            let joined : IsPermutation (flat_map of_members works) (flat_map of_messages works) =
            IsPermutation-trans (flat_map of_members works) (flat_map taken works ++ flat_map of_directs works) (flat_map of_messages works) lists
            (IsPermutation-trans (flat_map taken works ++ flat_map of_directs works) (flat_map of_sends works ++ flat_map of_directs works)
            (flat_map of_messages works)
            (IsPermutation-append_left (flat_map of_directs works) (flat_map taken works) (flat_map of_sends works) taken-were-sent)
            (IsPermutation-sym (flat_map of_messages works) (flat_map of_sends works ++ flat_map of_directs works) messages)) in
            let members : flat_map of_members works ≡ map without_way (finished_in (lists_in works)) =
            flat-map without_way (λ (w : Work B). w.list.items) works
            ∙ ap (map without_way) (sym (flat_map-map (λ (l : Vec Finished Global). l.items) (λ (w : Work B). w.list) works)) in
            subst (λ (l : List Handled). IsPermutation l (map handled_of (worked_messages works))) members
            (subst (IsPermutation (flat_map of_members works)) (flat-map handled_of (λ (w : Work B). w.messages) works) joined)
