-- All workers once they have left and the queue is closed. Plan: the messages are few, so no pass met a ticket past the limit; so each worker has moved, retired
-- and swept, and nothing is left behind. Where no worker wanted memory, each list answers for its pass, and together they answer for all messages.
use Rattle.std.proofs.Common.{◌≡◌, refl, sym, ◌∙◌, ap, subst, inl, inr, arith, zero, suc, false, ℕ, ◌^◌, ◌<◌, ◌≤◌, List, [], ◌∷◌, ◌++◌, length, map, get_or, ⊎_elim, Option, Some, None}
use Rattle.std.specs.Prelude.{filter, flat_map, slice_get, sum_by, Vec}
use Rattle.std.specs.Global.{Global}
use Rattle.std.specs.List.{All, Contains}
use Rattle.std.specs.List.Sorted.{IsPermutation}
use Rattle.std.specs.Option.{option_map, option_to_list}
use Rattle.std.proofs.lemmas.List.{get_or-map, length-map}
use Rattle.std.proofs.lemmas.List.Elements.{All-map, Contains-get_or, filter-append}
use Rattle.std.proofs.lemmas.List.Folds.{flat_map-map}
use Rattle.std.proofs.lemmas.List.Sorted.{IsPermutation-map, IsPermutation-sym, IsPermutation-trans}
use Rattle.std.proofs.lemmas.Option.{slice_get-map, slice_get_within, slice_get_cases, get_or_from_slice_get}
use Rattle.scq_frames.specs.declared.message.Message.{Message}
use Rattle.scq_word.specs.declared.setup.Setup.{Setup}
use Rattle.scq_band.specs.Exports.{Identity}
use Rattle.scq_band.proofs.ClosedCounts.{sum_by-map}
use Rattle.scq_collect.proofs.Orders.{contains-cases, contains-first, contains-more}
use Rattle.scq_queue.specs.Exports.{EachTakeIsASend, NoPlaceIsTakenTwice, NoneIsKeptWithinTheLimit, Placed, sends_of, takes_of, PassStanding}
use Rattle.scq_queue.specs.Exports.{HeldStanding}
use Rattle.scq_files.specs.Exports.{AreGiven, own_of}
use Rattle.scq_files.proofs.Lists.{map-map}
use Rattle.scq_passes.specs.Exports.{HaveShared, OfEachWorker, calls_behind, index_of, ArePassedOn, EachHasItsCall, HoldsNothingAtEachFull}
use Rattle.scq_passes.specs.Exports.{MeetsNoSpent, on, HasSwept, IsBounded, NoneSpent, HasClosed}
use Rattle.scq_passes.proofs.ManyLists.{stands-at}
use Rattle.scq_passes.proofs.NoneSpent.{message_count, passes_of}
use Rattle.scq_passes.proofs.OnTopics.{on-member}
use Rattle.scq_passes.proofs.SendsAndTakes.{no-place-twice}
use Rattle.scq_stages.specs.declared.finished.Finished.{Finished}
use Rattle.scq_stages.specs.Exports.{HaveFinished, KeepsStages, handled_of, DirectsAre, FirstsAre, SecondsAre, is_direct, is_first, first, is_next}
use Rattle.scq_stages.specs.Exports.{second, finished_in, without_way, FinishesItself, IsNextOf, SendsToFirst, HasMovedAllAndSwept, HasFewStageCalls}
use Rattle.scq_passes.proofs.Closed.{all-taken, have-shared}
use Rattle.scq_stages.proofs.Conclusion.{Work, IsMoving, IsWork, all-finished, firsts-all, lists_in, worked_messages, moved-all, passes_in, seconds-all, took-behind, was-sent}
use Rattle.scq_stages.proofs.Ended.{follows-all, moves-so-far, nothing-behind-alone, retired-empty}
use Rattle.scq_stages.proofs.FewTickets.{all-bounded, none-spent}
use Rattle.scq_stages.proofs.Ordered.{members-apart}
use Rattle.scq_stages.proofs.Zips.{zip-none}

-- where there is one, all are it
only-one : {A : Type 0} (xs : List A) (x y : A) → length xs ≡ 1 → Contains xs x → Contains xs y → x ≡ y
only-one [] x y one has other = absurd (omega arith)
only-one (z ∷ []) x y one has other =
    ⊎_elim (λ (e : z ≡ x). ⊎_elim (λ (f : z ≡ y). sym e ∙ f) (λ (h : Contains [] y). absurd (omega (arith, h.1))) (contains-cases z y [] other))
    (λ (h : Contains [] x). absurd (omega (arith, h.1))) (contains-cases z x [] has)
only-one (z ∷ z' ∷ zs) x y one has other = absurd (omega arith)

module _ {B : Type 0} where
  -- a worker has done its work, however the reading of its files ended
  pub record HasDoneItsWork (shared : Identity B) (w : Work B) : Type 0 where
    pub few_calls : HasFewStageCalls 1 (length w.messages) w.pass
    pub queue : w.pass.queue ≡ shared
    pub held : w.pass.held ≡ index_of w.kept
    pub ended : w.pass.spent ≡ None → HasMovedAllAndSwept w.messages w.pass w.list.items w.starved

  -- the values that workers keep
  abbrev pub held_in : List (Work B) → List (HeldStanding B)
  held_in works = flat_map (λ (w : Work B). option_to_list w.kept) works

  abbrev counted : Work B → ℕ × PassStanding B
  counted w = (length w.messages, w.pass)

  -- the workers of a queue have left, each with its own number
  pub record AllDone (c : Setup) (shared : Identity B) (works : List (Work B)) : Type 0 where
    pub each : All (HasDoneItsWork shared) works
    pub setup : shared.setup ≡ c
    pub numbers : (k : ℕ) (d : Work B) → k < length works → (get_or works k d).pass.number ≡ k
    pub rings : c.rings ≡ 3
    pub seats : c.seats ≡ length works
    pub limit : c.limit ≡ 2 ^ 60
    pub few : sum_by (λ (w : Work B). length w.messages) works ≤ 2 ^ 36

  -- so it is of each worker
  of-each : (P : ℕ → PassStanding B → List Finished → Type 0) (works : List (Work B))
      → ((w : ℕ) (d : Work B) → slice_get works w ≡ Some d → P w d.pass d.list.items) → OfEachWorker P (passes_in works) (lists_in works)
  of-each P works each w p list pass_is list_is = by (slice_get works w) refl where
    pass : Work B → PassStanding B
    pass d = d.pass

    members : Work B → Vec Finished Global
    members d = d.list

    by : (o : Option (Work B)) → slice_get works w ≡ o → P w p list.items
    by None is = absurd (cc (slice_get-map pass works w, pass_is, is))
    by (Some d) is =
        let first_is : Some d.pass ≡ Some p = sym (slice_get-map pass works w ∙ ap (option_map pass) is) ∙ pass_is in
        let second_is : Some d.list ≡ Some list = sym (slice_get-map members works w ∙ ap (option_map members) is) ∙ list_is in
        let its_pass : d.pass ≡ p = cc in
        let its_list : d.list ≡ list = cc in
        subst (λ q. P w q list.items) its_pass (subst (λ (l : Vec Finished Global). P w d.pass l.items) its_list (each w d is))

  -- where no list has a First member, none of all has
  no-firsts : (works : List (Work B)) → ((w : Work B) → Contains works w → filter is_first w.list.items ≡ [])
      → filter is_first (flat_map (λ (w : Work B). w.list.items) works) ≡ []
  no-firsts [] each = refl
  no-firsts (w ∷ ws) each =
      filter-append is_first w.list.items (flat_map (λ (v : Work B). v.list.items) ws)
      ∙ ap (λ l. l ++ filter is_first (flat_map (λ (v : Work B). v.list.items) ws)) (each w (contains-first w ws))
      ∙ no-firsts ws (λ v has. each v (contains-more w v ws has))

  module _ {contents : B → List ℕ} {IsSameBuffer : B → B → Type 0} {buffers : List B} (c : Setup) (shared : Identity B) (works : List (Work B)) (done : AllDone c shared works)
      (left : List ℕ) (closed : HasClosed contents IsSameBuffer c shared.given (passes_in works) (held_in works) buffers left) where
    passes-same : passes_of (map counted works) ≡ passes_in works
    passes-same = map-map (λ (w : ℕ × PassStanding B). w.1) counted works

    few-messages : message_count (map counted works) ≤ 2 ^ 36
    few-messages =
        let counts = sum_by-map (λ (w : ℕ × PassStanding B). w.0) counted works in
        let few = done.few in
        omega arith

    all-few : All (λ (w : ℕ × PassStanding B). HasFewStageCalls 1 w.0 w.1) (map counted works)
    all-few = All-map (λ (w : ℕ × PassStanding B). HasFewStageCalls 1 w.0 w.1) counted works (λ k d less. (done.each k d less).few_calls)

    sent-so : EachTakeIsASend (passes_of (map counted works))
    sent-so = subst (λ (ps : List (PassStanding B)). EachTakeIsASend ps) (sym passes-same) closed.sent.takes

    once-so : NoPlaceIsTakenTwice (passes_of (map counted works))
    once-so = subst (λ (ps : List (PassStanding B)). NoPlaceIsTakenTwice ps) (sym passes-same) closed.sent.taken_once

    unspent : NoneSpent (passes_in works)
    unspent =
        subst (λ (ps : List (PassStanding B)). NoneSpent ps) passes-same
        (none-spent (map counted works) all-few sent-so once-so c done.limit done.rings (omega (arith, done.seats, length-map works counted)) few-messages
        (subst (λ (ps : List (PassStanding B)). NoneIsKeptWithinTheLimit c ps) (sym passes-same) closed.limits))

    bounded : All (IsBounded (2 ^ 37)) (passes_in works)
    bounded = All-map (IsBounded (2 ^ 37)) (λ (w : Work B). w.pass) works (λ k d less.
        let long : k < length (map counted works) = subst (λ n. k < n) (sym (length-map works counted)) less in
        let its = all-bounded (map counted works) all-few sent-so once-so few-messages k (counted d) long in
        subst (λ (w : ℕ × PassStanding B). IsBounded (2 ^ 37) w.1) (get_or-map counted works k d (counted d) less) its)

    -- so each has ended
    spent-none : (k : ℕ) (d : Work B) → k < length works → (get_or works k d).pass.spent ≡ None
    spent-none k d less =
        subst (λ (p : PassStanding B). p.spent ≡ None) (get_or-map (λ (w : Work B). w.pass) works k d d.pass less)
        (unspent k d.pass (omega (arith, less, length-map works (λ (w : Work B). w.pass))))

    abbrev Ends : Work B → Type 0
    Ends w = HasMovedAllAndSwept w.messages w.pass w.list.items w.starved

    all-ended : All Ends works
    all-ended k d less = (done.each k d less).ended (spent-none k d less)

    -- what holds of one that has ended holds of all passes
    of-passes : (P : PassStanding B → Type 0) → ((w : Work B) → Ends w → P w.pass) → All P (passes_in works)
    of-passes P each = All-map P (λ (w : Work B). w.pass) works (λ k d less. each (get_or works k d) (all-ended k d less))

    -- no value is kept
    none-kept : held_in works ≡ []
    none-kept = flat-none works (λ k d less. none-in (get_or works k d).kept
        (sym (done.each k d less).held ∙ (all-ended k d less).leaving.between.none))
      where
        none-in : (o : Option (HeldStanding B)) → index_of o ≡ [] → option_to_list o ≡ []
        none-in None is = refl
        none-in (Some h) is = absurd (cc)

        flat-none : (ws : List (Work B)) → ((k : ℕ) (d : Work B) → k < length ws → option_to_list (get_or ws k d).kept ≡ []) → held_in ws ≡ []
        flat-none [] each = refl
        flat-none (w ∷ ws) each =
            let here : option_to_list w.kept ≡ [] = each zero w (omega arith) in
            rw here (flat-none ws (λ k d less. each (suc k) d (omega arith)))

    pass-numbers : (w : ℕ) (p : PassStanding B) → slice_get (passes_in works) w ≡ Some p → p.number ≡ w
    pass-numbers w p is =
        let pass : Work B → PassStanding B = λ d. d.pass in
        let less : w < length works = omega (arith, slice_get_within (passes_in works) w p is, length-map works pass) in
        elim (slice_get_cases works w).1 [
          | inl (d, within, found, here) ↦
              let same : Some d.pass ≡ Some p = sym (slice_get-map pass works w ∙ ap (option_map pass) found) ∙ is in
              let its : d.pass ≡ p = cc in
              subst (λ (q : PassStanding B). q.number ≡ w) its (subst (λ (e : Work B). e.pass.number ≡ w) here (done.numbers w d less))
          | inr (past, none) ↦ absurd (omega arith)
        ]

    -- each moved what it took from first
    all-moving : All IsMoving works
    all-moving k d less =
        let w = get_or works k d in
        let e = all-ended k d less in
        record {
          follows = follows-all w.messages w.pass w.list.items w.starved e;
          moves = moves-so-far w.messages w.pass w.list.items w.starved e;
        }

    all-keep : All KeepsStages (passes_in works)
    all-keep = All-map KeepsStages (λ (w : Work B). w.pass) works (λ k d less.
        let w = get_or works k d in
        record {
          moves = moved-all works all-moving closed.sent.takes w (Contains-get_or works k d less);
          retired = retired-empty w.messages w.pass w.list.items w.starved (all-ended k d less);
        })

    -- whatever the workers met
    pub all-shared : HaveShared contents IsSameBuffer KeepsStages (2 ^ 37) 2 c (passes_in works) buffers left
    all-shared =
        have-shared c shared.given (passes_in works) (held_in works) left closed KeepsStages (2 ^ 37) 2 shared done.setup refl done.rings
        (All-map (λ (p : PassStanding B). p.queue ≡ shared) (λ (w : Work B). w.pass) works (λ k d less. (done.each k d less).queue))
        pass-numbers unspent (of-passes HasSwept (λ w e. e.swept))
        (of-passes (λ (p : PassStanding B). HoldsNothingAtEachFull p.calls) (λ w e. e.leaving.between.alone))
        all-keep
        (of-passes (λ (p : PassStanding B). MeetsNoSpent p.calls) (λ w e. e.leaving.between.unspent)) bounded none-kept

    -- where no worker wanted memory, and each read its own of the files
    module _ {S : Type 0} (size : ℕ) (left_of : S → Option (List ℕ)) (sources : List S) (given : List (List Message))
        (gave : AreGiven [] size left_of 1 sources given)
        (own : (w : ℕ) (d : Work B) → slice_get works w ≡ Some d → d.messages ≡ own_of (length works) w 1 given)
        (all : IsPermutation (flat_map (λ own. own) given) (worked_messages works)) (fed : All (λ (w : Work B). w.starved ≡ false) works) where
      all-works : All IsWork works
      all-works k d less =
          let w = get_or works k d in
          let e = all-ended k d less in
          let listed = e.leaving.listed (fed k d less) in
          record {
            passed = listed.passed;
            firsts = listed.firsts;
            seconds = listed.seconds;
            directs = listed.directs;
          }

      moving-at : (w : ℕ) (d : Work B) → slice_get works w ≡ Some d → IsMoving d
      moving-at w d is = subst IsMoving (get_or_from_slice_get works w d d is) (all-moving w d (slice_get_within works w d is))

      work-at : (w : ℕ) (d : Work B) → slice_get works w ≡ Some d → IsWork d
      work-at w d is = subst IsWork (get_or_from_slice_get works w d d is) (all-works w d (slice_get_within works w d is))

      once : IsPermutation (map without_way (finished_in (lists_in works))) (map handled_of (flat_map (λ own. own) given))
      once =
          IsPermutation-trans (map without_way (finished_in (lists_in works))) (map handled_of (worked_messages works)) (map handled_of (flat_map (λ own. own) given))
          (all-finished works all-moving closed.sent.takes all-works (no-place-twice (passes_in works) closed.sent.sent_once) closed.sent.taken_once
          (all-taken c shared.given (passes_in works) (held_in works) left closed (of-passes HasSwept (λ w e. e.swept))))
          (IsPermutation-map handled_of (worked_messages works) (flat_map (λ own. own) given)
          (IsPermutation-sym (flat_map (λ own. own) given) (worked_messages works) all))

      -- one worker alone takes only what it sent itself
      alone-firsts : length works ≡ 1 → (w : Work B) → Contains works w → filter is_first w.list.items ≡ []
      alone-firsts one w has =
          let e : Ends w = subst Ends has.2 (all-ended has.0 w has.1) in
          let none = nothing-behind-alone w.messages w.pass w.list.items w.starved e (λ m took.
          let its = on-member first (takes_of (calls_behind w.pass)) m took in
          let from = was-sent works all-moving closed.sent.takes w has m (took-behind works all-moving closed.sent.takes w m its.0) in
          subst (λ (v : Work B). Contains (sends_of v.pass.calls) m) (only-one works from.0 w one from.1 has) from.2) in
          zip-none _ (on first (takes_of (calls_behind w.pass))) (filter is_first w.list.items)
          (λ t took. absurd (omega (arith, (subst (λ (l : List Placed). Contains l t) none took).1)))
          (firsts-all works all-moving closed.sent.takes all-works w has)

      alone : length works ≡ 1 → filter is_first (finished_in (lists_in works)) ≡ []
      alone one =
          ap (filter is_first) (flat_map-map (λ (l : Vec Finished Global). l.items) (λ (w : Work B). w.list) works) ∙ no-firsts works (alone-firsts one)

      pub have-staged : HaveFinished (length works) given (passes_in works) (lists_in works)
      have-staged = record {
        each_pass = length-map works (λ (w : Work B). w.pass);
        each_list = length-map works (λ (w : Work B). w.list);
        once = once;
        apart = members-apart [] size left_of sources given (finished_in (lists_in works)) gave once;
        passed = of-each (λ w p list. ArePassedOn SendsToFirst FinishesItself (own_of (length works) w 1 given) (on first (sends_of p.calls))
            (filter is_direct list)) works
            (λ w d is. subst (λ ms. ArePassedOn SendsToFirst FinishesItself ms (on first (sends_of d.pass.calls)) (filter is_direct d.list.items)) (own w d is)
            (work-at w d is).passed);
        follows = of-each (λ w p list. EachHasItsCall IsNextOf is_next (own_of (length works) w 1 given) p.calls) works
            (λ w d is. subst (λ ms. EachHasItsCall IsNextOf is_next ms d.pass.calls) (own w d is) (moving-at w d is).follows);
        firsts = of-each (λ w p list. FirstsAre (on first (takes_of (calls_behind p))) list) works
            (λ w d is. firsts-all works all-moving closed.sent.takes all-works d (stands-at works d w is));
        seconds = of-each (λ w p list. SecondsAre (on second (takes_of p.calls)) list) works
            (λ w d is. seconds-all works all-moving closed.sent.takes all-works d (stands-at works d w is));
        directs = of-each (λ w p list. DirectsAre p.fulls list) works (λ w d is. (work-at w d is).directs);
        alone = alone;
      }
