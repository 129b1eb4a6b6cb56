-- All desks once their workers have left and the queue is closed. Plan: the parts are few (`AllGave`), so no pass met a
-- ticket past the limit; so each worker has swept, and nothing is left behind. Where no file has a fault and no worker wanted memory, each list
-- answers for its pass, and together they answer for all messages.
use Rattle.std.proofs.Common.{◌≡◌, refl, sym, ◌∙◌, ap, subst, inl, inr, arith, false, zero, suc, ℕ, ◌+◌, ◌^◌, ◌<◌, ◌≤◌, List, [], ◌∷◌, length, map, reverse, get_or, Option, Some, None}
use Rattle.std.specs.Prelude.{slice_get, flat_map}
use Rattle.std.specs.List.{All}
use Rattle.std.specs.List.Sorted.{IsPermutation}
use Rattle.std.specs.Option.{option_map, option_to_list}
use Rattle.std.proofs.lemmas.List.{length-map, get_or-map}
use Rattle.std.proofs.lemmas.List.Elements.{All-map, All-append, All-nil}
use Rattle.std.proofs.lemmas.List.Folds.{flat_map-map}
use Rattle.std.proofs.lemmas.List.Sorted.{All-permutation, IsPermutation-sym, IsPermutation-reverse, IsPermutation-map, IsPermutation-trans}
use Rattle.std.proofs.lemmas.Option.{slice_get-map, slice_get_within, slice_get_cases, get_or_from_slice_get}
use Rattle.scq_topics.specs.declared.kind.Kind.{Kind}
use Rattle.scq_frames.specs.declared.message.Message.{Message}
use Rattle.scq_frames.specs.Exports.{Part}
use Rattle.scq_word.specs.declared.setup.Setup.{Setup}
use Rattle.scq_collect.specs.declared.answered.Answered.{Answered}
use Rattle.scq_collect.specs.Exports.{part_answer, part_answers, without_way, members_of}
use Rattle.scq_band.specs.Exports.{Identity}
use Rattle.scq_band.proofs.ClosedCounts.{sum_by-map}
use Rattle.scq_queue.specs.Exports.{EachTakeIsASend, NoPlaceIsTakenTwice, NoneIsKeptWithinTheLimit, takes_of, PassStanding, HeldStanding}
use Rattle.scq_passes.specs.Exports.{HaveShared, HoldsNothingAtEachFull, MeetsNoSpent, SendsAreTakes, NoneSpent, IsBounded, HasSwept, HasFewCalls}
use Rattle.scq_passes.specs.Exports.{index_of, HasClosed}
use Rattle.scq_work.specs.Exports.{HaveAnswered, HasHelped, OfEachWorkersAnswers}
use Rattle.scq_files.specs.Exports.{AreGiven, own_of, IsRead, SourceOf, AllWhole}
use Rattle.scq_worker.specs.Exports.{AnswersItsTakes, parts_in, HasListedAll, Seated}
use Rattle.scq_files.specs.declared.desk.Desk.{Desk}
use Rattle.scq_files.specs.declared.own_file.OwnFile.{OwnFile}
use Rattle.scq_files.proofs.AllGave.{given_of, worker_messages}
use Rattle.scq_desk.proofs.Settled.{held_at}
use Rattle.scq_work.proofs.AllGave.{AllRan, given, is-given, own-given, all-parts-passed, few-in-all}
use Rattle.scq_work.proofs.Conclusion.{Work, IsWork, passes_in, worked_parts, members_among, all-taken, all-answered}
use Rattle.scq_files.proofs.Lists.{map-map}
use Rattle.scq_worker.proofs.MessageParts.{known-parts, flat-parts}
use Rattle.scq_passes.proofs.NoneSpent.{passes_of, message_count, none-spent, all-bounded}
use Rattle.scq_files.proofs.GivenLemmas.{of-known, given-known}
use Rattle.scq_work.proofs.Orders.{members-whole}
use Rattle.scq_work.proofs.PartMembers.{members-known, members-short}
use Rattle.scq_passes.proofs.ManyLists.{stands-at}
use Rattle.scq_passes.proofs.Closed.{all-taken as takes-are-sends, have-shared}

module _ {B Place S : Type 0} where
  abbrev work_of : ℕ → Desk (Seated B Place) S → Work B
  work_of size d = record { pass = d.worker.worker.pass; members = d.worker.worker.members; messages = parts_in size (worker_messages d) }

  abbrev counted : ℕ → Desk (Seated B Place) S → ℕ × PassStanding B
  counted size d = (length (parts_in size (worker_messages d)), d.worker.worker.pass)

  abbrev pub passes_at : List (Desk (Seated B Place) S) → List (PassStanding B)
  passes_at desks = map (λ (d : Desk (Seated B Place) S). d.worker.worker.pass) desks

  abbrev pub lists_at : List (Desk (Seated B Place) S) → List (List Answered)
  lists_at desks = map (λ (d : Desk (Seated B Place) S). d.worker.worker.members) desks

  -- so it is of each worker
  of-each : (P : ℕ → PassStanding B → List Answered → Type 0) (desks : List (Desk (Seated B Place) S))
      → ((w : ℕ) (d : Desk (Seated B Place) S) → slice_get desks w ≡ Some d → P w d.worker.worker.pass d.worker.worker.members)
      → OfEachWorkersAnswers P (passes_at desks) (lists_at desks)
  of-each P desks each w p list pass_is list_is = by (slice_get desks w) refl where
    pass : Desk (Seated B Place) S → PassStanding B
    pass d = d.worker.worker.pass

    members : Desk (Seated B Place) S → List Answered
    members d = d.worker.worker.members

    by : (o : Option (Desk (Seated B Place) S)) → slice_get desks w ≡ o → P w p list
    by None is = absurd (cc (slice_get-map pass desks w, pass_is, is))
    by (Some d) is =
        let first : Some d.worker.worker.pass ≡ Some p = sym (slice_get-map pass desks w ∙ ap (option_map pass) is) ∙ pass_is in
        let second : Some d.worker.worker.members ≡ Some list = sym (slice_get-map members desks w ∙ ap (option_map members) is) ∙ list_is in
        let its_pass : d.worker.worker.pass ≡ p = cc in
        let its_list : d.worker.worker.members ≡ list = cc in
        subst (λ q. P w q list) its_pass (subst (λ (l : List Answered). P w d.worker.worker.pass l) its_list (each w d is))

  module _ (c : Setup) (shared : Identity B) (topics : List (List ℕ × Kind)) (size most longest : ℕ) (src : SourceOf S) (sources : List S)
      (desks : List (Desk (Seated B Place) S)) (ran : AllRan c shared topics size most longest src sources desks) where
    -- what `AllGave` says of these desks, by short names
    abbrev messages_given : List (List Message)
    messages_given = given c shared topics size most longest src sources desks ran

    own-gave : (w : ℕ) (d : Desk (Seated B Place) S) → slice_get desks w ≡ Some d → worker_messages d ≡ own_of (length desks) w 1 messages_given
    own-gave = own-given c shared topics size most longest src sources desks ran

    abbrev works : List (ℕ × PassStanding B)
    works = map (counted size) desks

    passes-same : passes_of works ≡ passes_at desks
    passes-same = map-map (λ (w : ℕ × PassStanding B). w.1) (counted size) desks

    few-messages : message_count works ≤ 2 ^ 36
    few-messages =
        let counts = sum_by-map (λ (w : ℕ × PassStanding B). w.0) (counted size) desks in
        let few = few-in-all c shared topics size most longest src sources desks ran in
        omega arith

    all-few : All (λ (w : ℕ × PassStanding B). HasFewCalls 1 w.0 w.1) works
    all-few = All-map (λ (w : ℕ × PassStanding B). HasFewCalls 1 w.0 w.1) (counted size) desks (λ k d less. (ran.run k d less).few_calls)

    module _ {contents : B → List ℕ} {IsSameBuffer : B → B → Type 0} {buffers : List B} (left_in : List ℕ)
        (closed : HasClosed contents IsSameBuffer c shared.given (passes_at desks) (held_at desks) buffers left_in) where
      pub unspent : NoneSpent (passes_at desks)
      unspent =
          subst (λ (ps : List (PassStanding B)). NoneSpent ps) passes-same
          (none-spent c works ran.limit (omega (arith, ran.seats, length-map desks (counted size))) few-messages all-few
          (subst (λ (ps : List (PassStanding B)). EachTakeIsASend ps) (sym passes-same) closed.sent.takes)
          (subst (λ (ps : List (PassStanding B)). NoPlaceIsTakenTwice ps) (sym passes-same) closed.sent.taken_once)
          (subst (λ (ps : List (PassStanding B)). NoneIsKeptWithinTheLimit c ps) (sym passes-same) closed.limits))

      bounded : All (IsBounded (2 ^ 36)) (passes_at desks)
      bounded = All-map (IsBounded (2 ^ 36)) (λ (d : Desk (Seated B Place) S). d.worker.worker.pass) desks (λ k d less.
          let long : k < length works = subst (λ n. k < n) (sym (length-map desks (counted size))) less in
          let its = all-bounded works (2 ^ 36) few-messages all-few (subst (λ (ps : List (PassStanding B)). EachTakeIsASend ps) (sym passes-same) closed.sent.takes)
          (subst (λ (ps : List (PassStanding B)). NoPlaceIsTakenTwice ps) (sym passes-same) closed.sent.taken_once) k (counted size d) long in
          subst (λ (w : ℕ × PassStanding B). IsBounded (2 ^ 36) w.1) (get_or-map (counted size) desks k d (counted size d) less) its)

      spent-none : (k : ℕ) (d : Desk (Seated B Place) S) → k < length desks → (get_or desks k d).worker.worker.pass.spent ≡ None
      spent-none k d less =
          subst (λ (p : PassStanding B). p.spent ≡ None) (get_or-map (λ (e : Desk (Seated B Place) S). e.worker.worker.pass) desks k d d.worker.worker.pass less)
          (unspent k d.worker.worker.pass (omega (arith, less, length-map desks (λ (e : Desk (Seated B Place) S). e.worker.worker.pass))))

      swept : All HasSwept (passes_at desks)
      swept = All-map HasSwept (λ (d : Desk (Seated B Place) S). d.worker.worker.pass) desks (λ k d less. (ran.run k d less).swept (spent-none k d less))

      pub same : SendsAreTakes (passes_at desks)
      same = takes-are-sends c shared.given (passes_at desks) (held_at desks) left_in closed swept

      messages-known : (k : ℕ) (d : Desk (Seated B Place) S) → k < length desks → All (λ m. m.topic ≤ length topics) (worker_messages (get_or desks k d))
      messages-known k d less =
          let files = (get_or desks k d).files.items in
          flat-known (reverse files) (All-permutation (λ (f : OwnFile S). IsRead topics longest src f.number f.was.value f.source (given_of f)
          f.end)
          files (reverse files)
          (IsPermutation-reverse files) (ran.run k d less).read)
        where
          flat-known : (fs : List (OwnFile S)) → All (λ f. IsRead topics longest src f.number f.was.value f.source (given_of f) f.end) fs
              → All (λ m. m.topic ≤ length topics) (flat_map given_of fs)
          flat-known [] read = All-nil (λ (m : Message). m.topic ≤ length topics)
          flat-known (f ∷ fs) read =
              All-append (λ (m : Message). m.topic ≤ length topics) (given_of f) (flat_map given_of fs)
              (of-known (length topics) f.number 0 (given_of f) (read zero f (omega arith)).all)
              (flat-known fs (λ k d less. read (suc k) d (omega arith)))

      -- no value is kept
      none-kept : held_at desks ≡ []
      none-kept = flat-none desks (λ k d less. none-in (get_or desks k d).worker.kept
          (sym ((ran.run k d less).held) ∙ ((ran.run k d less).sweeping (spent-none k d less)).between.none))
        where
          none-in : (o : Option (HeldStanding B)) → index_of o ≡ [] → option_to_list o ≡ []
          none-in None is = refl
          none-in (Some h) is = absurd (cc)

          flat-none : (ds : List (Desk (Seated B Place) S)) → ((k : ℕ) (d : Desk (Seated B Place) S) → k < length ds → option_to_list (get_or ds k d).worker.kept ≡ []) → held_at ds ≡ []
          flat-none [] each = refl
          flat-none (d ∷ ds) each =
              let here : option_to_list d.worker.kept ≡ [] = each zero d (omega arith) in
              rw here (flat-none ds (λ k e less. each (suc k) e (omega arith)))

      pass-numbers : (w : ℕ) (p : PassStanding B) → slice_get (passes_at desks) w ≡ Some p → p.number ≡ w
      pass-numbers w p is =
          let pass : Desk (Seated B Place) S → PassStanding B = λ d. d.worker.worker.pass in
          let less : w < length desks = omega (arith, slice_get_within (passes_at desks) w p is, length-map desks pass) in
          elim (slice_get_cases desks w).1 [
            | inl (d, within, found, here) ↦
                let same : Some d.worker.worker.pass ≡ Some p = sym (slice_get-map pass desks w ∙ ap (option_map pass) found) ∙ is in
                let its : d.worker.worker.pass ≡ p = cc in
                subst (λ (q : PassStanding B). q.number ≡ w) its (subst (λ (e : Desk (Seated B Place) S). e.worker.worker.pass.number ≡ w) here (ran.numbers w d less))
            | inr (past, none) ↦ absurd (omega arith)
          ]

      -- whatever the workers met
      pub all-shared : HaveShared contents IsSameBuffer (HasHelped (length topics + 1)) (2 ^ 36) (length topics + 1) c (passes_at desks) buffers left_in
      all-shared =
          have-shared c shared.given (passes_at desks) (held_at desks) left_in closed (HasHelped (length topics + 1)) (2 ^ 36) (length topics + 1) shared ran.setup refl
          (omega (arith, ran.rings))
          (All-map (λ (p : PassStanding B). p.queue ≡ shared) (λ (d : Desk (Seated B Place) S). d.worker.worker.pass) desks (λ k d less. (ran.run k d less).queue))
          pass-numbers unspent swept
          (All-map (λ (p : PassStanding B). HoldsNothingAtEachFull p.calls) (λ (d : Desk (Seated B Place) S). d.worker.worker.pass) desks
          (λ k d less. ((ran.run k d less).sweeping (spent-none k d less)).between.alone))
          (All-map (HasHelped (length topics + 1)) (λ (d : Desk (Seated B Place) S). d.worker.worker.pass) desks (λ k d less.
          record { helps = ((ran.run k d less).sweeping (spent-none k d less)).helps; retired = (ran.run k d less).ended (spent-none k d less) }))
          (All-map (λ (p : PassStanding B). MeetsNoSpent p.calls) (λ (d : Desk (Seated B Place) S). d.worker.worker.pass) desks
          (λ k d less. ((ran.run k d less).sweeping (spent-none k d less)).between.unspent))
          bounded none-kept

      -- where each file was read to its end and no worker wanted memory
      module _ (whole : AllWhole desks) (fed : All (λ d. d.worker.worker.starved ≡ false) desks) where
        gave : AreGiven topics longest src.left 1 sources messages_given
        gave = is-given c shared topics size most longest src sources desks ran whole

        listed : (k : ℕ) (d : Desk (Seated B Place) S) → k < length desks
            → HasListedAll topics most (parts_in size (worker_messages (get_or desks k d))) (get_or desks k d).worker.worker.pass
            (get_or desks k d).worker.worker.members
        listed k d less = (ran.run k d less).listed (spent-none k d less) (fed k d less)

        listed-at : (w : ℕ) (d : Desk (Seated B Place) S) → slice_get desks w ≡ Some d
            → HasListedAll topics most (parts_in size (worker_messages d)) d.worker.worker.pass d.worker.worker.members
        listed-at w d is =
            subst (λ (e : Desk (Seated B Place) S). HasListedAll topics most (parts_in size (worker_messages e)) e.worker.worker.pass e.worker.worker.members)
            (get_or_from_slice_get desks w d d is)
            (listed w d (slice_get_within desks w d is))

        all-works : All (IsWork topics most) (map (work_of size) desks)
        all-works = All-map (IsWork topics most) (work_of size) desks (λ k d less. record {
          listed = listed k d less;
          known = known-parts size (length topics) (worker_messages (get_or desks k d)) (messages-known k d less);
        })

        work-passes : passes_in (map (work_of size) desks) ≡ passes_at desks
        work-passes = map-map (λ (w : Work B). w.pass) (work_of size) desks

        once : IsPermutation (map without_way (members_of (lists_at desks))) (part_answers topics size (flat_map (λ own. own) messages_given))
        once =
            let all = all-answered topics most (map (work_of size) desks) all-works
            (subst (λ (ps : List (PassStanding B)). EachTakeIsASend ps) (sym work-passes) closed.sent.takes)
            (subst (λ (ps : List (PassStanding B)). SendsAreTakes ps) (sym work-passes) same) in
            let members : members_among (map (work_of size) desks) ≡ members_of (lists_at desks) =
            flat_map-map (λ (w : Work B). w.members) (work_of size) desks ∙ sym
            (flat_map-map (λ (l : List Answered). l) (λ (d : Desk (Seated B Place) S). d.worker.worker.members) desks) in
            let parts : worked_parts (map (work_of size) desks) ≡ parts_in size (flat_map worker_messages desks) =
            flat_map-map (λ (w : Work B). w.messages) (work_of size) desks ∙ flat-parts size worker_messages desks in
            let passed : List Part = parts_in size (flat_map worker_messages desks) in
            let given_parts : List Part = parts_in size (flat_map (λ own. own) messages_given) in
            let back : IsPermutation (map (part_answer topics) passed) (map (part_answer topics) given_parts) =
            IsPermutation-map (part_answer topics) passed given_parts
            (IsPermutation-sym given_parts passed (all-parts-passed c shared topics size most longest src sources desks ran)) in
            IsPermutation-trans (map without_way (members_of (lists_at desks))) (map (part_answer topics) passed) (map (part_answer topics) given_parts)
            (subst (IsPermutation (map without_way (members_of (lists_at desks)))) (ap (map (part_answer topics)) parts)
            (subst (λ l. IsPermutation (map without_way l) (map (part_answer topics) (worked_parts (map (work_of size) desks)))) members all)) back

        pub have-answered : HaveAnswered topics size most (length desks) messages_given (passes_at desks) (lists_at desks)
        have-answered = record {
          each_pass = length-map desks (λ (d : Desk (Seated B Place) S). d.worker.worker.pass);
          each_list = length-map desks (λ (d : Desk (Seated B Place) S). d.worker.worker.members);
          once = once;
          whole = members-whole topics size longest src.left sources messages_given (members_of (lists_at desks)) gave once;
          known = members-known topics size (flat_map (λ own. own) messages_given) (members_of (lists_at desks)) once
              (given-known topics longest src.left 1 sources messages_given gave);
          short = members-short topics size (flat_map (λ own. own) messages_given) (members_of (lists_at desks)) once;
          takes = of-each (λ w p list. AnswersItsTakes topics most (takes_of p.calls) list) desks (λ w d is.
              all-taken topics most (map (work_of size) desks) all-works
              (subst (λ (ps : List (PassStanding B)). EachTakeIsASend ps) (sym work-passes) closed.sent.takes) (work_of size d)
              (stands-at (map (work_of size) desks) (work_of size d) w (slice_get-map (work_of size) desks w ∙ ap (option_map (work_of size)) is)));
          listed = of-each (λ w p list. HasListedAll topics most (parts_in size (own_of (length desks) w 1 messages_given)) p list) desks (λ w d is.
              subst (λ ms. HasListedAll topics most ms d.worker.worker.pass d.worker.worker.members) (ap (parts_in size) (own-gave w d is))
              (listed-at w d is));
        }
