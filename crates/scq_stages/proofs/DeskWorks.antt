-- All desks once their workers have left: what each worker's run says, as what `AllStaged` asks of all workers.
use Rattle.std.proofs.Common.{◌≡◌, refl, sym, ◌∙◌, ap, subst, inl, inr, arith, false, ℕ, ◌^◌, ◌<◌, ◌≤◌, List, [], length, map, get_or, Option, Some, None}
use Rattle.std.specs.Prelude.{flat_map, slice_get, slice_index_or, Vec}
use Rattle.std.specs.Global.{Global}
use Rattle.std.specs.List.{All}
use Rattle.std.specs.List.Sorted.{IsPermutation}
use Rattle.std.specs.Option.{option_map, option_to_list}
use Rattle.std.proofs.lemmas.List.{get_or-map, length-map}
use Rattle.std.proofs.lemmas.List.Elements.{All-map}
use Rattle.std.proofs.lemmas.List.Folds.{flat_map-map}
use Rattle.std.proofs.lemmas.Option.{slice_get-map, slice_get_cases}
use Rattle.scq_word.specs.declared.setup.Setup.{Setup}
use Rattle.scq_band.specs.Exports.{Identity}
use Rattle.scq_band.proofs.ClosedCounts.{sum_by-map}
use Rattle.scq_frames.specs.declared.message.Message.{Message}
use Rattle.scq_queue.specs.Exports.{PassStanding, HeldStanding}
use Rattle.scq_files.specs.Exports.{AllEnded, AllWhole, AreDealt, AreGiven, own_of, SourceOf}
use Rattle.scq_files.specs.declared.desk.Desk.{Desk}
use Rattle.scq_files.proofs.AllGave.{AllRead, all-messages, few-in-all, given, is-given, own-given, worker_messages}
use Rattle.scq_files.proofs.Lists.{map-map}
use Rattle.scq_desk.proofs.Settled.{held_at}
use Rattle.scq_passes.specs.Exports.{HaveShared, HasClosed}
use Rattle.scq_stages.specs.declared.finished.Finished.{Finished}
use Rattle.scq_stages.specs.Exports.{Seated, HaveFinished, KeepsStages, HasRunAt}
use Rattle.scq_stages.proofs.AllStaged.{AllDone, HasDoneItsWork, all-shared, have-staged, held_in}
use Rattle.scq_stages.proofs.Conclusion.{Work, lists_in, worked_messages, passes_in}

module _ {B Place S : Type 0} where
  abbrev work_of : Desk (Seated B Place) S → Work B
  work_of d = record {
    pass = d.worker.worker.pass;
    list = d.worker.worker.members;
    messages = worker_messages d;
    starved = d.worker.worker.starved;
    kept = d.worker.kept;
  }

  abbrev pub passes_at : List (Desk (Seated B Place) S) → List (PassStanding B)
  passes_at desks = map (λ (d : Desk (Seated B Place) S). d.worker.worker.pass) desks

  abbrev pub lists_at : List (Desk (Seated B Place) S) → List (Vec Finished Global)
  lists_at desks = map (λ (d : Desk (Seated B Place) S). d.worker.worker.members) desks

  -- the workers of a queue have left: each had its own of the files, and did what `HasRunAt` says, however the reading of these ended
  pub record AllRan (c : Setup) (shared : Identity B) (size : ℕ) (src : SourceOf S) (sources : List S) (desks : List (Desk (Seated B Place) S)) : Type 0 where
    pub some : 0 < length desks
    pub few : length sources ≤ 64
    pub dealt : AreDealt 1 sources desks
    pub run : All (HasRunAt shared size src) desks
    pub setup : shared.setup ≡ c
    pub numbers : (w : ℕ) (d : Desk (Seated B Place) S) → w < length desks → (slice_index_or desks w d).worker.worker.pass.number ≡ w
    pub rings : c.rings ≡ 3
    pub seats : c.seats ≡ length desks
    pub limit : c.limit ≡ 2 ^ 60

  module _ (c : Setup) (shared : Identity B) (size : ℕ) (src : SourceOf S) (sources : List S)
      (desks : List (Desk (Seated B Place) S)) (ran : AllRan c shared size src sources desks) where
    pub all-read : AllRead [] size src sources desks
    all-read = record { some = ran.some; few = ran.few; dealt = ran.dealt; read = λ k d less. (ran.run k d less).read }

    -- the reading of each file ended so
    pub all-ended : AllEnded size src desks
    all-ended k d less j f inside = ((ran.run k d less).read j f inside).ends

    abbrev works : List (Work B)
    works = map work_of desks

    works-passes : passes_in works ≡ passes_at desks
    works-passes = map-map (λ (w : Work B). w.pass) work_of desks

    works-lists : lists_in works ≡ lists_at desks
    works-lists = map-map (λ (w : Work B). w.list) work_of desks

    works-held : held_in works ≡ held_at desks
    works-held = flat_map-map (λ (w : Work B). option_to_list w.kept) work_of desks

    numbers-so : (k : ℕ) (d : Work B) → k < length desks → (get_or works k d).pass.number ≡ k
    numbers-so k d within = elim (slice_get_cases desks k).1 [
      | inl (e, less, found, here) ↦
          let at = get_or-map work_of desks k e d within in
          subst (λ (w : Work B). w.pass.number ≡ k) (sym at) (ran.numbers k e within)
      | inr (past, none) ↦ absurd (omega arith)
    ]

    all-done : AllDone c shared works
    all-done = record {
      each = All-map (HasDoneItsWork shared) work_of desks (λ k d less.
          let its = ran.run k d less in
          record { few_calls = its.few_calls; queue = its.queue; held = its.held; ended = its.ended });
      setup = ran.setup;
      numbers = λ k d less. numbers-so k d (omega (arith, less, length-map desks work_of));
      rings = ran.rings;
      seats = ran.seats ∙ sym (length-map desks work_of);
      limit = ran.limit;
      few = omega (arith, sum_by-map (λ (w : Work B). length w.messages) work_of desks, few-in-all [] size src sources desks all-read);
    }

    module _ {contents : B → List ℕ} {IsSameBuffer : B → B → Type 0} {buffers : List B} (left_in : List ℕ)
        (closed : HasClosed contents IsSameBuffer c shared.given (passes_at desks) (held_at desks) buffers left_in) where
      closed-so : HasClosed contents IsSameBuffer c shared.given (passes_in works) (held_in works) buffers left_in
      closed-so =
          subst (λ (hs : List (HeldStanding B)). HasClosed contents IsSameBuffer c shared.given (passes_in works) hs buffers left_in) (sym works-held)
          (subst (λ (ps : List (PassStanding B)). HasClosed contents IsSameBuffer c shared.given ps (held_at desks) buffers left_in) (sym works-passes) closed)

      -- whatever the workers met
      pub desks-shared : HaveShared contents IsSameBuffer KeepsStages (2 ^ 37) 2 c (passes_at desks) buffers left_in
      desks-shared =
          subst (λ (ps : List (PassStanding B)). HaveShared contents IsSameBuffer KeepsStages (2 ^ 37) 2 c ps buffers left_in) works-passes
          (all-shared c shared works all-done left_in closed-so)

      -- where each file was read to its end and no worker wanted memory
      module _ (whole : AllWhole desks) (fed : All (λ (d : Desk (Seated B Place) S). d.worker.worker.starved ≡ false) desks) where
        abbrev pub messages_given : List (List Message)
        messages_given = given [] size src sources desks all-read

        pub desks-gave : AreGiven [] size src.left 1 sources messages_given
        desks-gave = is-given [] size src sources desks all-read whole

        own-so : (w : ℕ) (v : Work B) → slice_get works w ≡ Some v → v.messages ≡ own_of (length works) w 1 messages_given
        own-so w v is = by (slice_get desks w) refl where
          by : (o : Option (Desk (Seated B Place) S)) → slice_get desks w ≡ o → v.messages ≡ own_of (length works) w 1 messages_given
          by None at = absurd (cc (slice_get-map work_of desks w, is, at))
          by (Some d) at =
              let first : Some (work_of d) ≡ Some v = sym (slice_get-map work_of desks w ∙ ap (option_map work_of) at) ∙ is in
              let its : work_of d ≡ v = cc in
              ap (λ (x : Work B). x.messages) (sym its) ∙ own-given [] size src sources desks all-read w d at
              ∙ ap (λ n. own_of n w 1 messages_given) (sym (length-map desks work_of))

        all-so : IsPermutation (flat_map (λ own. own) messages_given) (worked_messages works)
        all-so =
            subst (IsPermutation (flat_map (λ own. own) messages_given)) (sym (flat_map-map (λ (w : Work B). w.messages) work_of desks))
            (all-messages [] size src sources desks all-read)

        pub desks-staged : HaveFinished (length desks) messages_given (passes_at desks) (lists_at desks)
        desks-staged =
            let all = have-staged c shared works all-done left_in closed-so size src.left sources messages_given desks-gave own-so all-so
            (All-map (λ (w : Work B). w.starved ≡ false) work_of desks fed) in
            subst (λ n. HaveFinished n messages_given (passes_at desks) (lists_at desks)) (length-map desks work_of)
            (subst (λ (ls : List (Vec Finished Global)). HaveFinished (length works) messages_given (passes_at desks) ls) works-lists
            (subst (λ (ps : List (PassStanding B)). HaveFinished (length works) messages_given ps (lists_in works)) works-passes all))
