-- All workers together, once the queue is closed. Plan: each take is a send of some worker, so its bytes are those of parts; so each
-- worker's list is its takes as they are read and its direct answers, and its parts, answered, are its sends as they are read and its
-- direct answers. Over all workers the takes are the sends.
use Rattle.std.proofs.Common.{◌≡◌, refl, sym, ◌∙◌, ap, subst, ℕ, ◌≤◌, List, [], ◌∷◌, ◌++◌, length, map, get_or}
use Rattle.std.specs.Prelude.{filter, flat_map}
use Rattle.std.specs.List.{All, Contains}
use Rattle.std.specs.List.Sorted.{IsPermutation}
use Rattle.std.proofs.lemmas.Grind.{flat_map-append}
use Rattle.std.proofs.lemmas.List.{map-append}
use Rattle.std.proofs.lemmas.List.Elements.{All-contains, Contains-get_or}
use Rattle.std.proofs.lemmas.List.Folds.{flat_map-map}
use Rattle.std.proofs.lemmas.List.Sorted.{IsPermutation-sym, IsPermutation-trans, IsPermutation-append_left, IsPermutation-map, IsPermutation-filter_both}
use Rattle.scq_topics.specs.declared.kind.Kind.{Kind}
use Rattle.scq_frames.specs.Exports.{Part}
use Rattle.scq_collect.specs.Exports.{PartAnswer, part_answer, without_way}
use Rattle.scq_collect.specs.declared.answered.Answered.{Answered}
use Rattle.scq_queue.specs.Exports.{Placed, sends_of, takes_of, PassStanding, EachTakeIsASend}
use Rattle.scq_worker.specs.Exports.{is_taken, is_direct, AnswersItsTakes, GotParts, HasListedAll}
use Rattle.scq_passes.specs.Exports.{all_sends, all_takes, SendsAreTakes}
use Rattle.scq_work.proofs.AllAnswered.{answers_at, send-parts, taken-answers, work-answers}
use Rattle.scq_work.proofs.FlatLists.{flat-permutation}
use Rattle.scq_passes.proofs.ManyLists.{flat-map, found-at, from-all, in-all, stands-at, together}
use Rattle.scq_passes.proofs.SendsAndTakes.{take-was-sent}

-- lists that are made of those of several
flat-flat : {W A C : Type 0} (h : A → List C) (f : W → List A) (ws : List W) → flat_map (λ w. flat_map h (f w)) ws ≡ flat_map h (flat_map f ws)
flat-flat h f [] = refl
flat-flat h f (w ∷ ws) = ap (λ l. flat_map h (f w) ++ l) (flat-flat h f ws) ∙ sym (flat_map-append h (f w) (flat_map f ws))

-- what a worker did: its pass, its list, and the parts of the messages of its files
pub record Work (B : Type 0) : Type 0 where
  pub pass : PassStanding B
  pub members : List Answered
  pub messages : List Part

module _ {B : Type 0} where
  -- the pass and the list answer for the parts
  pub record IsWork (topics : List (List ℕ × Kind)) (most : ℕ) (w : Work B) : Type 0 where
    pub listed : HasListedAll topics most w.messages w.pass w.members
    pub known : All (λ m. m.topic ≤ length topics) w.messages

  abbrev pub passes_in : List (Work B) → List (PassStanding B)
  passes_in works = map (λ (w : Work B). w.pass) works

  abbrev pub worked_parts : List (Work B) → List Part
  worked_parts works = flat_map (λ (w : Work B). w.messages) works

  abbrev pub members_among : List (Work B) → List Answered
  members_among works = flat_map (λ (w : Work B). w.members) works

  -- each take is that of parts on known topics
  take-parts : (topics : List (List ℕ × Kind)) (most : ℕ) (works : List (Work B)) → All (IsWork topics most) works → EachTakeIsASend (passes_in works)
      → (t : Placed) → Contains (all_takes (passes_in works)) t → GotParts topics most t
  take-parts topics most works each sent t has =
      let was = subst (λ (l : List Placed). Contains l t) (flat_map-map (λ (p : PassStanding B). sends_of p.calls) (λ (w : Work B). w.pass) works)
      (take-was-sent (passes_in works) sent t has) in
      let where_ = from-all (λ (w : Work B). sends_of w.pass.calls) works t was in
      let its = All-contains (IsWork topics most) works where_.1 each (stands-at works where_.1 where_.0 where_.2) in
      send-parts topics most where_.1.pass where_.1.messages where_.1.members its.listed its.known t where_.3

  -- so of each worker: its Taken members are the answers to the parts in its takes
  pub all-taken : (topics : List (List ℕ × Kind)) (most : ℕ) (works : List (Work B)) → All (IsWork topics most) works → EachTakeIsASend (passes_in works)
      → (w : Work B) → Contains works w → AnswersItsTakes topics most (takes_of w.pass.calls) w.members
  all-taken topics most works each sent w has =
      let its = All-contains (IsWork topics most) works w each has in
      let at = found-at works w has in
      let takes = takes_of w.pass.calls in
      record {
        got = λ k d less.
            let t = get_or takes k d in
            take-parts topics most works each sent t
            (subst (λ (l : List Placed). Contains l t) (sym (flat_map-map (λ (p : PassStanding B). takes_of p.calls) (λ (w : Work B). w.pass) works))
            (in-all (λ (w : Work B). takes_of w.pass.calls) works at.0 w t at.1 (Contains-get_or takes k d less)));
        answers = its.listed.listed.takes;
      }

  -- a worker's list is its takes, as they are read, and its direct answers
  list-answers : (topics : List (List ℕ × Kind)) (most : ℕ) (works : List (Work B)) → All (IsWork topics most) works → EachTakeIsASend (passes_in works)
      → (w : Work B) → Contains works w
      → IsPermutation (map without_way w.members) (flat_map (answers_at topics) (takes_of w.pass.calls) ++ map without_way (filter is_direct w.members))
  list-answers topics most works each sent w has =
      let both = IsPermutation-map without_way w.members (filter is_taken w.members ++ filter is_direct w.members)
      (IsPermutation-filter_both is_taken is_direct (λ a. refl) w.members) in
      let split = map-append without_way (filter is_taken w.members) (filter is_direct w.members) in
      let taken = all-taken topics most works each sent w has in
      let reads = taken-answers topics most (takes_of w.pass.calls) (filter is_taken w.members) taken.answers taken.got in
      subst (λ (l : List PartAnswer). IsPermutation (map without_way w.members) (l ++ map without_way (filter is_direct w.members))) reads
      (subst (IsPermutation (map without_way w.members)) split both)

  -- the answers of all workers are those to the parts of all, each once
  pub all-answered : (topics : List (List ℕ × Kind)) (most : ℕ) (works : List (Work B)) → All (IsWork topics most) works
      → EachTakeIsASend (passes_in works) → SendsAreTakes (passes_in works)
      → IsPermutation (map without_way (members_among works)) (map (part_answer topics) (worked_parts works))
  all-answered topics most works each sent same =
      let reads : Work B → List PartAnswer = λ w. flat_map (answers_at topics) (takes_of w.pass.calls) in
      let sent_reads : Work B → List PartAnswer = λ w. flat_map (answers_at topics) (sends_of w.pass.calls) in
      let plain : Work B → List PartAnswer = λ w. map without_way (filter is_direct w.members) in
      let lists = together (λ (w : Work B). map without_way w.members) reads plain works (λ w has. list-answers topics most works each sent w has) in
      let messages = together (λ (w : Work B). map (part_answer topics) w.messages) sent_reads plain works (λ w has.
      work-answers topics most w.pass w.messages w.members (All-contains (IsWork topics most) works w each has).listed) in
      let takes_are : flat_map reads works ≡ flat_map (answers_at topics) (all_takes (passes_in works)) =
      flat-flat (answers_at topics) (λ (w : Work B). takes_of w.pass.calls) works
      ∙ ap (flat_map (answers_at topics)) (sym (flat_map-map (λ (p : PassStanding B). takes_of p.calls) (λ (w : Work B). w.pass) works)) in
      let sends_are : flat_map sent_reads works ≡ flat_map (answers_at topics) (all_sends (passes_in works)) =
      flat-flat (answers_at topics) (λ (w : Work B). sends_of w.pass.calls) works
      ∙ ap (flat_map (answers_at topics)) (sym (flat_map-map (λ (p : PassStanding B). sends_of p.calls) (λ (w : Work B). w.pass) works)) in
      let back : IsPermutation (flat_map reads works) (flat_map sent_reads works) =
      subst (λ (l : List PartAnswer). IsPermutation l (flat_map sent_reads works)) (sym takes_are)
      (subst (IsPermutation (flat_map (answers_at topics) (all_takes (passes_in works)))) (sym sends_are)
      (flat-permutation (answers_at topics) (all_takes (passes_in works)) (all_sends (passes_in works))
      (IsPermutation-sym (all_sends (passes_in works)) (all_takes (passes_in works)) same))) in
      let joined : IsPermutation (flat_map (λ (w : Work B). map without_way w.members) works)
      (flat_map (λ (w : Work B). map (part_answer topics) w.messages) works) =
      IsPermutation-trans (flat_map (λ (w : Work B). map without_way w.members) works) (flat_map reads works ++ flat_map plain works)
      (flat_map (λ (w : Work B). map (part_answer topics) w.messages) works) lists
      (IsPermutation-trans (flat_map reads works ++ flat_map plain works) (flat_map sent_reads works ++ flat_map plain works)
      (flat_map (λ (w : Work B). map (part_answer topics) w.messages) works)
      (IsPermutation-append_left (flat_map plain works) (flat_map reads works) (flat_map sent_reads works) back)
      (IsPermutation-sym (flat_map (λ (w : Work B). map (part_answer topics) w.messages) works)
      (flat_map sent_reads works ++ flat_map plain works) messages)) in
      subst (λ (l : List PartAnswer). IsPermutation l (map (part_answer topics) (worked_parts works))) (flat-map without_way (λ (w : Work B). w.members) works)
      (subst (IsPermutation (flat_map (λ (w : Work B). map without_way w.members) works))
      (flat-map (part_answer topics) (λ (w : Work B). w.messages) works) joined)
