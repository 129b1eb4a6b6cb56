-- Once the queue is closed: a worker's parts, answered, are its sends as they are read and its direct answers; and what it took of such sends are the
-- answers to the parts in them.
use Rattle.std.proofs.Common.{◌≡◌, refl, sym, ◌∙◌, ap, subst, ℕ, ◌+◌, ◌≤◌, List, [], ◌∷◌, ◌++◌, length, map, get_or}
use Rattle.std.specs.Prelude.{filter, flat_map}
use Rattle.std.specs.List.{All, AllByRecursion, Contains}
use Rattle.std.specs.List.Sorted.{IsPermutation}
use Rattle.std.proofs.lemmas.Bool.{le-leb}
use Rattle.std.proofs.lemmas.Grind.{flat_map-append}
use Rattle.std.proofs.lemmas.List.{map-append}
use Rattle.std.proofs.lemmas.List.Elements.{All-contains, Contains-get_or, recursion_from_All}
use Rattle.std.proofs.lemmas.List.Folds.{flat_map-map}
use Rattle.std.proofs.lemmas.List.Sorted.{All-permutation, IsPermutation-map, IsPermutation-trans}
use Rattle.scq_topics.specs.declared.kind.Kind.{Kind}
use Rattle.scq_frames.specs.Exports.{Part, parts_at}
use Rattle.scq_collect.specs.Exports.{PartAnswer, part_answer, without_way}
use Rattle.scq_collect.specs.declared.answered.Answered.{Answered}
use Rattle.scq_collect.specs.declared.answered.Way.{Way}
use Rattle.scq_collect.specs.declared.answered.Way.TheVariants.{Taken}
use Rattle.scq_files.proofs.Lists.{map-map}
use Rattle.scq_queue.specs.Exports.{Placed, sends_of, PassStanding}
use Rattle.scq_passes.proofs.ManyLists.{flat-map, found-at, in-all}
use Rattle.scq_passes.proofs.PassedOn.{passed-results, passed-send}
use Rattle.scq_worker.specs.Exports.{answered, answers_from, answers_to_take, answers_to_takes, is_direct, AnswersSoFar, GotParts, IsBatch}
use Rattle.scq_worker.specs.Exports.{BatchesArePassedOn, parts_among, HasListedAll}
use Rattle.scq_work.proofs.SameParts.{batches-hold}
use Rattle.scq_work.proofs.FlatLists.{flat-permutation}

-- some part, to read past a list
no_part : Part
no_part = record { file = 0; line = 0; topic = 0; part = 0; parts = 0; payload = [] }

-- the answers to the parts in a value
abbrev pub answers_at : List (List ℕ × Kind) → Placed → List PartAnswer
answers_at topics v = map (part_answer topics) (parts_at v.bytes)

module _ (topics : List (List ℕ × Kind)) where
  -- the parts of batches, answered, are those in the sends and the direct answers
  passed-answers : (batches : List (List Part)) (sends : List Placed) (groups : List (List Answered)) → BatchesArePassedOn topics batches sends groups
      → IsPermutation (map (part_answer topics) (parts_among batches))
      (flat_map (answers_at topics) sends ++ map without_way (flat_map (λ group. group) groups))
  passed-answers batches sends groups passed =
      let result : List Part → List PartAnswer = map (part_answer topics) in
      let plain : List Answered → List PartAnswer = map without_way in
      let each = passed-results result (answers_at topics) plain (λ b s is. ap result is.carries.all)
      (λ b group is. ap plain is.answers ∙ map-map without_way (answered topics _) b) batches sends groups passed in
      let all = flat-permutation (λ (l : List PartAnswer). l) (map result batches) (map (answers_at topics) sends ++ map plain groups) each in
      rw (
        sym (flat-map (part_answer topics) (λ (b : List Part). b) batches),
        sym (flat-map without_way (λ (g : List Answered). g) groups),
      ) (rw (
        flat_map-append (λ (l : List PartAnswer). l) (map (answers_at topics) sends) (map plain groups),
        flat_map-map (λ (l : List PartAnswer). l) result batches,
        flat_map-map (λ (l : List PartAnswer). l) (answers_at topics) sends,
        flat_map-map (λ (l : List PartAnswer). l) plain groups,
      ) at all)

  -- so a worker's parts, answered, are those in its sends and its direct answers
  pub work-answers : {B : Type 0} (most : ℕ) (p : PassStanding B) (parts : List Part) (members : List Answered)
      → HasListedAll topics most parts p members
      → IsPermutation (map (part_answer topics) parts)
      (flat_map (answers_at topics) (sends_of p.calls) ++ map without_way (filter is_direct members))
  work-answers most p parts members all =
      let listed = all.listed in
      let sent = flat_map (answers_at topics) (sends_of p.calls) in
      let held = IsPermutation-map (part_answer topics) parts (parts_among all.batches) (batches-hold most parts all.batches all.are) in
      let passed = passed-answers all.batches (sends_of p.calls) listed.groups listed.passed in
      IsPermutation-trans (map (part_answer topics) parts) (map (part_answer topics) (parts_among all.batches))
      (sent ++ map without_way (filter is_direct members)) held
      (subst (λ (l : List Answered). IsPermutation (map (part_answer topics) (parts_among all.batches)) (sent ++ map without_way l))
      (sym listed.directs) passed)

  -- and each of its sends is a value of parts that may go together, on a known topic where all its parts are on these
  pub send-parts : {B : Type 0} (most : ℕ) (p : PassStanding B) (parts : List Part) (members : List Answered)
      → HasListedAll topics most parts p members → All (λ m. m.topic ≤ length topics) parts
      → (s : Placed) → Contains (sends_of p.calls) s → GotParts topics most s
  send-parts most p parts members all known s has =
      let Known : Part → Type 0 = λ m. m.topic ≤ length topics in
      let its = passed-send all.batches (sends_of p.calls) all.listed.groups all.listed.passed s has in
      let batch = its.0 in
      let is : IsBatch most batch = All-contains (IsBatch most) all.batches batch all.are.each its.1 in
      let each : All Known (parts_among all.batches) =
      All-permutation Known parts (parts_among all.batches) (batches-hold most parts all.batches all.are) known in
      let at = found-at all.batches batch its.1 in
      let first = get_or batch 0 no_part in
      let low : Known first = All-contains Known (parts_among all.batches) first each
      (in-all (λ (b : List Part). b) all.batches at.0 batch first at.1 (Contains-get_or batch 0 no_part is.some)) in
      record {
        parts = batch;
        carries = its.2.carries;
        batch = is;
        on_topic = its.2.topic;
        known = subst (λ t. t ≤ length topics) (its.2.topic 0 no_part is.some) low;
      }

  -- the answers to parts on known topics, whatever their ways
  without-ways : (way : Way) (number : ℕ) (parts : List Part) → AllByRecursion (λ (m : Part). m.topic ≤ length topics) parts
      → map without_way (answers_from topics way number parts) ≡ map (part_answer topics) parts
  without-ways way number [] known = refl
  without-ways way number (p ∷ ps) known =
      rw (le-leb p.topic (length topics) known.0)
      (ap (λ (l : List PartAnswer). part_answer topics p ∷ l) (without-ways way (number + 1) ps known.1))

  takes-answers : (most : ℕ) (takes : List Placed) → AllByRecursion (GotParts topics most) takes
      → map without_way (answers_to_takes topics takes) ≡ flat_map (answers_at topics) takes
  takes-answers most [] each = refl
  takes-answers most (t ∷ ts) each =
      let Known : Part → Type 0 = λ m. m.topic ≤ length topics in
      let parts = parts_at t.bytes in
      let got = each.0 in
      let low : All Known got.parts = λ k d less. subst (λ n. n ≤ length topics) (sym (got.on_topic k d less)) got.known in
      let known = recursion_from_All Known parts (subst (λ (l : List Part). All Known l) (sym got.carries.all) low) in
      let here : map without_way (answers_to_take topics t) ≡ answers_at topics t = without-ways (Taken t.place 0) 0 parts known in
      map-append without_way (answers_to_take topics t) (answers_to_takes topics ts)
      ∙ ap (λ (l : List PartAnswer). l ++ map without_way (answers_to_takes topics ts)) here
      ∙ ap (λ (l : List PartAnswer). answers_at topics t ++ l) (takes-answers most ts each.1)

  -- where each take got such parts, what was taken is the answers to all of them
  pub taken-answers : (most : ℕ) (takes : List Placed) (members : List Answered) → AnswersSoFar topics takes members → All (GotParts topics most) takes
      → map without_way members ≡ flat_map (answers_at topics) takes
  taken-answers most takes members so_far each =
      ap (map without_way) so_far ∙ takes-answers most takes (recursion_from_All (GotParts topics most) takes each)
