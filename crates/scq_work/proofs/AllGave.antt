-- The parts of what the files at all desks gave once their workers have left: they are those of all messages, each once, and they are few,
-- however the reading of each file ended.
use Rattle.std.proofs.Common.{◌≡◌, sym, ◌∙◌, ap, subst, arith, ℕ, ◌+◌, ◌^◌, ◌<◌, ◌≤◌, List, [], ◌∷◌, length, map, get_or, Some}
use Rattle.std.specs.Prelude.{slice_index_or, slice_get, flat_map, sum_by}
use Rattle.std.specs.List.{All}
use Rattle.std.specs.List.Sorted.{IsPermutation}
use Rattle.std.proofs.lemmas.List.{length-append}
use Rattle.std.proofs.lemmas.List.Concat.{length-flat_map}
use Rattle.std.proofs.lemmas.List.FromFn.{length-map-range_with_len}
use Rattle.std.proofs.lemmas.List.Sums.{sum_by-cons}
use Rattle.std.proofs.lemmas.Option.{slice_get-get_or}
use Rattle.scq_topics.specs.declared.kind.Kind.{Kind}
use Rattle.scq_frames.specs.declared.message.Message.{Message}
use Rattle.scq_frames.specs.Exports.{Part, all_parts, part_of, parts_of}
use Rattle.scq_frames.proofs.PayloadParts.{few-parts}
use Rattle.scq_word.specs.declared.setup.Setup.{Setup}
use Rattle.scq_word.specs.Exports.{most_run_order}
use Rattle.scq_band.specs.Exports.{Identity}
use Rattle.scq_files.specs.Exports.{AllWhole, AreDealt, AreGiven, own_of, most_parts, SourceOf}
use Rattle.scq_files.specs.declared.desk.Desk.{Desk}
use Rattle.scq_files.proofs.AllGave as files
use Rattle.scq_files.proofs.AllGave.{AllRead, by-number, worker_messages}
use Rattle.scq_files.proofs.Dealt.{all-dealt}
use Rattle.scq_worker.specs.Exports.{HasRun, parts_in, Seated}
use Rattle.scq_worker.proofs.MessageParts.{all-parts-in, flat-parts, own-parts}

-- messages have at most so many parts
parts-spread : (size : ℕ) (ms : List Message) → 0 < size → length (parts_in size ms) ≤ sum_by most_parts ms
parts-spread size [] some = omega arith
parts-spread size (m ∷ ms) some =
    let rest = parts-spread size ms some in
    let here : length (all_parts size m) ≡ parts_of size m.payload = length-map-range_with_len (part_of size m) 1 (parts_of size m.payload) in
    omega (
      arith,
      rest,
      here,
      few-parts size m.payload some,
      length-append (all_parts size m) (parts_in size ms),
      sum_by-cons most_parts m ms,
    )

module _ {B Place S : Type 0} where
  -- the workers of a queue have left: each had its own of the files, and did what `HasRun` says, however the reading of these ended
  pub record AllRan (c : Setup) (shared : Identity B) (topics : List (List ℕ × Kind)) (size most longest : ℕ) (src : SourceOf S)
      (sources : List S) (desks : List (Desk (Seated B Place) S)) : Type 0 where
    pub some : 0 < length desks
    pub few : length sources ≤ 64
    pub dealt : AreDealt 1 sources desks
    pub run : All (λ d. HasRun shared topics size most longest src d.files.items d.worker.worker.pass d.worker.worker.members
        d.worker.worker.starved d.worker.kept) desks
    pub setup : shared.setup ≡ c
    pub numbers : (w : ℕ) (d : Desk (Seated B Place) S) → w < length desks → (slice_index_or desks w d).worker.worker.pass.number ≡ w
    pub order : c.order ≤ most_run_order
    pub rings : c.rings ≡ length topics + 2
    pub seats : c.seats ≡ length desks
    pub limit : c.limit ≡ 2 ^ 60
    pub some_size : 0 < size

  module _ (c : Setup) (shared : Identity B) (topics : List (List ℕ × Kind)) (size most longest : ℕ) (src : SourceOf S) (sources : List S)
      (desks : List (Desk (Seated B Place) S)) (ran : AllRan c shared topics size most longest src sources desks) where
    pub all-read : AllRead topics longest src sources desks
    all-read = record { some = ran.some; few = ran.few; dealt = ran.dealt; read = λ k d less. (ran.run k d less).read }

    abbrev pub given : List (List Message)
    given = files.given topics longest src sources desks all-read

    pub is-given : AllWhole desks → AreGiven topics longest src.left 1 sources given
    is-given = files.is-given topics longest src sources desks all-read

    -- a worker passed on what its files gave
    pub own-given : (w : ℕ) (d : Desk (Seated B Place) S) → slice_get desks w ≡ Some d → worker_messages d ≡ own_of (length desks) w 1 given
    own-given = files.own-given topics longest src sources desks all-read

    -- the parts of the messages of all workers are those of all files, in some order
    pub all-parts-passed : IsPermutation (parts_in size (flat_map (λ own. own) given)) (parts_in size (flat_map worker_messages desks))
    all-parts-passed =
        let parts = map (parts_in size) given in
        let each = by-number (λ (d : Desk (Seated B Place) S). parts_in size (worker_messages d)) (λ w. own_of (length desks) w 1 parts) desks 0 (λ k d less.
        ap (parts_in size) (own-given k (get_or desks k d) (slice_get-get_or desks k d less)) ∙ sym (own-parts size (length desks) k 1 given)
        ∙ ap (λ j. own_of (length desks) j 1 parts) (plain k)) in
        subst (λ l. IsPermutation l (parts_in size (flat_map worker_messages desks))) (all-parts-in size given)
        (subst (IsPermutation (flat_map (λ (own : List Part). own) parts)) (sym each ∙ flat-parts size worker_messages desks)
        (all-dealt (length desks) 1 parts ran.some))
      where
        plain : (k : ℕ) → k ≡ 0 + k
        plain k = omega arith

    -- and they are few
    pub few-in-all : sum_by (λ (d : Desk (Seated B Place) S). length (parts_in size (worker_messages d))) desks ≤ 2 ^ 36
    few-in-all =
        let few = files.few-parts-in-all topics longest src sources desks all-read in
        let spread = parts-spread size (flat_map worker_messages desks) ran.some_size in
        let same = ap length (flat-parts size worker_messages desks) in
        let all = length-flat_map (λ (d : Desk (Seated B Place) S). parts_in size (worker_messages d)) desks in
        omega (arith, few, spread, same, all)
