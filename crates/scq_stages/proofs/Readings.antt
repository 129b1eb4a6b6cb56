-- What a worker took, sent and finished, read as handled: of bytes that are a part's, the part's file and line with what a stage makes of its payload.
use Rattle.std.proofs.Common.{◌≡◌, refl, sym, ◌∙◌, ap, subst, arith, Bool, not, suc, ℕ, List, [], ◌++◌, map, Some, None}
use Rattle.std.specs.Prelude.{◌&&◌, filter, unwrap_or}
use Rattle.std.specs.List.{Contains}
use Rattle.std.specs.List.Sorted.{IsPermutation}
use Rattle.std.proofs.lemmas.List.{append_assoc, length-map}
use Rattle.std.proofs.lemmas.List.Sorted.{IsPermutation-trans, IsPermutation-append_right, IsPermutation-filter_both}
use Rattle.scq_frames.specs.declared.message.Message.{Message}
use Rattle.scq_frames.specs.Exports.{Part, BeginsWith, IsEncodable, part_at}
use Rattle.scq_frames.proofs.EncodedLemmas.{part_at-again}
use Rattle.scq_core.specs.declared.ended.Ended.{Ended}
use Rattle.scq_core.specs.declared.ended.Ended.TheVariants.{Done}
use Rattle.scq_queue.specs.Exports.{Placed, sends_of, sent_by}
use Rattle.scq_queue.proofs.Records.{came_by, sent_call}
use Rattle.scq_passes.specs.Exports.{ArePassedOn, EachHasItsCall}
use Rattle.scq_passes.proofs.ManyLists.{found-at, stands-at}
use Rattle.scq_passes.proofs.PassedOn.{passed-results}
use Rattle.scq_stages.specs.declared.finished.Finished.{Finished}
use Rattle.scq_stages.specs.declared.finished.StageWay.{StageWay}
use Rattle.scq_stages.specs.declared.finished.StageWay.TheVariants.{Second, First, Direct}
use Rattle.scq_stages.specs.Exports.{redacted, redacted_byte, squeezed, both, after_stage, handled_of, FinishesTake, IsMove, is_direct, is_first}
use Rattle.scq_stages.specs.Exports.{is_second, is_way_direct, is_way_first, is_way_second, first, is_next, Handled, without_way, FinishesItself}
use Rattle.scq_stages.specs.Exports.{IsNextOf, SendsToFirst, whole_of}
use Rattle.scq_stages.proofs.Zips.{contains-filter, filter-filter, zip-from}

-- what becomes of a part by a stage
abbrev pub handled_by : (List ℕ → List ℕ) → Part → Handled
handled_by stage p = record { file = p.file; line = p.line; payload = stage p.payload }

-- a part that stands where there is none
abbrev no_part : Part
no_part = record { file = 0; line = 0; topic = 0; part = 0; parts = 0; payload = [] }

-- what becomes of the part that bytes begin with; where there is none, of one without bytes
abbrev pub read_part : (List ℕ → List ℕ) → Placed → Handled
read_part stage m = handled_by stage (unwrap_or (part_at m.bytes) no_part)

-- the bytes are those of a part
pub record IsPart (m : Placed) : Type 0 where
  pub part : Part
  pub fits : IsEncodable part
  pub begins : BeginsWith m.bytes part

pub part-read : (m : Placed) (its : IsPart m) → part_at m.bytes ≡ Some its.part
part-read m its = ap part_at its.begins.1 ∙ part_at-again its.part its.begins.0 its.fits

-- so no part is passed over
pub not-over : (m : Placed) → IsPart m → part_at m.bytes ≡ None → ⊥
not-over m its none = let read = part-read m its in absurd (cc)

reads : (stage : List ℕ → List ℕ) (m : Placed) (p : Part) → part_at m.bytes ≡ Some p → read_part stage m ≡ handled_by stage p
reads stage m p is = ap (λ o. handled_by stage (unwrap_or o no_part)) is

-- what was redacted is the bytes of a part where what was taken is
pub redacted-fits : (p : Part) → IsEncodable p → IsEncodable (after_stage redacted p)
redacted-fits p fits = record {
  file = fits.file;
  line = fits.line;
  topic = fits.topic;
  payload = omega (arith, fits.payload, length-map p.payload redacted_byte);
  parts = fits.parts;
  numbered = fits.numbered;
}

abbrev pub moved-part : (take send : Placed) → IsMove take send → IsPart take → IsPart send
moved-part take send move its =
    let found = part-read take its in
    let decoded = move.decodes in
    let same : its.part ≡ move.part = cc in
    record { part = after_stage redacted move.part; fits = redacted-fits move.part (subst IsEncodable same its.fits); begins = move.moved }

-- and it reads by the second stage as what was taken does by both
pub moved-reads : (take send : Placed) → IsMove take send → IsPart take → read_part both take ≡ read_part squeezed send
moved-reads take send move its =
    reads both take move.part move.decodes ∙ sym (reads squeezed send (after_stage redacted move.part) (part-read send (moved-part take send move its)))

-- a member reads as what was taken
pub finished-reads : (way : ℕ → StageWay) (stage : List ℕ → List ℕ) (take : Placed) (f : Finished) → FinishesTake way stage take f
    → without_way f ≡ read_part stage take
finished-reads way stage take f its = ap without_way its.is ∙ sym (reads stage take its.part its.decodes)

-- a message that was sent reads as what becomes of it
sent-reads : (m : Message) (send : Placed) → SendsToFirst m send → read_part both send ≡ handled_of m
sent-reads m send its = reads both send (whole_of m) (ap part_at its.bytes.1 ∙ part_at-again (whole_of m) its.bytes.0 its.fits)

-- what was sent to first has the bytes of a part: that of a message, which the send's call is the next of
pub sent-part : (ms : List Message) (calls : List Ended) → EachHasItsCall IsNextOf is_next ms calls → (s : Placed) → Contains (sends_of calls) s
    → s.topic ≡ first → IsPart s
sent-part ms calls follows s has topic =
    let at = found-at (sends_of calls) s has in
    let came = came_by sent_by calls at.0 s at.1 in
    let done : Ended = Done 1 s.place s.bytes in
    let is : came.call ≡ done = sent_call came.call s came.gives ∙ ap (λ t. Done (suc t) s.place s.bytes) topic in
    let stands : Contains calls done = subst (Contains calls) is (stands-at calls came.call came.at came.is) in
    let its = zip-from IsNextOf ms (filter is_next calls) done follows (contains-filter is_next calls done stands refl) in
    record { part = whole_of its.0; fits = its.2.fits; begins = its.2.bytes }

-- what becomes of a worker's messages is its sends to first as they are read, and its Direct members
pub passed-reads : (ms : List Message) (sends : List Placed) (directs : List Finished) → ArePassedOn SendsToFirst FinishesItself ms sends directs
    → IsPermutation (map handled_of ms) (map (read_part both) sends ++ map without_way directs)
passed-reads = passed-results handled_of (read_part both) without_way sent-reads (λ m f its. ap without_way its.is)

-- a list is its Second, its First and its Direct members
pub in-three : (members : List Finished) → IsPermutation members ((filter is_second members ++ filter is_first members) ++ filter is_direct members)
in-three members =
    let other : Finished → Bool = λ f. not (is_second f) in
    let rest : List Finished = filter other members in
    let firsts : filter is_first rest ≡ filter is_first members = filter-filter is_first other is_first first-alone members in
    let directs : filter (λ f. not (is_first f)) rest ≡ filter is_direct members =
    filter-filter (λ f. not (is_first f)) other is_direct direct-alone members in
    let two : IsPermutation members (filter is_second members ++ rest) = IsPermutation-filter_both is_second other (λ f. refl) members in
    let three : IsPermutation rest (filter is_first members ++ filter is_direct members) =
    subst (λ (l : List Finished). IsPermutation rest (l ++ filter is_direct members)) firsts
    (subst (λ (l : List Finished). IsPermutation rest (filter is_first rest ++ l)) directs
    (IsPermutation-filter_both is_first (λ f. not (is_first f)) (λ f. refl) rest)) in
    subst (IsPermutation members) (sym (append_assoc (filter is_second members) (filter is_first members) (filter is_direct members)))
    (IsPermutation-trans members (filter is_second members ++ rest) (filter is_second members ++ (filter is_first members ++ filter is_direct members)) two
    (IsPermutation-append_right (filter is_second members) rest (filter is_first members ++ filter is_direct members) three))
  where
    first-way : (w : StageWay) → (not (is_way_second w) && is_way_first w) ≡ is_way_first w
    first-way (Second place) = refl
    first-way (First place) = refl
    first-way (Direct head) = refl

    direct-way : (w : StageWay) → (not (is_way_second w) && not (is_way_first w)) ≡ is_way_direct w
    direct-way (Second place) = refl
    direct-way (First place) = refl
    direct-way (Direct head) = refl

    first-alone : (f : Finished) → (not (is_second f) && is_first f) ≡ is_first f
    first-alone f = first-way f.way

    direct-alone : (f : Finished) → (not (is_second f) && not (is_first f)) ≡ is_direct f
    direct-alone f = direct-way f.way
