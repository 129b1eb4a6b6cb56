-- A take of first that was moved to second, or given back where its bytes are no part's.
use Rattle.std.proofs.Common.{◌≡◌, ap, arith, refl, suc, ℕ, ◌<◌, List, ◌∷◌, [], length, Option, Some, None, inl, inr}
use Rattle.std.specs.Prelude.{IfSome}
use Rattle.std.specs.List.{filter_map}
use Rattle.scq_core.specs.declared.ended.Ended.TheVariants.{Done, Got}
use Rattle.scq_frames.specs.Exports.{Part, BeginsWith, part_at}
use Rattle.scq_queue.specs.Exports.{takes_of, PassStanding, HeldStanding, HasGot, WasGivenBack, having_seen, after_put}
use Rattle.scq_passes.specs.Exports.{on, since}
use Rattle.scq_passes.proofs.PassLemmas.{took-and-put}
use Rattle.scq_stages.specs.declared.finished.Finished.{Finished}
use Rattle.scq_stages.specs.Exports.{redacted, after_stage, first, second, take_topic, HasTakenOrMoved, HasMovedIts, HasFinishedOnlySeconds}
use Rattle.scq_stages.proofs.Finishing.{since-took, moved-one, moved-back, helped-nothing}

module _ {B : Type 0} where
  -- what a worker's move made of its pass: `o` is the part of the bytes that it took
  abbrev WasMoved : Option Part → HeldStanding B → PassStanding B → PassStanding B → Type 0
  WasMoved o h q r =
      IfSome o (λ part. (place : ℕ) × (bytes : List ℕ) × (r ≡ having_seen r.seen (after_put (suc second) h.index place bytes q))
      × BeginsWith bytes (after_stage redacted part)) × (o ≡ None → (later : List ℕ) × WasGivenBack later h.index q r)

  -- all that is said of it
  pub record HasMovedOne (p r : PassStanding B) (was is : List Finished) : Type 0 where
    pub taken : HasTakenOrMoved p r
    pub one : filter_map take_topic (since p r) ≡ first ∷ []
    pub moves : HasMovedIts p r
    pub helped : HasFinishedOnlySeconds p r was is

  moved-by : (contents : B → List ℕ) (place : ℕ) (p q r : PassStanding B) (h : HeldStanding B) (was is : List Finished) → suc second < length p.numbers
      → HasGot contents (suc first) place p q h → is ≡ was → (o : Option Part) → part_at (contents h.buffer) ≡ o → WasMoved o h q r
      → HasMovedOne p r was is
  moved-by contents place p q r h was is within got same None none moved =
      let given = moved.1 refl in
      let back = given.1 in
      let bytes = contents h.buffer in
      let calls : since p r ≡ Got (suc first) place bytes ∷ Done 0 back.place given.0 ∷ [] =
      since-took contents (suc first) place 0 back.place given.0 p q r h got back.pass in
      record {
        taken = took-and-put contents first place 0 back.place given.0 p q r h (omega (arith, within)) (omega (arith, within)) got back.pass (inl refl);
        one = ap (filter_map take_topic) calls;
        moves = moved-back place back.place bytes given.0 p r calls none;
        helped = helped-nothing p r was is (ap (λ l. on second (takes_of l)) calls) same;
      }
  moved-by contents place p q r h was is within got same (Some part) some moved =
      let sent = moved.0 in
      let bytes = contents h.buffer in
      let calls : since p r ≡ Got (suc first) place bytes ∷ Done (suc second) sent.0 sent.1 ∷ [] =
      since-took contents (suc first) place (suc second) sent.0 sent.1 p q r h got sent.2 in
      record {
        taken = took-and-put contents first place (suc second) sent.0 sent.1 p q r h (omega (arith, within)) within got sent.2 (inr (refl, refl));
        one = ap (filter_map take_topic) calls;
        moves = moved-one place sent.0 bytes sent.1 part p r calls some sent.3;
        helped = helped-nothing p r was is (ap (λ l. on second (takes_of l)) calls) same;
      }

  pub moved-took : (contents : B → List ℕ) (place : ℕ) (p q r : PassStanding B) (h : HeldStanding B) (was is : List Finished) → suc second < length p.numbers
      → HasGot contents (suc first) place p q h → is ≡ was → WasMoved (part_at (contents h.buffer)) h q r → HasMovedOne p r was is
  moved-took contents place p q r h was is within got same moved =
      moved-by contents place p q r h was is within got same (part_at (contents h.buffer)) refl moved
