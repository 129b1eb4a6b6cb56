-- Batches go on following a record that grows by the calls for one batch, or by takes.
use Rattle.std.proofs.Common.{◌≡◌, refl, sym, ◌∙◌, ap, subst, suc, ℕ, List, [], ◌∷◌, ◌++◌, None}
use Rattle.std.proofs.lemmas.List.{append_assoc, append-nil}
use Rattle.scq_core.specs.declared.ended.Ended.{Ended}
use Rattle.scq_core.specs.declared.ended.Ended.TheVariants.{Done, Got, Nothing}
use Rattle.scq_frames.specs.Exports.{Part}
use Rattle.scq_queue.specs.Exports.{sent_by}
use Rattle.scq_passes.specs.Exports.{AreTakesFollowed, IsReturn, and_got, and_found_none}
use Rattle.scq_passes.specs.Records.{none}
use Rattle.scq_worker.specs.Exports.{Sends, FollowsCalls, by_send, by_other}

-- a batch was sent
pub follows-sent : (bs : List (List Part)) (b : List Part) (xs : List Ended) (from topic place : ℕ) (over bytes : List ℕ) → FollowsCalls bs xs
    → Sends b (record { topic = topic; place = place; bytes = bytes })
    → FollowsCalls (bs ++ b ∷ []) ((xs ++ Got 0 from over ∷ []) ++ Done (suc topic) place bytes ∷ [])
follows-sent bs b xs from topic place over bytes was sends = by_send b topic place bytes (by_other (Got 0 from over) was refl refl) sends

-- topics were taken from
pub follows-taken : (bs : List (List Part)) (xs block : List Ended) → AreTakesFollowed IsReturn block → FollowsCalls bs xs → FollowsCalls bs (xs ++ block)
follows-taken bs xs block none was = subst (FollowsCalls bs) (sym (append-nil xs)) was
follows-taken bs xs block (and_got {calls} topic place bytes ring back later more by) was =
    let got : List Ended = Got (suc topic) place bytes ∷ [] in
    let put : List Ended = Done ring back later ∷ [] in
    let none_ : sent_by (Done ring back later) ≡ None = ap (λ r. sent_by (Done r back later)) by.0 in
    subst (FollowsCalls bs) (ap (λ l. l ++ put) (append_assoc xs calls got) ∙ append_assoc xs (calls ++ got) put)
    (by_other (Done ring back later) (by_other (Got (suc topic) place bytes) (follows-taken bs xs calls more was) refl refl) none_ refl)
follows-taken bs xs block (and_found_none {calls} topic more) was =
    subst (FollowsCalls bs) (append_assoc xs calls (Nothing (suc topic) ∷ []))
    (by_other (Nothing (suc topic)) (follows-taken bs xs calls more was) refl refl)
