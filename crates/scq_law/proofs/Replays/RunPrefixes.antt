-- The first steps of a run are one, and its history begins with theirs.
use Rattle.std.proofs.Common.{◌≡◌, ℕ, ◌<◌, List, [], ◌∷◌, ◌++◌, length, append-nil, append_assoc, refl, ap, sym, ◌∙◌}
use Rattle.std.specs.Prelude.{Some}
use Rattle.std.specs.List.{All}
use Rattle.std.proofs.Math.Seq.{take-append_seam, drop-append_seam}
use Rattle.std.proofs.lemmas.List.Elements.{All-take, All-drop}
use Rattle.scq_word.specs.declared.setup.Setup.{Setup}
use Rattle.scq_core.specs.declared.step.Step.{Step}
use Rattle.scq_hist.specs.declared.events.Event.{Event}
use Rattle.scq_law.specs.Exports.{Recorded, starts, end_if_idle, recorded_after, recorded_first, recorded_along, recorded_of, IsRun, IsPrefix}
use Rattle.scq_law.specs.Exports.{AllPrefixes, IsPrefixOfRun}
use Rattle.scq_law.proofs.Replays.RecordedRuns.{chained, all_along}
use Rattle.scq_law.proofs.Replays.RisingWords.{recorded_along-append}

pub prefix_whole : (steps : List (ℕ × Step)) → IsPrefix steps steps
prefix_whole steps = record { more = []; is = sym (append-nil steps) }

pub prefix_shorter : (short more : List (ℕ × Step)) → IsPrefix short (short ++ more)
prefix_shorter short more = record { more = more; is = refl }

pub prefix_trans : (a b d : List (ℕ × Step)) → IsPrefix a b → IsPrefix b d → IsPrefix a d
prefix_trans a b d one other =
    record {
      more = one.more ++ other.more;
      is = other.is ∙ ap (λ (l : List (ℕ × Step)). l ++ other.more) one.is ∙ append_assoc a one.more other.more;
    }

pub all_prefixes : (seen : List (List (ℕ × Step))) (b d : List (ℕ × Step)) → AllPrefixes seen b → IsPrefix b d → AllPrefixes seen d
all_prefixes [] b d all one = tt
all_prefixes (f ∷ fs) b d all one = (prefix_trans f b d all.0 one, all_prefixes fs b d all.1 one)

pub both_prefixes : (fs gs : List (List (ℕ × Step))) (steps : List (ℕ × Step)) → AllPrefixes fs steps → AllPrefixes gs steps → AllPrefixes (fs ++ gs) steps
both_prefixes [] gs steps one other = other
both_prefixes (f ∷ fs) gs steps one other = (one.0, both_prefixes fs gs steps one.1 other)

-- what is recorded of the same steps is the same
pub recorded_same : (c : Setup) (opening : List (List ℕ)) (steps : List (ℕ × Step)) (t u : Recorded) → IsRun c opening steps t → IsRun c opening steps u → t ≡ u
recorded_same c opening steps t u one other = let both : Some t ≡ Some u = sym one.recorded_is ∙ other.recorded_is in cc

-- a history only grows
grows : (c : Setup) (more : List (ℕ × Step)) (t u : Recorded) → All (λ (x : ℕ × Step). x.0 < c.seats) more → recorded_along c t more ≡ Some u
    → (later : List Event) × (u.events ≡ t.events ++ later)
grows c more t u low is =
    all_along c (λ (v : Recorded). (later : List Event) × (v.events ≡ t.events ++ later))
    (λ v k s turn seat enabled so_far.
    let n = recorded_after c k turn v in
    let p = v.state.part k in
    let q = n.state.part k in
    let new = starts k p.phase turn ++ end_if_idle k n.placer q.phase q.calls in
    let last : n.events ≡ v.events ++ new = append_assoc v.events (starts k p.phase turn) (end_if_idle k n.placer q.phase q.calls) in
    (so_far.0 ++ new, last ∙ ap (λ (l : List Event). l ++ new) so_far.1 ∙ append_assoc t.events so_far.0 new))
    more t u low is ([], sym (append-nil t.events))

pub prefix_of_run : (c : Setup) (opening : List (List ℕ)) (short steps : List (ℕ × Step)) (recorded : Recorded) → IsPrefix short steps
    → IsRun c opening steps recorded → IsPrefixOfRun c opening short recorded
prefix_of_run c opening short steps recorded one run =
    let first = recorded_first c opening in
    let whole : recorded_along c first (short ++ one.more) ≡ Some recorded = ap (recorded_of c opening) (sym one.is) ∙ run.recorded_is in
    let two = chained (λ t. recorded_along c t one.more) (recorded_of c opening short) recorded
    (sym (recorded_along-append c short one.more first) ∙ whole) in
    let Low = λ (x : ℕ × Step). x.0 < c.seats in
    let all : All Low (short ++ one.more) = rw one.is at run.seats in
    let low : All Low short = rw (take-append_seam short one.more) at (All-take Low (length short) (short ++ one.more) all) in
    let grown = grows c one.more two.0 recorded (rw (drop-append_seam short one.more) at (All-drop Low (length short) (short ++ one.more) all)) two.2 in
    record {
      then_recorded = two.0;
      is_run = record { full = run.full; seats = low; recorded_is = two.1 };
      later = grown.0;
      events = grown.1;
    }
