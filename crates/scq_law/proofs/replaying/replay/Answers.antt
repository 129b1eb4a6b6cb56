-- What was replayed shows a run, and each law holds of it.
use Rattle.std.proofs.Common.{◌≡◌, [], Err, ap, sym, ◌∙◌, length}
use Rattle.scq_word.specs.Exports.{n_of}
use Rattle.scq_hist.proofs.HandedOn.{same_fault}
use Rattle.scq_law.specs.Exports.{IsRecording}
use Rattle.scq_law.proofs.Replays.ReplayLaws.{replayed_laws, run_obeys}
use Rattle.scq_law.proofs.Replays.StepsRecorded.{first_recorded, replays}
use Rattle.scq_law.proofs.replaying.replay.Goals as goal
use Rattle.scq_law.proofs.replaying.replay.Goals.{Start, In_ok-recording}

full : (c : Start) → length c.args.opening.items ≡ n_of c.args.setup.order
full c = sym c.args.opening.ok.0 ∙ c.requires.opening

first : (c : In_ok-recording) → IsRecording c.args.setup c.args.opening.items [] c.in_ok-recording.recording
first c = first_recorded c.args.setup c.args.opening.items c.in_ok-recording.recording (sym c.args.opening.ok.0 ∙ c.requires.opening) c.in_ok-recording.ensures

pub returns-in_err-make_all-clause-not_enabled : goal.returns-in_err-make_all-clause-not_enabled
returns-in_err-make_all-clause-not_enabled c at e =
    c.in_err-make_all.ensures.not_enabled c.args.opening.items at (first (goal.at.returns-in_err-make_all-clause-not_enabled c).In_ok-recording)
    (ap Err (same_fault c.from_residual-in_err-make_all.result c.in_err-make_all.field-0.0 _ c.from_residual-in_err-make_all.ensures.1 e))

pub make_all-requires-clause-first : goal.make_all-requires-clause-first
make_all-requires-clause-first c = (c.args.opening.items, first (goal.at.make_all-requires-clause-first c).In_ok-recording)

pub returns-clause-run : goal.returns-clause-run
returns-clause-run c =
    let its = c.replayed.ensures in
    replays c.args.setup c.args.opening.items c.args.steps.now _ c.replayed.result
    (c.in_ok-make_all.ensures.made c.args.opening.items (first (goal.at.returns-clause-run c).In_ok-recording)) its.state its.events its.resets its.fails

pub returns-clause-laws : goal.returns-clause-laws
returns-clause-laws c =
    replayed_laws c.args.setup c.args.opening.items c.args.steps.now (full (goal.at.returns-clause-laws c).Start) c.requires.seats c.replayed.result
    (returns-clause-run c)

pub returns-in_err-recording-clause-all_along : goal.returns-in_err-recording-clause-all_along
returns-in_err-recording-clause-all_along c =
    run_obeys c.args.setup c.args.opening.items c.args.steps.now (full (goal.at.returns-in_err-recording-clause-all_along c).Start) c.requires.seats

pub returns-in_err-make_all-clause-all_along : goal.returns-in_err-make_all-clause-all_along
returns-in_err-make_all-clause-all_along c =
    run_obeys c.args.setup c.args.opening.items c.args.steps.now (full (goal.at.returns-in_err-make_all-clause-all_along c).Start) c.requires.seats

pub returns-clause-all_along : goal.returns-clause-all_along
returns-clause-all_along c =
    run_obeys c.args.setup c.args.opening.items c.args.steps.now (full (goal.at.returns-clause-all_along c).Start) c.requires.seats
