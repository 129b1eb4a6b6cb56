-- A call that ended with Nothing was right at a moment inside it: the history shows it where the seat's record has it, and each Empty
-- in the history of a run is right.
use Rattle.std.proofs.Common.{◌≡◌, ℕ, List, [], ◌∷◌, ◌++◌, length, refl, ap, ◌∙◌, subst, arith}
use Rattle.std.specs.Prelude.{None}
use Rattle.scq_word.specs.declared.setup.Setup.{Setup}
use Rattle.scq_core.specs.declared.ended.Ended.{Ended}
use Rattle.scq_core.specs.declared.ended.Ended.TheVariants as ended
use Rattle.scq_core.specs.declared.step.Step.{Step}
use Rattle.scq_hist.specs.declared.events.Call.{Call}
use Rattle.scq_hist.specs.declared.events.Call.TheVariants.{Get}
use Rattle.scq_hist.specs.declared.events.Event.{Event}
use Rattle.scq_hist.specs.declared.events.PutName.{PutName}
use Rattle.scq_hist.specs.declared.events.Reply.{Reply}
use Rattle.scq_hist.specs.declared.events.Reply.TheVariants.{Nothing}
use Rattle.scq_law.specs.Exports.{Recorded, recorded_reply, calls_from, calls_shown, AskedFor, AllShown, IsPrefix, IsRecordAfter, IsEmptyAtCall}
use Rattle.scq_law.proofs.Aspects.CallPositions.{Since, since_on, Stood, first_call}
use Rattle.scq_law.proofs.Aspects.CoupledRuns.{tied_run}
use Rattle.scq_law.proofs.Aspects.EmptyRight.{empty_right}
use Rattle.scq_law.proofs.Aspects.RecordsShown.{pending_in, more_calls, records_shown, none_pending}
use Rattle.scq_law.proofs.Replays.RunPrefixes.{prefix_of_run, recorded_same}

-- where one call more is shown than before, the last one is
record LastShown (placer : ℕ → ℕ → PutName) (e : Ended) (ys : List (Call × Reply)) : Type 0 where
  call : Call
  shown : ys ≡ (call, recorded_reply placer e) ∷ []
  asked : AskedFor e call

last_shown : (old placer : ℕ → ℕ → PutName) (es : List Ended) (xs ys : List (Call × Reply)) (e : Ended) → AllShown old es xs
    → AllShown placer (es ++ e ∷ []) (xs ++ ys) → LastShown placer e ys
last_shown old placer [] [] [] e was now = absurd now
last_shown old placer [] [] (y ∷ []) e was now = record { call = y.0; shown = ap (λ (r : Reply). (y.0, r) ∷ []) now.1; asked = now.0 }
last_shown old placer [] [] (y ∷ z ∷ ys) e was now = absurd now.2
last_shown old placer [] (x ∷ xs) ys e was now = absurd was
last_shown old placer (f ∷ es) [] ys e was now = absurd was
last_shown old placer (f ∷ es) (x ∷ xs) ys e was now = last_shown old placer es xs ys e was.2 now.2

-- the last call of a seat that rests before it and after it
record LastCall (was events : List Event) (seat : ℕ) (placer : ℕ → ℕ → PutName) (e : Ended) : Type 0 where
  later : List Event
  goes_on : events ≡ was ++ later
  call : Call
  asked : AskedFor e call
  stands : Stood events seat (length was) call (recorded_reply placer e)

last_call : (c : Setup) (opening : List (List ℕ)) (before steps : List (ℕ × Step)) (seat : ℕ) (calls : List Ended) (e : Ended) → IsPrefix before steps
    → (was : IsRecordAfter c opening before seat calls) → (now : IsRecordAfter c opening steps seat (calls ++ e ∷ []))
    → LastCall was.recorded.events now.recorded.events seat now.recorded.placer e
last_call c opening before steps seat calls e shorter was now =
    let first = prefix_of_run c opening before steps now.recorded shorter now.is_run in
    let same : first.then_recorded ≡ was.recorded = recorded_same c opening before first.then_recorded was.recorded first.is_run was.is_run in
    let old = was.recorded.events in
    let goes_on : now.recorded.events ≡ old ++ first.later = first.events ∙ ap (λ (t : Recorded). t.events ++ first.later) same in
    let pending = none_pending c opening before was.recorded seat was.is_run was.idle in
    let cut : calls_shown seat now.recorded.events ≡ calls_shown seat old ++ calls_from seat None first.later =
    ap (calls_shown seat) goes_on ∙ more_calls seat None old first.later
    ∙ ap (λ u. calls_shown seat old ++ calls_from seat u first.later) pending in
    let shown_then : AllShown was.recorded.placer calls (calls_shown seat old) =
    subst (λ (es : List Ended). AllShown was.recorded.placer es (calls_shown seat old)) was.calls_are
    ((records_shown c opening before was.recorded was.is_run).shows seat) in
    let shown_now : AllShown now.recorded.placer (calls ++ e ∷ []) (calls_shown seat now.recorded.events) =
    subst (λ (es : List Ended). AllShown now.recorded.placer es (calls_shown seat now.recorded.events)) now.calls_are
    ((records_shown c opening steps now.recorded now.is_run).shows seat) in
    let last = last_shown was.recorded.placer now.recorded.placer calls (calls_shown seat old) (calls_from seat None first.later) e shown_then
    (subst (λ (xs : List (Call × Reply)). AllShown now.recorded.placer (calls ++ e ∷ []) xs) cut shown_now) in
    let idle_there : Since now.recorded.events seat 0 (length old) (pending_in seat None old) =
    since_on now.recorded.events seat 0 old [] first.later None goes_on (omega arith) refl in
    let idle_then : Since now.recorded.events seat (length old) (length old) None =
    subst (λ u. Since now.recorded.events seat 0 (length old) u) pending idle_there in
    record { later = first.later; goes_on = goes_on; call = last.call; asked = last.asked; stands = first_call now.recorded.events seat (length old) first.later old None last.call (recorded_reply now.recorded.placer e) [] goes_on (omega arith) idle_then last.shown }

pub empty_at_call : (c : Setup) (opening : List (List ℕ)) (before after : List (ℕ × Step)) (seat r : ℕ) (calls : List Ended) → IsPrefix before after
    → (was : IsRecordAfter c opening before seat calls) → (now : IsRecordAfter c opening after seat (calls ++ ended.Nothing r ∷ []))
    → IsEmptyAtCall opening was.recorded.events now.recorded.events seat r
empty_at_call c opening before after seat r calls shorter was now =
    let last = last_call c opening before after seat calls (ended.Nothing r) shorter was now in
    let stands : Stood now.recorded.events seat (length was.recorded.events) (Get r) Nothing =
    subst (λ (call : Call). Stood now.recorded.events seat (length was.recorded.events) call Nothing) last.asked last.stands in
    let tied = tied_run c opening after now.recorded now.is_run.full now.is_run.seats now.is_run in
    record { later = last.later; goes_on = last.goes_on; start = stands.start; stop = stands.stop; call = stands.is_call; since = stands.since; right = empty_right c opening now.is_run.full now.recorded tied stands.stop stands.start seat r stands.is_call }
