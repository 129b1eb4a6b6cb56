-- A longer list says the same of its first events, and is lawful where its last event is lawful there
use Rattle.std.proofs.Common.{◌≡◌, ℕ, zero, suc, ◌<◌, ◌≤◌, inl, inr, List, [], ◌∷◌, ◌++◌, length, length-append, slice_get, Option, Some, None, refl, sym, ◌∙◌, subst, arith}
use Rattle.std.proofs.lemmas.Bool.{cases_lt}
use Rattle.std.proofs.lemmas.Option.{slice_get_within, slice_get_past}
use Rattle.scq_hist.specs.Exports.{IsLawfulAt, IsLawful, under_way, IsCall}
use Rattle.scq_hist.specs.declared.events.Call.{Call}
use Rattle.scq_hist.specs.declared.events.Event.{Event}
use Rattle.scq_hist.specs.declared.events.Event.TheVariants.{Start, End}
use Rattle.scq_hist.specs.declared.events.Reply.{Reply}

pub same_event : (events more : List Event) (i : ℕ) → i < length events → slice_get (events ++ more) i ≡ slice_get events i
same_event [] more i lt = absurd (omega arith)
same_event (x ∷ xs) more zero lt = refl
same_event (x ∷ xs) more (suc i) lt = same_event xs more i (omega arith)

pub last_event : (events : List Event) (event : Event) → slice_get (events ++ event ∷ []) (length events) ≡ Some event
last_event [] event = refl
last_event (x ∷ xs) event = last_event xs event

pub same_under_way : (events more : List Event) (seat m : ℕ) → m ≤ length events → under_way (events ++ more) seat m ≡ under_way events seat m
same_under_way events more seat zero le = refl
same_under_way events more seat (suc m) le =
    rw (same_event events more m (omega arith), same_under_way events more seat m (omega arith)) refl

pub same_call : (events more : List Event) (seat s e : ℕ) (call : Call) (reply : Reply) → IsCall events seat call s e reply
    → IsCall (events ++ more) seat call s e reply
same_call events more seat s e call reply c =
    let here = slice_get_within events e (End seat reply) c.ends in
    let start = slice_get_within events s (Start seat call) c.starts in
    record {
      starts = same_event events more s start ∙ c.starts;
      under_way_till = same_under_way events more seat e (omega arith) ∙ c.under_way_till;
      ends = same_event events more e here ∙ c.ends;
    }

-- an event that is lawful there is so in the longer list
same_lawful_at : (events more : List Event) (i : ℕ) (at : Option Event) → i < length events → IsLawfulAt events i at → IsLawfulAt (events ++ more) i at
same_lawful_at events more i None lt is = tt
same_lawful_at events more i (Some (Start seat call)) lt is = same_under_way events more seat i (omega arith) ∙ is
same_lawful_at events more i (Some (End seat reply)) lt is =
    record { s = is.s; call = is.call; is_call = same_call events more seat is.s i is.call reply is.is_call; suits = is.suits }

-- a lawful list stays lawful with one event more that is lawful there
pub lawful_longer : (events : List Event) (event : Event) → IsLawful events → IsLawfulAt (events ++ event ∷ []) (length events) (Some event)
    → IsLawful (events ++ event ∷ [])
lawful_longer events event lawful last i =
    elim (cases_lt i (length events)) [
      | inl old ↦
          subst (λ at. IsLawfulAt (events ++ event ∷ []) i at) (sym (same_event events (event ∷ []) i old))
          (same_lawful_at events (event ∷ []) i (slice_get events i) old (lawful i))
      | inr new ↦ elim (cases_lt (length events) i) [
        | inl past ↦
            subst (λ at. IsLawfulAt (events ++ event ∷ []) i at)
            (sym (slice_get_past (events ++ event ∷ []) i (omega (arith, length-append events (event ∷ []))))) tt
        | inr here ↦
            let e : length events ≡ i = omega arith in
            subst (λ k. IsLawfulAt (events ++ event ∷ []) k (slice_get (events ++ event ∷ []) k)) e
            (subst (λ at. IsLawfulAt (events ++ event ∷ []) (length events) at) (sym (last_event events event)) last)
      ]
    ]
