-- What a step is to the order is what its note says: which ticket it draws, or that it decides.
use Rattle.std.proofs.Common.{◌≡◌, ℕ, ◌+◌, ◌<◌, inl, inr, true, false, ◌&&◌, List, length, refl, ap, sym, ◌∙◌, subst, eq-eqb, eqb-true, lt-ltb, le-leb, ltb-true, leb-true}
use Rattle.std.specs.Prelude.{Bool, ◌==◌, nat_lt, nat_le, if◌then◌else◌, Option, Some}
use Rattle.std.proofs.lemmas.Bool.{cases_Bool, and_parts, and_from}
use Rattle.scq_word.specs.declared.setup.Setup.{Setup}
use Rattle.scq_core.specs.declared.phase.Phase.{Phase}
use Rattle.scq_core.specs.declared.phase.Phase.TheVariants.{Idle, AtE1, AtD1, AtD2, AtD6, AtD10}
use Rattle.scq_core.specs.declared.step.Step.{Step}
use Rattle.scq_core.specs.Exports.{Cells, zero_level, next_step}
use Rattle.scq_core.specs.Machine.{Machine}
use Rattle.scq_core.proofs.Turns.{Enables, new_put, new_get, continues, enables}
use Rattle.scq_law.specs.declared.note.Note.{Note}
use Rattle.scq_law.specs.declared.note.Note.TheVariants as note
use Rattle.scq_law.specs.Exports.{note_of, put_note, get_note, refusal_note, end_note, level_note, Decides, IsDecidingStep, DrawsPut, DrawsGet}
use Rattle.scq_law.specs.Exports.{state_before}
use Rattle.scq_law.specs.RunSteps.{Run}
use Rattle.scq_law.proofs.Order.RunStates.{StepFacts}
use Rattle.scq_law.proofs.Order.RunDraws.{makes_is}

-- the note by the turn
abbrev note_at : Setup → Cells → ℕ → Phase → Note
note_at c m r (AtE1 q i w l) = put_note c m r q
note_at c m r (AtD1 q) = refusal_note m r q
note_at c m r (AtD2 q l) = get_note c m r q
note_at c m r (AtD6 q h) = end_note m r q h
note_at c m r (AtD10 q h false) = level_note m r q
note_at c m r turn = note.Passes

continued : (c : Setup) (m : Cells) (r : ℕ) (phase : Phase) (step : Step) → next_step phase ≡ Some step → note_of c m r phase step ≡ note_at c m r phase
continued c m r Idle step on = absurd (cc)
continued c m r (AtD1 q) step on = absurd (cc)
continued c m r (AtD10 q h true) step on = refl
continued c m r (AtD10 q h false) step on = refl
continued c m r phase step on = refl

by_turn : (c : Setup) (m : Cells) (r : ℕ) (hand : List ℕ) (spent : Option ℕ) (phase : Phase) (step : Step) (turn : Phase) → Enables c hand spent phase step turn
    → note_of c m r phase step ≡ note_at c m r turn
by_turn c m r hand spent phase step turn (new_put q i w ring index held) = refl
by_turn c m r hand spent phase step turn (new_get q ring) = refl
by_turn c m r hand spent phase step turn (continues kept own s on new) = continued c m r own s on

-- how a note comes about
data NoteBy (c : Setup) (m : Machine) (r : ℕ) (turn : Phase) : Note → Type 0 where
  by_put : (i : ℕ) (w : List ℕ) (l : ℕ) → turn ≡ AtE1 r i w l → m.cells.tail r < c.limit → NoteBy c m r turn (note.DrawsPut (m.cells.tail r))
  by_get : (l : ℕ) → turn ≡ AtD2 r l → m.cells.head r < c.limit → NoteBy c m r turn (note.DrawsGet (m.cells.head r))
  by_decision : Decides m turn r → NoteBy c m r turn (note.Decides (m.cells.head r))
  by_none : ((i : ℕ) (w : List ℕ) (l : ℕ) → turn ≡ AtE1 r i w l → m.cells.tail r < c.limit → ⊥)
      → ((l : ℕ) → turn ≡ AtD2 r l → m.cells.head r < c.limit → ⊥) → (Decides m turn r → ⊥) → NoteBy c m r turn note.Passes

not_both : (q r : ℕ) (b : Bool) → (q == r && b) ≡ false → q ≡ r → b ≡ true → ⊥
not_both q r b fails same holds = let all = and_from (q == r) b (eq-eqb q r same) holds in cc

-- a step that decides just where it is on the ring and a flag is set
note_decided : (c : Setup) (m : Machine) (r q : ℕ) (b : Bool) (turn : Phase) → (q ≡ r → b ≡ true → Decides m turn r) → (Decides m turn r → (q ≡ r) × (b ≡ true))
    → ((i : ℕ) (w : List ℕ) (l : ℕ) → turn ≡ AtE1 r i w l → ⊥) → ((l : ℕ) → turn ≡ AtD2 r l → ⊥)
    → NoteBy c m r turn (if q == r && b then note.Decides (m.cells.head r) else note.Passes)
note_decided c m r q b turn there back no_put no_get =
    elim (cases_Bool (q == r && b)) [
      | inl holds ↦ let two = and_parts (q == r) b holds in rw holds (by_decision (there (eqb-true q r two.0) two.1))
      | inr fails ↦
          rw fails
          (by_none (λ j v z is low. no_put j v z is) (λ z is low. no_get z is) (λ d. let two = back d in not_both q r b fails two.0 two.1))
    ]

note_by : (c : Setup) (m : Machine) (r : ℕ) (turn : Phase) → NoteBy c m r turn (note_at c m.cells r turn)
note_by c m r (AtE1 q i w l) =
    elim (cases_Bool (q == r && nat_lt (m.cells.tail r) c.limit)) [
      | inl holds ↦
          let two = and_parts (q == r) (nat_lt (m.cells.tail r) c.limit) holds in
          let ring : q ≡ r = eqb-true q r two.0 in
          rw holds (by_put i w l (rw ring refl) (ltb-true (m.cells.tail r) c.limit two.1))
      | inr fails ↦
          rw fails
          (by_none (λ j v z is low. (let ring : q ≡ r = cc in not_both q r (nat_lt (m.cells.tail r) c.limit) fails ring (lt-ltb (m.cells.tail r) c.limit low)))
          (λ z is low. cc) (λ d. d))
    ]
note_by c m r (AtD1 q) =
    note_decided c m r q (nat_lt (m.cells.threshold r) zero_level) (AtD1 q) (λ ring holds. (ring, ltb-true (m.cells.threshold r) zero_level holds))
    (λ d. (d.0, lt-ltb (m.cells.threshold r) zero_level d.1)) (λ j v z is. cc) (λ z is. cc)
note_by c m r (AtD2 q l) =
    elim (cases_Bool (q == r && nat_lt (m.cells.head r) c.limit)) [
      | inl holds ↦
          let two = and_parts (q == r) (nat_lt (m.cells.head r) c.limit) holds in
          let ring : q ≡ r = eqb-true q r two.0 in
          rw holds (by_get l (rw ring refl) (ltb-true (m.cells.head r) c.limit two.1))
      | inr fails ↦
          rw fails
          (by_none (λ j v z is low. cc)
          (λ z is low. (let ring : q ≡ r = cc in not_both q r (nat_lt (m.cells.head r) c.limit) fails ring (lt-ltb (m.cells.head r) c.limit low))) (λ d. d))
    ]
note_by c m r (AtD6 q h) =
    note_decided c m r q (nat_le (m.cells.tail r) (h + 1)) (AtD6 q h) (λ ring holds. (ring, leb-true (m.cells.tail r) (h + 1) holds))
    (λ d. (d.0, le-leb (m.cells.tail r) (h + 1) d.1)) (λ j v z is. cc) (λ z is. cc)
note_by c m r (AtD10 q h false) =
    note_decided c m r q (nat_le (m.cells.threshold r) zero_level) (AtD10 q h false) (λ ring holds. (ring, leb-true (m.cells.threshold r) zero_level holds))
    (λ d. (d.0, le-leb (m.cells.threshold r) zero_level d.1)) (λ j v z is. cc) (λ z is. cc)
note_by c m r (AtD10 q h true) = by_none (λ j v z is low. cc) (λ z is low. cc) (λ d. d)
note_by c m r turn = by_none (λ j v z is low. cc) (λ z is low. cc) (λ d. d)

-- what the note of step i says
pub record NoteTells (run : Run) (r i : ℕ) (f : StepFacts run i) (n : Note) : Type 0 where
  pub puts : (h p : ℕ) → DrawsPut run i h r p → n ≡ note.DrawsPut p
  pub gets : (h p : ℕ) → DrawsGet run i h r p → n ≡ note.DrawsGet p
  pub decisions : (h x : ℕ) → IsDecidingStep run i h x r → n ≡ note.Decides ((state_before run i).cells.head r)
  pub put_is : (p : ℕ) → n ≡ note.DrawsPut p → DrawsPut run i f.seat r p
  pub get_is : (p : ℕ) → n ≡ note.DrawsGet p → DrawsGet run i f.seat r p
  pub decision_is : (h : ℕ) → n ≡ note.Decides h
      → (h ≡ (state_before run i).cells.head r) × IsDecidingStep run i f.seat (length ((state_before run i).part f.seat).calls) r

told_by : (run : Run) (r i : ℕ) (f : StepFacts run i) (n : Note) → NoteBy run.setup (state_before run i) r f.turn n → NoteTells run r i f n
told_by run r i f n (by_put j w l is low) =
    let m = state_before run i in
    record {
      puts = λ h p d. ap note.DrawsPut d.found;
      gets = λ h p d. (let same = (makes_is run i h (AtD2 r d.least) f d.makes).turn_is in absurd (clash_put_get run r j w l d.least (sym is ∙ sym same)));
      decisions = λ h x d. (let same = makes_is run i h d.turn f d.makes in absurd (subst (λ (t : Phase). Decides m t r) (same.turn_is ∙ is) d.decides));
      put_is =
          λ p same.
          record {
            index = j;
            content = w;
            least = l;
            makes = record { step = f.step; there = f.there; enabled = f.enabled ∙ ap Some is };
            found = cc;
            low = (let found : m.cells.tail r ≡ p = cc in rw (← found) low);
          };
      get_is = λ p same. absurd (cc);
      decision_is = λ h same. absurd (cc);
    }
  where
    clash_put_get : (run : Run) (r j : ℕ) (w : List ℕ) (l k : ℕ) → AtE1 r j w l ≡ AtD2 r k → ⊥
    clash_put_get run r j w l k same = cc
told_by run r i f n (by_get l is low) =
    let m = state_before run i in
    record {
      puts = λ h p d. (let same = (makes_is run i h (AtE1 r d.index d.content d.least) f d.makes).turn_is in absurd (clash r l d.index d.content d.least
          (sym is ∙ sym same)));
      gets = λ h p d. ap note.DrawsGet d.found;
      decisions = λ h x d. (let same = makes_is run i h d.turn f d.makes in absurd (subst (λ (t : Phase). Decides m t r) (same.turn_is ∙ is) d.decides));
      put_is = λ p same. absurd (cc);
      get_is =
          λ p same.
          record {
            least = l;
            makes = record { step = f.step; there = f.there; enabled = f.enabled ∙ ap Some is };
            found = cc;
            low = (let found : m.cells.head r ≡ p = cc in rw (← found) low);
          };
      decision_is = λ h same. absurd (cc);
    }
  where
    clash : (r l j : ℕ) (w : List ℕ) (k : ℕ) → AtD2 r l ≡ AtE1 r j w k → ⊥
    clash r l j w k same = cc
told_by run r i f n (by_decision d) =
    let m = state_before run i in
    record {
      puts =
          λ h p draw.
          (let same = (makes_is run i h (AtE1 r draw.index draw.content draw.least) f draw.makes).turn_is in
          absurd (subst (λ (t : Phase). Decides m t r) (sym same) d));
      gets = λ h p draw. (let same = (makes_is run i h (AtD2 r draw.least) f draw.makes).turn_is in absurd (subst (λ (t : Phase). Decides m t r) (sym same) d));
      decisions = λ h x is. refl;
      put_is = λ p same. absurd (cc);
      get_is = λ p same. absurd (cc);
      decision_is =
          λ h same. (
            let head : m.cells.head r ≡ h = cc in sym head,
            record {
              turn = f.turn;
              makes = record { step = f.step; there = f.there; enabled = f.enabled };
              decides = d;
              in_call = record { step = f.step; there = f.there; in_call = refl };
            },
          );
    }
told_by run r i f n (by_none no_put no_get no_decision) =
    let m = state_before run i in
    record {
      puts =
          λ h p draw.
          (let same = (makes_is run i h (AtE1 r draw.index draw.content draw.least) f draw.makes).turn_is in
          let found = draw.found in
          let below = draw.low in
          absurd (no_put draw.index draw.content draw.least (sym same) (rw found below)));
      gets =
          λ h p draw.
          (let same = (makes_is run i h (AtD2 r draw.least) f draw.makes).turn_is in
          let found = draw.found in
          let below = draw.low in
          absurd (no_get draw.least (sym same) (rw found below)));
      decisions =
          λ h x is. (let same = makes_is run i h is.turn f is.makes in absurd (no_decision (subst (λ (t : Phase). Decides m t r) same.turn_is is.decides)));
      put_is = λ p same. absurd (cc);
      get_is = λ p same. absurd (cc);
      decision_is = λ h same. absurd (cc);
    }

pub told : (run : Run) (r i : ℕ) (f : StepFacts run i)
    → NoteTells run r i f (note_of run.setup (state_before run i).cells r ((state_before run i).part f.seat).phase f.step)
told run r i f =
    let m = state_before run i in
    let p = m.part f.seat in
    let is : note_of run.setup m.cells r p.phase f.step ≡ note_at run.setup m.cells r f.turn =
    by_turn run.setup m.cells r p.hand p.spent p.phase f.step f.turn (enables run.setup p.hand p.spent p.phase f.step f.turn f.enabled) in
    rw is (told_by run r i f (note_at run.setup m.cells r f.turn) (note_by run.setup m r f.turn))
