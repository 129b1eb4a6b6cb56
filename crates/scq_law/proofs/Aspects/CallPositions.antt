-- Where in a history the calls stand that it shows of a seat. Plan: along the events, what is under way by the list of calls is what is
-- under way by positions.
use Rattle.std.proofs.Common.{◌≡◌, ℕ, suc, ◌≤◌, List, [], ◌∷◌, ◌++◌, length, append-nil, append_assoc, refl, ap, sym, ◌∙◌, subst, inl, inr, arith, eq-eqb, ne_eqb}
use Rattle.std.specs.Prelude.{◌==◌, if◌then◌else◌, Option, Some, None, slice_get}
use Rattle.std.proofs.lemmas.Bool.{cases_eq}
use Rattle.scq_hist.specs.Exports.{under_way, IsCall}
use Rattle.scq_hist.specs.declared.events.Call.{Call}
use Rattle.scq_hist.specs.declared.events.Event.{Event}
use Rattle.scq_hist.specs.declared.events.Event.TheVariants.{Start, End}
use Rattle.scq_hist.specs.declared.events.Reply.{Reply}
use Rattle.scq_law.specs.Exports.{calls_from}
use Rattle.scq_law.proofs.Aspects.GrowingHistory.{length_grown}
use Rattle.scq_law.proofs.Aspects.RecordsShown.{pending_in}

-- at this moment the seat has this call under way, which started at position `from` or later; or it has none
abbrev pub Since : List Event → ℕ → ℕ → ℕ → Option Call → Type 0
Since events k from moment None = under_way events k moment ≡ None
Since events k from moment (Some call) = (s : ℕ) × (from ≤ s) × (slice_get events s ≡ Some (Start k call)) × (under_way events k moment ≡ Some s)

since_same : (events : List Event) (k from moment : ℕ) (under : Option Call) → under_way events k (suc moment) ≡ under_way events k moment
    → Since events k from moment under → Since events k from (suc moment) under
since_same events k from moment None same is = same ∙ is
since_same events k from moment (Some call) same is = (is.0, is.1, is.2, same ∙ is.3)

-- a Start
since_start : (events : List Event) (k from moment seat : ℕ) (under : Option Call) (call : Call) → slice_get events moment ≡ Some (Start seat call) → from ≤ moment
    → Since events k from moment under → Since events k from (suc moment) (if seat == k then Some call else under)
since_start events k from moment seat under call at low is =
    elim (cases_eq seat k) [
      | inl same ↦
          rw (eq-eqb seat k same)
          (moment, low, subst (λ (j : ℕ). slice_get events moment ≡ Some (Start j call)) same at, rw (at, eq-eqb seat k same) refl)
      | inr apart ↦ rw (ne_eqb seat k apart) (since_same events k from moment under (rw (at, ne_eqb seat k apart) refl) is)
    ]

-- an End
since_end : (events : List Event) (k from moment seat : ℕ) (under : Option Call) (reply : Reply) → slice_get events moment ≡ Some (End seat reply)
    → Since events k from moment under → Since events k from (suc moment) (if seat == k then None else under)
since_end events k from moment seat under reply at is =
    elim (cases_eq seat k) [
      | inl same ↦ rw (eq-eqb seat k same) (rw (at, eq-eqb seat k same) refl)
      | inr apart ↦ rw (ne_eqb seat k apart) (since_same events k from moment under (rw (at, ne_eqb seat k apart) refl) is)
    ]

at_seam : {A : Type 0} (front : List A) (x : A) (more : List A) → slice_get (front ++ x ∷ more) (length front) ≡ Some x
at_seam [] x more = refl
at_seam (y ∷ ys) x more = at_seam ys x more

-- the next event
at_next : (events front : List Event) (x : Event) (more : List Event) → events ≡ front ++ x ∷ more → slice_get events (length front) ≡ Some x
at_next events front x more is = ap (λ (l : List Event). slice_get l (length front)) is ∙ at_seam front x more

-- goes to the front
to_front : (events front : List Event) (x : Event) (more : List Event) → events ≡ front ++ x ∷ more → events ≡ (front ++ x ∷ []) ++ more
to_front events front x more is = is ∙ sym (append_assoc front (x ∷ []) more)

heads : {A : Type 0} (x y : A) (xs ys : List A) → x ∷ xs ≡ y ∷ ys → x ≡ y
heads x y xs ys is = cc

module _ (events : List Event) (k from : ℕ) where
  one_on : (front : List Event) (x : Event) (under : Option Call) → Since events k from (suc (length front)) under
      → Since events k from (length (front ++ x ∷ [])) under
  one_on front x under is = subst (λ (m : ℕ). Since events k from m under) (sym (length_grown front x)) is

  -- some events on
  pub since_on : (xs front rest : List Event) (under : Option Call) → events ≡ front ++ xs ++ rest → from ≤ length front → Since events k from (length front) under
      → Since events k from (length (front ++ xs)) (pending_in k under xs)
  since_on [] front rest under is low so = rw (append-nil front) so
  since_on (Start seat call ∷ xs) front rest under is low so =
      let x = Start seat call in
      let next = since_start events k from (length front) seat under call (at_next events front x (xs ++ rest) (is ∙ append_assoc front (x ∷ xs) rest)) low so in
      let longer = length_grown front x in
      let all : front ++ x ∷ xs ≡ (front ++ x ∷ []) ++ xs = sym (append_assoc front (x ∷ []) xs) in
      rw all
      (since_on xs (front ++ x ∷ []) rest (if seat == k then Some call else under) (is ∙ ap (λ (l : List Event). l ++ rest) all) (omega arith)
      (one_on front x (if seat == k then Some call else under) next))
  since_on (End seat reply ∷ xs) front rest under is low so =
      let x = End seat reply in
      let next = since_end events k from (length front) seat under reply (at_next events front x (xs ++ rest) (is ∙ append_assoc front (x ∷ xs) rest)) so in
      let longer = length_grown front x in
      let all : front ++ x ∷ xs ≡ (front ++ x ∷ []) ++ xs = sym (append_assoc front (x ∷ []) xs) in
      rw all
      (since_on xs (front ++ x ∷ []) rest (if seat == k then None else under) (is ∙ ap (λ (l : List Event). l ++ rest) all) (omega arith)
      (one_on front x (if seat == k then None else under) next))

  -- a call and its reply stand at these positions
  pub record Stood (call : Call) (reply : Reply) : Type 0 where
    pub start : ℕ
    pub stop : ℕ
    pub is_call : IsCall events k call start stop reply
    pub since : from ≤ start

  -- the first call that ends in the rest of the events
  pub first_call : (more front : List Event) (under : Option Call) (call : Call) (reply : Reply) (rest : List (Call × Reply)) → events ≡ front ++ more
      → from ≤ length front → Since events k from (length front) under → calls_from k under more ≡ (call, reply) ∷ rest → Stood call reply
  first_call [] front under call reply rest is low so shows = absurd (cc)
  first_call (Start seat c ∷ more) front under call reply rest is low so shows =
      let x = Start seat c in
      let longer = length_grown front x in
      let next = since_start events k from (length front) seat under c (at_next events front x more is) low so in
      first_call more (front ++ x ∷ []) (if seat == k then Some c else under) call reply rest (to_front events front x more is) (omega arith)
      (one_on front x (if seat == k then Some c else under) next) shows
  first_call (End seat r ∷ more) front None call reply rest is low so shows =
      let x = End seat r in
      let longer = length_grown front x in
      let next = since_end events k from (length front) seat None r (at_next events front x more is) so in
      elim (cases_eq seat k) [
        | inl same ↦
            first_call more (front ++ x ∷ []) None call reply rest (to_front events front x more is) (omega arith)
            (one_on front x None (rw (eq-eqb seat k same) at next)) (rw (eq-eqb seat k same) at shows)
        | inr apart ↦
            first_call more (front ++ x ∷ []) None call reply rest (to_front events front x more is) (omega arith)
            (one_on front x None (rw (ne_eqb seat k apart) at next)) (rw (ne_eqb seat k apart) at shows)
      ]
  first_call (End seat r ∷ more) front (Some c) call reply rest is low so shows =
      let x = End seat r in
      let longer = length_grown front x in
      let here = at_next events front x more is in
      let next = since_end events k from (length front) seat (Some c) r here so in
      elim (cases_eq seat k) [
        | inl same ↦
            let both : (c, r) ∷ calls_from k None more ≡ (call, reply) ∷ rest = rw (eq-eqb seat k same) at shows in
            let one : c ≡ call = ap (λ (x : Call × Reply). x.0) (heads (c, r) (call, reply) (calls_from k None more) rest both) in
            let other : r ≡ reply = ap (λ (x : Call × Reply). x.1) (heads (c, r) (call, reply) (calls_from k None more) rest both) in
            record {
              start = so.0;
              stop = length front;
              is_call = record { starts = rw one at so.2; under_way_till = so.3; ends = rw (same, other) at here };
              since = so.1;
            }
        | inr apart ↦
            first_call more (front ++ x ∷ []) (Some c) call reply rest (to_front events front x more is) (omega arith)
            (one_on front x (Some c) (rw (ne_eqb seat k apart) at next)) (rw (ne_eqb seat k apart) at shows)
      ]
