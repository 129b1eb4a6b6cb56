-- What the seats are in the middle of, as the history has it: by its stance a seat has no call under way, or just the
-- call that the stance is of. Kept where a call starts, goes on and ends; and so the history is lawful.
use Rattle.std.proofs.Common.{◌≡◌, ◌≢◌, ℕ, ◌+◌, inl, inr, List, [], ◌∷◌, ◌++◌, length, refl, sym, ◌∙◌, arith, eq-eqb, ne_eqb}
use Rattle.std.specs.Prelude.{Some, None, slice_get}
use Rattle.std.proofs.lemmas.Bool.{cases_eq}
use Rattle.scq_hist.specs.Exports.{IsPut, SuitsCall, IsLawful, IsAnswer}
use Rattle.scq_hist.specs.declared.events.Call.TheVariants.{Put, Get}
use Rattle.scq_hist.specs.declared.events.Event.{Event}
use Rattle.scq_hist.specs.declared.events.Event.TheVariants.{Start, End}
use Rattle.scq_hist.specs.declared.events.Reply.{Reply}
use Rattle.scq_core.specs.Exports.{updated, Stance, resting, drawing, putting, landed, asking, seeking, trying, gave_up}
use Rattle.scq_law.proofs.Aspects.GrowingHistory.{under_now, puts_now, new_at, kept_at, under_old, puts_old, puts_grown, put_grown, lawful_grown, seat_of, under_else, under_start, under_end}

-- a put that the seat has under way, its latest
pub record PutsNow (events : List Event) (number k r : ℕ) (w : List ℕ) : Type 0 where
  pub s : ℕ
  pub under : under_now events k ≡ Some s
  pub put : IsPut events k number r w s

-- a get
pub record GetsNow (events : List Event) (k r : ℕ) : Type 0 where
  pub s : ℕ
  pub under : under_now events k ≡ Some s
  pub starts : slice_get events s ≡ Some (Start k (Get r))

-- what a seat of this stance, which began so many puts, has under way
abbrev pub Doing : List Event → ℕ → ℕ → Stance → Type 0
Doing events number k resting = under_now events k ≡ None
Doing events number k (drawing r i w) = PutsNow events number k r w
Doing events number k (putting r i w t) = PutsNow events number k r w
Doing events number k (landed r i w t) = PutsNow events number k r w
Doing events number k (asking r) = GetsNow events k r
Doing events number k (seeking r) = GetsNow events k r
Doing events number k (trying r h) = GetsNow events k r
Doing events number k (gave_up r h leaves) = GetsNow events k r

pub record IsCalled (events : List Event) (puts : ℕ → ℕ) (stance : ℕ → Stance) : Type 0 where
  pub doing : (k : ℕ) → Doing events (puts k) k (stance k)
  pub counted : (k : ℕ) → puts k ≡ puts_now events k
  pub lawful : IsLawful events

module _ (events : List Event) (x : Event) where
  abbrev longer : List Event
  longer = events ++ x ∷ []

  put_else_now : (number k r : ℕ) (w : List ℕ) → seat_of x ≢ k → PutsNow events number k r w → PutsNow longer number k r w
  put_else_now number k r w other is =
      record { s = is.s; under = under_else events x k other ∙ is.under; put = put_grown events x k number r w is.s is.put }

  get_else_now : (k r : ℕ) → seat_of x ≢ k → GetsNow events k r → GetsNow longer k r
  get_else_now k r other is =
      record { s = is.s; under = under_else events x k other ∙ is.under; starts = kept_at events x is.s _ is.starts }

  -- what another seat does stays
  doing_else : (number k : ℕ) (s : Stance) → seat_of x ≢ k → Doing events number k s → Doing longer number k s
  doing_else number k resting other is = under_else events x k other ∙ is
  doing_else number k (drawing r i w) other is = put_else_now number k r w other is
  doing_else number k (putting r i w t) other is = put_else_now number k r w other is
  doing_else number k (landed r i w t) other is = put_else_now number k r w other is
  doing_else number k (asking r) other is = get_else_now k r other is
  doing_else number k (seeking r) other is = get_else_now k r other is
  doing_else number k (trying r h) other is = get_else_now k r other is
  doing_else number k (gave_up r h leaves) other is = get_else_now k r other is

-- a seat that rests starts a put
pub called_put : (events : List Event) (puts : ℕ → ℕ) (stance : ℕ → Stance) (k r i : ℕ) (w : List ℕ) → IsCalled events puts stance → stance k ≡ resting
    → IsCalled (events ++ Start k (Put r w) ∷ []) (updated puts k (puts k + 1)) (updated stance k (drawing r i w))
called_put events puts stance k r i w called rests =
    let x = Start k (Put r w) in
    let idle : under_now events k ≡ None = rw rests at (called.doing k) in
    record {
      doing =
          λ j.
          elim (cases_eq j k) [
            | inl same ↦
                rw (eq-eqb j k same, same)
                (record {
                  s = length events;
                  under = under_start events k (Put r w);
                  put =
                      record {
                        starts = new_at events x;
                        counted = (let count = called.counted k in let old = puts_old events x k (length events) (omega arith) in omega arith);
                      };
                })
            | inr apart ↦ rw (ne_eqb j k apart) (doing_else events x (puts j) j (stance j) (λ e. apart (sym e)) (called.doing j))
          ];
      counted =
          λ j.
          let count = called.counted j in
          let grown = puts_grown events x j in
          elim (cases_eq j k) [
            | inl same ↦
                let more : puts_now (events ++ x ∷ []) j ≡ puts_now events j + 1 = rw (eq-eqb k j (sym same)) at grown in
                let value : updated puts k (puts k + 1) j ≡ puts j + 1 = rw (eq-eqb j k same, same) refl in
                let sum : puts j + 1 ≡ puts_now (events ++ x ∷ []) j = omega arith in
                value ∙ sum
            | inr apart ↦ let more : puts_now (events ++ x ∷ []) j ≡ puts_now events j + 0 = rw (ne_eqb k j (λ e. apart (sym e))) at grown in
                rw (ne_eqb j k apart) (omega arith)
          ];
      lawful = lawful_grown events x called.lawful (under_old events x k (length events) (omega arith) ∙ idle);
    }

-- a get
pub called_get : (events : List Event) (puts : ℕ → ℕ) (stance : ℕ → Stance) (k r : ℕ) → IsCalled events puts stance → stance k ≡ resting
    → IsCalled (events ++ Start k (Get r) ∷ []) puts (updated stance k (asking r))
called_get events puts stance k r called rests =
    let x = Start k (Get r) in
    let idle : under_now events k ≡ None = rw rests at (called.doing k) in
    record {
      doing = λ j. elim (cases_eq j k) [
        | inl same ↦
            rw (eq-eqb j k same, same)
            (record { s = length events; under = under_start events k (Get r); starts = new_at events x })
        | inr apart ↦ rw (ne_eqb j k apart) (doing_else events x (puts j) j (stance j) (λ e. apart (sym e)) (called.doing j))
      ];
      counted = λ j. let count = called.counted j in let grown : puts_now (events ++ x ∷ []) j ≡ puts_now events j + 0 = puts_grown events x j in omega arith;
      lawful = lawful_grown events x called.lawful (under_old events x k (length events) (omega arith) ∙ idle);
    }

-- a call ends by a reply that suits it
pub put_answer : (events : List Event) (number k r : ℕ) (w : List ℕ) (reply : Reply) → PutsNow events number k r w → SuitsCall (Put r w) reply
    → IsAnswer (events ++ End k reply ∷ []) k (length events) reply
put_answer events number k r w reply now suits =
    let x = End k reply in
    record {
      s = now.s;
      call = Put r w;
      is_call =
          record {
            starts = kept_at events x now.s _ now.put.starts;
            under_way_till = under_old events x k (length events) (omega arith) ∙ now.under;
            ends = new_at events x;
          };
      suits = suits;
    }

pub get_answer : (events : List Event) (k r : ℕ) (reply : Reply) → GetsNow events k r → SuitsCall (Get r) reply
    → IsAnswer (events ++ End k reply ∷ []) k (length events) reply
get_answer events k r reply now suits =
    let x = End k reply in
    record {
      s = now.s;
      call = Get r;
      is_call =
          record {
            starts = kept_at events x now.s _ now.starts;
            under_way_till = under_old events x k (length events) (omega arith) ∙ now.under;
            ends = new_at events x;
          };
      suits = suits;
    }

pub called_end : (events : List Event) (puts : ℕ → ℕ) (stance : ℕ → Stance) (k : ℕ) (reply : Reply) → IsCalled events puts stance
    → IsAnswer (events ++ End k reply ∷ []) k (length events) reply → IsCalled (events ++ End k reply ∷ []) puts (updated stance k resting)
called_end events puts stance k reply called answer =
    let x = End k reply in
    record {
      doing =
          λ j.
          elim (cases_eq j k) [
            | inl same ↦ rw (eq-eqb j k same, same) (under_end events k reply)
            | inr apart ↦ rw (ne_eqb j k apart) (doing_else events x (puts j) j (stance j) (λ e. apart (sym e)) (called.doing j))
          ];
      counted = λ j. let count = called.counted j in let grown : puts_now (events ++ x ∷ []) j ≡ puts_now events j + 0 = puts_grown events x j in omega arith;
      lawful = lawful_grown events x called.lawful answer;
    }

-- a call goes on
pub called_on : (events : List Event) (puts : ℕ → ℕ) (stance : ℕ → Stance) (k : ℕ) (s : Stance) → IsCalled events puts stance → Doing events (puts k) k s
    → IsCalled events puts (updated stance k s)
called_on events puts stance k s called now =
    record {
      doing =
          λ j.
          elim (cases_eq j k) [
            | inl same ↦ rw (eq-eqb j k same, same) now
            | inr apart ↦ rw (ne_eqb j k apart) (called.doing j)
          ];
      counted = called.counted;
      lawful = called.lawful;
    }
