-- What a pass is after its seat got a value, put one, or was refused: the buffers of all that it holds are lifted in between.
use Rattle.std.proofs.Common.{◌≡◌, ◌⊎◌, ℕ, ◌<◌, ◌≤◌, List, [], ◌∷◌, ◌++◌, refl, sym, ◌∙◌, ap, subst, inl, inr}
use Rattle.std.specs.Prelude.{Option, Some, None, Result, Ok, Err}
use Rattle.std.specs.List.{Contains}
use Rattle.scq_core.specs.declared.ended.Ended.{Ended}
use Rattle.scq_core.specs.declared.ended.Ended.TheVariants.{Nothing}
use Rattle.scq_word.specs.Exports.{n_of}
use Rattle.scq_band.specs.Exports.{opening_of, known_of, Seen, WasEmptyInRun, Identity, in_hand, with_buffer, without_index, SeatHasTaken, IsAsGiven}
use Rattle.scq_band.specs.Exports.{indices_of}
use Rattle.scq_band.specs.declared.calls.DeqRefusal.{DeqRefusal}
use Rattle.scq_band.specs.declared.calls.DeqRefusal.TheVariants.{Empty, Spent as DrewSpent}
use Rattle.scq_band.specs.Standing as band
use Rattle.scq_band.specs.Standing.{Standing}
use Rattle.scq_queue.specs.Exports.{sent_by, taken_by, PassStanding, HeldStanding, IsHeldBy, HasGot, lists_of, without, having_seen, after_put}
use Rattle.scq_queue.specs.Exports.{after_get, CameOff, WasPutOn, FoundRingEmpty, WasSpent, all_lifted, AreLifted, StaysLifted, pass_over, held_of}
use Rattle.scq_queue.proofs.Hands.{indices-all_lifted, held_lifted, lifted_and_put, came_in_hand, came_and_lifted, contains_last, not_held}
use Rattle.scq_queue.proofs.Records.{same_lists, put_lists, got_lists}

-- a seat keeps a spent ticket or none
pub cases_spent : (o : Option ℕ) → (o ≡ None) ⊎ ((ticket : ℕ) × (o ≡ Some ticket))
cases_spent None = inl refl
cases_spent (Some ticket) = inr (ticket, refl)

-- a result that is a refusal, and what it says
abbrev pub failed : (T : Type 0) {E : Type 0} → E → Result T E
failed T e = Err e

abbrev refusal_or : {T E : Type 0} → E → Result T E → E
refusal_or d (Ok t) = d
refusal_or d (Err e) = e

pub same_refusal : {T E : Type 0} (r : Result T E) (x y : E) → r ≡ Err x → r ≡ Err y → x ≡ y
same_refusal r x y one other = sym (ap (refusal_or x) one) ∙ ap (refusal_or x) other

module _ {B : Type 0} where
  -- a value that the pass holds is lifted in its seat's hand
  pub value_lifted : (s : Standing B) (fulls : List ℕ) (h : HeldStanding B) → AreLifted s → IsHeldBy (pass_over s fulls) h
      → in_hand s.hand h.index ≡ Some None
  value_lifted s fulls h lifted held =
      ap (λ (hand : List (ℕ × Option B)). in_hand hand h.index) lifted ∙ held_lifted B (indices_of s.hand) h.index held.holds

  pub value_at : (s : Standing B) (fulls : List ℕ) (h v : HeldStanding B) → v ≡ h → AreLifted s → IsHeldBy (pass_over s fulls) h
      → in_hand s.hand v.index ≡ Some None
  value_at s fulls h v is lifted held =
      ap (λ (u : HeldStanding B). in_hand s.hand u.index) is ∙ value_lifted s fulls h lifted held

  -- a hand with these indices and no buffer laid
  lifted_with : (s : Standing B) (held : List ℕ) → s.hand ≡ all_lifted held → AreLifted s × (indices_of s.hand ≡ held)
  lifted_with s held is =
      let indices : indices_of s.hand ≡ held = ap indices_of is ∙ indices-all_lifted B held in
      (is ∙ ap all_lifted (sym indices), indices)

  -- a seat that has the hand of one whose buffers are lifted, and a seat after a call
  same_hand : (s t : Standing B) → AreLifted s → t.hand ≡ s.hand → t.band ≡ s.band → t.number ≡ s.number → t.gate ≡ s.gate → StaysLifted s t
  same_hand s t lifted hand band number gate =
      record { own = (band, number); lifted = (lifted_with t (indices_of s.hand) (hand ∙ lifted)).0; gate = gate }

  stays_as : (s t later : Standing B) → StaysLifted s t → later ≡ t → StaysLifted s later
  stays_as s t later stays is = subst (λ (u : Standing B). StaysLifted s u) (sym is) stays

  -- a call that was refused for a spent ticket: what the seat is that drew it now, and what its pass is
  module _ {X : ℕ → Type 0} (queue : Identity B) (ticket : ℕ) (s after later : Standing B)
      (spent : s.spent ≡ None → (later ≡ band.having_seen later.seen after) × (queue.setup.limit ≤ ticket))
      (kept : (old : ℕ) → s.spent ≡ Some old → X old × (later ≡ s)) where
    pub spent_stays : AreLifted s → after.hand ≡ s.hand → after.band ≡ s.band → after.number ≡ s.number → after.gate ≡ s.gate → StaysLifted s later
    spent_stays lifted hand band number gate =
        elim (cases_spent s.spent) [
          | inl none ↦ stays_as s _ later (same_hand s _ lifted hand band number gate) (spent none).0
          | inr some ↦ stays_as s s later (same_hand s s lifted refl refl refl refl) (kept some.0 some.1).1
        ]

    pub was_spent : (e : Ended) (fulls : List ℕ) → sent_by e ≡ None → taken_by e ≡ None → after.calls ≡ s.calls ++ e ∷ []
        → WasSpent queue ticket (pass_over after fulls) (pass_over s fulls) (pass_over later fulls)
    was_spent e fulls no_send no_take calls =
        record {
          drawn = λ none. (ap (λ (t : Standing B). pass_over t fulls) (spent none).0, (spent none).1);
          lists =
              elim (cases_spent s.spent) [
                | inl none ↦
                    same_lists (pass_over s fulls) (pass_over later fulls) refl e no_send no_take (ap (λ (t : Standing B). t.calls) (spent none).0 ∙ calls)
                | inr some ↦ ap (λ (t : Standing B). lists_of (pass_over t fulls)) (kept some.0 some.1).1
              ];
        }

  -- a seat that found a ring empty, and its pass
  pub found_empty : (contents : B → List ℕ) (queue : Identity B) (s later : Standing B) (ring head : ℕ) (fulls : List ℕ) → band.SeatFoundEmpty ring head s later
      → WasEmptyInRun queue.setup (opening_of contents queue.given) ring head (band.caller_of s) (band.caller_of later)
      → FoundRingEmpty contents queue ring head (pass_over s fulls) (pass_over later fulls)
  found_empty contents queue s later ring head fulls found was =
      let is = ap (λ (t : Standing B). pass_over t fulls) found.seat in
      record {
        found = record { drawn = found.drawn; pass = is; known = found.known; below = found.below; past = found.past };
        in_run = was;
        lists = same_lists (pass_over s fulls) (pass_over later fulls) refl (Nothing ring) refl refl (ap (λ (p : PassStanding B). p.calls) is);
      }

  -- a get that was refused leaves the hand
  pub refused_stays : {X : ℕ → Type 0} {T : Type 0} (queue : Identity B) (s later : Standing B) (ring : ℕ) (refusal : DeqRefusal) → AreLifted s
      → ((head : ℕ) → failed T refusal ≡ Err (Empty head) → band.SeatFoundEmpty ring head s later)
      → ((ticket : ℕ) → failed T refusal ≡ Err (DrewSpent ticket) → s.spent ≡ None
      → (later ≡ band.having_seen later.seen (band.seat_after_spent_get ring ticket s)) × (queue.setup.limit ≤ ticket))
      → ((ticket : ℕ) → s.spent ≡ Some ticket → X ticket × (later ≡ s)) → StaysLifted s later
  refused_stays queue s later ring (Empty head) lifted empty spent kept =
      stays_as s _ later (same_hand s _ lifted refl refl refl refl) (empty head refl).seat
  refused_stays queue s later ring (DrewSpent ticket) lifted empty spent kept =
      spent_stays queue ticket s (band.seat_after_spent_get ring ticket s) later (spent ticket refl) kept lifted refl refl refl refl

  -- what a pass is whose value was put
  module _ (queue : Identity B) (s later : Standing B) (ring i place : ℕ) (bytes : List ℕ) (lifted : AreLifted s)
      (is : later ≡ band.having_seen later.seen (band.seat_after_put ring i place bytes s)) where
    left : later.hand ≡ all_lifted (without i (indices_of s.hand))
    left = ap (λ (t : Standing B). t.hand) is ∙ ap (without_index i) lifted ∙ lifted_and_put (indices_of s.hand) i

    pub put_stays : StaysLifted s later
    put_stays =
        record {
          own = (ap (λ (t : Standing B). t.band) is, ap (λ (t : Standing B). t.number) is);
          lifted = (lifted_with later (without i (indices_of s.hand)) left).0;
          gate = ap (λ (t : Standing B). t.gate) is;
        }

    pub put_value : (fulls : List ℕ) → (place < queue.setup.limit) × ((known_of s.numbers ring).seen < place)
        → WasPutOn queue ring place i bytes (pass_over s fulls) (pass_over later fulls)
    put_value fulls at =
        let gone : indices_of (without_index i s.hand) ≡ without i (indices_of s.hand) =
        ap (λ (t : Standing B). indices_of t.hand) (sym is) ∙ (lifted_with later (without i (indices_of s.hand)) left).1 in
        record {
          pass =
              ap (λ (t : Standing B). pass_over t fulls) is
              ∙ ap (λ (h : List ℕ). record (having_seen later.seen (after_put ring i place bytes (pass_over s fulls))) { held = h }) gone;
          low = at.0;
          known = at.1;
          lists = put_lists (pass_over s fulls) (pass_over later fulls) refl ring place bytes (ap (λ (t : Standing B). t.calls) is);
        }

  -- a value that was got is in the hand, and lifted from there it is held
  module _ (contents : B → List ℕ) (IsSame : B → B → Type 0) (s got : Standing B) (ring place i : ℕ) (lifted : AreLifted s)
      (taken : SeatHasTaken contents IsSame ring place i s got) where
    pub value_came : in_hand got.hand i ≡ Some (Some taken.buffer)
    value_came = ap (λ (t : Standing B). in_hand t.hand i) taken.seat ∙ came_in_hand s.hand i (Some taken.buffer) taken.came

    module _ (later : Standing B) (b : B) (is_lifted : in_hand got.hand i ≡ Some (Some b))
        (is_later : later ≡ record got { hand = with_buffer i None got.hand }) where
      hand_now : later.hand ≡ all_lifted (indices_of s.hand ++ i ∷ [])
      hand_now =
          ap (λ (t : Standing B). t.hand) is_later ∙ ap (λ (t : Standing B). with_buffer i None t.hand) taken.seat
          ∙ ap (λ (h : List (ℕ × Option B)). with_buffer i None (h ++ (i, Some taken.buffer) ∷ [])) lifted
          ∙ came_and_lifted (indices_of s.hand) i (Some taken.buffer)

      same_buffer : taken.buffer ≡ b
      same_buffer = let came = value_came in let is = is_lifted in cc

      pub got_stays : StaysLifted s later
      got_stays =
          record {
            own = (
              ap (λ (t : Standing B). t.band) is_later ∙ ap (λ (t : Standing B). t.band) taken.seat,
              ap (λ (t : Standing B). t.number) is_later ∙ ap (λ (t : Standing B). t.number) taken.seat,
            );
            lifted = (lifted_with later (indices_of s.hand ++ i ∷ []) hand_now).0;
            gate = ap (λ (t : Standing B). t.gate) is_later ∙ ap (λ (t : Standing B). t.gate) taken.seat;
          }

      pub got_value : (fulls : List ℕ) → HasGot contents ring place (pass_over s fulls) (pass_over later fulls) (held_of later i b)
      got_value fulls =
          let indices = (lifted_with later (indices_of s.hand ++ i ∷ []) hand_now).1 in
          record {
            pass =
                ap (λ (t : Standing B). pass_over t fulls) is_later
                ∙ ap (λ (h : List ℕ). record (pass_over got fulls) { held = h }) (ap (λ (t : Standing B). indices_of t.hand) (sym is_later) ∙ indices)
                ∙ ap (λ (t : Standing B). record (pass_over t fulls) { held = indices_of s.hand ++ i ∷ [] }) taken.seat
                ∙ ap (λ (c : B). having_seen got.seen (after_get ring i place (contents c) (pass_over s fulls))) same_buffer
                ∙ ap (λ (fs : Seen). record (after_get ring i place (contents b) (pass_over s fulls)) { seen = fs })
                (sym (ap (λ (t : Standing B). t.seen) is_later));
            held = record { queue = refl; pass = refl; holds = subst (λ (h : List ℕ). Contains h i) (sym indices) (contains_last (indices_of s.hand) i) };
            came = not_held B (indices_of s.hand) i (ap (λ (h : List (ℕ × Option B)). in_hand h i) (sym lifted) ∙ taken.came);
          }

  -- it came off the ring, whichever seat is said to own it
  pub came_off : (contents : B → List ℕ) (IsSame : B → B → Type 0) (queue : Identity B) (ring place i : ℕ) (b : B) (s later owner : Standing B) (fulls : List ℕ)
      → owner ≡ later → HasGot contents ring place (pass_over s fulls) (pass_over later fulls) (held_of later i b)
      → (place < queue.setup.limit) × ((known_of s.numbers ring).head ≤ place) → IsAsGiven IsSame queue.given i b → i < n_of queue.setup.order
      → CameOff contents IsSame queue ring place (pass_over s fulls) (pass_over later fulls) (held_of owner i b)
  came_off contents IsSame queue ring place i b s later owner fulls is got at given low =
      record {
        got =
            subst (λ (o : Standing B). HasGot contents ring place (pass_over s fulls) (pass_over later fulls) (held_of o i b)) (sym is) got;
        low = at.0;
        known = at.1;
        given = given;
        index = low;
        lists =
            got_lists (pass_over s fulls) (pass_over later fulls) refl ring place (contents b) (ap (λ (p : PassStanding B). p.calls) got.pass);
      }
