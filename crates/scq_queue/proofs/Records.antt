-- The sends and takes of a record: what a call adds to them, and where each stands among the calls.
use Rattle.std.proofs.Common.{◌≡◌, ◌⊎◌, ℕ, zero, suc, ◌+◌, cond, List, [], ◌∷◌, ◌++◌, length, take, refl, sym, ◌∙◌, ap, inl, inr, arith}
use Rattle.std.specs.Prelude.{Option, Some, None, ◌==◌, slice_get}
use Rattle.std.specs.List.{filter_map}
use Rattle.std.proofs.lemmas.List.{append-nil}
use Rattle.std.proofs.lemmas.List.Elements.{filter_map-append}
use Rattle.std.proofs.lemmas.List.Sums.{sum_by-append}
use Rattle.std.proofs.Math.Dec.{eqb-suc-suc, eqb-zero-suc}
use Rattle.scq_core.specs.declared.ended.Ended.{Ended}
use Rattle.scq_core.specs.declared.ended.Ended.TheVariants.{Done, Got, Nothing, Spent}
use Rattle.scq_law.specs.Exports.{tally, was_done, was_got}
use Rattle.scq_queue.specs.Exports.{Placed, sent_by, taken_by, sends_of, takes_of, on_topic, with_put, with_got, PassStanding, lists_of}

-- a record with more calls
pub sends-append : (xs ys : List Ended) → sends_of (xs ++ ys) ≡ sends_of xs ++ sends_of ys
sends-append xs ys = filter_map-append sent_by xs ys

pub takes-append : (xs ys : List Ended) → takes_of (xs ++ ys) ≡ takes_of xs ++ takes_of ys
takes-append xs ys = filter_map-append taken_by xs ys

-- the sends and takes of a record with one call more that is none
sends_none : (calls : List Ended) (e : Ended) → sent_by e ≡ None → sends_of (calls ++ e ∷ []) ≡ sends_of calls
sends_none calls e none = sends-append calls (e ∷ []) ∙ rw none (append-nil (sends_of calls))

takes_none : (calls : List Ended) (e : Ended) → taken_by e ≡ None → takes_of (calls ++ e ∷ []) ≡ takes_of calls
takes_none calls e none = takes-append calls (e ∷ []) ∙ rw none (append-nil (takes_of calls))

-- the lists of a pass with one call more
module _ {B : Type 0} (p q : PassStanding B) (fulls : q.fulls ≡ p.fulls) where
  pub same_lists : (e : Ended) → sent_by e ≡ None → taken_by e ≡ None → q.calls ≡ p.calls ++ e ∷ [] → lists_of q ≡ lists_of p
  same_lists e no_send no_take calls =
      rw (ap sends_of calls ∙ sends_none p.calls e no_send, ap takes_of calls ∙ takes_none p.calls e no_take, fulls) refl

  pub put_lists : (ring place : ℕ) (w : List ℕ) → q.calls ≡ p.calls ++ Done ring place w ∷ [] → lists_of q ≡ with_put ring place w (lists_of p)
  put_lists zero place w calls = same_lists (Done 0 place w) refl refl calls
  put_lists (suc t) place w calls =
      rw (ap sends_of calls ∙ sends-append p.calls (Done (suc t) place w ∷ []), ap takes_of calls ∙ takes_none p.calls (Done (suc t) place w) refl, fulls) refl

  pub got_lists : (ring place : ℕ) (w : List ℕ) → q.calls ≡ p.calls ++ Got ring place w ∷ [] → lists_of q ≡ with_got ring place w (lists_of p)
  got_lists zero place w calls = same_lists (Got 0 place w) refl refl calls
  got_lists (suc t) place w calls =
      rw (ap sends_of calls ∙ sends_none p.calls (Got (suc t) place w) refl, ap takes_of calls ∙ takes-append p.calls (Got (suc t) place w ∷ []), fulls) refl

-- the call by which a member came into a list: its position, and that the member's number is how many came before
pub record CameBy (h : Ended → Option Placed) (calls : List Ended) (number : ℕ) (m : Placed) : Type 0 where
  pub at : ℕ
  pub call : Ended
  pub is : slice_get calls at ≡ Some call
  pub gives : h call ≡ Some m
  pub before : number ≡ length (filter_map h (take at calls))

cases_given : (o : Option Placed) → (o ≡ None) ⊎ ((m : Placed) × (o ≡ Some m))
cases_given None = inl refl
cases_given (Some m) = inr (m, refl)

later : (h : Ended → Option Placed) (x : Ended) (xs : List Ended) (k n : ℕ) (m : Placed) → (c : CameBy h xs k m)
    → n ≡ length (filter_map h (x ∷ take c.at xs)) → CameBy h (x ∷ xs) n m
later h x xs k n m c e = record { at = suc c.at; call = c.call; is = c.is; gives = c.gives; before = e }

pub came_by : (h : Ended → Option Placed) (calls : List Ended) (k : ℕ) (m : Placed) → slice_get (filter_map h calls) k ≡ Some m → CameBy h calls k m
came_by h [] k m e = absurd (cc)
came_by h (x ∷ xs) k m e =
    elim (cases_given (h x)) [
      | inl none ↦
          let rest = came_by h xs k m (rw none at e) in
          later h x xs k k m rest (rw none rest.before)
      | inr some ↦ here (λ j is. came_by h xs j m is) k some.0 (rw some.1 at e) some.1
    ]
  where
    here : ((j : ℕ) → slice_get (filter_map h xs) j ≡ Some m → CameBy h xs j m) → (j : ℕ) (a : Placed) → slice_get (a ∷ filter_map h xs) j ≡ Some m
        → h x ≡ Some a → CameBy h (x ∷ xs) j m
    here behind zero a is given =
        let same : a ≡ m = cc in
        record { at = 0; call = x; is = refl; gives = given ∙ ap (λ (u : Placed). Some u) same; before = refl }
    here behind (suc j) a is given =
        let rest = behind j is in
        let more : suc j ≡ suc (length (filter_map h (take rest.at xs))) = ap (λ (n : ℕ). suc n) rest.before in
        later h x xs j (suc j) m rest (rw given more)

-- a call that gives a member stands for one of the list
pub gives_one : (h : Ended → Option Placed) (calls : List Ended) (at : ℕ) (call : Ended) (m : Placed) → slice_get calls at ≡ Some call → h call ≡ Some m
    → (k : ℕ) × (slice_get (filter_map h calls) k ≡ Some m)
gives_one h [] at call m is gives = absurd (cc)
gives_one h (x ∷ xs) zero call m is gives =
    let same : x ≡ call = cc in
    let given : h x ≡ Some m = ap h same ∙ gives in
    (0, rw given refl)
gives_one h (x ∷ xs) (suc at) call m is gives =
    let rest = gives_one h xs at call m is gives in
    elim (cases_given (h x)) [
      | inl none ↦ (rest.0, rw none rest.1)
      | inr some ↦ (suc rest.0, rw some.1 rest.1)
    ]

-- what a call must be that gives a member
pub sent_call : (call : Ended) (m : Placed) → sent_by call ≡ Some m → call ≡ Done (suc m.topic) m.place m.bytes
sent_call (Done zero p w) m e = absurd (cc)
sent_call (Done (suc t) p w) m e =
    let same : (record { topic = t; place = p; bytes = w }) ≡ m = cc in
    ap (λ (u : Placed). Done (suc u.topic) u.place u.bytes) same
sent_call (Got r p w) m e = absurd (cc)
sent_call (Nothing r) m e = absurd (cc)
sent_call (Spent r t is_put) m e = absurd (cc)

pub taken_call : (call : Ended) (m : Placed) → taken_by call ≡ Some m → call ≡ Got (suc m.topic) m.place m.bytes
taken_call (Got zero p w) m e = absurd (cc)
taken_call (Got (suc t) p w) m e =
    let same : (record { topic = t; place = p; bytes = w }) ≡ m = cc in
    ap (λ (u : Placed). Got (suc u.topic) u.place u.bytes) same
taken_call (Done r p w) m e = absurd (cc)
taken_call (Nothing r) m e = absurd (cc)
taken_call (Spent r t is_put) m e = absurd (cc)

-- the calls that count for a topic are as many as the members of the topic that all calls give, where each call counts for what it gives
tallied : (t : ℕ) (count : Ended → ℕ) (h : Ended → Option Placed) → ((e : Ended) → count e ≡ on_topic t (filter_map h (e ∷ [])))
    → (calls : List Ended) → tally count calls ≡ on_topic t (filter_map h calls)
tallied t count h one [] = refl
tallied t count h one (x ∷ xs) =
    rw (one x, tallied t count h one xs)
    (sym (ap (on_topic t) (filter_map-append h (x ∷ []) xs)
    ∙ sum_by-append (λ (u : Placed). cond (u.topic == t) 1 0) (filter_map h (x ∷ [])) (filter_map h xs)))

-- the puts that a record has of a topic's ring are its sends of the topic, and the gets its takes
pub done_sent : (t : ℕ) (calls : List Ended) → tally (was_done (suc t)) calls ≡ on_topic t (sends_of calls)
done_sent t = tallied t (was_done (suc t)) sent_by one
  where
    one : (e : Ended) → was_done (suc t) e ≡ on_topic t (sends_of (e ∷ []))
    one (Done zero p w) = rw (eqb-zero-suc t) refl
    one (Done (suc q) p w) = rw (eqb-suc-suc q t) (omega arith)
    one (Got r p w) = refl
    one (Nothing r) = refl
    one (Spent r k is_put) = refl

pub got_taken : (t : ℕ) (calls : List Ended) → tally (was_got (suc t)) calls ≡ on_topic t (takes_of calls)
got_taken t = tallied t (was_got (suc t)) taken_by one
  where
    one : (e : Ended) → was_got (suc t) e ≡ on_topic t (takes_of (e ∷ []))
    one (Done r p w) = refl
    one (Got zero p w) = rw (eqb-zero-suc t) refl
    one (Got (suc q) p w) = rw (eqb-suc-suc q t) (omega arith)
    one (Nothing r) = refl
    one (Spent r k is_put) = refl
