-- What calls make of a port, put together of what the queue says of them.
use Rattle.std.proofs.Common.{◌≡◌, ℕ, suc, ◌+◌, ◌-◌, ◌<◌, ◌≤◌, List, refl, sym, ◌∙◌, ap, subst, arith}
use Rattle.std.specs.Prelude.{◌==◌, if◌then◌else◌, Bool, true, false, is_none, Option, Some, None, Result, Err, slice_get, slice_set}
use Rattle.std.proofs.lemmas.Bool.{eqb-true}
use Rattle.scq_word.specs.Exports.{n_of}
use Rattle.scq_band.specs.Exports.{opening_of, Caller, IsCallInRun, WasEmptyInRun, IsReadingInRun, WasCountedInRun, AllWereSeenRetired}
use Rattle.scq_queue.specs.Exports.{PassStanding, HasGot, having_seen, caller_of, after_look, after_put, WasSpent, PutWasSpent, IsInRun as IsInQueueRun}
use Rattle.scq_queue.proofs.HeldOnce.{IsAlike}
use Rattle.scq_port.specs.declared.hand.Hand.{Hand}
use Rattle.scq_port.specs.declared.port_buffer.PortBuffer.{PortBuffer}
use Rattle.scq_port.specs.Exports.{PortStanding, PortQueue, Value, buffer_bytes, Came, ValueWent, IsSpent, PortHasRetired, HasAsked, HasCounted}
use Rattle.scq_port.specs.Exports.{Keeps, KeepsHand, StillKeeps, seen_as, HoldsNoSuch, IsSpentPut}
use Rattle.scq_band.specs.declared.calls.Spent.{Spent}
use Rattle.scq_port.proofs.Keeping.{keeps_more, keeps_less, keeps_alike, none_held}
use Rattle.scq_port.proofs.Lists.{set_here, set_back}

-- what is none of those that would be there isn't there
pub unspent : (o : Option ℕ) → ((t : ℕ) → o ≡ Some t → ⊥) → o ≡ None
unspent None none = refl
unspent (Some t) none = absurd (none t refl)

-- a port by its parts
pub same_port : (old new : PortStanding) → new.pass ≡ old.pass → new.slots ≡ old.slots → new.hold ≡ old.hold → new ≡ old
same_port old new p s h = λ i. record { pass = p i; slots = s i; hold = h i }

-- what is kept, in other words
keeps_as : (queue : PortQueue) (p : PassStanding PortBuffer) (slots now : List (Option Value)) (room count hold most : ℕ) → Keeps queue p slots room hold
    → now ≡ slots → count ≡ room → most ≡ hold → Keeps queue p now count most
keeps_as queue p slots now room count hold most before s u h =
    subst (λ (m : ℕ). Keeps queue p now count m) (sym h)
    (subst (λ (n : ℕ). Keeps queue p now n hold) (sym u) (subst (λ (l : List (Option Value)). Keeps queue p l room hold) (sym s) before))

-- what is said of the queue's setup is said of the pass's queue
module _ {queue : PortQueue} {old : PassStanding PortBuffer} {slots : List (Option Value)} {room hold : ℕ} (kept : Keeps queue old slots room hold) where
  pub in_run : {new : Caller} → IsCallInRun queue.setup (opening_of buffer_bytes queue.given) (caller_of old) new
      → IsCallInRun old.queue.setup (opening_of buffer_bytes old.queue.given) (caller_of old) new
  in_run {new = new} is = subst (λ (q : PortQueue). IsCallInRun q.setup (opening_of buffer_bytes q.given) (caller_of old) new) (sym kept.own) is

  pub empty_in_run : {ring head : ℕ} {new : Caller} → WasEmptyInRun queue.setup (opening_of buffer_bytes queue.given) ring head (caller_of old) new
      → WasEmptyInRun old.queue.setup (opening_of buffer_bytes old.queue.given) ring head (caller_of old) new
  empty_in_run {ring = ring} {head = head} {new = new} is =
      subst (λ (q : PortQueue). WasEmptyInRun q.setup (opening_of buffer_bytes q.given) ring head (caller_of old) new) (sym kept.own) is

  pub low_of : (place : ℕ) → place < queue.setup.limit → place < old.queue.setup.limit
  low_of place low = subst (λ (q : PortQueue). place < q.setup.limit) (sym kept.own) low

  pub there_of : (topic : ℕ) → topic + 1 < queue.setup.rings → topic + 1 < old.queue.setup.rings
  there_of topic there = subst (λ (q : PortQueue). topic + 1 < q.setup.rings) (sym kept.own) there

-- what a pass keeps with its values: where a value came, and where it holds what it held
module _ {queue : PortQueue} {old new : PassStanding PortBuffer} (before : Hand) {after : Hand} (kept : KeepsHand queue old before) where
  pub still_more : {h : Value} {ring place : ℕ} → HasGot buffer_bytes ring place old new h → h.index < n_of queue.setup.order → 0 < before.room
      → after.slots.items ≡ slice_set before.slots.items h.index (Some h) → (after.room ≡ before.room - 1) × (after.hold ≡ before.hold)
      → StillKeeps queue old new after
  still_more {h = h} {ring = ring} {place = place} got low room slots rest =
      record {
        keeps =
            keeps_as queue new _ _ (before.room - 1) _ before.hold _
            (keeps_more queue old new before.slots.items before.room before.hold h ring place (buffer_bytes h.buffer) kept got.pass got.held got.came low room)
            slots rest.0 rest.1;
        number = ap (λ (p : PassStanding PortBuffer). p.number) got.pass;
        retired = ap (λ (p : PassStanding PortBuffer). p.retired) got.pass;
      }

  pub still_alike : IsAlike old new → after.slots.items ≡ before.slots.items → (after.room ≡ before.room) × (after.hold ≡ before.hold)
      → StillKeeps queue old new after
  still_alike alike slots rest =
      record {
        keeps =
            keeps_as queue new _ _ before.room _ before.hold _
            (keeps_alike queue old new before.slots.items before.room before.hold kept alike) slots rest.0 rest.1;
        number = alike.number;
        retired = alike.retired;
      }

pub came_of : {queue : PortQueue} {p q : PassStanding PortBuffer} (before after : Hand) {h : Value} → KeepsHand queue p before → 0 < before.room
    → after.slots.items ≡ slice_set before.slots.items h.index (Some h) → after.hold ≡ before.hold → h.index < n_of queue.setup.order
    → Came (seen_as p before) (seen_as q after) h
came_of before after {h = h} kept room slots hold low =
    record {
      room = let r = kept.room_is in omega (arith, r, room);
      slots = slots;
      hold = hold;
      index = subst (λ (q : PortQueue). h.index < n_of q.setup.order) (sym kept.own) low;
    }

pub spent_of : {queue : PortQueue} {after : PassStanding PortBuffer} {ticket : ℕ} {old new : PortStanding} {slots : List (Option Value)} {room hold : ℕ}
    → Keeps queue old.pass slots room hold → WasSpent queue ticket after old.pass new.pass
    → (old.pass.spent ≡ None → IsInQueueRun buffer_bytes queue old.pass new.pass)
    → ((t : ℕ) → old.pass.spent ≡ Some t → (t ≡ ticket) × (new.pass ≡ old.pass)) → new.slots ≡ old.slots → new.hold ≡ old.hold → IsSpent after ticket old new
spent_of {ticket = ticket} {old = old} {new = new} kept spent run same slots hold =
    record {
      drawn =
          λ none. (
            (spent.drawn none).0,
            subst (λ (q : PortQueue). q.setup.limit ≤ ticket) (sym kept.own) (spent.drawn none).1,
            in_run kept (run none),
          );
      kept = λ t some. ((same t some).0, same_port old new (same t some).1 slots hold);
      lists = spent.lists;
      holds = record { slots = slots; hold = hold };
    }

-- the ticket that a refused put answers is the one that was kept
abbrev failed : (R : Type 0) → Value → Spent → Result R (Value × Spent)
failed R v s = Err (v, s)

pub kept_ticket : {R : Type 0} (v h : Value) (s : Spent) (t : ℕ) → failed R v s ≡ failed R h (record { ticket = t }) → t ≡ s.ticket
kept_ticket v h s t is = let both : (v, s) ≡ (h, record { ticket = t }) = cc in sym (ap (λ (p : Value × Spent). p.1.ticket) both)

-- where no value of an index was taken out, the port is as it was, and holds none
pub none_out : {queue : PortQueue} {p : PassStanding PortBuffer} (before out : Hand) (i : ℕ) → KeepsHand queue p before
    → (out.slots.items ≡ before.slots.items) × ((h : Value) → slice_get before.slots.items i ≡ Some (Some h) → ⊥) → out.hold ≡ before.hold
    → HoldsNoSuch i (seen_as p before) (seen_as p out)
none_out {p = p} before out i kept none hold =
    record { same = same_port (seen_as p before) (seen_as p out) refl none.0 hold; none = none_held i kept none.1 }

-- a value that was taken out is the one that was held, and its place is free then
module _ {queue : PortQueue} {p : PassStanding PortBuffer} (before out : Hand) (i : ℕ) {h : Value} (kept : KeepsHand queue p before)
    (was : (slice_get before.slots.items i ≡ Some (Some h)) × (out.slots.items ≡ slice_set before.slots.items i None))
    (rest : (out.room ≡ before.room) × (out.hold ≡ before.hold)) where
  at_index : h.index ≡ i
  at_index = (kept.here i h was.0).index

  pub went_out : {q : PassStanding PortBuffer} → ValueWent (seen_as p before) (seen_as q out) h
  went_out =
      record {
        was = subst (λ (k : ℕ). slice_get before.slots.items k ≡ Some (Some h)) (sym at_index) was.0;
        slots = was.1 ∙ ap (λ (k : ℕ). slice_set before.slots.items k None) (sym at_index);
        hold = rest.1;
      }

  -- where it went for good there is one less
  module _ {q : PassStanding PortBuffer} (ring place : ℕ) (w : List ℕ) (is : q ≡ having_seen q.seen (after_put ring h.index place w p)) where
    less : (before.room < before.hold) × Keeps queue q (slice_set before.slots.items i None) (before.room + 1) before.hold
    less = keeps_less queue p q before.slots.items before.room before.hold i h ring place w kept was.0 is

    pub room_grows : out.room < before.hold
    room_grows = subst (λ (n : ℕ). n < before.hold) (sym rest.0) less.0

    pub still_less : StillKeeps queue p q (record out { room = out.room + 1 })
    still_less =
        record {
          keeps = keeps_as queue q _ _ (before.room + 1) _ before.hold _ less.1 was.1 (ap (λ (n : ℕ). n + 1) rest.0) rest.1;
          number = ap (λ (x : PassStanding PortBuffer). x.number) is;
          retired = ap (λ (x : PassStanding PortBuffer). x.retired) is;
        }

  -- where it came back its place is free for it, and it is at its place again, where it was put back
  module _ {v : Value} (back : v ≡ h) where
    pub free_again : slice_get out.slots.items v.index ≡ Some None
    free_again =
        subst (λ (u : Value). slice_get out.slots.items u.index ≡ Some None) (sym back)
        (subst (λ (k : ℕ). slice_get out.slots.items k ≡ Some None) (sym at_index)
        (subst (λ (l : List (Option Value)). slice_get l i ≡ Some None) (sym was.1) (set_here before.slots.items i (Some h) None was.0)))

    module _ (after : Hand) (put : after.slots.items ≡ slice_set out.slots.items v.index (Some v))
        (still : (after.room ≡ out.room) × (after.hold ≡ out.hold)) where
      put_back : after.slots.items ≡ before.slots.items
      put_back =
          put ∙ ap (λ (u : Value). slice_set out.slots.items u.index (Some u)) back ∙ ap (λ (k : ℕ). slice_set out.slots.items k (Some h)) at_index
          ∙ ap (λ (l : List (Option Value)). slice_set l i (Some h)) was.1 ∙ set_back before.slots.items i (Some h) None was.0

      pub still_back : {q : PassStanding PortBuffer} → IsAlike p q → StillKeeps queue p q after
      still_back alike = still_alike before kept alike put_back (still.0 ∙ rest.0, still.1 ∙ rest.1)

      pub spent_back : {q : PassStanding PortBuffer} {R : Type 0} {s : Spent} (ring : ℕ) → PutWasSpent queue ring s.ticket p q → (p.spent ≡ None → IsInQueueRun buffer_bytes queue p q)
          → ((t : ℕ) → p.spent ≡ Some t → (failed R v s ≡ failed R h (record { ticket = t })) × (q ≡ p))
          → IsSpentPut ring s.ticket (seen_as p before) (seen_as q after)
      spent_back {s = s} ring spent run same =
          spent_of kept spent run (λ t some. (kept_ticket v h s t (same t some).0, (same t some).1)) put_back (still.1 ∙ rest.1)

-- a port that asked whether all had retired
pub asked_of : (queue : PortQueue) (old new : PortStanding) (answer : Bool) (found : ℕ) → old.pass.queue ≡ queue
    → new.pass ≡ having_seen new.pass.seen (after_look found old.pass) → new.slots ≡ old.slots → new.hold ≡ old.hold
    → IsReadingInRun queue.setup (opening_of buffer_bytes queue.given) old.pass.retired (caller_of old.pass) (caller_of new.pass) found
    → (AllWereSeenRetired queue.setup old.pass.seen → answer ≡ true) → answer ≡ (found == 0) → HasAsked found old new
asked_of queue old new answer found own looked slots hold run told is =
    record {
      looked = same_port (record old { pass = having_seen new.pass.seen (after_look found old.pass) }) new looked slots hold;
      in_run =
          subst (λ (q : PortQueue).
          IsReadingInRun q.setup (opening_of buffer_bytes q.given) old.pass.retired (caller_of old.pass) (caller_of new.pass) found) (sym own) run;
      told =
          λ all.
          eqb-true found 0
          (sym is ∙ told (subst (λ (q : PortQueue). AllWereSeenRetired q.setup old.pass.seen) own all));
    }

-- a port that counted what stands on a topic
pub counted_of : (queue : PortQueue) (old new : PortStanding) (topic count : ℕ) → old.pass.queue ≡ queue
    → topic + 1 < queue.setup.rings → new.pass ≡ having_seen new.pass.seen old.pass → new.slots ≡ old.slots → new.hold ≡ old.hold
    → count ≤ n_of queue.setup.order
    → WasCountedInRun queue.setup (opening_of buffer_bytes queue.given) (suc topic) count (caller_of old.pass) (caller_of new.pass)
    → HasCounted topic count old new
counted_of queue old new topic count own there seen slots hold most run =
    record {
      there = subst (λ (q : PortQueue). topic + 1 < q.setup.rings) (sym own) there;
      seen = same_port (record old { pass = having_seen new.pass.seen old.pass }) new seen slots hold;
      at_most = subst (λ (q : PortQueue). count ≤ n_of q.setup.order) (sym own) most;
      in_run =
          subst (λ (q : PortQueue).
          WasCountedInRun q.setup (opening_of buffer_bytes q.given) (suc topic) count (caller_of old.pass) (caller_of new.pass)) (sym own) run;
    }

-- a port whose pass isn't awake has retired
pub retired_of : (x : PortStanding) (awake : Bool) → awake ≡ is_none x.pass.retired → awake ≡ false → PortHasRetired x x
retired_of x awake is isnt = by x.pass.retired refl
  where
    by : (o : Option ℕ) → x.pass.retired ≡ o → PortHasRetired x x
    by None e = let all : true ≡ false = sym (ap (λ (p : Option ℕ). is_none p) e) ∙ sym is ∙ isnt in absurd (cc)
    by (Some calls) e = record { same = refl; calls = calls; retired = e }

-- a port that may send on none of its topics isn't awake
pub asleep_of : (awake : Bool) {many sends topic : ℕ} → sends ≡ (if awake then many else 0) → sends ≤ topic → topic < many → awake ≡ false
asleep_of true is low there = absurd (omega (arith, is, low, there))
asleep_of false is low there = refl
