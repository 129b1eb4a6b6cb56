-- What becomes of a pass whose values are given back, from the last place on: what it still holds (LetsGo), and which values went (Goes).
use Rattle.std.proofs.Common.{◌≡◌, ℕ, ◌≤◌, List, [], ◌∷◌, ◌++◌, length, refl, sym, ◌∙◌, ap, subst, inl, inr, arith}
use Rattle.std.specs.Prelude.{◌⊎◌, Option, Some, None, filter_map, reverse}
use Rattle.std.proofs.lemmas.Bool.{cases_eq}
use Rattle.std.proofs.lemmas.List.{reverse-append, append_assoc}
use Rattle.scq_law.specs.Exports.{times}
use Rattle.scq_queue.specs.Exports.{PassStanding, IsHeldBy, WasGivenBack, without, after_put, after_spent_put, having_seen}
use Rattle.scq_queue.proofs.HeldOnce.{IsAlike, contains_times}
use Rattle.scq_port.specs.declared.port_buffer.PortBuffer.{PortBuffer}
use Rattle.scq_port.specs.Exports.{PortQueue, Value, buffer_bytes, values_of, GaveBack, HasPassEnded, Keeps, LetsGo, StandsAt}
use Rattle.scq_queue.proofs.Leaving.{get_before, get_last, not_last}
use Rattle.scq_port.proofs.Lists.{less_here, less_other, get_past, none_at_all}

cases_spent : (o : Option ℕ) → (o ≡ None) ⊎ ((t : ℕ) × (o ≡ Some t))
cases_spent None = inl refl
cases_spent (Some t) = inr (t, refl)

pub begins : (queue : PortQueue) (p : PassStanding PortBuffer) (slots : List (Option Value)) (used hold : ℕ) → Keeps queue p slots used hold
    → LetsGo queue p slots
begins queue p slots used hold before =
    record { own = before.own; here = before.here; free = before.free; past = before.past }

-- the last place has no value
pub skips : (queue : PortQueue) (p : PassStanding PortBuffer) (slots : List (Option Value)) → LetsGo queue p (slots ++ None ∷ []) → LetsGo queue p slots
skips queue p slots before =
    record {
      own = before.own;
      here = λ i h at. before.here i h (get_before slots None (Some h) i at);
      free = λ i at. before.free i (get_before slots None None i at);
      past =
          λ i at.
          elim (cases_eq i (length slots)) [
            | inl same ↦ ap (λ k. times k p.held) same ∙ before.free (length slots) (get_last slots None)
            | inr other ↦ before.past i (get_past slots None i at other)
          ];
    }

-- the last value
stands : (queue : PortQueue) (p : PassStanding PortBuffer) (slots : List (Option Value)) (h : Value) → LetsGo queue p (slots ++ Some h ∷ [])
    → StandsAt queue p (length slots) h
stands queue p slots h before = before.here (length slots) h (get_last slots (Some h))

pub holds_last : (queue : PortQueue) (p : PassStanding PortBuffer) (slots : List (Option Value)) (h : Value) → LetsGo queue p (slots ++ Some h ∷ [])
    → IsHeldBy p h
holds_last queue p slots h before =
    let at = stands queue p slots h before in
    record {
      queue = at.queue_of ∙ sym before.own;
      pass = at.pass;
      holds =
          contains_times p.held h.index
          (let one : times h.index p.held ≡ 1 = ap (λ k. times k p.held) at.index ∙ at.holds in omega (arith, one));
    }

-- it was given back
pub gives : (queue : PortQueue) (old new : PassStanding PortBuffer) (slots : List (Option Value)) (h : Value) (place : ℕ) (w : List ℕ)
    → LetsGo queue old (slots ++ Some h ∷ []) → new ≡ having_seen new.seen (after_put 0 h.index place w old) → LetsGo queue new slots
gives queue old new slots h place w before is =
    record {
      own = ap (λ (p : PassStanding PortBuffer). p.queue) is ∙ before.own;
      here =
          λ i v at.
          let differs = not_last slots (Some v) i at in
          let was = before.here i v (get_before slots (Some h) (Some v) i at) in
          record {
            queue_of = was.queue_of;
            pass = was.pass ∙ sym (ap (λ (p : PassStanding PortBuffer). p.number) is);
            index = was.index;
            holds = ap (times i) now ∙ less_other old.held (length slots) i differs ∙ was.holds;
          };
      free =
          λ i at.
          let differs = not_last slots None i at in
          ap (times i) now ∙ less_other old.held (length slots) i differs
          ∙ before.free i (get_before slots (Some h) None i at);
      past =
          λ i at.
          elim (cases_eq i (length slots)) [
            | inl same ↦ ap (λ k. times k new.held) same ∙ ap (times (length slots)) now ∙ less_here old.held (length slots)
            | inr other ↦
                ap (times i) now ∙ less_other old.held (length slots) i other
                ∙ before.past i (get_past slots (Some h) i at other)
          ];
    }
  where
    now : new.held ≡ without (length slots) old.held
    now = ap (λ (p : PassStanding PortBuffer). p.held) is ∙ ap (λ k. without k old.held) (stands queue old slots h before).index

-- it can't be given back, since a ticket is spent: what is left is held as before
pub leaves : (queue : PortQueue) (old new : PassStanding PortBuffer) (slots : List (Option Value)) → LetsGo queue old slots → IsAlike old new
    → LetsGo new.queue new slots
leaves queue old new slots before is =
    record {
      own = refl;
      here =
          λ i h at.
          let stands = before.here i h at in
          record {
            queue_of = stands.queue_of ∙ sym (is.queue ∙ before.own);
            pass = stands.pass ∙ sym is.number;
            index = stands.index;
            holds = ap (times i) is.held ∙ stands.holds;
          };
      free = λ i at. ap (times i) is.held ∙ before.free i at;
      past = λ i at. ap (times i) is.held ∙ before.past i at;
    }

-- all are given back
pub ends : (queue : PortQueue) (p : PassStanding PortBuffer) (slots : List (Option Value)) → LetsGo queue p slots → length slots ≡ 0 → p.held ≡ []
ends queue p [] before empty = none_at_all p.held (λ i. before.past i refl)
ends queue p (x ∷ xs) before empty = absurd (omega (arith, empty))

-- the values of a list of places and its last
values_last : (slots : List (Option Value)) (o : Option Value) → values_of (slots ++ o ∷ []) ≡ filter_map (λ (x : Option Value). x) (o ∷ reverse slots)
values_last slots o = ap (λ (l : List (Option Value)). filter_map (λ (x : Option Value). x) l) (reverse-append slots (o ∷ []))

-- one more was given back
gave_more : (hs : List Value) (h : Value) (first old new : PassStanding PortBuffer) → GaveBack hs first old
    → WasGivenBack (buffer_bytes h.buffer) h.index old new → GaveBack (hs ++ h ∷ []) first new
gave_more [] h first old new is back =
    (new, subst (λ (p : PassStanding PortBuffer). WasGivenBack (buffer_bytes h.buffer) h.index p new) is back, refl)
gave_more (x ∷ xs) h first old new is back = (is.0, is.1, gave_more xs h is.0 old new is.2 back)

-- how far the giving back has come: these values were given back, and those that still stand there weren't
pub record Goes (all_slots : List (Option Value)) (first : PassStanding PortBuffer) (slots : List (Option Value)) (p : PassStanding PortBuffer) : Type 0 where
  pub given : List Value
  pub all : given ++ values_of slots ≡ values_of all_slots
  pub gave : GaveBack given first p
  pub spent : p.spent ≡ first.spent
  pub kept : (t : ℕ) → first.spent ≡ Some t → given ≡ []

pub goes_first : (slots : List (Option Value)) (p : PassStanding PortBuffer) → Goes slots p slots p
goes_first slots p = record { given = []; all = refl; gave = refl; spent = refl; kept = λ t some. refl }

-- the last place has no value
pub goes_past : (all_slots slots : List (Option Value)) (first p : PassStanding PortBuffer) → Goes all_slots first (slots ++ None ∷ []) p
    → Goes all_slots first slots p
goes_past all_slots slots first p was =
    record {
      given = was.given;
      all = ap (λ (l : List Value). was.given ++ l) (sym (values_last slots None)) ∙ was.all;
      gave = was.gave;
      spent = was.spent;
      kept = was.kept;
    }

-- the last value was given back
pub goes_back : (all_slots slots : List (Option Value)) (h : Value) (first old new : PassStanding PortBuffer)
    → Goes all_slots first (slots ++ Some h ∷ []) old → old.spent ≡ None → WasGivenBack (buffer_bytes h.buffer) h.index old new
    → Goes all_slots first slots new
goes_back all_slots slots h first old new was none back =
    record {
      given = was.given ++ h ∷ [];
      all =
          append_assoc was.given (h ∷ []) (values_of slots)
          ∙ ap (λ (l : List Value). was.given ++ l) (sym (values_last slots (Some h))) ∙ was.all;
      gave = gave_more was.given h first old new was.gave back;
      spent = ap (λ (p : PassStanding PortBuffer). p.spent) back.pass ∙ was.spent;
      kept = λ t some. absurd (let no : None ≡ Some t = sym none ∙ was.spent ∙ some in cc);
    }

-- the last value was refused: it is the first of those that are left
pub ends_refused : (all_slots slots : List (Option Value)) (h : Value) (first old new : PassStanding PortBuffer) (ticket hold : ℕ)
    → Goes all_slots first (slots ++ Some h ∷ []) old
    → (old.spent ≡ None → (new ≡ having_seen new.seen (after_spent_put 0 ticket old)) × (first.queue.setup.limit ≤ ticket))
    → ((t : ℕ) → old.spent ≡ Some t → new ≡ old) → HasPassEnded (record { pass = first; slots = all_slots; hold = hold }) new
ends_refused all_slots slots h first old new ticket hold was drew kept =
    record {
      given = was.given;
      left = values_of (slots ++ Some h ∷ []);
      all = was.all;
      before = old;
      gave = was.gave;
      home = λ none. absurd (spent none);
      drawn =
          λ t unspent some.
          let fresh = drew (was.spent ∙ unspent) in
          let now : new.spent ≡ Some ticket = ap (λ (p : PassStanding PortBuffer). p.spent) fresh.0 in
          let same : ticket ≡ t = cc in
          subst (λ (n : ℕ). (new ≡ having_seen new.seen (after_spent_put 0 n old)) × (first.queue.setup.limit ≤ n)) same fresh;
      kept =
          λ t some.
          (was.kept t some, kept t (was.spent ∙ some) ∙ subst (λ (hs : List Value). GaveBack hs first old) (was.kept t some) was.gave);
    }
  where
    spent : new.spent ≡ None → ⊥
    spent none =
        elim (cases_spent old.spent) [
          | inl fresh ↦ let now : new.spent ≡ Some ticket = ap (λ (p : PassStanding PortBuffer). p.spent) (drew fresh).0 in cc
          | inr some ↦
              let now : new.spent ≡ Some some.0 = ap (λ (p : PassStanding PortBuffer). p.spent) (kept some.0 some.1) ∙ some.1 in cc
        ]

-- no place is left
pub ends_all : (all_slots slots : List (Option Value)) (first p : PassStanding PortBuffer) (hold : ℕ) → Goes all_slots first slots p → length slots ≡ 0
    → (p.spent ≡ None → p.held ≡ []) → HasPassEnded (record { pass = first; slots = all_slots; hold = hold }) p
ends_all all_slots [] first p hold was empty home =
    record {
      given = was.given;
      left = [];
      all = was.all;
      before = p;
      gave = was.gave;
      home = λ none. (refl, refl, home none);
      drawn = λ t unspent some. absurd (let no : None ≡ Some t = sym (was.spent ∙ unspent) ∙ some in cc);
      kept = λ t some. (was.kept t some, subst (λ (hs : List Value). GaveBack hs first p) (was.kept t some) was.gave);
    }
ends_all all_slots (x ∷ xs) first p hold was empty home = absurd (omega (arith, empty))
