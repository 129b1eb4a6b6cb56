-- What each call answers, one lemma for each of its numbers.
use Rattle.std.proofs.Common.{◌≡◌, None, ℕ, suc, eqb, false, refl, inl, inr}
use Rattle.std.proofs.lemmas.Bool.{eqb-false}
use Rattle.scq_port.specs.Exports.{PortStanding, IsLent, ValueIsTaken, IsSent, ValueIsGivenBack, WasFull, WasEmpty, IsSpentGet, IsSpentPut, HasNoRoom}
use Rattle.scq_port.specs.Exports.{HasTopic, HasNoTopic, HoldsNoSuch, PortHasRetired}
use Rattle.scq_c.specs.declared.exports.Held.{Held}
use Rattle.scq_c.specs.Exports.{OfLend, OfTake, OfSend, OfGiveBack, shown_at, with_place}

-- of another number nothing is said
never : {A : Type 0} {code other : ℕ} → eqb code other ≡ false → code ≡ other → A
never {code = code} {other = other} apart same = absurd (eqb-false code other apart same)

module _ {before : Held} {old new : PortStanding} where
  pub lend_lent : {after : Held} {index : ℕ} → after ≡ shown_at 0 index before → IsLent index old new → OfLend 0 before after old new
  lend_lent {index = index} shown is =
      record { lent = λ e. (index, shown, is); full = never refl; spent = never refl; no_room = never refl; known = inl refl }

  pub lend_full : {head : ℕ} → WasFull head old new → OfLend 2 before (with_place head before) old new
  lend_full {head = head} is =
      record { lent = never refl; full = λ e. (head, refl, is); spent = never refl; no_room = never refl; known = inr (inl refl) }

  pub lend_spent : {ticket : ℕ} → IsSpentGet 0 ticket old new → OfLend 3 before (with_place ticket before) old new
  lend_spent {ticket = ticket} is =
      record { lent = never refl; full = never refl; spent = λ e. (ticket, refl, is); no_room = never refl; known = inr (inr (inl refl)) }

  pub lend_no_room : HasNoRoom old new → OfLend 7 before before old new
  lend_no_room is = record { lent = never refl; full = never refl; spent = never refl; no_room = λ e. (refl, is); known = inr (inr (inr refl)) }

  pub take_taken : {after : Held} {topic place index : ℕ} → after ≡ shown_at place index before → ValueIsTaken topic place index old new
      → OfTake topic 0 before after old new
  take_taken {place = place} {index = index} shown is =
      record {
        taken = λ e. (place, index, shown, is);
        empty = never refl;
        spent = never refl;
        no_topic = never refl;
        no_room = never refl;
        known = inl refl;
      }

  pub take_empty : {topic head : ℕ} → WasEmpty topic head old new → OfTake topic 1 before (with_place head before) old new
  take_empty {head = head} is =
      record {
        taken = never refl;
        empty = λ e. (head, refl, is);
        spent = never refl;
        no_topic = never refl;
        no_room = never refl;
        known = inr (inl refl);
      }

  pub take_spent : {topic ticket : ℕ} → IsSpentGet (suc topic) ticket old new → OfTake topic 3 before (with_place ticket before) old new
  take_spent {ticket = ticket} is =
      record {
        taken = never refl;
        empty = never refl;
        spent = λ e. (ticket, refl, is);
        no_topic = never refl;
        no_room = never refl;
        known = inr (inr (inl refl));
      }

  pub take_no_topic : {topic : ℕ} → HasNoTopic topic old new → OfTake topic 6 before before old new
  take_no_topic is =
      record {
        taken = never refl;
        empty = never refl;
        spent = never refl;
        no_topic = λ e. (refl, is);
        no_room = never refl;
        known = inr (inr (inr (inl refl)));
      }

  pub take_no_room : {topic : ℕ} → HasNoRoom old new × HasTopic topic old → OfTake topic 7 before before old new
  take_no_room is =
      record {
        taken = never refl;
        empty = never refl;
        spent = never refl;
        no_topic = never refl;
        no_room = λ e. (refl, is.0, is.1);
        known = inr (inr (inr (inr refl)));
      }

module _ {index topic before : ℕ} {old new : PortStanding} where
  pub send_sent : {place : ℕ} → IsSent index topic place old new → OfSend index topic 0 before place old new
  send_sent is = record { sent = λ e. is; spent = never refl; not_held = never refl; no_topic = never refl; retired = never refl; known = inl refl }

  pub send_spent : {ticket : ℕ} → IsSpentPut (suc topic) ticket old new → OfSend index topic 3 before ticket old new
  send_spent is =
      record { sent = never refl; spent = λ e. is; not_held = never refl; no_topic = never refl; retired = never refl; known = inr (inl refl) }

  pub send_not_held : HoldsNoSuch index old new × HasTopic topic old × (old.pass.retired ≡ None) → OfSend index topic 5 before before old new
  send_not_held is =
      record {
        sent = never refl;
        spent = never refl;
        not_held = λ e. (refl, is.0, is.1, is.2);
        no_topic = never refl;
        retired = never refl;
        known = inr (inr (inl refl));
      }

  pub send_no_topic : HasNoTopic topic old new → OfSend index topic 6 before before old new
  send_no_topic is =
      record {
        sent = never refl;
        spent = never refl;
        not_held = never refl;
        no_topic = λ e. (refl, is);
        retired = never refl;
        known = inr (inr (inr (inl refl)));
      }

  pub send_retired : PortHasRetired old new × HasTopic topic old → OfSend index topic 16 before before old new
  send_retired is =
      record {
        sent = never refl;
        spent = never refl;
        not_held = never refl;
        no_topic = never refl;
        retired = λ e. (refl, is.0, is.1);
        known = inr (inr (inr (inr refl)));
      }

module _ {index : ℕ} {old new : PortStanding} where
  pub give_given : ValueIsGivenBack index old new → OfGiveBack index 0 old new
  give_given is = record { given = λ e. is; spent = never refl; not_held = never refl; known = inl refl }

  pub give_spent : (ticket : ℕ) → IsSpentPut 0 ticket old new → OfGiveBack index 3 old new
  give_spent ticket is = record { given = never refl; spent = λ e. (ticket, is); not_held = never refl; known = inr (inl refl) }

  pub give_not_held : HoldsNoSuch index old new → OfGiveBack index 5 old new
  give_not_held is = record { given = never refl; spent = never refl; not_held = λ e. is; known = inr (inr refl) }
