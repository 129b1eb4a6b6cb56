-- A pass between two parts is so still: when it has taken from topics, found no buffer free, or sent; and when it has retired.
use Rattle.std.proofs.Common.{◌≡◌, sym, ◌∙◌, ap, subst, arith, suc, ℕ, ◌<◌, ◌≤◌, List, length, ⊎_elim}
use Rattle.std.specs.Prelude.{count_by}
use Rattle.std.specs.List.{Contains}
use Rattle.std.proofs.lemmas.List.Elements.{Contains-push_cases}
use Rattle.scq_core.specs.declared.ended.Ended.{Ended}
use Rattle.scq_queue.specs.Exports.{Placed, sends_of, PassStanding, known_on}
use Rattle.scq_passes.specs.Exports.{is_got, is_put, Puts, HoldsNothingAtEachFull, MeetsNoSpent, HasTakenFollowed, HasFoundFull, HasSentSo}
use Rattle.scq_passes.specs.Exports.{IsBetweenParts, after_retire}
use Rattle.scq_passes.proofs.Kept.{taken-calls, full-calls, full-sends, sent-calls, sent-sends, placed, knows-still}
use Rattle.scq_passes.proofs.RecordSteps.{alone-sent, even-sent, alone-full, even-full, even-taken, alone-taken, unspent-sent, unspent-full, unspent-taken}

-- as many calls gave the pass a buffer as took one
abbrev IsEven : List Ended → Type 0
IsEven calls = count_by is_got calls ≡ count_by is_put calls

module _ {B : Type 0} where
  pub between-taken : {By : Puts} (p q : PassStanding B) → IsBetweenParts p → HasTakenFollowed By p q → IsBetweenParts q
  between-taken p q was h =
      let calls = taken-calls p q h in
      record {
        alone = subst HoldsNothingAtEachFull (sym calls) (alone-taken p.calls h.block h.are was.alone);
        even = subst IsEven (sym calls) (even-taken p.calls h.block h.are was.even);
        none = ap (λ (x : PassStanding B). x.held) h.pass ∙ was.none;
        unspent = subst MeetsNoSpent (sym calls) (unspent-taken p.calls h.block h.are was.unspent);
        knows = h.sends was.knows;
      }

  pub between-full : (head : ℕ) (p q : PassStanding B) → IsBetweenParts p → HasFoundFull head p q → IsBetweenParts q
  between-full head p q was h =
      let calls = full-calls head p q h in
      record {
        alone = subst HoldsNothingAtEachFull (sym calls) (alone-full p.calls was.even was.alone);
        even = subst IsEven (sym calls) (even-full p.calls was.even);
        none = ap (λ (x : PassStanding B). x.held) h.pass ∙ was.none;
        unspent = subst MeetsNoSpent (sym calls) (unspent-full p.calls was.unspent);
        knows = knows-still p q h.knows (full-sends head p q h) was.knows;
      }

  pub between-sent : (topic : ℕ) (So : Placed → Type 0) (p q : PassStanding B) → IsBetweenParts p → suc topic < length p.numbers → HasSentSo topic So p q
      → IsBetweenParts q
  between-sent topic So p q was within h =
      let calls = sent-calls topic So p q h in
      record {
        alone = subst HoldsNothingAtEachFull (sym calls) (alone-sent p.calls h.from (suc topic) h.place h.over h.bytes was.alone);
        even = subst IsEven (sym calls) (even-sent p.calls h.from (suc topic) h.place h.over h.bytes was.even);
        none = ap (λ (x : PassStanding B). x.held) h.pass ∙ was.none;
        unspent = subst MeetsNoSpent (sym calls) (unspent-sent p.calls h.from (suc topic) h.place h.over h.bytes was.unspent);
        knows = record {
          sends = λ n has.
              ⊎_elim (λ (old : Contains (sends_of p.calls) n).
              let its = was.knows.sends n old in
              let low = h.knows.finished n.topic in
              let first = its.0 in
              let place = its.1 in
              let long = h.knows.rings in
              (omega arith, omega arith))
              (λ (new : placed topic So p q h ≡ n).
              let P : Placed → Type 0 = λ x. (suc x.topic < length q.numbers) × (x.place ≤ (known_on x.topic q).finished) in
              let long = h.knows.rings in
              subst P new (omega arith, h.finished))
              (Contains-push_cases (sends_of p.calls) (placed topic So p q h) n (subst (λ l. Contains l n) (sent-sends topic So p q h) has));
        };
      }

  pub between-retired : (p : PassStanding B) → IsBetweenParts p → IsBetweenParts (after_retire p)
  between-retired p was =
      record {
        alone = was.alone;
        even = was.even;
        none = was.none;
        unspent = was.unspent;
        knows = record { sends = was.knows.sends };
      }
