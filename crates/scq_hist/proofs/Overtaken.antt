-- In order, in the words of overtaking: of the puts that precede b, let the overtaken ones be those that no get which started
-- before b's get ended has got. None of them is got, and they are at most as many as the gets that never end. Plan: in either
-- direction a put that precedes b is overtaken exactly where it isn't got, once all are claimed
use Rattle.std.proofs.Common.{ℕ, ◌≤◌, inl, inr, List, arith}
use Rattle.std.proofs.lemmas.Bool.{cases_lt}
use Rattle.scq_hist.specs.Exports.{IsGot, IsGetOf, IsGotBefore, IsPending, IsLawful, AllClaimed, Precedes, AtMostAsMany}
use Rattle.scq_hist.specs.declared.events.Event.{Event}
use Rattle.scq_hist.specs.declared.events.PutName.{PutName}
use Rattle.scq_hist.proofs.Claims.{decide_get}
use Rattle.scq_hist.proofs.TallyLemmas.{one_get, names_from_get}

abbrev pub IsOvertaken : List (List ℕ) → List Event → ℕ → ℕ → ℕ → PutName → Type 0
IsOvertaken opening events queue start e name = Precedes opening events queue start name × (¬ IsGotBefore events e name)

pub record OvertakenExcused (opening : List (List ℕ)) (events : List Event) (queue start e : ℕ) : Type 0 where
  pub not_got : (name : PutName) → IsOvertaken opening events queue start e name → ¬ IsGot events name
  pub few : AtMostAsMany (IsOvertaken opening events queue start e) (IsPending events queue e)

pub excused_from_claims : (opening : List (List ℕ)) (events : List Event) (queue start e : ℕ)
    → AllClaimed events queue e (Precedes opening events queue start) → OvertakenExcused opening events queue start e
excused_from_claims opening events queue start e all =
    let free : (name : PutName) → IsOvertaken opening events queue start e name → ¬ IsGot events name =
    λ name over. elim (all.claimed name over.0) [ inl g ↦ absurd (over.1 g) | inr f ↦ f ] in
    record {
      not_got = free;
      few = record {
        partner = λ x h. all.matched.partner x (h.0, free x h);
        into = λ x h. all.matched.into x (h.0, free x h);
        one_to_one = λ x y h k same. all.matched.one_to_one x y (h.0, free x h) (k.0, free y k) same;
      };
    }

-- a put whose get didn't start before moment m is got by no get that did
late_get : (events : List Event) (m s d : ℕ) (name : PutName) → IsGetOf events name s d → m ≤ s → ¬ IsGotBefore events m name
late_get events m s d name get late g = let same = one_get events name s g.s d g.e get g.get in let lt = g.before in omega arith

pub claims_from_excused : (opening : List (List ℕ)) (events : List Event) (queue start e : ℕ) → IsLawful events
    → OvertakenExcused opening events queue start e → AllClaimed events queue e (Precedes opening events queue start)
claims_from_excused opening events queue start e lawful excused =
    let over : (name : PutName) → Precedes opening events queue start name × (¬ IsGot events name) → IsOvertaken opening events queue start e name =
    λ name h. (h.0, λ g. h.1 (g.e, names_from_get events name g.s g.e g.get)) in
    record {
      claimed = λ name before. elim (decide_get events name lawful) [
        | inl g ↦ elim (cases_lt g.s e) [
          | inl lt ↦ inl (record { s = g.s; e = g.e; before = lt; get = g.get })
          | inr late ↦ absurd (excused.not_got name (before, late_get events e g.s g.e name g.get late) (g.e, names_from_get events name g.s g.e g.get))
        ]
        | inr free ↦ inr free
      ];
      matched = record {
        partner = λ x h. excused.few.partner x (over x h);
        into = λ x h. excused.few.into x (over x h);
        one_to_one = λ x y h k same. excused.few.one_to_one x y (over x h) (over y k) same;
      };
    }
