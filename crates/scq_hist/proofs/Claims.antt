-- A tally decides whether all its puts are claimed. Plan: in a list it is decided whether a put is got; a get that starts too
-- late shows that the moment is too early, and the two counts are compared by a one-to-one map
use Rattle.std.proofs.Common.{Bool, IsTrue, ◌↔◌, ◌≡◌, ℕ, zero, suc, ◌<◌, ◌≤◌, ◌⊎◌, inl, inr, List, Option, Some, None, slice_get, length, sym, ap, subst, arith}
use Rattle.std.proofs.lemmas.Bool.{cases_lt, cases_eq}
use Rattle.std.proofs.lemmas.Option.{slice_get_within}
use Rattle.scq_hist.specs.Exports.{Names, IsGot, IsGetOf, IsPending, IsFinishedAt, IsLawful, IsLawfulAt, IsAnswer, AllClaimed, IsCount, IsFirstNamed}
use Rattle.scq_hist.specs.Exports.{call_start, HasLateGet, IsTally}
use Rattle.scq_hist.specs.declared.events.Event.{Event}
use Rattle.scq_hist.specs.declared.events.Event.TheVariants.{Start, End}
use Rattle.scq_hist.specs.declared.events.PutName.{PutName}
use Rattle.scq_hist.specs.declared.events.PutName.TheVariants.{Opening, Of}
use Rattle.scq_hist.specs.declared.events.Reply.TheVariants.{Done, Got, Nothing, Spent}
use Rattle.scq_hist.proofs.Counting.{le_from_map, map_from_le}
use Rattle.scq_hist.proofs.NamesLemmas.{get_from_first}
use Rattle.scq_hist.proofs.TallyLemmas.{one_get, names_from_get}

decide_name : (a b : PutName) → (a ≡ b) ⊎ (a ≡ b → ⊥)
decide_name (Opening i) (Opening j) = elim (cases_eq i j) [ inl e ↦ inl (ap Opening e) | inr n ↦ inr (λ e. n cc) ]
decide_name (Opening i) (Of k n) = inr (λ e. cc)
decide_name (Of k n) (Opening j) = inr (λ e. cc)
decide_name (Of k n) (Of l m) = elim (cases_eq k l) [
  | inl e ↦ elim (cases_eq n m) [ inl f ↦ inl cc | inr g ↦ inr (λ h. g cc) ]
  | inr f ↦ inr (λ h. f cc)
]

-- this event is an End with Got that names the put
record Naming (event : Option Event) (name : PutName) : Type 0 where
  pub seat : ℕ
  pub content : List ℕ
  pub is : event ≡ Some (End seat (Got name content))

decide_naming : (event : Option Event) (name : PutName) → Naming event name ⊎ (¬ Naming event name)
decide_naming None name = inr (λ n. let e = n.is in absurd cc)
decide_naming (Some (Start k c)) name = inr (λ n. let e = n.is in absurd cc)
decide_naming (Some (End k Done)) name = inr (λ n. let e = n.is in absurd cc)
decide_naming (Some (End k (Got m c))) name = elim (decide_name m name) [
  | inl e ↦ inl (record { seat = k; content = c; is = ap (λ x. Some (End k (Got x c))) e })
  | inr f ↦ inr (λ n. let e = n.is in f cc)
]
decide_naming (Some (End k Nothing)) name = inr (λ n. let e = n.is in absurd cc)
decide_naming (Some (End k Spent)) name = inr (λ n. let e = n.is in absurd cc)

-- the first End among the first m events that names the put, or none does
find_first : (events : List Event) (name : PutName) (m : ℕ) → ((e : ℕ) × IsFirstNamed events name e) ⊎ ((d : ℕ) → d < m → ¬ Names events d name)
find_first events name zero = inr (λ d lt. absurd (omega arith))
find_first events name (suc m) = elim (find_first events name m) [
  | inl f ↦ inl f
  | inr none ↦ elim (decide_naming (slice_get events m) name) [
    | inl n ↦ inl (m, record { names = record { seat = n.seat; content = n.content; ends = n.is }; first = none })
    | inr other ↦ inr (λ d lt n. elim (cases_eq d m) [
      | inl e ↦ other (record { seat = n.seat; content = n.content; is = subst (λ x. slice_get events x ≡ Some (End n.seat (Got name n.content))) e n.ends })
      | inr ne ↦ none d (omega arith) n
    ])
  ]
]

-- the get of a put, with its positions
pub record Get_of (events : List Event) (name : PutName) : Type 0 where
  pub s : ℕ
  pub e : ℕ
  pub get : IsGetOf events name s e

pub decide_get : (events : List Event) (name : PutName) → IsLawful events → Get_of events name ⊎ (¬ IsGot events name)
decide_get events name lawful = elim (find_first events name (length events)) [
  | inl f ↦ (let n = f.1.names in
      let ends : slice_get events f.0 ≡ Some (End n.seat (Got name n.content)) = n.ends in
      let answer : IsAnswer events n.seat f.0 (Got name n.content) = subst (λ event. IsLawfulAt events f.0 event) ends (lawful f.0) in
      inl (record {
        s = answer.s;
        e = f.0;
        get = get_from_first events name answer.s f.0 lawful f.1
            (subst (λ event. Some answer.s ≡ call_start events f.0 event) (sym ends) (sym answer.is_call.under_way_till));
      }))
  | inr none ↦ inr (λ got. let n = got.1 in none got.0 (slice_get_within events got.0 (End n.seat (Got name n.content)) n.ends) n)
]

claims_from_tally : (events : List Event) (queue m u f p : ℕ) (P : PutName → Type 0) → IsLawful events → IsTally events P u f
    → IsCount (IsPending events queue m) p → f ≤ m → u ≤ p → AllClaimed events queue m P
claims_from_tally events queue m u f p P lawful t count late few = record {
  claimed = λ name put. elim (decide_get events name lawful) [
    | inl g ↦ inl (record { s = g.s; e = g.e; before = (let lt = t.claimed name g.s g.e put g.get in omega arith); get = g.get })
    | inr free ↦ inr free
  ];
  matched = map_from_le (λ name. P name × (¬ IsGot events name)) (IsPending events queue m) u p t.ungot count few;
}

late_claim : (events : List Event) (queue m : ℕ) (P : PutName → Type 0) → AllClaimed events queue m P → HasLateGet events P m → ⊥
late_claim events queue m P all l = elim (all.claimed l.name l.put) [
  | inl g ↦ (let same = one_get events l.name l.s g.s l.e g.e l.get g.get in let before = g.before in let late = l.late in omega arith)
  | inr free ↦ free (l.e, names_from_get events l.name l.s l.e l.get)
]

from_claims : (events : List Event) (queue m u f : ℕ) (P : PutName → Type 0) → IsTally events P u f → AllClaimed events queue m P → f ≤ m
from_claims events queue m u f P t all = elim (cases_lt m f) [ inl lt ↦ absurd (late_claim events queue m P all (t.least m lt)) | inr le ↦ le ]

few_from_claims : (events : List Event) (queue m u f p : ℕ) (P : PutName → Type 0) → IsTally events P u f
    → IsCount (IsPending events queue m) p → AllClaimed events queue m P → u ≤ p
few_from_claims events queue m u f p P t count all =
    le_from_map (λ name. P name × (¬ IsGot events name)) (IsPending events queue m) u p t.ungot count all.matched

pub claims_iff : (events : List Event) (queue m u f p : ℕ) (P : PutName → Type 0) (b : Bool) → IsLawful events → IsTally events P u f
    → IsCount (IsPending events queue m) p → (IsTrue b ↔ ((f ≤ m) × (u ≤ p))) → IsTrue b ↔ AllClaimed events queue m P
claims_iff events queue m u f p P b lawful t count test = (
  λ h. let both = test.0 h in claims_from_tally events queue m u f p P lawful t count both.0 both.1,
  λ all. test.1 (from_claims events queue m u f P t all, few_from_claims events queue m u f p P t count all),
)

-- at no moment after position s and up to i are all finished puts of the queue claimed
pub record NotRightTill (opening : List (List ℕ)) (events : List Event) (queue s i : ℕ) : Type 0 where
  pub none : (m : ℕ) → s < m → m ≤ i → ¬ AllClaimed events queue m (IsFinishedAt opening events queue m)
