-- The tally of the opening tokens. Plan: count those that are got, by the Ends that are the first to name one, event by event;
-- there are as many tokens as contents, and those that are left are the rest
use Rattle.std.proofs.Common.{◌≡◌, ℕ, zero, suc, ◌+◌, ◌-◌, ◌<◌, ◌≤◌, max, ◌⊎◌, inl, inr, List, length, refl, ap, subst, arith, add-one}
use Rattle.std.proofs.lemmas.Bool.{cases_lt, cases_eq}
use Rattle.std.proofs.lemmas.Option.{slice_get_within}
use Rattle.scq_hist.specs.Exports.{IsFinishedAt, IsGot, IsGetOf, IsLawful, IsCount, HasLateGet, IsTally, IsTokenGotAt, NoTokenGotAt}
use Rattle.scq_hist.specs.declared.events.Event.{Event}
use Rattle.scq_hist.specs.declared.events.Event.TheVariants.{End}
use Rattle.scq_hist.specs.declared.events.PutName.{PutName}
use Rattle.scq_hist.specs.declared.events.PutName.TheVariants.{Opening, Of}
use Rattle.scq_hist.specs.declared.events.Reply.TheVariants.{Got}
use Rattle.scq_hist.proofs.Counting.{count_none, count_more, count_same, count_rest, Rest}
use Rattle.scq_hist.proofs.NamesLemmas.{same_name}
use Rattle.scq_hist.proofs.TallyLemmas.{one_get, same_end, names_from_get}
use Rattle.scq_hist.proofs.Claims.{decide_get}

-- the put is got by a get that ended before position e
pub record IsGotBy (events : List Event) (e : ℕ) (name : PutName) : Type 0 where
  pub s : ℕ
  pub d : ℕ
  pub before : d < e
  pub get : IsGetOf events name s d

-- `got` opening tokens are got by gets that ended before position e, and f is the first moment by which these have started
pub record TalliesTokens (opening : List (List ℕ)) (events : List Event) (e got f : ℕ) : Type 0 where
  pub count : IsCount (λ name. IsFinishedAt opening events 0 0 name × IsGotBy events e name) got
  pub claimed : (name : PutName) (s d : ℕ) → IsFinishedAt opening events 0 0 name → d < e → IsGetOf events name s d → s < f
  pub least : (m : ℕ) → m < f → HasLateGet events (IsFinishedAt opening events 0 0) m

-- the first n tokens
abbrev Token : ℕ → PutName → Type 0
Token n (Opening number) = number < n
Token n (Of _ _) = ⊥

tokens : (n : ℕ) → IsCount (Token n) n
tokens zero = count_none (Token 0) none where
  none : (name : PutName) → Token 0 name → ⊥
  none (Opening number) lt = absurd (omega arith)
  none (Of k m) h = h
tokens (suc n) =
    subst (λ k. IsCount (Token (suc n)) k) (add-one n)
    (count_more (Token n) (Token (suc n)) (Opening n) n (tokens n) (λ lt. absurd (omega arith)) (omega arith) more split) where
      more : (name : PutName) → Token n name → Token (suc n) name
      more (Opening number) lt = omega arith
      more (Of k m) h = h

      split : (name : PutName) → Token (suc n) name → (Opening n ≡ name) ⊎ Token n name
      split (Opening number) lt = elim (cases_eq n number) [ inl e ↦ inl (ap Opening e) | inr ne ↦ inr (omega arith) ]
      split (Of k m) h = absurd h

abbrev Tokens : List (List ℕ) → List Event → PutName → Type 0
Tokens opening events = IsFinishedAt opening events 0 0

all_tokens : (opening : List (List ℕ)) (events : List Event) → IsCount (Tokens opening events) (length opening)
all_tokens opening events = count_same (Token (length opening)) (Tokens opening events) (length opening) (tokens (length opening)) to from where
  to : (name : PutName) → Token (length opening) name → Tokens opening events name
  to (Opening number) lt = (refl, lt)
  to (Of k m) h = absurd h

  from : (name : PutName) → Tokens opening events name → Token (length opening) name
  from (Opening number) h = h.1
  from (Of k m) h = (let lt = h.1 in absurd (omega arith))

got_later : (events : List Event) (e : ℕ) (name : PutName) → IsGotBy events e name → IsGotBy events (e + 1) name
got_later events e name g = record { s = g.s; d = g.d; before = (let lt = g.before in omega arith); get = g.get }

-- a get ends within the list
within : (events : List Event) (name : PutName) (s d i : ℕ) → length events ≤ i → IsGetOf events name s d → d < i
within events name s d i past g = let lt = slice_get_within events d (End g.seat (Got name g.content)) g.call.ends in omega arith

got_by : (events : List Event) (name : PutName) (i : ℕ) → IsLawful events → length events ≤ i → IsGotBy events i name ⊎ (¬ IsGotBy events i name)
got_by events name i lawful past = elim (decide_get events name lawful) [
  | inl g ↦ inl (record { s = g.s; d = g.e; before = within events name g.s g.e i past g.get; get = g.get })
  | inr free ↦ inr (λ g. free (g.d, names_from_get events name g.s g.d g.get))
]

-- a get that ends at position e has got this put and no other
same_get : (events : List Event) (e s t : ℕ) (a b : PutName) → IsGetOf events a s e → IsGetOf events b t e → a ≡ b
same_get events e s t a b g h = same_name events e a b (names_from_get events a s e g) (names_from_get events b t e h)

pub tokens_more : (opening : List (List ℕ)) (events : List Event) (e got f s : ℕ) → IsTokenGotAt opening events e s
    → TalliesTokens opening events e got f → TalliesTokens opening events (e + 1) (got + 1) (max f (s + 1))
tokens_more opening events e got f s here t =
    let x : PutName = Opening here.number in
    record {
      count = count_more (λ name. Tokens opening events name × IsGotBy events e name) (λ name. Tokens opening events name × IsGotBy events (e + 1) name) x got
          t.count
          (λ h. (let at = same_end events x h.1.s s h.1.d e h.1.get here.get in let lt = h.1.before in absurd (omega arith)))
          ((refl, here.token), record { s = s; d = e; before = omega arith; get = here.get })
          (λ name h. (h.0, got_later events e name h.1))
          (λ name h. elim (cases_eq h.1.d e) [
            | inl at ↦ inl (same_get events e s h.1.s x name here.get (subst (λ d. IsGetOf events name h.1.s d) at h.1.get))
            | inr ne ↦ (let lt = h.1.before in inr (h.0, record { s = h.1.s; d = h.1.d; before = omega arith; get = h.1.get }))
          ]);
      claimed = λ name z d token lt g. elim (cases_eq d e) [
        | inl at ↦ (let same = same_get events e s z x name here.get (subst (λ d. IsGetOf events name z d) at g) in
            let start = one_get events name s z e d (subst (λ n. IsGetOf events n s e) same here.get) g in omega arith)
        | inr ne ↦ (let below = t.claimed name z d token (omega arith) g in omega arith)
      ];
      least = λ m lt. elim (cases_lt m f) [
        | inl lf ↦ t.least m lf
        | inr le ↦ record { name = x; s = s; e = e; put = (refl, here.token); get = here.get; late = omega arith }
      ];
    }

pub tokens_same : (opening : List (List ℕ)) (events : List Event) (e got f : ℕ) → NoTokenGotAt opening events e
    → TalliesTokens opening events e got f → TalliesTokens opening events (e + 1) got f
tokens_same opening events e got f free t =
    record {
      count = count_same (λ name. Tokens opening events name × IsGotBy events e name) (λ name. Tokens opening events name × IsGotBy events (e + 1) name) got
          t.count
          (λ name h. (h.0, got_later events e name h.1))
          (λ name h. elim (cases_eq h.1.d e) [
            | inl at ↦ absurd (not_here name h.1.s h.0 (subst (λ d. IsGetOf events name h.1.s d) at h.1.get))
            | inr ne ↦ (let lt = h.1.before in (h.0, record { s = h.1.s; d = h.1.d; before = omega arith; get = h.1.get }))
          ]);
      claimed = λ name z d token lt g. elim (cases_eq d e) [
        | inl at ↦ absurd (not_here name z token (subst (λ d. IsGetOf events name z d) at g))
        | inr ne ↦ t.claimed name z d token (omega arith) g
      ];
      least = t.least;
    } where
      not_here : (name : PutName) (s : ℕ) → Tokens opening events name → IsGetOf events name s e → ⊥
      not_here (Opening number) s token g = free.none number s token.1 g
      not_here (Of k m) s token g = (let lt = token.1 in absurd (omega arith))

pub tokens_rest : (opening : List (List ℕ)) (events : List Event) (i got f : ℕ) → IsLawful events → length events ≤ i
    → TalliesTokens opening events i got f → Rest (Tokens opening events) (IsGotBy events i) (length opening) got
tokens_rest opening events i got f lawful past t =
    count_rest (Tokens opening events) (IsGotBy events i) (length opening) got (all_tokens opening events) (λ name h. got_by events name i lawful past) t.count

pub tokens_tally : (opening : List (List ℕ)) (events : List Event) (i got f : ℕ) → IsLawful events → length events ≤ i
    → TalliesTokens opening events i got f → IsTally events (Tokens opening events) (length opening - got) f
tokens_tally opening events i got f lawful past t =
    let rest = tokens_rest opening events i got f lawful past t in
    record {
      ungot = count_same (λ name. Tokens opening events name × (¬ IsGotBy events i name)) (λ name. Tokens opening events name × (¬ IsGot events name))
          (length opening - got) rest.rest
          (λ name h. (
            h.0,
            elim (decide_get events name lawful) [
              | inl g ↦ absurd (h.1 (record { s = g.s; d = g.e; before = within events name g.s g.e i past g.get; get = g.get }))
              | inr free ↦ free
            ],
          ))
          (λ name h. (h.0, λ g. h.1 (g.d, names_from_get events name g.s g.d g.get)));
      claimed = λ name s d token g. t.claimed name s d token (within events name s d i past g) g;
      least = t.least;
    }

pub tokens_at : (opening : List (List ℕ)) (events : List Event) (e got f a b : ℕ) → a ≡ got → b ≡ f → TalliesTokens opening events e got f
    → TalliesTokens opening events e a b
tokens_at opening events e got f a b p q t = rw (p, q) t
