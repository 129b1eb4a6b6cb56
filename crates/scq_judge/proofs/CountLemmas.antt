-- What is counted of a history, event by event
use Rattle.std.proofs.Common.{◌≡◌, ℕ, suc, ◌+◌, ◌-◌, ◌<◌, ◌≤◌, ◌⊎◌, ◌↔◌, ◌==◌, ◌||◌, ltb, inl, inr, Bool, true, false, IsTrue, List, [], ◌∷◌, length, Option, Some, None, is_some, slice_get, refl, sym, ◌∙◌, subst, arith, if◌then◌else◌, MatchOption}
use Rattle.std.proofs.lemmas.Bool.{cases_eq, lt-ltb}
use Rattle.std.proofs.lemmas.Bool.Decides.{eqb_tells}
use Rattle.std.proofs.lemmas.Option.{slice_get_within}
use Rattle.scq_hist.specs.Exports.{IsLawful, IsLawfulAt, under_way, IsCount, StandsIn, StartsCall, StartsNoCall}
use Rattle.scq_hist.specs.declared.events.Call.{Call}
use Rattle.scq_hist.specs.declared.events.Event.{Event}
use Rattle.scq_hist.specs.declared.events.Event.TheVariants.{Start, End}
use Rattle.scq_hist.specs.declared.events.Reply.{Reply}
use Rattle.scq_hist.proofs.Counting.{count_none, count_more, count_same, count_rest}
use Rattle.scq_judge.specs.Exports.{IsStarting, IsStartAt, IsNamed, IsBusy, Overlaps, Before, IsNamedBefore, AreSeen, AreBusy, named_by, is_seen}
use Rattle.scq_judge.specs.declared.counting.Named.{Named}
use Rattle.scq_judge.specs.declared.counting.Seen.{Seen}

-- of positions
pub before_none : (P : ℕ → Type 0) (c : ℕ) → c ≡ 0 → IsCount (Before P 0) c
before_none P c is = subst (IsCount (Before P 0)) (sym is) (count_none (Before P 0) (λ s h. let lt = h.0 in absurd (omega arith)))

pub before_more : (P : ℕ → Type 0) (m c : ℕ) → P m → IsCount (Before P m) c → IsCount (Before P (m + 1)) (c + 1)
before_more P m c here count =
    count_more (Before P m) (Before P (m + 1)) m c count (λ h. let lt = h.0 in absurd (omega arith)) (omega arith, here)
    (λ s h. let lt = h.0 in (omega arith, h.1))
    (λ s h. elim (cases_eq m s) [ inl same ↦ inl same | inr ne ↦ (let lt = h.0 in inr (omega arith, h.1)) ])

pub before_same : (P : ℕ → Type 0) (m c : ℕ) → ¬ P m → IsCount (Before P m) c → IsCount (Before P (m + 1)) c
before_same P m c here count =
    count_same (Before P m) (Before P (m + 1)) c count
    (λ s h. let lt = h.0 in (omega arith, h.1))
    (λ s h. elim (cases_eq m s) [ inl same ↦ absurd (here (subst P (sym same) h.1)) | inr ne ↦ (let lt = h.0 in (omega arith, h.1)) ])

pub before_all : (P : ℕ → Type 0) (n i c : ℕ) → n ≤ i → ((s : ℕ) → P s → s < n) → IsCount (Before P i) c → IsCount P c
before_all P n i c reached within count =
    count_same (Before P i) P c count (λ s h. h.1) (λ s p. let lt = within s p in (omega arith, p))

pub start_within : (events : List Event) (s : ℕ) → IsStartAt events s → s < length events
start_within events s start = go (slice_get events s) refl start where
  go : (event : Option Event) → slice_get events s ≡ event → IsStarting event → s < length events
  go None at starts = absurd starts
  go (Some event) at starts = slice_get_within events s event at

-- a call that starts there is told
pub start_told : {X : Type 0} (events : List Event) (s : ℕ) (call_of : X → Call) (found : Option X)
    → MatchOption found (StartsNoCall events s) (λ x. StartsCall events s (call_of x)) → IsTrue (is_some found) ↔ IsStartAt events s
start_told events s call_of None none = (λ t. absurd cc, λ starts. go (slice_get events s) refl starts) where
  go : (event : Option Event) → slice_get events s ≡ event → IsStarting event → IsTrue false
  go None at starting = absurd starting
  go (Some (Start seat call)) at starting = absurd (none call (seat, at))
  go (Some (End seat reply)) at starting = absurd starting
start_told events s call_of (Some x) start = (λ t. subst IsStarting (sym start.1) tt, λ starts. refl)

pub overlap_within : (events : List Event) (s : ℕ) → Overlaps events s → s < length events
overlap_within events s overlap = start_within events s overlap.start

-- of numbers that events name
pub seen_none : (named : Named) (events : List Event) (seen : Seen) (c : ℕ) → ((number : ℕ) → is_seen seen number ≡ false) → c ≡ 0 → AreSeen named events 0 seen c
seen_none named events seen c none is = record {
  each = λ number. (λ t. let f = none number in absurd cc, λ h. let lt = h.before in absurd (omega arith));
  count = subst (IsCount (IsNamedBefore named events 0)) (sym is) (count_none (IsNamedBefore named events 0) (λ number h. let lt = h.before in absurd (omega arith)));
  few = omega arith;
}

later : (named : Named) (events : List Event) (m number : ℕ) → IsNamedBefore named events m number → IsNamedBefore named events (m + 1) number
later named events m number h = record { s = h.s; before = (let lt = h.before in omega arith); is = h.is }

-- what the first m + 1 events name, the first m do, or the last of them
split : (named : Named) (events : List Event) (m number : ℕ) → IsNamedBefore named events (m + 1) number
    → (named_by named (slice_get events m) ≡ Some number) ⊎ IsNamedBefore named events m number
split named events m number h = elim (cases_eq h.s m) [
  | inl is ↦ inl (subst (λ s. named_by named (slice_get events s) ≡ Some number) is h.is)
  | inr ne ↦ inr (record { s = h.s; before = (let lt = h.before in omega arith); is = h.is })
]

-- the event at position m names no number, or one that was seen
seen_as_before : (named : Named) (events : List Event) (m c : ℕ) (seen : Seen)
    → ((number : ℕ) → named_by named (slice_get events m) ≡ Some number → IsNamedBefore named events m number)
    → AreSeen named events m seen c → AreSeen named events (m + 1) seen c
seen_as_before named events m c seen old is =
    let back : (number : ℕ) → IsNamedBefore named events (m + 1) number → IsNamedBefore named events m number =
    (λ number h. elim (split named events m number h) [ inl here ↦ old number here | inr before ↦ before ]) in
    record {
      each = λ number. (λ t. later named events m number ((is.each number).0 t), λ h. (is.each number).1 (back number h));
      count = count_same (IsNamedBefore named events m) (IsNamedBefore named events (m + 1)) c is.count (later named events m) back;
      few = (let few = is.few in omega arith);
    }

pub seen_nothing : (named : Named) (events : List Event) (m c : ℕ) (seen : Seen) → named_by named (slice_get events m) ≡ None
    → AreSeen named events m seen c → AreSeen named events (m + 1) seen c
seen_nothing named events m c seen none is = seen_as_before named events m c seen (λ number here. absurd cc) is

pub seen_again : (named : Named) (events : List Event) (m c mine : ℕ) (seen : Seen) → named_by named (slice_get events m) ≡ Some mine
    → is_seen seen mine ≡ true → AreSeen named events m seen c → AreSeen named events (m + 1) seen c
seen_again named events m c mine seen here has is =
    seen_as_before named events m c seen
    (λ number at. let same : mine ≡ number = cc in subst (IsNamedBefore named events m) same ((is.each mine).0 has)) is

pub seen_more : (named : Named) (events : List Event) (m c mine : ℕ) (old new : Seen) → named_by named (slice_get events m) ≡ Some mine
    → is_seen old mine ≡ false → ((other : ℕ) → is_seen new other ≡ ((mine == other) || is_seen old other))
    → AreSeen named events m old c → AreSeen named events (m + 1) new (c + 1)
seen_more named events m c mine old new here none now is =
    let fresh : ¬ IsNamedBefore named events m mine = (λ h. let t = (is.each mine).1 h in absurd cc) in
    let last : IsNamedBefore named events (m + 1) mine = record { s = m; before = omega arith; is = here } in
    let back : (number : ℕ) → IsNamedBefore named events (m + 1) number → (mine ≡ number) ⊎ IsNamedBefore named events m number =
    (λ number h. elim (split named events m number h) [ inl at ↦ (let e = at in let f = here in inl cc) | inr before ↦ inr before ]) in
    record {
      each = λ number. elim (eqb_tells mine number) [
        | inl t ↦ (λ _. subst (IsNamedBefore named events (m + 1)) t.1 last, λ _. rw (now number, t.0) refl)
        | inr t ↦ (
          λ given. (let w = now number in later named events m number ((is.each number).0 (rw (w, t.0) at given))),
          λ h. (let w = now number in elim (back number h) [ inl same ↦ absurd (t.1 same) | inr before ↦ rw (w, t.0) ((is.each number).1 before) ]),
        )
      ];
      count = count_more (IsNamedBefore named events m) (IsNamedBefore named events (m + 1)) mine c is.count fresh last (later named events m) back;
      few = (let few = is.few in omega arith);
    }

named_within : (named : Named) (events : List Event) (s number : ℕ) (event : Option Event) → slice_get events s ≡ event → named_by named event ≡ Some number → s < length events
named_within named events s number (Some event) at is = slice_get_within events s event at
named_within named events s number None at is = absurd (not_named named is) where
  not_named : (named : Named) → named_by named None ≡ Some number → ⊥
  not_named Named.Seat is = cc
  not_named Named.Queue is = cc

pub seen_all : (named : Named) (events : List Event) (i c : ℕ) (seen : Seen) → length events ≤ i → AreSeen named events i seen c → IsCount (IsNamed named events) c
seen_all named events i c seen reached is =
    count_same (IsNamedBefore named events i) (IsNamed named events) c is.count
    (λ number h. record { s = h.s; is = h.is })
    (λ number h. record { s = h.s; before = (let lt = named_within named events h.s number (slice_get events h.s) refl h.is in omega arith); is = h.is })

-- of seats that have calls under way
pub busy_none : (events : List Event) (c : ℕ) → c ≡ 0 → AreBusy events 0 c
busy_none events c is = record {
  count = subst (IsCount (IsBusy events 0)) (sym is) (count_none (IsBusy events 0) (λ seat h. let e = h.is in absurd cc));
  few = omega arith;
}

-- how many is 0 exactly where there is none
first_of : {A : ℕ → Type 0} (xs : List ℕ) → 0 < length xs → ((x : ℕ) → StandsIn xs x → A x) → (x : ℕ) × A x
first_of {A} [] lt sound = absurd (omega arith)
first_of {A} (x ∷ xs) lt sound = (x, sound x (inl refl))

not_none : (xs : List ℕ) (x c : ℕ) → StandsIn xs x → length xs ≡ c → 0 < c
not_none [] x c m is = absurd m
not_none (y ∷ ys) x c m is = omega arith

pub some_busy : (A : ℕ → Type 0) (c : ℕ) → IsCount A c → (0 < c) ↔ ((x : ℕ) × A x)
some_busy A c count =
    (λ lt. first_of {A = A} count.members (let m = count.many in omega arith) count.sound, λ h. not_none count.members h.0 c (count.complete h.0 h.1) count.many)

-- what a seat has under way after a Start of seat k at position e, and after an End of it
after_start : (events : List Event) (e k seat : ℕ) (call : Call) → slice_get events e ≡ Some (Start k call)
    → under_way events seat (suc e) ≡ (if k == seat then Some e else under_way events seat e)
after_start events e k seat call at = rw at refl

after_stop : (events : List Event) (e k seat : ℕ) (reply : Reply) → slice_get events e ≡ Some (End k reply)
    → under_way events seat (suc e) ≡ (if k == seat then None else under_way events seat e)
after_stop events e k seat reply at = rw at refl

-- the seat that starts was not busy, and is
busy_start : (events : List Event) (e k busy : ℕ) (call : Call) → slice_get events e ≡ Some (Start k call) → under_way events k e ≡ None
    → IsCount (IsBusy events e) busy → IsCount (IsBusy events (suc e)) (busy + 1)
busy_start events e k busy call at idle count =
    count_more (IsBusy events e) (IsBusy events (suc e)) k busy count
    (λ h. let is = h.is in absurd cc)
    (record { s = e; is = after_start events e k k call at ∙ (elim (eqb_tells k k) [ inl t ↦ rw t.0 refl | inr t ↦ absurd (t.1 refl) ]) })
    (λ seat h. elim (eqb_tells k seat) [
      | inl t ↦ (let is = subst (λ z. under_way events z e ≡ Some h.s) (sym t.1) h.is in absurd cc)
      | inr t ↦ record { s = h.s; is = after_start events e k seat call at ∙ rw t.0 h.is }
    ])
    (λ seat h. elim (eqb_tells k seat) [
      | inl t ↦ inl t.1
      | inr t ↦ inr (record { s = h.s; is = rw t.0 at (sym (after_start events e k seat call at) ∙ h.is) })
    ])

-- the seat that ends was busy, and isn't
busy_end : (events : List Event) (e k s busy : ℕ) (reply : Reply) → slice_get events e ≡ Some (End k reply) → under_way events k e ≡ Some s
    → IsCount (IsBusy events e) busy → (1 ≤ busy) × IsCount (IsBusy events (suc e)) (busy - 1)
busy_end events e k s busy reply at mine count =
    let one : IsCount (λ seat. IsBusy events e seat × (k ≡ seat)) 1 = record {
      members = k ∷ [];
      many = refl;
      sound = λ seat m. elim m [ inl same ↦ (subst (IsBusy events e) same (record { s = s; is = mine }), same) | inr none ↦ absurd none ];
      complete = λ seat h. inl h.1;
      distinct = (λ m. m, tt);
    } in
    let rest = count_rest (IsBusy events e) (λ seat. k ≡ seat) busy 1 count (λ seat _. elim (eqb_tells k seat) [ inl t ↦ inl t.1 | inr t ↦ inr t.1 ]) one in (
      rest.fits,
      count_same (λ seat. IsBusy events e seat × (¬ (k ≡ seat))) (IsBusy events (suc e)) (busy - 1) rest.rest
          (λ seat h. elim (eqb_tells k seat) [
            | inl t ↦ absurd (h.1 t.1)
            | inr t ↦ record { s = h.0.s; is = after_stop events e k seat reply at ∙ rw t.0 h.0.is }
          ])
          (λ seat h. elim (eqb_tells k seat) [
            | inl t ↦ (let is = rw t.0 at (sym (after_stop events e k seat reply at) ∙ h.is) in absurd cc)
            | inr t ↦ (record { s = h.s; is = rw t.0 at (sym (after_stop events e k seat reply at) ∙ h.is) }, t.1)
          ]),
    )

next_moment : (e : ℕ) → suc e ≡ e + 1
next_moment e = omega arith

pub busy_after_start : (events : List Event) (e busy : ℕ) (seat : ℕ) (call : Call) → IsLawful events → slice_get events e ≡ Some (Start seat call)
    → AreBusy events e busy → AreBusy events (e + 1) (busy + 1)
busy_after_start events e busy seat call lawful at is =
    let idle : under_way events seat e ≡ None = subst (λ event. IsLawfulAt events e event) at (lawful e) in
    record {
      count = subst (λ m. IsCount (IsBusy events m) (busy + 1)) (next_moment e) (busy_start events e seat busy call at idle is.count);
      few = (let few = is.few in omega arith);
    }

pub busy_after_end : (events : List Event) (e busy : ℕ) (seat : ℕ) (reply : Reply) → IsLawful events → slice_get events e ≡ Some (End seat reply)
    → AreBusy events e busy → (1 ≤ busy) × AreBusy events (e + 1) (busy - 1)
busy_after_end events e busy seat reply lawful at is =
    let answer = subst (λ event. IsLawfulAt events e event) at (lawful e) in
    let less = busy_end events e seat answer.s busy reply at answer.is_call.under_way_till is.count in
    (less.0, record { count = subst (λ m. IsCount (IsBusy events m) (busy - 1)) (next_moment e) less.1; few = (let few = is.few in omega arith) })

-- no call starts there; one is under way; none is, and the next event tells
pub no_overlap : (events : List Event) (e : ℕ) (s : Bool) → (IsTrue s ↔ IsStartAt events e) → s ≡ false → IsTrue s ↔ Overlaps events e
no_overlap events e s start none = (λ t. absurd (let n = none in cc), λ overlap. absurd (let t = start.1 overlap.start in cc))

pub overlap_busy : (events : List Event) (e busy : ℕ) (s : Bool) → (IsTrue s ↔ IsStartAt events e) → s ≡ true → AreBusy events e busy → 0 < busy
    → IsTrue (ltb 0 busy) ↔ Overlaps events e
overlap_busy events e busy s start is are some =
    (λ _. record { start = start.0 is; another = inl ((some_busy (IsBusy events e) busy are.count).0 some) }, λ _. lt-ltb 0 busy some)

pub overlap_next : (events : List Event) (e busy : ℕ) (s n : Bool) → (IsTrue s ↔ IsStartAt events e) → s ≡ true → (IsTrue n ↔ IsStartAt events (e + 1))
    → AreBusy events e busy → busy ≤ 0 → IsTrue n ↔ Overlaps events e
overlap_next events e busy s n start is next are none = (
  λ t. record { start = start.0 is; another = inr (next.0 t) },
  λ overlap. elim overlap.another [
    | inl under ↦ (let some = (some_busy (IsBusy events e) busy are.count).1 under in absurd (omega arith))
    | inr starts ↦ next.1 starts
  ],
)

-- a number that is put among those seen
pub seen_added : (b : Bool) (before : Option Bool) → is_some (if b then Some true else before) ≡ (b || is_some before)
seen_added true before = refl
seen_added false before = refl
