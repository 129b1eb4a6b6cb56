-- Each reply is the plain queue's. Plan: along the order the queue holds, in order of place, the puts that have been made and not
-- got. A put stands behind all of them; a get's place is the front, since lower places are got before it; and where a Nothing
-- comes, each put before it was got before it.
use Rattle.std.proofs.Common.{◌≡◌, ℕ, zero, suc, ◌+◌, ◌<◌, ◌⊎◌, inl, inr, List, [], ◌∷◌, ◌++◌, map, refl, ap, sym, ◌∙◌, subst, arith}
use Rattle.std.specs.Prelude.{Some, slice_get, max}
use Rattle.std.proofs.lemmas.Bool.{cases_lt}
use Rattle.scq_law.specs.declared.ordered.Ordered.{Ordered}
use Rattle.scq_law.specs.declared.ordered.Ordered.TheVariants.{Call}
use Rattle.scq_law.specs.Exports.{IsFinishedRun, IsDecidingStep, Key, key, IsEarlier, HasKey}
use Rattle.scq_law.specs.RunSteps.{Run}
use Rattle.scq_law.proofs.Order.PointLemmas.{place_points_rise, get_points_rise, put_before_get}
use Rattle.scq_law.proofs.Order.KeyLemmas.{get_of, put_of, place_keyed, same_kind, before_apart, lower_got, got_before, got_once}

-- a list has it at some position
abbrev pub In : {A : Type 0} → List A → A → Type 0
In xs x = (a : ℕ) × (slice_get xs a ≡ Some x)

pub in_later : {A : Type 0} (y : A) (xs : List A) (x : A) → In xs x → In (y ∷ xs) x
in_later y xs x at = (suc at.0, at.1)

pub in_first : {A : Type 0} (y : A) (xs : List A) → In (y ∷ xs) y
in_first y xs = (0, refl)

pub in_cases : {A : Type 0} (y : A) (xs : List A) (x : A) → In (y ∷ xs) x → (x ≡ y) ⊎ In xs x
in_cases y xs x at = go at.0 at.1
  where
    go : (a : ℕ) → slice_get (y ∷ xs) a ≡ Some x → (x ≡ y) ⊎ In xs x
    go zero is = let same : y ≡ x = cc in inl (sym same)
    go (suc a) is = inr (a, is)

pub in_none : {A : Type 0} (x : A) → In (let none : List A = [] in none) x → ⊥
in_none x at = let is = at.1 in cc

in_push : {A : Type 0} (xs : List A) (y x : A) → In (xs ++ y ∷ []) x → In xs x ⊎ (x ≡ y)
in_push [] y x at = elim (in_cases y [] x at) [ inl same ↦ inr same | inr none ↦ absurd (in_none x none) ]
in_push (z ∷ xs) y x at =
    elim (in_cases z (xs ++ y ∷ []) x at) [
      | inl same ↦ inl (0, ap Some (sym same))
      | inr later ↦ elim (in_push xs y x later) [ inl old ↦ inl (in_later z xs x old) | inr new ↦ inr new ]
    ]

in_grown : {A : Type 0} (xs : List A) (y x : A) → In xs x → In (xs ++ y ∷ []) x
in_grown [] y x at = absurd (in_none x at)
in_grown (z ∷ xs) y x at =
    elim (in_cases z xs x at) [
      | inl same ↦ (0, ap Some (sym same))
      | inr later ↦ in_later z (xs ++ y ∷ []) x (in_grown xs y x later)
    ]

in_pushed : {A : Type 0} (xs : List A) (y : A) → In (xs ++ y ∷ []) y
in_pushed [] y = (0, refl)
in_pushed (z ∷ xs) y = in_later z (xs ++ y ∷ []) y (in_pushed xs y)

-- the front is below all others, and so on
pub data Rising : List ℕ → Type 0 where
  none : Rising []
  one : {p : ℕ} {ps : List ℕ} → ((q : ℕ) → In ps q → p < q) → Rising ps → Rising (p ∷ ps)

rising_push : (ps : List ℕ) (p : ℕ) → Rising ps → ((q : ℕ) → In ps q → q < p) → Rising (ps ++ p ∷ [])
rising_push ps p none low = one (λ q at. absurd (in_none q at)) none
rising_push ps p (one {p = q} {ps = qs} up rest) low =
    one (λ z at. elim (in_push qs p z at) [ inl old ↦ up z old | inr new ↦ (let first = low q (in_first q qs) in omega arith) ])
    (rising_push qs p rest (λ z at. low z (in_later q qs z at)))

pub first_low : (p : ℕ) (ps : List ℕ) → Rising (p ∷ ps) → (q : ℕ) → In ps q → p < q
first_low p ps (one up rest) q at = up q at

rest_rising : (p : ℕ) (ps : List ℕ) → Rising (p ∷ ps) → Rising ps
rest_rising p ps (one up rest) = rest

pub map_push : {A B : Type 0} (f : A → B) (xs : List A) (x : A) → map f (xs ++ x ∷ []) ≡ map f xs ++ f x ∷ []
map_push f [] x = refl
map_push f (y ∷ xs) x = ap (λ zs. f y ∷ zs) (map_push f xs x)

module _ (run : Run) (fin : IsFinishedRun run) (r : ℕ) where
  abbrev Has : Ordered → Key → Type 0
  Has y f = HasKey run r y f

  -- this key comes before those of all these members
  abbrev pub Passed : List Ordered → Key → Type 0
  Passed rest f = (z : Ordered) (g : Key) → In rest z → Has z g → IsEarlier f g

  -- each member's key comes before those behind it
  pub data Ordering : List Ordered → Type 0 where
    done : Ordering []
    then_on : {y : Ordered} {rest : List Ordered} → ((f : Key) → Has y f → Passed rest f) → Ordering rest → Ordering (y ∷ rest)

  passed_on : (y : Ordered) (rest : List Ordered) (f : Key) → Passed (y ∷ rest) f → Passed rest f
  passed_on y rest f passed z g at has = passed z g (in_later y rest z at) has

  pub record PutBefore (rest : List Ordered) (q : ℕ) : Type 0 where
    pub member : Ordered
    pub point : ℕ
    pub has : Has member (key point 1 q)
    pub passed : Passed rest (key point 1 q)

  pub record GotBefore (rest : List Ordered) (q : ℕ) : Type 0 where
    pub member : Ordered
    pub point : ℕ
    pub has : Has member (key point 2 q)
    pub passed : Passed rest (key point 2 q)

  -- the places of the puts that were made and not got, before these members
  pub record Holds (ps : List ℕ) (rest : List Ordered) : Type 0 where
    pub rising : Rising ps
    pub made : (q : ℕ) → In ps q → PutBefore rest q
    pub kept : (y : Ordered) (q point : ℕ) → Has y (key point 1 q) → In ps q ⊎ In rest y ⊎ GotBefore rest q
    pub ungot : (q : ℕ) (z : Ordered) (point : ℕ) → In ps q → Has z (key point 2 q) → In rest z
    pub rest_or : (z : Ordered) (g : Key) → Has z g → In rest z ⊎ Passed rest g

  put_before_on : (y : Ordered) (rest : List Ordered) (q : ℕ) → PutBefore (y ∷ rest) q → PutBefore rest q
  put_before_on y rest q b = record { member = b.member; point = b.point; has = b.has; passed = passed_on y rest (key b.point 1 q) b.passed }

  got_before_on : (y : Ordered) (rest : List Ordered) (q : ℕ) → GotBefore (y ∷ rest) q → GotBefore rest q
  got_before_on y rest q b = record { member = b.member; point = b.point; has = b.has; passed = passed_on y rest (key b.point 2 q) b.passed }

  pub rising_of : {ps : List ℕ} {rest : List Ordered} → Holds ps rest → Rising ps
  rising_of holds = holds.rising

  -- before the first member nothing is held
  pub holds_none : (order : List Ordered) → ((z : Ordered) (g : Key) → Has z g → In order z) → Holds [] order
  holds_none order whole =
      record {
        rising = none;
        made = λ q at. absurd (in_none q at);
        kept = λ y q point has. inr (inl (whole y (key point 1 q) has));
        ungot = λ q z point at get. whole z (key point 2 q) get;
        rest_or = λ z g has. inl (whole z g has);
      }

  -- two gets of one place are one
  one_get : (y z : Ordered) (p a b : ℕ) → Has y (key a 2 p) → Has z (key b 2 p) → z ≡ y
  one_get y z p a b first second =
      let f = get_of run r y (key a 2 p) first refl in
      let s = get_of run r z (key b 2 p) second refl in
      let same = got_once run fin r p s.seat s.call f.seat f.call s.content f.content s.ended f.ended in
      s.is ∙ ap (λ (k : ℕ). Call k (s.call + 1)) same.0 ∙ ap (λ (x : ℕ). Call f.seat (x + 1)) same.1 ∙ sym f.is

  -- what has a key and is in a list after its first is in the rest
  in_rest : (y : Ordered) (rest : List Ordered) (z : Ordered) (f g : Key) → Has y f → Has z g → (f.kind ≡ g.kind → ⊥) → In (y ∷ rest) z → In rest z
  in_rest y rest z f g first second apart at =
      elim (in_cases y rest z at) [
        | inl same ↦ absurd (apart (same_kind run r y z f g first second same).kind)
        | inr later ↦ later
      ]

  in_rest_place : (y : Ordered) (rest : List Ordered) (z : Ordered) (f g : Key) → Has y f → Has z g → (f.place ≡ g.place → ⊥) → In (y ∷ rest) z → In rest z
  in_rest_place y rest z f g first second apart at =
      elim (in_cases y rest z at) [
        | inl same ↦ absurd (apart (same_kind run r y z f g first second same).place)
        | inr later ↦ later
      ]

  module _ (y : Ordered) (rest : List Ordered) (ps : List ℕ) (holds : Holds ps (y ∷ rest)) (sorted : (f : Key) → Has y f → Passed rest f) where
    rest_on : (z : Ordered) (g : Key) → Has z g → In rest z ⊎ Passed rest g
    rest_on z g has =
        elim (holds.rest_or z g has) [
          | inl at ↦
              elim (in_cases y rest z at) [
                | inl same ↦ inr (sorted g (subst (λ (v : Ordered). Has v g) same has))
                | inr later ↦ inl later
              ]
          | inr passed ↦ inr (passed_on y rest g passed)
        ]

    -- a put stands behind all
    pub after_put : (p point : ℕ) → Has y (key point 1 p) → Holds (ps ++ p ∷ []) rest
    after_put p point has =
        let place = put_of run r y (key point 1 p) has refl in
        record {
          rising =
              rising_push ps p holds.rising
              (λ q at.
              let b = holds.made q at in
              let first = (b.passed y (key point 1 p) (in_first y rest) has).before in
              elim first [
                | inl less ↦
                    elim (cases_lt q p) [
                      | inl low ↦ low
                      | inr high ↦
                          let up = place_points_rise run fin.recorded fin.is_run r p q point b.point high place (put_of run r b.member
                          (key b.point 1 q) b.has refl) in
                          absurd (omega arith)
                    ]
                | inr tie ↦ elim tie.1 [ inl kind ↦ absurd (omega arith) | inr low ↦ low.1 ]
              ]);
          made =
              λ q at.
              elim (in_push ps p q at) [
                | inl old ↦ put_before_on y rest q (holds.made q old)
                | inr new ↦ rw new (record { member = y; point = point; has = has; passed = sorted (key point 1 p) has })
              ];
          kept =
              λ z q a put.
              elim (holds.kept z q a put) [
                | inl at ↦ inl (in_grown ps p q at)
                | inr (inl at) ↦
                    elim (in_cases y rest z at) [
                      | inl same ↦
                          let places = (same_kind run r y z (key point 1 p) (key a 1 q) has put same).place in
                          inl (subst (λ (v : ℕ). In (ps ++ p ∷ []) v) places (in_pushed ps p))
                      | inr later ↦ inr (inl later)
                    ]
                | inr (inr got) ↦ inr (inr (got_before_on y rest q got))
              ];
          ungot =
              λ q z a at get.
              elim (in_push ps p q at) [
                | inl old ↦ in_rest y rest z (key point 1 p) (key a 2 q) has get (λ e. omega arith) (holds.ungot q z a old get)
                | inr new ↦
                    let here : Has z (key a 2 p) = subst (λ (v : ℕ). Has z (key a 2 v)) new get in
                    let at_get = (get_of run r z (key a 2 p) here refl).point in
                    let late = put_before_get run fin.recorded fin.is_run _ r p point a place at_get in
                    elim (holds.rest_or z (key a 2 p) here) [
                      | inl in_it ↦ in_rest y rest z (key point 1 p) (key a 2 p) has here (λ e. omega arith) in_it
                      | inr passed ↦
                          elim (passed y (key point 1 p) (in_first y rest) has).before [
                            | inl less ↦ absurd (omega arith)
                            | inr tie ↦ elim tie.1 [ inl kind ↦ absurd (omega arith) | inr same ↦ (let kinds = same.0 in absurd (omega arith)) ]
                          ]
                    ]
              ];
          rest_or = rest_on;
        }

    -- a get's place is held
    pub get_held : (p point : ℕ) → Has y (key point 2 p) → In ps p
    get_held p point has =
        let get = (get_of run r y (key point 2 p) has refl).point in
        let put = place_keyed run r p get.put get.of_put in
        let late = put_before_get run fin.recorded fin.is_run _ r p get.put point get.of_put get in
        elim (holds.kept put.member p get.put put.has) [
          | inl at ↦ at
          | inr (inl at) ↦
              let later = in_rest y rest put.member (key point 2 p) (key get.put 1 p) has put.has (λ e. omega arith) at in
              elim (sorted (key point 2 p) has put.member (key get.put 1 p) later put.has).before [
                | inl less ↦ absurd (omega arith)
                | inr tie ↦ elim tie.1 [ inl kind ↦ absurd (omega arith) | inr same ↦ (let kinds = same.0 in absurd (omega arith)) ]
              ]
          | inr (inr got) ↦
              let same = one_get y got.member p point got.point has got.has in
              let own : Has y (key got.point 2 p) = subst (λ (v : Ordered). Has v (key got.point 2 p)) same got.has in
              let self = got.passed y (key got.point 2 p) (in_first y rest) own in
              absurd (before_apart (key got.point 2 p) (key got.point 2 p) self self)
        ]

    -- nothing below it is
    pub none_below : (p point q : ℕ) → Has y (key point 2 p) → In ps q → q < p → ⊥
    none_below p point q has at low =
        let get = (get_of run r y (key point 2 p) has refl).point in
        let b = holds.made q at in
        let got = lower_got run fin r p q _ get.drawn b.point get.draws low (put_of run r b.member (key b.point 1 q) b.has refl) in
        let there = in_rest_place y rest got.member (key point 2 p) (key (max (got.drawn + 1) b.point) 2 q) has got.has (λ e. omega arith)
        (holds.ungot q got.member (max (got.drawn + 1) b.point) at got.has) in
        let its = (get_of run r got.member (key (max (got.drawn + 1) b.point) 2 q) got.has refl).point in
        let up = get_points_rise run fin.recorded fin.is_run _ _ r q p (max (got.drawn + 1) b.point) point (omega arith) its get in
        elim (sorted (key point 2 p) has got.member (key (max (got.drawn + 1) b.point) 2 q) there got.has).before [
          | inl less ↦ omega arith
          | inr tie ↦ elim tie.1 [ inl kind ↦ omega arith | inr place ↦ (let above = place.1 in omega arith) ]
        ]

    -- where a Nothing comes nothing is held
    pub nothing_held : (k x d q : ℕ) → IsDecidingStep run d k x r → Has y (key (d + 1) 0 0) → In ps q → ⊥
    nothing_held k x d q is has at =
        let b = holds.made q at in
        let early : b.point < d + 1 =
        elim (b.passed y (key (d + 1) 0 0) (in_first y rest) has).before [
          | inl less ↦ less
          | inr tie ↦ elim tie.1 [ inl kind ↦ absurd (omega arith) | inr same ↦ (let kinds = same.0 in absurd (omega arith)) ]
        ] in
        let got = got_before run fin r q k x d b.point is early (put_of run r b.member (key b.point 1 q) b.has refl) in
        let first = got.1 in
        let point = max (got.0.drawn + 1) b.point in
        let there = in_rest y rest got.0.member (key (d + 1) 0 0) (key point 2 q) has got.0.has (λ e. omega arith)
        (holds.ungot q got.0.member point at got.0.has) in
        elim (sorted (key (d + 1) 0 0) has got.0.member (key point 2 q) there got.0.has).before [
          | inl less ↦ omega arith
          | inr tie ↦ (let same = tie.0 in omega arith)
        ]

    pub after_nothing : (f : Key) → Has y f → f.kind ≡ 0 → ps ≡ [] → Holds ps rest
    after_nothing f has kind empty =
        record {
          rising = holds.rising;
          made = λ q at. put_before_on y rest q (holds.made q at);
          kept =
              λ z q a put.
              elim (holds.kept z q a put) [
                | inl at ↦ inl at
                | inr (inl at) ↦ inr (inl (in_rest y rest z f (key a 1 q) has put (λ e. omega arith) at))
                | inr (inr got) ↦ inr (inr (got_before_on y rest q got))
              ];
          ungot = λ q z a at get. in_rest y rest z f (key a 2 q) has get (λ e. omega arith) (holds.ungot q z a at get);
          rest_or = rest_on;
        }

  pub after_get : (y : Ordered) (rest : List Ordered) (p : ℕ) (ps : List ℕ) → Holds (p ∷ ps) (y ∷ rest) → ((f : Key) → Has y f → Passed rest f) → (point : ℕ)
      → Has y (key point 2 p) → Holds ps rest
  after_get y rest p ps holds sorted point has =
      record {
        rising = rest_rising p ps holds.rising;
        made = λ q at. put_before_on y rest q (holds.made q (in_later p ps q at));
        kept =
            λ z q a put.
            elim (holds.kept z q a put) [
              | inl at ↦
                  elim (in_cases p ps q at) [
                    | inl same ↦ inr (inr (rw same (record { member = y; point = point; has = has; passed = sorted (key point 2 p) has })))
                    | inr later ↦ inl later
                  ]
              | inr (inl at) ↦ inr (inl (in_rest y rest z (key point 2 p) (key a 1 q) has put (λ e. omega arith) at))
              | inr (inr got) ↦ inr (inr (got_before_on y rest q got))
            ];
        ungot =
            λ q z a at get.
            let above = first_low p ps holds.rising q at in
            in_rest_place y rest z (key point 2 p) (key a 2 q) has get (λ e. omega arith) (holds.ungot q z a (in_later p ps q at) get);
        rest_or = rest_on y rest (p ∷ ps) holds sorted;
      }
