-- Every finished run has an order of each ring. Plan: each call of the ring has a key, since its deciding steps can be listed; and
-- members go into a list that ascends one by one, each behind the members of earlier keys.
use Rattle.std.proofs.Common.{◌≡◌, ℕ, zero, suc, ◌+◌, ◌<◌, ◌≤◌, ◌⊎◌, inl, inr, List, [], ◌∷◌, length, refl, ap, sym, ◌∙◌, subst, arith}
use Rattle.std.specs.Prelude.{Option, Some, None, slice_get, max}
use Rattle.std.specs.List.{Contains}
use Rattle.std.proofs.lemmas.Bool.{cases_lt, cases_eq}
use Rattle.std.proofs.lemmas.Option.{slice_get-get_or, slice_get_within}
use Rattle.scq_word.specs.Exports.{n_of}
use Rattle.scq_core.specs.declared.ended.Ended.{Ended}
use Rattle.scq_core.specs.declared.ended.Ended.TheVariants.{Done, Got, Nothing, Spent}
use Rattle.scq_core.specs.Exports.{SeatPart, ring_slots}
use Rattle.scq_law.specs.Exports.{Recorded, note_of, decisions_by, Key, key, IsEarlier, HasKey, of_nothing, of_put, of_get, IsOrderable, by_done}
use Rattle.scq_law.specs.Exports.{by_got, by_nothing, IsLinearization, IsDecidingStep, IsPutPoint, IsPointOfPlace, IsFinishedRun, HasEnded}
use Rattle.scq_law.specs.Exports.{state_before, last_state}
use Rattle.scq_law.proofs.Places.Throughout.{reached}
use Rattle.scq_law.specs.declared.marks.Decision.{Decision}
use Rattle.scq_law.specs.declared.ordered.Ordered.{Ordered}
use Rattle.scq_law.specs.declared.ordered.Ordered.TheVariants.{Opening, Call}
use Rattle.scq_law.specs.Order.{of_opening}
use Rattle.scq_law.specs.Points as points
use Rattle.scq_law.specs.RunSteps.{Run}
use Rattle.scq_law.proofs.Order.RunStates.{step_facts, ghost_before, traced}
use Rattle.scq_law.proofs.Order.RunDraws.{follow_run}
use Rattle.scq_law.proofs.Order.Decisions.{decides_before, stands_in, within}
use Rattle.scq_law.proofs.Order.DrawOrder.{done_draw, got_end}
use Rattle.scq_law.proofs.Order.DecisionLaws.{nothing_decides}
use Rattle.scq_law.proofs.Order.NoteLemmas.{told}
use Rattle.scq_law.proofs.Order.MarkFacts.{IsDecisionOf, PlacedAt, by_opening, by_call, placed_at, put_mark}
use Rattle.scq_law.proofs.Order.MarkedSteps.{decisions_kept, decisions_cases, decisions_added}
use Rattle.scq_law.proofs.Order.PlainReplies.{In, in_later, in_first, in_cases, in_none}
use Rattle.scq_law.proofs.Order.KeyUnique.{one_key, one_member}
use Rattle.scq_law.proofs.Order.OneList.{Ascends, none, one}

-- the deciding steps of a ring before step i, listed
record Listed (run : Run) (r i : ℕ) (ds : List Decision) : Type 0 where
  all : (d k x : ℕ) → d < i → IsDecidingStep run d k x r → Contains ds (record { head = (state_before run d).cells.head r; point = d + 1 })
  only : (e : Decision) → Contains ds e → IsDecisionOf run r i e

module _ (run : Run) (fin : IsFinishedRun run) (r : ℕ) where
  abbrev rec : Recorded
  rec = fin.recorded

  listed : (i : ℕ) → i ≤ length run.steps → (ds : List Decision) × Listed run r i ds
  listed =
      follow_run (length run.steps) (λ i. (ds : List Decision) × Listed run r i ds)
      ([], record { all = λ d k x before is. absurd (omega arith); only = λ e at. (let empty = at.1 in absurd (omega arith)) })
      (λ i low old.
      let f = step_facts run rec fin.is_run i low in
      let m = state_before run i in
      let n = note_of run.setup m.cells r (m.part f.seat).phase f.step in
      let tell = told run r i f in (
        decisions_by n (i + 1) old.0,
        record {
          all =
              λ d k x before is.
              elim (cases_eq d i) [
                | inl same ↦
                    let here : IsDecidingStep run i k x r = subst (λ (z : ℕ). IsDecidingStep run z k x r) same is in
                    rw same (decisions_added n (m.cells.head r) (i + 1) old.0 (tell.decisions k x here))
                | inr apart ↦
                    decisions_kept n (i + 1) old.0 (record { head = (state_before run d).cells.head r; point = d + 1 }) (old.1.all d k x (omega arith) is)
              ];
          only =
              λ e at.
              elim (decisions_cases n (i + 1) old.0 e at) [
                | inl was ↦
                    let of = old.1.only e was in
                    record {
                      at = of.at;
                      seat = of.seat;
                      call = of.call;
                      is = of.is;
                      before = (let b = of.before in omega arith);
                      head = of.head;
                      point = of.point;
                    }
                | inr new ↦
                    let mine = tell.decision_is new.0 new.1 in
                    record { at = i; seat = f.seat; call = _; is = mine.1; before = omega arith; head = new.2 ∙ mine.0; point = new.3 }
              ];
        },
      ))

  -- a put that ended has a point
  put_has_point : (k x p : ℕ) (w : List ℕ) → HasEnded run k x (Done r p w) → (point : ℕ) × IsPutPoint run k x r p point
  put_has_point k x p w ended =
      let e = done_draw run rec fin.is_run k x r p w ended in
      let ds = listed (length run.steps) (omega arith) in
      let mark = put_mark ds.0 (e.at + 1) p in (
        mark.0,
        record {
          drawn = e.at;
          draws = e.draws;
          from_draw = mark.1.from_first;
          from_decisions =
              λ d before.
              mark.1.from_decisions (record { head = (state_before run d).cells.head r; point = d + 1 })
              (ds.1.all d before.decider before.nothing (within run rec fin.is_run d run.steps before.decides.makes.there) before.decides) before.head;
          reached =
              elim mark.1.reached [
                | inl own ↦ inl own
                | inr last ↦
                    let of = ds.1.only last.0 last.1 in
                    let head = of.head in
                    let near = last.2 in
                    inr (of.at, decides_before run rec fin.is_run of.at of.seat of.call k x r p w of.is (omega arith) ended, last.3 ∙ of.point)
              ];
        },
      )

  place_has_point : (p : ℕ) → PlacedAt run fin r p → (point : ℕ) × IsPointOfPlace run r p point
  place_has_point p (by_opening ring first last) = (0, points.of_opening ring first last)
  place_has_point p (by_call k x w ended) = let mine = put_has_point k x p w ended in (mine.0, points.of_call k x mine.0 w ended mine.1)

  -- so each call of the ring has a key
  call_has_key : (k x : ℕ) → IsOrderable run r k x → (f : Key) × HasKey run r (Call k (x + 1)) f
  call_has_key k x (by_done p w ended) = let mine = put_has_point k x p w ended in (key mine.0 1 p, of_put k x p mine.0 w ended mine.1)
  call_has_key k x (by_got p w ended) =
      let e = got_end run rec fin.is_run k x r p w ended in
      let put = place_has_point p (placed_at run fin k x r p w ended) in
      let point = max (e.draw.at + 1) put.0 in
      (key point 2 p, of_get k x p point w ended (record { drawn = e.draw.at; draws = e.draw.draws; put = put.0; of_put = put.1; is = refl }))
  call_has_key k x (by_nothing ended) =
      let step = nothing_decides run rec fin.is_run k x r ended in (key (step.0 + 1) 0 0, of_nothing k x step.0 ended step.1)

  -- of two keys one comes before the other, or they are equal
  keys_compare : (f g : Key) → IsEarlier f g ⊎ (f ≡ g) ⊎ IsEarlier g f
  keys_compare f g =
      elim (cases_lt f.point g.point) [
        | inl less ↦ inl (record { before = inl less })
        | inr high ↦
            elim (cases_lt g.point f.point) [
              | inl less ↦ inr (inr (record { before = inl less }))
              | inr low ↦ at_point (omega arith)
            ]
      ]
    where
      at_place : f.point ≡ g.point → f.kind ≡ g.kind → IsEarlier f g ⊎ (f ≡ g) ⊎ IsEarlier g f
      at_place point kind =
          elim (cases_lt f.place g.place) [
            | inl less ↦ inl (record { before = inr (point, inr (kind, less)) })
            | inr high ↦
                elim (cases_lt g.place f.place) [
                  | inl less ↦ inr (inr (record { before = inr (sym point, inr (sym kind, less)) }))
                  | inr low ↦
                      let place : f.place ≡ g.place = omega arith in
                      inr (inl (ap (λ (z : ℕ). key z f.kind f.place) point ∙ ap (λ (z : ℕ). key g.point z f.place) kind
                      ∙ ap (λ (z : ℕ). key g.point g.kind z) place))
                ]
          ]

      at_point : f.point ≡ g.point → IsEarlier f g ⊎ (f ≡ g) ⊎ IsEarlier g f
      at_point point =
          elim (cases_lt f.kind g.kind) [
            | inl less ↦ inl (record { before = inr (point, inl less) })
            | inr high ↦
                elim (cases_lt g.kind f.kind) [
                  | inl less ↦ inr (inr (record { before = inr (sym point, inl less) }))
                  | inr low ↦ at_place point (omega arith)
                ]
          ]

  -- an earlier key comes before those that a later one comes before
  before_on : (f g h : Key) → IsEarlier f g → IsEarlier g h → IsEarlier f h
  before_on f g h first second =
      elim first.before [
        | inl a ↦ elim second.before [ inl b ↦ record { before = inl (omega arith) } | inr b ↦ (let point = b.0 in record { before = inl (omega arith) }) ]
        | inr a ↦
            let left = a.0 in
            elim second.before [
              | inl b ↦ record { before = inl (omega arith) }
              | inr b ↦ record { before = inr (a.0 ∙ b.0, kinds a.1 b.1) }
            ]
      ]
    where
      kinds : ((f.kind < g.kind) ⊎ ((f.kind ≡ g.kind) × (f.place < g.place))) → ((g.kind < h.kind) ⊎ ((g.kind ≡ h.kind) × (g.place < h.place)))
          → (f.kind < h.kind) ⊎ ((f.kind ≡ h.kind) × (f.place < h.place))
      kinds (inl x) (inl y) = inl (omega arith)
      kinds (inl x) (inr y) = let same = y.0 in inl (omega arith)
      kinds (inr x) (inl y) = let same = x.0 in inl (omega arith)
      kinds (inr x) (inr y) = let less = x.1 in let more = y.1 in inr (x.0 ∙ y.0, omega arith)

  -- a list that ascends, with one member more
  record Inserted (y : Ordered) (xs ys : List Ordered) : Type 0 where
    up : Ascends run r ys
    has : In ys y
    kept : (z : Ordered) → In xs z → In ys z
    only : (z : Ordered) → In ys z → In xs z ⊎ (z ≡ y)

  insert : (y : Ordered) (f : Key) → HasKey run r y f → (xs : List Ordered) → Ascends run r xs → (ys : List Ordered) × Inserted y xs ys
  insert y f mine [] up = (
    y ∷ [],
    record {
      up = one f mine (λ z g at has. absurd (in_none z at)) none;
      has = in_first y [];
      kept = λ z at. absurd (in_none z at);
      only = λ z at. elim (in_cases y [] z at) [ inl same ↦ inr same | inr later ↦ inl later ];
    },
  )
  insert y f mine (x ∷ xs) (one g own first later) =
      elim (keys_compare f g) [
        | inl before ↦ (
          y ∷ x ∷ xs,
          record {
            up =
                one f mine
                (λ z h at has.
                elim (in_cases x xs z at) [
                  | inl same ↦ subst (IsEarlier f) (one_key run rec fin.is_run r x g h own (subst (λ (v : Ordered). HasKey run r v h) same has)) before
                  | inr behind ↦ before_on f g h before (first z h behind has)
                ])
                (one g own first later);
            has = in_first y (x ∷ xs);
            kept = λ z at. in_later y (x ∷ xs) z at;
            only = λ z at. elim (in_cases y (x ∷ xs) z at) [ inl same ↦ inr same | inr behind ↦ inl behind ];
          },
        )
        | inr (inl equal) ↦
            let same : y ≡ x = one_member run fin r y x f g mine own equal in
            (x ∷ xs, record { up = one g own first later; has = subst (In (x ∷ xs)) (sym same) (in_first x xs); kept = λ z at. at; only = λ z at. inl at })
        | inr (inr after) ↦
            let rest = insert y f mine xs later in (
              x ∷ rest.0,
              record {
                up =
                    one g own
                    (λ z h at has.
                    elim (rest.1.only z at) [
                      | inl old ↦ first z h old has
                      | inr same ↦ subst (IsEarlier g) (one_key run rec fin.is_run r y f h mine (subst (λ (v : Ordered). HasKey run r v h) same has)) after
                    ])
                    rest.1.up;
                has = in_later x rest.0 y rest.1.has;
                kept =
                    λ z at.
                    elim (in_cases x xs z at) [
                      | inl same ↦ subst (In (x ∷ rest.0)) (sym same) (in_first x rest.0)
                      | inr behind ↦ in_later x rest.0 z (rest.1.kept z behind)
                    ];
                only =
                    λ z at.
                    elim (in_cases x rest.0 z at) [
                      | inl same ↦ inl (subst (In (x ∷ xs)) (sym same) (in_first x xs))
                      | inr behind ↦ elim (rest.1.only z behind) [ inl old ↦ inl (in_later x xs z old) | inr same ↦ inr same ]
                    ];
              },
            )
      ]

  -- what is wanted of a number of members, each of which there may be
  record Gathered (many : ℕ) (Wanted : ℕ → Ordered → Type 0) (xs ys : List Ordered) : Type 0 where
    up : Ascends run r ys
    kept : (z : Ordered) → In xs z → In ys z
    all : (j : ℕ) (y : Ordered) → j < many → Wanted j y → In ys y

  -- one more of them
  gather_more : (many : ℕ) (Wanted : ℕ → Ordered → Type 0) (xs : List Ordered) (x : Ordered)
      → (rest : (ys : List Ordered) × Gathered many Wanted xs ys) → (ys : List Ordered) → Ascends run r ys → In ys x → ((z : Ordered) → In rest.0 z → In ys z)
      → ((y : Ordered) → Wanted many y → y ≡ x) → (ys : List Ordered) × Gathered (suc many) Wanted xs ys
  gather_more many Wanted xs x rest ys up has kept named = (
    ys,
    record {
      up = up;
      kept = λ z at. kept z (rest.1.kept z at);
      all =
          λ j y low is.
          elim (cases_eq j many) [
            | inl same ↦ subst (In ys) (sym (named y (subst (λ i. Wanted i y) same is))) has
            | inr apart ↦ kept y (rest.1.all j y (omega arith) is)
          ];
    },
  )

  -- the openings
  openings : (many : ℕ) → many ≤ n_of run.setup.order → r ≡ 0 → (xs : List Ordered) → Ascends run r xs
      → (ys : List Ordered) × Gathered many (λ j y. y ≡ Opening j) xs ys
  openings zero within ring xs up = (xs, record { up = up; kept = λ z at. at; all = λ j y low is. absurd (omega arith) })
  openings (suc many) within ring xs up =
      let rest = openings many (omega arith) ring xs up in
      let more = insert (Opening many) (key 0 1 (ring_slots run.setup + many)) (of_opening many ring (omega arith)) rest.0 rest.1.up in
      gather_more many (λ j y. y ≡ Opening j) xs (Opening many) rest more.0 more.1.up more.1.has more.1.kept (λ y is. is)

  -- the calls of a seat: whether one is of the ring is read off its end
  orderable_or : (k x : ℕ) (e : Ended) → HasEnded run k x e → IsOrderable run r k x ⊎ (IsOrderable run r k x → ⊥)
  orderable_or k x (Done q p w) ended =
      elim (cases_eq q r) [ inl same ↦ inl (by_done p w (ended ∙ ap (λ (z : ℕ). Some (Done z p w)) same)) | inr apart ↦ inr (λ o. apart (ring_done o)) ]
    where
      ring_done : IsOrderable run r k x → q ≡ r
      ring_done (by_done u v at) = let both : Some (Done q p w) ≡ Some (Done r u v) = sym ended ∙ at in cc
      ring_done (by_got u v at) = let both : Some (Done q p w) ≡ Some (Got r u v) = sym ended ∙ at in absurd (cc)
      ring_done (by_nothing at) = let both : Some (Done q p w) ≡ Some (Nothing r) = sym ended ∙ at in absurd (cc)
  orderable_or k x (Got q p w) ended =
      elim (cases_eq q r) [ inl same ↦ inl (by_got p w (ended ∙ ap (λ (z : ℕ). Some (Got z p w)) same)) | inr apart ↦ inr (λ o. apart (ring_got o)) ]
    where
      ring_got : IsOrderable run r k x → q ≡ r
      ring_got (by_done u v at) = let both : Some (Got q p w) ≡ Some (Done r u v) = sym ended ∙ at in absurd (cc)
      ring_got (by_got u v at) = let both : Some (Got q p w) ≡ Some (Got r u v) = sym ended ∙ at in cc
      ring_got (by_nothing at) = let both : Some (Got q p w) ≡ Some (Nothing r) = sym ended ∙ at in absurd (cc)
  orderable_or k x (Nothing q) ended =
      elim (cases_eq q r) [ inl same ↦ inl (by_nothing (ended ∙ ap (λ (z : ℕ). Some (Nothing z)) same)) | inr apart ↦ inr (λ o. apart (ring_nothing o)) ]
    where
      ring_nothing : IsOrderable run r k x → q ≡ r
      ring_nothing (by_done u v at) = let both : Some (Nothing q) ≡ Some (Done r u v) = sym ended ∙ at in absurd (cc)
      ring_nothing (by_got u v at) = let both : Some (Nothing q) ≡ Some (Got r u v) = sym ended ∙ at in absurd (cc)
      ring_nothing (by_nothing at) = let both : Some (Nothing q) ≡ Some (Nothing r) = sym ended ∙ at in cc
  orderable_or k x (Spent q t put) ended = inr spent
    where
      spent : IsOrderable run r k x → ⊥
      spent (by_done u v at) = let both : Some (Spent q t put) ≡ Some (Done r u v) = sym ended ∙ at in cc
      spent (by_got u v at) = let both : Some (Spent q t put) ≡ Some (Got r u v) = sym ended ∙ at in cc
      spent (by_nothing at) = let both : Some (Spent q t put) ≡ Some (Nothing r) = sym ended ∙ at in cc

  ended_of : (k x : ℕ) → IsOrderable run r k x → (e : Ended) × HasEnded run k x e
  ended_of k x (by_done p w at) = (Done r p w, at)
  ended_of k x (by_got p w at) = (Got r p w, at)
  ended_of k x (by_nothing at) = (Nothing r, at)

  orderable_at : (k x : ℕ) → IsOrderable run r k x ⊎ (IsOrderable run r k x → ⊥)
  orderable_at k x = go (slice_get ((last_state run).part k).calls x) refl
    where
      go : (o : Option Ended) → slice_get ((last_state run).part k).calls x ≡ o → IsOrderable run r k x ⊎ (IsOrderable run r k x → ⊥)
      go None is = inr (λ o. let at = ended_of k x o in let both = sym is ∙ at.1 in absurd (cc))
      go (Some e) is = orderable_or k x e is

  -- a call of a number below this
  data CallOf (k j : ℕ) (y : Ordered) : Type 0 where
    call_of_seat : IsOrderable run r k j → y ≡ Call k (j + 1) → CallOf k j y

  seat_calls : (k many : ℕ) (xs : List Ordered) → Ascends run r xs → (ys : List Ordered) × Gathered many (CallOf k) xs ys
  seat_calls k zero xs up = (xs, record { up = up; kept = λ z at. at; all = λ j y low is. absurd (omega arith) })
  seat_calls k (suc many) xs up =
      let rest = seat_calls k many xs up in
      elim (orderable_at k many) [
        | inl orderable ↦
            let mine = call_has_key k many orderable in
            let more = insert (Call k (many + 1)) mine.0 mine.1 rest.0 rest.1.up in
            gather_more many (CallOf k) xs (Call k (many + 1)) rest more.0 more.1.up more.1.has more.1.kept (named k many)
        | inr not_one ↦ (
          rest.0,
          record {
            up = rest.1.up;
            kept = rest.1.kept;
            all =
                λ j y low is.
                elim (cases_eq j many) [
                  | inl same ↦ absurd (not_one (subst (IsOrderable run r k) same (orderable k j y is)))
                  | inr apart ↦ rest.1.all j y (omega arith) is
                ];
          },
        )
      ]
    where
      named : (k j : ℕ) (y : Ordered) → CallOf k j y → y ≡ Call k (j + 1)
      named k j y (call_of_seat is same) = same

      orderable : (k j : ℕ) (y : Ordered) → CallOf k j y → IsOrderable run r k j
      orderable k j y (call_of_seat is same) = is

  -- the calls of the seats below a number
  record SeatCall (k : ℕ) (y : Ordered) : Type 0 where
    call : ℕ
    is : CallOf k call y
    low : call < length ((last_state run).part k).calls

  all_calls : (many : ℕ) (xs : List Ordered) → Ascends run r xs → (ys : List Ordered) × Gathered many SeatCall xs ys
  all_calls zero xs up = (xs, record { up = up; kept = λ z at. at; all = λ j y low is. absurd (omega arith) })
  all_calls (suc many) xs up =
      let rest = all_calls many xs up in
      let more = seat_calls many (length ((last_state run).part many).calls) rest.0 rest.1.up in (
        more.0,
        record {
          up = more.1.up;
          kept = λ z at. more.1.kept z (rest.1.kept z at);
          all =
              λ j y low is.
              elim (cases_eq j many) [
                | inl same ↦ here j y same is more.0 more.1
                | inr apart ↦ more.1.kept y (rest.1.all j y (omega arith) is)
              ];
        },
      )
    where
      here : (j : ℕ) (y : Ordered) → j ≡ many → SeatCall j y → (ys : List Ordered) → {xs : List Ordered}
          → Gathered (length ((last_state run).part many).calls) (CallOf many) xs ys → In ys y
      here j y same is ys gathered =
          let mine : SeatCall many y = subst (λ (k : ℕ). SeatCall k y) same is in gathered.all mine.call y mine.low mine.is

  -- an ascending list has keys, and is sorted by them
  keyed : (xs : List Ordered) → Ascends run r xs → (z : Ordered) → In xs z → (f : Key) × HasKey run r z f
  keyed [] up z at = absurd (in_none z at)
  keyed (x ∷ xs) (one f own first later) z at =
      elim (in_cases x xs z at) [ inl same ↦ (f, subst (λ (v : Ordered). HasKey run r v f) (sym same) own) | inr behind ↦ keyed xs later z behind ]

  sorted : (xs : List Ordered) → Ascends run r xs → (a b : ℕ) (x y : Ordered) (f g : Key) → a < b → slice_get xs a ≡ Some x → slice_get xs b ≡ Some y
      → HasKey run r x f → HasKey run r y g → IsEarlier f g
  sorted [] up a b x y f g less first second of_x of_y = absurd (cc)
  sorted (z ∷ xs) up a zero x y f g less first second of_x of_y = absurd (omega arith)
  sorted (z ∷ xs) (one h own ahead later) zero (suc b) x y f g less first second of_x of_y =
      let same : z ≡ x = cc in
      let keys = one_key run rec fin.is_run r z h f own (subst (λ (v : Ordered). HasKey run r v f) (sym same) of_x) in
      subst (λ (v : Key). IsEarlier v g) keys (ahead y g (b, second) of_y)
  sorted (z ∷ xs) (one h own ahead later) (suc a) (suc b) x y f g less first second of_x of_y =
      sorted xs later a b x y f g (omega arith) first second of_x of_y

  in_seats : (k x : ℕ) (e : Ended) → HasEnded run k x e → k < run.setup.seats
  in_seats k x e ended =
      elim (cases_lt k run.setup.seats) [
        | inl low ↦ low
        | inr high ↦
            let n = length run.steps in
            let part = (reached run.setup n (ghost_before run n) (last_state run) (traced run rec fin.is_run n (omega arith))).absent k high in
            let empty : slice_get [] x ≡ Some e = sym (ap (λ (p : SeatPart). slice_get p.calls x) part) ∙ ended in
            absurd (cc)
      ]

  of_list : (xs : List Ordered) → Ascends run r xs → ((k x : ℕ) → IsOrderable run r k x → In xs (Call k (x + 1)))
      → ((j : ℕ) → r ≡ 0 → j < n_of run.setup.order → In xs (Opening j)) → IsLinearization run r xs
  of_list xs up calls tokens =
      record {
        calls = λ k x o. (let at = calls k x o in stands_in xs at.0 (Call k (x + 1)) at.1);
        openings = λ j ring low. (let at = tokens j ring low in stands_in xs at.0 (Opening j) at.1);
        only = λ z has. keyed xs up z (in_of xs z has);
        sorted = sorted xs up;
      }
    where
      in_of : (xs : List Ordered) (z : Ordered) → Contains xs z → In xs z
      in_of xs z has = (has.0, slice_get-get_or xs has.0 z has.1 ∙ ap Some has.2)

  with_calls : (xs : List Ordered) → Ascends run r xs → ((j : ℕ) → r ≡ 0 → j < n_of run.setup.order → In xs (Opening j))
      → (order : List Ordered) × IsLinearization run r order
  with_calls xs up tokens =
      let all = all_calls run.setup.seats xs up in (
        all.0,
        of_list all.0 all.1.up
            (λ k x o.
            let end = ended_of k x o in
            all.1.all k (Call k (x + 1)) (in_seats k x end.0 end.1)
            (record { call = x; is = call_of_seat o refl; low = slice_get_within ((last_state run).part k).calls x end.0 end.1 }))
            (λ j ring low. all.1.kept (Opening j) (tokens j ring low)),
      )

  pub order_exists : (order : List Ordered) × IsLinearization run r order
  order_exists =
      elim (cases_eq r 0) [
        | inl ring ↦
            let first = openings (n_of run.setup.order) (omega arith) ring [] none in
            with_calls first.0 first.1.up (λ j zero_ring low. first.1.all j (Opening j) low refl)
        | inr apart ↦ with_calls [] none (λ j ring low. absurd (apart ring))
      ]
