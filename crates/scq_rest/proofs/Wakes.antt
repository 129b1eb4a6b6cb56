-- Who was woken how often, of all workers together.
use Rattle.std.proofs.Common.{◌≡◌, ◌≢◌, ◌∙◌, ◌⊎◌, refl, sym, ap, subst, arith, ℕ, zero, suc, ◌+◌, ◌-◌, ◌<◌, ◌≤◌, ◌==◌, if◌then◌else◌, List, [], ◌∷◌, length, map, inl, inr, Some, None, Bool, true, false}
use Rattle.std.specs.Prelude.{slice_index, slice_set, slice_get}
use Rattle.std.proofs.lemmas.Bool.{cases_lt}
use Rattle.std.proofs.lemmas.Bool.Decides.{eqb_tells}
use Rattle.std.proofs.lemmas.List.{get_or-set_same, get_or-set_other, length-set, length-map}
use Rattle.std.proofs.lemmas.List.Elements.{All-head, All-tail}
use Rattle.atomic_table.specs.Seated.{TableId}
use Rattle.scq_block.specs.declared.frame.Frame.{Frame}
use Rattle.scq_park.specs.declared.rested.Rested.{Rested}
use Rattle.scq_park.specs.Exports.{Post, plus, woken, ended, no_wakes, counted, rested_of}
use Rattle.scq_passes.specs.Exports.{NoneSpent}
use Rattle.scq_queue.specs.Exports.{PassStanding, Placed, sends_of}
use Rattle.scq_worker.specs.Exports.{HasRung, RingsEachSend, next_of, more_often, others_more, others_more_where, asked_once}
use Rattle.scq_rest.specs.Exports.{EachRang, before_of, at_retirements}

module _ {B : Type 0} where
  -- it sent nothing more, and woke all others where its first question was its last
  pub rung-on : (number its workers : ℕ) (p q : PassStanding B) (first was is : List ℕ) → sends_of q.calls ≡ sends_of p.calls → its ≡ number
      → is ≡ others_more_where (asked_once q) its workers was → RingsEachSend number workers p first was → HasRung number workers q first is
  rung-on number its workers p q first was is sends same more rings =
      more ∙ ap (λ n. others_more_where (asked_once q) n workers was) same
      ∙ ap (λ (l : List ℕ). others_more_where (asked_once q) number workers l)
      (rings ∙ ap (λ (l : List Placed). more_often (next_of number workers) (length l) first) (sym sends))

  -- the same of what is equal
  pub rung-as : (n m workers many : ℕ) (p q : PassStanding B) (first start is now : List ℕ) → n ≡ m → workers ≡ many → p ≡ q → first ≡ start → is ≡ now
      → HasRung n workers p first is → HasRung m many q start now
  rung-as n m workers many p q first start is now a b c d e rung =
      subst (λ k. HasRung k many q start now) a
      (subst (λ k. HasRung n k q start now) b
      (subst (λ (x : PassStanding B). HasRung n workers x start now) c
      (subst (λ (l : List ℕ). HasRung n workers p l now) d
      (subst (λ (l : List ℕ). HasRung n workers p first l) e rung))))

-- how many members these lists have
often-length : (w k : ℕ) (ns : List ℕ) → length (more_often w k ns) ≡ length ns
often-length w zero ns = refl
often-length w (suc k) ns = length-set (more_often w k ns) w (slice_index (more_often w k ns) w + 1) ∙ often-length w k ns

others-length : (n k : ℕ) (ns : List ℕ) → length (others_more n k ns) ≡ length ns
others-length n zero ns = refl
others-length n (suc k) ns = elim (eqb_tells k n) [
  | inl same ↦ rw same.0 (others-length n k ns)
  | inr other ↦ rw other.0 (length-set (others_more n k ns) k (slice_index (others_more n k ns) k + 1) ∙ others-length n k ns)
]

-- how often each was woken by the sends of one worker
often-at : (w k : ℕ) (ns : List ℕ) → w < length ns → slice_index (more_often w k ns) w ≡ slice_index ns w + k
often-at w zero ns low = omega arith
often-at w (suc k) ns low =
    let rest = often-at w k ns low in
    let set_ = get_or-set_same (more_often w k ns) w (slice_index (more_often w k ns) w + 1) 0 (omega (arith, low, often-length w k ns)) in
    omega (arith, rest, set_)

often-else : (w k j : ℕ) (ns : List ℕ) → j ≢ w → slice_index (more_often w k ns) j ≡ slice_index ns j
often-else w zero j ns apart = refl
often-else w (suc k) j ns apart =
    get_or-set_other (more_often w k ns) w j (slice_index (more_often w k ns) w + 1) 0 apart ∙ often-else w k j ns apart

-- and by its retirement
others-own : (n k : ℕ) (ns : List ℕ) → slice_index (others_more n k ns) n ≡ slice_index ns n
others-own n zero ns = refl
others-own n (suc k) ns = elim (eqb_tells k n) [
  | inl same ↦ rw same.0 (others-own n k ns)
  | inr other ↦
      rw other.0
      (get_or-set_other (others_more n k ns) k n (slice_index (others_more n k ns) k + 1) 0 (λ is. other.1 (sym is)) ∙ others-own n k ns)
]

others-behind : (n k j : ℕ) (ns : List ℕ) → k ≤ j → slice_index (others_more n k ns) j ≡ slice_index ns j
others-behind n zero j ns low = refl
others-behind n (suc k) j ns low = elim (eqb_tells k n) [
  | inl same ↦ rw same.0 (others-behind n k j ns (omega arith))
  | inr other ↦
      rw other.0
      (get_or-set_other (others_more n k ns) k j (slice_index (others_more n k ns) k + 1) 0 (λ is. omega (arith, is, low))
      ∙ others-behind n k j ns (omega arith))
]

cases-below : (j k : ℕ) → j < suc k → (j < k) ⊎ (j ≡ k)
cases-below j k low = elim (cases_lt j k) [ inl less ↦ inl less | inr high ↦ inr (omega (arith, low, high)) ]

others-at : (n k j : ℕ) (ns : List ℕ) → j ≢ n → j < k → k ≤ length ns → slice_index (others_more n k ns) j ≡ slice_index ns j + 1
others-at n zero j ns apart low long = absurd (omega arith)
others-at n (suc k) j ns apart low long = elim (eqb_tells k n) [
  | inl same ↦ rw same.0 (others-at n k j ns apart (elim (cases-below j k low) [ inl less ↦ less | inr is ↦ absurd (apart (is ∙ same.1)) ]) (omega arith))
  | inr other ↦
      rw other.0
      (elim (cases-below j k low) [
        | inl less ↦
            get_or-set_other (others_more n k ns) k j (slice_index (others_more n k ns) k + 1) 0 (λ is. omega (arith, is, less))
            ∙ others-at n k j ns apart less (omega arith)
        | inr is ↦
            subst (λ i. slice_index (slice_set (others_more n k ns) k (slice_index (others_more n k ns) k + 1)) i ≡ slice_index ns i + 1) (sym is)
            (get_or-set_same (others_more n k ns) k (slice_index (others_more n k ns) k + 1) 0 (omega (arith, long, others-length n k ns))
            ∙ ap (λ i. i + 1) (others-behind n k k ns (omega arith)))
      ])
]

-- the sum of two lists at a place
plus-at : (ms ns : List ℕ) (j : ℕ) → length ns ≡ length ms → slice_index (plus ms ns) j ≡ slice_index ms j + slice_index ns j
plus-at [] [] j long = refl
plus-at [] (n ∷ ns) j long = absurd (omega arith)
plus-at (m ∷ ms) [] j long = absurd (omega arith)
plus-at (m ∷ ms) (n ∷ ns) zero long = refl
plus-at (m ∷ ms) (n ∷ ns) (suc j) long = plus-at ms ns j (omega arith)

plus-long : (ms ns : List ℕ) → length ns ≡ length ms → length (plus ms ns) ≡ length ms
plus-long [] [] long = refl
plus-long [] (n ∷ ns) long = absurd (omega arith)
plus-long (m ∷ ms) [] long = absurd (omega arith)
plus-long (m ∷ ms) (n ∷ ns) long = let rest = plus-long ms ns (omega arith) in omega (arith, rest)

where-length : (told : Bool) (n k : ℕ) (ns : List ℕ) → length (others_more_where told n k ns) ≡ length ns
where-length true n k ns = others-length n k ns
where-length false n k ns = refl

-- workers from a number on have woken the others so: each sent so often, and asked once or not
abbrev pub HaveRung : ℕ → List ℕ → ℕ → List Post → List (ℕ × Bool) → Type 0
HaveRung workers zeros v [] [] = Unit {0}
HaveRung workers zeros v [] (k ∷ ks) = ⊥
HaveRung workers zeros v (p ∷ ps) [] = ⊥
HaveRung workers zeros v (p ∷ ps) (k ∷ ks) =
    (p.wakes ≡ others_more_where k.1 v workers (more_often (next_of v workers) k.0 zeros)) × HaveRung workers zeros (suc v) ps ks

-- by the sends of which of them a worker is woken, and by how many retirements
abbrev by_sends : ℕ → ℕ → ℕ → List (ℕ × Bool) → ℕ
by_sends workers j v [] = 0
by_sends workers j v (k ∷ ks) = (if next_of v workers == j then k.0 else 0) + by_sends workers j (suc v) ks

abbrev by_retirements : ℕ → ℕ → List (ℕ × Bool) → ℕ
by_retirements j v [] = 0
by_retirements j v (k ∷ ks) = (if v == j then 0 else if k.1 then 1 else 0) + by_retirements j (suc v) ks

-- what one of them gives
sent-gives : (workers v k j : ℕ) (zeros : List ℕ) → length zeros ≡ workers → j < workers → slice_index zeros j ≡ 0
    → slice_index (more_often (next_of v workers) k zeros) j ≡ (if next_of v workers == j then k else 0)
sent-gives workers v k j zeros long low none =
    elim (eqb_tells (next_of v workers) j) [
      | inl same ↦
          rw same.0
          (subst (λ i. slice_index (more_often i k zeros) j ≡ k) (sym same.1) (let at = often-at j k zeros (omega arith) in omega (arith, at, none)))
      | inr other ↦ rw other.0 (often-else (next_of v workers) k j zeros (λ is. other.1 (sym is)) ∙ none)
    ]

one-gives : (workers v k j : ℕ) (told : Bool) (zeros : List ℕ) → length zeros ≡ workers → j < workers → slice_index zeros j ≡ 0
    → slice_index (others_more_where told v workers (more_often (next_of v workers) k zeros)) j
    ≡ (if next_of v workers == j then k else 0) + (if v == j then 0 else if told then 1 else 0)
one-gives workers v k j false zeros long low none =
    let sent = sent-gives workers v k j zeros long low none in
    elim (eqb_tells v j) [
      | inl same ↦ rw same.0 (omega (arith, sent))
      | inr other ↦ rw other.0 (omega (arith, sent))
    ]
one-gives workers v k j true zeros long low none =
    let sent = sent-gives workers v k j zeros long low none in
    let wide = often-length (next_of v workers) k zeros in
    elim (eqb_tells v j) [
      | inl same ↦
          rw same.0
          (subst (λ i. slice_index (others_more i workers (more_often (next_of v workers) k zeros)) j ≡ (if next_of v workers == j then k else 0) + 0) (sym same.1)
          (let own = others-own j workers (more_often (next_of v workers) k zeros) in omega (arith, own, sent)))
      | inr other ↦
          rw other.0
          (let at = others-at v workers j (more_often (next_of v workers) k zeros) (λ is. other.1 (sym is)) low (omega (arith, wide, long)) in
          omega (arith, at, sent))
    ]

-- what they all give, beside what was given before
all-give : (workers j v : ℕ) (zeros before : List ℕ) (ps : List Post) (ks : List (ℕ × Bool)) → length zeros ≡ workers → length before ≡ workers
    → j < workers → slice_index zeros j ≡ 0 → HaveRung workers zeros v ps ks
    → slice_index (woken before ps) j ≡ slice_index before j + by_sends workers j v ks + by_retirements j v ks
all-give workers j v zeros before [] [] long wide low none rung = omega arith
all-give workers j v zeros before [] (k ∷ ks) long wide low none rung = absurd rung
all-give workers j v zeros before (p ∷ ps) [] long wide low none rung = absurd rung
all-give workers j v zeros before (p ∷ ps) (k ∷ ks) long wide low none rung =
    let same : length p.wakes ≡ length before =
    ap length rung.0 ∙ where-length k.1 v workers (more_often (next_of v workers) k.0 zeros) ∙ often-length (next_of v workers) k.0 zeros ∙ long
    ∙ sym wide in
    let rest = all-give workers j (suc v) zeros (plus before p.wakes) ps ks long (plus-long before p.wakes same ∙ wide) low none rung.1 in
    let here = plus-at before p.wakes j same in
    let gives = ap (λ (l : List ℕ). slice_index l j) rung.0 ∙ one-gives workers v k.0 j k.1 zeros long low none in
    omega (arith, rest, here, gives)

-- the worker whose next one this is stands before it
next-before : (workers v j : ℕ) → v < workers → j < workers → next_of v workers ≡ j → v ≡ before_of j workers
next-before workers v zero low high is = elim (cases_lt (v + 1) workers) [
  | inl less ↦ absurd (zero-no (v + 1) (sym (if-lt v workers less) ∙ is) (omega arith))
  | inr past ↦ omega (arith, past, low)
] where
  if-lt : (v workers : ℕ) → v + 1 < workers → next_of v workers ≡ v + 1
  if-lt v workers less = grind (arith, less)

  zero-no : (n : ℕ) → n ≡ 0 → 0 < n → ⊥
  zero-no n is some_ = omega (arith, is, some_)
next-before workers v (suc j) low high is = elim (cases_lt (v + 1) workers) [
  | inl less ↦ let e : next_of v workers ≡ v + 1 = grind (arith, less) in omega (arith, e, is)
  | inr past ↦ let e : next_of v workers ≡ 0 = grind (arith, past) in absurd (omega (arith, e, is))
]

before-next : (workers j : ℕ) → j < workers → next_of (before_of j workers) workers ≡ j
before-next workers zero low = let past : workers ≤ before_of 0 workers + 1 = omega arith in grind (arith, past)
before-next workers (suc j) low = let less : j + 1 < workers = omega arith in grind (arith, less)

sent-behind : (workers j v : ℕ) (ks : List (ℕ × Bool)) → before_of j workers < v → v + length ks ≡ workers → j < workers → by_sends workers j v ks ≡ 0
sent-behind workers j v [] low long high = refl
sent-behind workers j v (k ∷ ks) low long high = elim (eqb_tells (next_of v workers) j) [
  | inl same ↦ absurd (let at = next-before workers v j (omega arith) high same.1 in omega (arith, at, low))
  | inr other ↦ rw other.0 (let rest = sent-behind workers j (suc v) ks (omega arith) (omega arith) high in omega (arith, rest))
]

sent-by : (workers j v i : ℕ) (n : ℕ × Bool) (ks : List (ℕ × Bool)) → v + i ≡ before_of j workers → v + length ks ≡ workers → j < workers
    → slice_get ks i ≡ Some n → by_sends workers j v ks ≡ n.0
sent-by workers j v i n [] at long high is = absurd (cc)
sent-by workers j v zero n (k ∷ ks) at long high is =
    let mine : k.0 ≡ n.0 = cc in
    let here : v ≡ before_of j workers = omega (arith, at) in
    let yes_ : next_of v workers ≡ j = ap (λ b. next_of b workers) here ∙ before-next workers j high in
    elim (eqb_tells (next_of v workers) j) [
      | inl same ↦ rw same.0 (let rest = sent-behind workers j (suc v) ks (omega (arith, here)) (omega arith) high in omega (arith, rest, mine))
      | inr other ↦ absurd (other.1 yes_)
    ]
sent-by workers j v (suc i) n (k ∷ ks) at long high is =
    elim (eqb_tells (next_of v workers) j) [
      | inl same ↦ absurd (let here = next-before workers v j (omega arith) high same.1 in omega (arith, here, at))
      | inr other ↦ rw other.0 (let rest = sent-by workers j (suc v) i n ks (omega arith) (omega arith) high is in omega (arith, rest))
    ]

-- so often each was woken: at each send of the worker before it, and at the retirement of each other that asked once
pub woken-so : (workers j : ℕ) (n : ℕ × Bool) (zeros : List ℕ) (ps : List Post) (ks : List (ℕ × Bool)) → length zeros ≡ workers → length ks ≡ workers
    → j < workers → slice_index zeros j ≡ 0 → HaveRung workers zeros 0 ps ks → slice_get ks (before_of j workers) ≡ Some n
    → slice_index (woken zeros ps) j ≡ n.0 + by_retirements j 0 ks
woken-so workers j n zeros ps ks long many low none rung is =
    let all = all-give workers j 0 zeros zeros ps ks long long low none rung in
    let sent = sent-by workers j 0 (before_of j workers) n ks (omega arith) (omega (arith, many)) low is in
    omega (arith, all, sent, none)

-- at first nobody was woken
none-woken : (crew : List TableId) (j : ℕ) → slice_index (no_wakes crew) j ≡ 0
none-woken [] j = refl
none-woken (t ∷ crew) zero = refl
none-woken (t ∷ crew) (suc j) = none-woken crew j

-- how often each sent, and whether it asked once
abbrev sends_by : List (PassStanding Frame) → List (ℕ × Bool)
sends_by passes = map (λ (p : PassStanding Frame). (length (sends_of p.calls), asked_once p)) passes

retirements-same : (j v : ℕ) (passes : List (PassStanding Frame)) → by_retirements j v (sends_by passes) ≡ at_retirements j v passes
retirements-same j v [] = refl
retirements-same j v (p ∷ passes) = ap (λ n. (if v == j then 0 else if asked_once p then 1 else 0) + n) (retirements-same j (suc v) passes)

sends-at : (passes : List (PassStanding Frame)) (i : ℕ) (p : PassStanding Frame) → slice_get passes i ≡ Some p
    → slice_get (sends_by passes) i ≡ Some (length (sends_of p.calls), asked_once p)
sends-at [] i p is = absurd (cc)
sends-at (q ∷ passes) zero p is = let same : q ≡ p = cc in ap (λ (x : PassStanding Frame). Some (length (sends_of x.calls), asked_once x)) same
sends-at (q ∷ passes) (suc i) p is = sends-at passes i p is

all-rang : (crew : List TableId) (v : ℕ) (ps : List Post) (passes : List (PassStanding Frame)) → length ps ≡ length passes → NoneSpent passes
    → ((w : ℕ) (s : Post) (p : PassStanding Frame) → slice_get ps w ≡ Some s → slice_get passes w ≡ Some p → p.spent ≡ None
    → HasRung (v + w) (length crew) p (no_wakes crew) s.wakes)
    → HaveRung (length crew) (no_wakes crew) v ps (sends_by passes)
all-rang crew v [] [] long none each = tt
all-rang crew v [] (q ∷ passes) long none each = absurd (omega arith)
all-rang crew v (s ∷ ps) [] long none each = absurd (omega arith)
all-rang crew v (s ∷ ps) (q ∷ passes) long none each = (
  rung-as (v + 0) v (length crew) (length crew) q q (no_wakes crew) (no_wakes crew) s.wakes s.wakes (omega arith) refl refl refl refl
      (each zero s q refl refl (All-head (λ (x : PassStanding Frame). x.spent ≡ None) q passes none)),
  all-rang crew (suc v) ps passes (omega arith) (All-tail (λ (x : PassStanding Frame). x.spent ≡ None) q passes none)
      (λ w t p stand pass awake.
      rung-as (v + suc w) (suc v + w) (length crew) (length crew) p p (no_wakes crew) (no_wakes crew) t.wakes t.wakes (omega arith) refl refl refl refl
      (each (suc w) t p stand pass awake)),
)

-- what is told of it
wakes-told : (ps : List Post) (ns : List ℕ) (w : ℕ) (r : Rested) → slice_get (ended ps ns) w ≡ Some r
    → (r.wakes ≡ counted (slice_index ns w)) × (w < length ps)
wakes-told [] ns w r is = absurd (cc)
wakes-told (p ∷ ps) [] w r is = absurd (cc)
wakes-told (p ∷ ps) (n ∷ ns) zero r is = let its : rested_of p.rests n ≡ r = cc in (sym (ap (λ (x : Rested). x.wakes) its), omega arith)
wakes-told (p ∷ ps) (n ∷ ns) (suc w) r is = let rest = wakes-told ps ns w r is in (rest.0, omega (arith, rest.1))

pub rung-told : (crew : List TableId) (workers : ℕ) (ps : List Post) (passes : List (PassStanding Frame)) → EachRang crew ps passes → NoneSpent passes
    → length ps ≡ length crew → length passes ≡ workers → length ps ≡ workers
    → (w : ℕ) (p : PassStanding Frame) (r : Rested) → slice_get passes (before_of w workers) ≡ Some p
    → slice_get (ended ps (woken (no_wakes crew) ps)) w ≡ Some r → r.wakes ≡ counted (length (sends_of p.calls) + at_retirements w 0 passes)
rung-told crew workers ps passes each none wide long many w p r pass rest =
    let told = wakes-told ps (woken (no_wakes crew) ps) w r rest in
    let rang = all-rang crew 0 ps passes (many ∙ sym long) none
    (λ v s q stand its awake.
    rung-as v (0 + v) (length crew) (length crew) q q (no_wakes crew) (no_wakes crew) s.wakes s.wakes (omega arith) refl refl refl refl
    (each v s q stand its awake)) in
    let here : length crew ≡ workers = sym wide ∙ many in
    let at = subst (λ k. slice_get passes (before_of w k) ≡ Some p) (sym here) pass in
    let so = woken-so (length crew) w (length (sends_of p.calls), asked_once p) (no_wakes crew) ps (sends_by passes) (length-map crew (λ (x : TableId). zero))
    (length-map passes (λ (x : PassStanding Frame). (length (sends_of x.calls), asked_once x)) ∙ long ∙ sym here) (omega (arith, told.1, wide)) (none-woken crew w) rang
    (sends-at passes (before_of w (length crew)) p at) in
    told.0 ∙ ap counted (so ∙ ap (λ k. length (sends_of p.calls) + k) (retirements-same w 0 passes))
