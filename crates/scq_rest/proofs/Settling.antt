-- Desks with their stands, before the work and behind it; and what is told of workers that waited, where their crew closes.
use Rattle.std.proofs.Common.{◌≡◌, ◌∙◌, ◌⊎◌, refl, sym, ap, subst, arith, inl, inr, zero, suc, ℕ, ◌+◌, ◌-◌, ◌^◌, ◌<◌, ◌≤◌, Bool, true, List, [], ◌∷◌, length, map, get_or, Option, Some, None}
use Rattle.std.specs.Prelude.{slice_get, slice_index_or}
use Rattle.std.specs.List.{All, AllZip}
use Rattle.std.proofs.lemmas.Bool.{cases_lt}
use Rattle.std.proofs.lemmas.List.{get_or-map, length-map}
use Rattle.std.proofs.lemmas.List.Elements.{All-nil, All-cons, All-push, All-head, All-tail}
use Rattle.atomic_table.specs.Seated.{TableId}
use Rattle.scq_block.specs.declared.frame.Frame.{Frame}
use Rattle.scq_queue.specs.Exports.{PassStanding, was_told}
use Rattle.scq_park.specs.declared.rested.Rested.{Rested}
use Rattle.scq_park.specs.Exports.{Post, AreInWorkerOrder, AreAll, counted, plus, woken, ended, rested_of, no_wakes, first_post, first_posts}
use Rattle.scq_worker.specs.Exports.{takes_behind, IsToBegin, Seated, HasRung}
use Rattle.scq_files.specs.Exports.{IsNew, ids_of}
use Rattle.scq_rest.specs.Exports.{AreSettled, Task, IsGiven, HasDone, HasLeftTold, HasWaited, EachWaited, HaveWaited}
use Rattle.scq_passes.specs.Exports.{NoneSpent, SweepsInVain, IsReturn}
use Rattle.scq_block.specs.Exports.{bytes_of}
use Rattle.scq_files.specs.declared.desk.Desk.{Desk}
use Rattle.scq_rest.specs.declared.threads.Work.{Work}
use Rattle.scq_rest.proofs.Wakes.{rung-as, rung-told}

-- lists whose members go along one by one
pub zip-length : {X Y : Type 0} (R : X → Y → Type 0) (xs : List X) (ys : List Y) → AllZip R xs ys → length ys ≡ length xs
zip-length R [] [] z = refl
zip-length R [] (y ∷ ys) z = absurd z
zip-length R (x ∷ xs) [] z = absurd z
zip-length R (x ∷ xs) (y ∷ ys) z = let rest = zip-length R xs ys z.1 in omega (arith, rest)

zip-at : {X Y : Type 0} (R : X → Y → Type 0) (xs : List X) (ys : List Y) (x : X) (y : Y) (w : ℕ) → AllZip R xs ys → w < length xs
    → R (get_or xs w x) (get_or ys w y)
zip-at R [] ys x y w z less = absurd (omega arith)
zip-at R (a ∷ xs) [] x y w z less = absurd z
zip-at R (a ∷ xs) (b ∷ ys) x y zero z less = z.0
zip-at R (a ∷ xs) (b ∷ ys) x y (suc w) z less = zip-at R xs ys x y w z.1 (omega arith)

-- what holds of all that f shows
pub all-shown : {X Y : Type 0} (P : Y → Type 0) (f : X → Y) (xs : List X) (ys : List Y) → map f xs ≡ ys → All P ys → All (λ x. P (f x)) xs
all-shown P f xs ys is all = by xs (subst (All P) (sym is) all) where
  by : (xs : List _) → All P (map f xs) → All (λ x. P (f x)) xs
  by [] h = All-nil (λ x. P (f x))
  by (x ∷ xs) h = All-cons (λ y. P (f y)) x xs (All-head P (f x) (map f xs) h) (by xs (All-tail P (f x) (map f xs) h))

-- a new stand of this crew
abbrev pub IsFirst : List TableId → Post → Type 0
IsFirst crew p = p ≡ first_post crew p.worker

pub firsts-new : (crew : List TableId) (n : ℕ) → All (IsFirst crew) (first_posts crew n)
firsts-new crew zero = All-nil (IsFirst crew)
firsts-new crew (suc n) = All-push (IsFirst crew) (first_posts crew n) (first_post crew n) (firsts-new crew n) refl

module _ {S : Type 0} where
  abbrev pub desk_of : Work S → Desk (Seated Frame (Option Frame)) S
  desk_of w = w.desk

  abbrev pub stand_of : Work S → Post
  stand_of w = w.stand

  -- each worker is given what it begins with
  pub all-given : (t : Task S) (xs : List (Work S)) (desks : List (Desk (Seated Frame (Option Frame)) S)) (stands : List Post) → desks ≡ map desk_of xs → stands ≡ map stand_of xs
      → All (λ (d : Desk (Seated Frame (Option Frame)) S). IsToBegin t.queue d.worker) desks → All (λ (d : Desk (Seated Frame (Option Frame)) S). All IsNew d.files.items) desks → All (IsFirst t.crew) stands
      → All (IsGiven t) xs
  all-given t xs desks stands desks_are stands_are fresh unread new k x less =
      record {
        fresh = all-shown (λ (d : Desk (Seated Frame _) S). IsToBegin t.queue d.worker) desk_of xs desks (sym desks_are) fresh k x less;
        unread = all-shown (λ (d : Desk (Seated Frame _) S). All IsNew d.files.items) desk_of xs desks (sym desks_are) unread k x less;
        stand = all-shown (IsFirst t.crew) stand_of xs stands (sym stands_are) new k x less;
      }

  -- the files and the pass's number of the desk at a place are those that it had
  abbrev pub AreStill : List (Desk (Seated Frame (Option Frame)) S) → List (Desk (Seated Frame (Option Frame)) S) → Type 0
  AreStill old new = (w : ℕ) (d : Desk (Seated Frame (Option Frame)) S) → w < length old
      → (ids_of (slice_index_or new w d).files.items ≡ ids_of (slice_index_or old w d).files.items)
      × ((slice_index_or new w d).worker.worker.pass.number ≡ (slice_index_or old w d).worker.worker.pass.number)

  pub desks-same : (t : Task S) (xs ys : List (Work S)) (x y : Work S) (old new : List (Desk (Seated Frame (Option Frame)) S)) → AllZip (HasDone t) xs ys → old ≡ map desk_of xs
      → new ≡ map desk_of ys → AreStill old new
  desks-same t xs ys x y old new z old_is new_is w d less =
      let within : w < length xs = omega (arith, less, ap length old_is, length-map xs desk_of) in
      let long = zip-length (HasDone t) xs ys z in
      let done = zip-at (HasDone t) xs ys x y w z within in
      let now : slice_index_or new w d ≡ (get_or ys w y).desk =
      ap (λ (l : List (Desk (Seated Frame _) S)). slice_index_or l w d) new_is ∙ get_or-map desk_of ys w y d (omega (arith, within, long)) in
      let was : slice_index_or old w d ≡ (get_or xs w x).desk =
      ap (λ (l : List (Desk (Seated Frame _) S)). slice_index_or l w d) old_is ∙ get_or-map desk_of xs w x d within in (
        ap (λ (e : Desk (Seated Frame _) S). ids_of e.files.items) now ∙ done.files ∙ sym (ap (λ (e : Desk (Seated Frame _) S). ids_of e.files.items) was),
        ap (λ (e : Desk (Seated Frame _) S). e.worker.worker.pass.number) now ∙ done.number ∙ sym (ap (λ (e : Desk (Seated Frame _) S). e.worker.worker.pass.number) was),
      )

  -- what holds of each work that is done holds of all of them
  pub each-done : (t : Task S) (P : Work S → Type 0) (xs ys : List (Work S)) → AllZip (HasDone t) xs ys
      → ((x y : Work S) → HasDone t x y → P y) → All P ys
  each-done t P [] [] z so = All-nil P
  each-done t P [] (y ∷ ys) z so = absurd z
  each-done t P (x ∷ xs) [] z so = absurd z
  each-done t P (x ∷ xs) (y ∷ ys) z so = All-cons P y ys (so x y z.0) (each-done t P xs ys z.1 so)

  -- the stands are those of the crew still, in order
  still-own : (t : Task S) (crew : List TableId) (xs ys : List (Work S)) → AllZip (HasDone t) xs ys → All (λ (p : Post). p.crew ≡ crew) (map stand_of xs)
      → All (λ (p : Post). p.crew ≡ crew) (map stand_of ys)
  still-own t crew [] [] z own = own
  still-own t crew [] (y ∷ ys) z own = absurd z
  still-own t crew (x ∷ xs) [] z own = absurd z
  still-own t crew (x ∷ xs) (y ∷ ys) z own =
      let Own : Post → Type 0 = λ p. p.crew ≡ crew in
      All-cons Own y.stand (map stand_of ys) (z.0.crew ∙ All-head Own x.stand (map stand_of xs) own)
      (still-own t crew xs ys z.1 (All-tail Own x.stand (map stand_of xs) own))

  still-ordered : (t : Task S) (w : ℕ) (xs ys : List (Work S)) → AllZip (HasDone t) xs ys → AreInWorkerOrder w (map stand_of xs) → AreInWorkerOrder w (map stand_of ys)
  still-ordered t w [] [] z order = order
  still-ordered t w [] (y ∷ ys) z order = absurd z
  still-ordered t w (x ∷ xs) [] z order = absurd z
  still-ordered t w (x ∷ xs) (y ∷ ys) z order = (z.0.worker ∙ order.0, still-ordered t (suc w) xs ys z.1 order.1)

  each-waited : (t : Task S) (xs ys : List (Work S)) → AllZip (HasDone t) xs ys
      → EachWaited (length t.topics + 1) (takes_behind t.most) (map stand_of ys) (map (λ (d : Desk (Seated Frame (Option Frame)) S). d.worker.worker.pass) (map desk_of ys))
  each-waited t [] [] z w s p stands passes = absurd (cc)
  each-waited t [] (y ∷ ys) z w s p stands passes = absurd z
  each-waited t (x ∷ xs) [] z w s p stands passes = absurd z
  each-waited t (x ∷ xs) (y ∷ ys) z zero s p stands passes =
      let stand : y.stand ≡ s = cc in
      let pass : y.desk.worker.worker.pass ≡ p = cc in
      subst (λ (q : PassStanding Frame). HasWaited bytes_of (length t.topics + 1) (takes_behind t.most) s.rests q) pass
      (subst (λ (q : Post). HasWaited bytes_of (length t.topics + 1) (takes_behind t.most) q.rests y.desk.worker.worker.pass) stand z.0.waited)
  each-waited t (x ∷ xs) (y ∷ ys) z (suc w) s p stands passes = each-waited t xs ys z.1 w s p stands passes

  -- each has woken the others
  each-rang : (t : Task S) (v : ℕ) (xs ys : List (Work S)) → AllZip (HasDone t) xs ys → AreInWorkerOrder v (map stand_of xs)
      → All (IsFirst t.crew) (map stand_of xs) → length t.crew ≡ t.workers
      → (w : ℕ) (s : Post) (p : PassStanding Frame) → slice_get (map stand_of ys) w ≡ Some s
      → slice_get (map (λ (d : Desk (Seated Frame (Option Frame)) S). d.worker.worker.pass) (map desk_of ys)) w ≡ Some p → p.spent ≡ None
      → HasRung (v + w) (length t.crew) p (no_wakes t.crew) s.wakes
  each-rang t v [] [] z order new many w s p stands passes awake = absurd (cc)
  each-rang t v [] (y ∷ ys) z order new many w s p stands passes awake = absurd z
  each-rang t v (x ∷ xs) [] z order new many w s p stands passes awake = absurd z
  each-rang t v (x ∷ xs) (y ∷ ys) z order new many zero s p stands passes awake =
      let stand : y.stand ≡ s = cc in
      let pass : y.desk.worker.worker.pass ≡ p = cc in
      let first : x.stand ≡ first_post t.crew x.stand.worker = All-head (IsFirst t.crew) x.stand (map stand_of xs) new in
      rung-as x.stand.worker (v + 0) t.workers (length t.crew) y.desk.worker.worker.pass p x.stand.wakes (no_wakes t.crew) y.stand.wakes s.wakes
      (order.0 ∙ omega arith) (sym many) pass (ap (λ (q : Post). q.wakes) first) (ap (λ (q : Post). q.wakes) stand)
      (z.0.rung (subst (λ (q : PassStanding Frame). q.spent ≡ None) (sym pass) awake))
  each-rang t v (x ∷ xs) (y ∷ ys) z order new many (suc w) s p stands passes awake =
      rung-as (suc v + w) (v + suc w) (length t.crew) (length t.crew) p p (no_wakes t.crew) (no_wakes t.crew) s.wakes s.wakes (omega arith) refl refl refl refl
      (each-rang t (suc v) xs ys z.1 order.1 (All-tail (IsFirst t.crew) x.stand (map stand_of xs) new) many w s p stands passes awake)

  pub settled : (t : Task S) (xs ys : List (Work S)) → AllZip (HasDone t) xs ys → AreAll t.crew (map stand_of xs)
      → All (IsFirst t.crew) (map stand_of xs) → length t.crew ≡ t.workers
      → AreSettled t.crew (length t.topics + 1) (takes_behind t.most) (map stand_of ys) (map (λ (d : Desk (Seated Frame (Option Frame)) S). d.worker.worker.pass) (map desk_of ys))
  settled t xs ys z all new many =
      record {
        all = record {
          own = still-own t t.crew xs ys z all.own;
          order = still-ordered t 0 xs ys z all.order;
          many = length-map ys stand_of ∙ zip-length (HasDone t) xs ys z ∙ sym (length-map xs stand_of) ∙ all.many;
        };
        many = length-map ys stand_of ∙ sym (length-map ys desk_of) ∙ sym (length-map (map desk_of ys) (λ (d : Desk (Seated Frame _) S). d.worker.worker.pass));
        waited = each-waited t xs ys z;
        rang = λ w s p stands passes awake.
            rung-as (0 + w) w (length t.crew) (length t.crew) p p (no_wakes t.crew) (no_wakes t.crew) s.wakes s.wakes (omega arith) refl refl refl refl
            (each-rang t 0 xs ys z all.order new many w s p stands passes awake);
      }

-- how many members the lists have that a crew tells where it closes
plus-length : (ms ns : List ℕ) → length (plus ms ns) ≡ length ms
plus-length ms [] = refl
plus-length [] (n ∷ ns) = refl
plus-length (m ∷ ms) (n ∷ ns) = let rest = plus-length ms ns in omega (arith, rest)

woken-length : (before : List ℕ) (ps : List Post) → length (woken before ps) ≡ length before
woken-length before [] = refl
woken-length before (p ∷ ps) = woken-length (plus before p.wakes) ps ∙ plus-length before p.wakes

ended-length : (ps : List Post) (ns : List ℕ) → length ps ≡ length ns → length (ended ps ns) ≡ length ps
ended-length [] ns same = refl
ended-length (p ∷ ps) [] same = absurd (omega arith)
ended-length (p ∷ ps) (n ∷ ns) same = let rest = ended-length ps ns (omega arith) in omega (arith, rest)

-- a count is exact, or stands at its last value
counted-cases : (n : ℕ) → (counted n ≡ 2 ^ 64 - 1) ⊎ (counted n ≡ n)
counted-cases n = elim (cases_lt n (2 ^ 64 - 1)) [
  | inl low ↦ inr (omega (arith, low))
  | inr high ↦ inl (omega (arith, high))
]

-- each worker's count of rests, by its stand
vain-told : (topics behind : ℕ) (ps : List Post) (ns : List ℕ) (passes : List (PassStanding Frame)) → NoneSpent passes → EachWaited topics behind ps passes
    → (w : ℕ) (p : PassStanding Frame) (r : Rested) → slice_get passes w ≡ Some p → slice_get (ended ps ns) w ≡ Some r
    → (r.rests ≡ 2 ^ 64 - 1) ⊎ SweepsInVain topics behind 1 r.rests p
vain-told topics behind [] ns passes none each w p r pass rest = absurd (cc)
vain-told topics behind (s ∷ ps) [] passes none each w p r pass rest = absurd (cc)
vain-told topics behind (s ∷ ps) (n ∷ ns) [] none each w p r pass rest = absurd (cc)
vain-told topics behind (s ∷ ps) (n ∷ ns) (q ∷ passes) none each zero p r pass rest =
    let same : q ≡ p = cc in
    let its : rested_of s.rests n ≡ r = cc in
    let told : SweepsInVain topics behind 1 s.rests q = (each zero s q refl refl).vain (All-head (λ (x : PassStanding Frame). x.spent ≡ None) q passes none) in
    let rests : r.rests ≡ counted s.rests = sym (ap (λ (x : Rested). x.rests) its) in
    elim (counted-cases s.rests) [
      | inl last ↦ inl (rests ∙ last)
      | inr exact ↦
          inr (subst (λ (x : PassStanding Frame). SweepsInVain topics behind 1 r.rests x) same
          (subst (λ k. SweepsInVain topics behind 1 k q) (sym (rests ∙ exact)) told))
    ]
vain-told topics behind (s ∷ ps) (n ∷ ns) (q ∷ passes) none each (suc w) p r pass rest =
    vain-told topics behind ps ns passes (All-tail (λ (x : PassStanding Frame). x.spent ≡ None) q passes none) (λ v t x stand its. each (suc v) t x stand its) w p r pass rest

-- each saw that all had retired
closed-told : (topics behind : ℕ) (ps : List Post) (passes : List (PassStanding Frame)) → length ps ≡ length passes → NoneSpent passes → EachWaited topics behind ps passes
    → All (λ (s : Bool). s ≡ true) (map (λ (p : PassStanding Frame). was_told p.gate) passes)
closed-told topics behind ps [] long none each = All-nil (λ (s : Bool). s ≡ true)
closed-told topics behind [] (q ∷ passes) long none each = absurd (omega arith)
closed-told topics behind (s ∷ ps) (q ∷ passes) long none each =
    let told = (each zero s q refl refl).told (All-head (λ (x : PassStanding Frame). x.spent ≡ None) q passes none) in
    All-cons (λ (b : Bool). b ≡ true) (was_told q.gate) (map (λ (p : PassStanding Frame). was_told p.gate) passes) (ap was_told told)
    (closed-told topics behind ps passes (omega arith) (All-tail (λ (x : PassStanding Frame). x.spent ≡ None) q passes none) (λ v t x stand its. each (suc v) t x stand its))

-- each rested once behind each sweep that took nothing, and left after the first sweep before which all had retired
each-left : (topics behind : ℕ) (ps : List Post) (ns : List ℕ) (passes : List (PassStanding Frame)) → NoneSpent passes → EachWaited topics behind ps passes
    → (w : ℕ) (p : PassStanding Frame) (r : Rested) → slice_get passes w ≡ Some p → slice_get (ended ps ns) w ≡ Some r
    → (rests : ℕ) × (r.rests ≡ counted rests) × HasLeftTold bytes_of IsReturn topics rests p
each-left topics behind [] ns passes none each w p r pass rest = absurd (cc)
each-left topics behind (s ∷ ps) [] passes none each w p r pass rest = absurd (cc)
each-left topics behind (s ∷ ps) (n ∷ ns) [] none each w p r pass rest = absurd (cc)
each-left topics behind (s ∷ ps) (n ∷ ns) (q ∷ passes) none each zero p r pass rest =
    let same : q ≡ p = cc in
    let its : rested_of s.rests n ≡ r = cc in
    let left = (each zero s q refl refl).left (All-head (λ (x : PassStanding Frame). x.spent ≡ None) q passes none) in
    (s.rests, sym (ap (λ (x : Rested). x.rests) its), subst (λ (x : PassStanding Frame). HasLeftTold bytes_of IsReturn topics s.rests x) same left)
each-left topics behind (s ∷ ps) (n ∷ ns) (q ∷ passes) none each (suc w) p r pass rest =
    each-left topics behind ps ns passes (All-tail (λ (x : PassStanding Frame). x.spent ≡ None) q passes none) (λ v t x stand its. each (suc v) t x stand its) w p r pass rest

pub have-waited : (topics behind workers : ℕ) (crew : List TableId) (ps : List Post) (passes : List (PassStanding Frame)) (saw : List Bool) (rested : List Rested)
    → AreSettled crew topics behind ps passes → NoneSpent passes → length passes ≡ workers
    → saw ≡ map (λ (p : PassStanding Frame). was_told p.gate) passes
    → rested ≡ ended ps (woken (no_wakes crew) ps) → All (λ (r : Rested). r.rests ≤ r.wakes) rested
    → HaveWaited topics behind workers passes saw rested
have-waited topics behind workers crew ps passes saw rested settled none long saw_is rested_is woke =
    let posts : length ps ≡ workers = settled.many ∙ long in
    let counts : length (woken (no_wakes crew) ps) ≡ length crew =
    woken-length (no_wakes crew) ps ∙ length-map crew (λ (x : TableId). zero) in
    record {
      each_saw = ap length saw_is ∙ length-map passes (λ (p : PassStanding Frame). was_told p.gate) ∙ long;
      each_rested = ap length rested_is ∙ ended-length ps (woken (no_wakes crew) ps) (settled.all.many ∙ sym counts) ∙ posts;
      told = saw_is;
      closed = subst (All (λ (s : Bool). s ≡ true)) (sym saw_is) (closed-told topics behind ps passes settled.many none settled.waited);
      woken = woke;
      left = λ w p r pass rest.
          each-left topics behind ps (woken (no_wakes crew) ps) passes none settled.waited w p r pass
          (subst (λ (rs : List Rested). slice_get rs w ≡ Some r) rested_is rest);
      vain = λ w p r pass rest.
          vain-told topics behind ps (woken (no_wakes crew) ps) passes none settled.waited w p r pass
          (subst (λ (rs : List Rested). slice_get rs w ≡ Some r) rested_is rest);
      rung = λ w p r pass rest.
          rung-told crew workers ps passes settled.rang none settled.all.many long posts w p r pass
          (subst (λ (rs : List Rested). slice_get rs w ≡ Some r) rested_is rest);
    }
