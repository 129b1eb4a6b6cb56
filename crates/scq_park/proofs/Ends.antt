-- The passes come back: what each parker then has, and what is told of its worker.
use Rattle.std.proofs.Common.{◌≡◌, ℕ, zero, suc, ◌+◌, ◌-◌, ◌<◌, ◌≤◌, List, [], ◌∷◌, ◌++◌, map, length, set, get_or, refl, sym, ◌∙◌, ap, subst, arith}
use Rattle.std.specs.Prelude.{All, Option, Some, slice_get}
use Rattle.std.proofs.lemmas.List.{append_assoc, map-append}
use Rattle.std.proofs.lemmas.List.Elements.{All-nil, All-cons, All-head, All-tail}
use Rattle.atomic_table.specs.Seated.{TableId}
use Rattle.scq_park.specs.declared.rested.Rested.{Rested}
use Rattle.scq_park.specs.Exports.{Deeds, deeds, added, Post, no_wakes, rested_of, plus, woken, ended, AreInWorkerOrder, AreAll, ParkerDeeds}
use Rattle.scq_park.specs.Exports.{parker_deeds, parkers_of, one_rested, IsLink, IsStand, post_of, AreFor, with_row, gathered, told, told_by_post}
use Rattle.scq_park.specs.Exports.{EachEnds, rests_between}
use Rattle.scq_park.proofs.Rows.{read_at, same_some, parkers_length}

-- the last of a row, at its parker
pub record IsLast (ls : List ParkerDeeds) (l : ParkerDeeds) (ws : List ParkerDeeds) (w : ParkerDeeds) : Type 0 where
  pub own : l.parker ≡ w.parker
  pub link : IsLink l
  pub parts : 0 < w.deeds.parts
  pub rest : (v : Deeds) → AreFor ls (set ws (length ls) (parker_deeds w.parker v))
  pub row : with_row (set ws (length ls) (parker_deeds w.parker (added w.deeds l.deeds))) (map (λ (y : ParkerDeeds). y.deeds.woke) ls)
      ≡ with_row ws (map (λ (y : ParkerDeeds). y.deeds.woke) (ls ++ l ∷ []))

pub last_link : (ls : List ParkerDeeds) (l : ParkerDeeds) (ws : List ParkerDeeds) (w : ParkerDeeds) → AreFor (ls ++ l ∷ []) ws → slice_get ws (length ls) ≡ Some w → IsLast ls l ws w
last_link [] l [] w are at = absurd are
last_link [] l (x ∷ xs) w are at =
    let same = same_some x w at in
    let one = are.0.1 in
    record {
      own = are.0.0 ∙ ap (λ (y : ParkerDeeds). y.parker) same;
      link = one;
      parts = subst (λ (y : ParkerDeeds). 0 < y.deeds.parts) same are.0.2;
      rest = λ v. tt;
      row = ap (λ (y : ParkerDeeds). parker_deeds y.parker (added y.deeds l.deeds) ∷ xs) (sym same)
          ∙ ap (λ (v : Deeds). parker_deeds x.parker (added x.deeds v) ∷ xs) one;
    }
last_link (k ∷ ks) l [] w are at = absurd are
last_link (k ∷ ks) l (x ∷ xs) w are at =
    let it = last_link ks l xs w are.1 at in
    record {
      own = it.own;
      link = it.link;
      parts = it.parts;
      rest = λ v. (are.0, it.rest v);
      row = ap (λ (ys : List ParkerDeeds). parker_deeds x.parker (added x.deeds (deeds 1 k.deeds.woke 0)) ∷ ys) it.row;
    }

last_within : (ls : List ParkerDeeds) (l : ParkerDeeds) (ws : List ParkerDeeds) → AreFor (ls ++ l ∷ []) ws → length ls < length ws
last_within [] l [] are = absurd are
last_within [] l (x ∷ xs) are = omega arith
last_within (k ∷ ks) l [] are = absurd are
last_within (k ∷ ks) l (x ∷ xs) are = let more = last_within ks l xs are.1 in omega arith

-- the same where its parker was read at a number
module _ (all ls : List ParkerDeeds) (l : ParkerDeeds) (ws : List ParkerDeeds) (k : ℕ) (is : all ≡ ls ++ l ∷ []) (here : k ≡ length ls) (are : AreFor all ws) where
  are_ls : AreFor (ls ++ l ∷ []) ws
  are_ls = subst (λ (ms : List ParkerDeeds). AreFor ms ws) is are

  pub within : k < length ws
  within = let low = last_within ls l ws are_ls in omega (arith, here)

  pub last_at : (w : ParkerDeeds) → w ≡ get_or ws k w → IsLast ls l ws w
  last_at w read = last_link ls l ws w are_ls (ap (λ (n : ℕ). slice_get ws n) (sym here) ∙ read_at ws k w within read)

  pub took_last : (w new : ParkerDeeds) → w ≡ get_or ws k w → new ≡ parker_deeds w.parker (added w.deeds l.deeds)
      → AreFor ls (set ws k new)
      × (with_row (set ws k new) (map (λ (y : ParkerDeeds). y.deeds.woke) ls) ≡ with_row ws (map (λ (y : ParkerDeeds). y.deeds.woke) all))
  took_last w new read took =
      let it = last_at w read in
      let set_is : set ws k new ≡ set ws (length ls) (parker_deeds w.parker (added w.deeds l.deeds)) =
      ap (λ (n : ℕ). set ws n new) here ∙ ap (λ (y : ParkerDeeds). set ws (length ls) y) took in (
        subst (λ (ms : List ParkerDeeds). AreFor ls ms) (sym set_is) (it.rest (added w.deeds l.deeds)),
        ap (λ (ms : List ParkerDeeds). with_row ms (map (λ (y : ParkerDeeds). y.deeds.woke) ls)) set_is ∙ it.row
            ∙ ap (λ (ms : List ParkerDeeds). with_row ws (map (λ (y : ParkerDeeds). y.deeds.woke) ms)) (sym is),
      )

-- one more of the passes by which workers rested
pub told_more : (new os : List ParkerDeeds) (o : ParkerDeeds) (p : Post) (rest : List Post) (whole : List (Option TableId × Deeds)) → new ≡ os ++ o ∷ []
    → told o ≡ told_by_post p → map told os ++ map told_by_post (p ∷ rest) ≡ whole → map told new ++ map told_by_post rest ≡ whole
told_more new os o p rest whole is one all =
    ap (λ (xs : List ParkerDeeds). map told xs ++ map told_by_post rest) is
    ∙ ap (λ (xs : List (Option TableId × Deeds)). xs ++ map told_by_post rest) (map-append told os (o ∷ []))
    ∙ append_assoc (map told os) (told o ∷ []) (map told_by_post rest)
    ∙ ap (λ (x : Option TableId × Deeds). map told os ++ x ∷ map told_by_post rest) one
    ∙ all

pub told_stand : (worker : ℕ) (own : ParkerDeeds) (links : List ParkerDeeds) (o : ParkerDeeds) (p : Post) → IsStand worker own links → o ≡ own → post_of worker own links ≡ p
    → told o ≡ told_by_post p
told_stand worker own links o p is same view =
    ap (λ (x : ParkerDeeds). told x) same ∙ (λ i. (sym is.place i, is.one i)) ∙ ap (λ (q : Post). told_by_post q) view

pub wide_post : (worker : ℕ) (own : ParkerDeeds) (links : List ParkerDeeds) (p : Post) → post_of worker own links ≡ p → length p.wakes ≡ length p.crew
wide_post worker own links p view =
    subst (λ (q : Post). length q.wakes ≡ length q.crew) view (wide links)
  where
    wide : (ls : List ParkerDeeds) → length (map (λ (y : ParkerDeeds). y.deeds.woke) ls) ≡ length (parkers_of ls)
    wide [] = refl
    wide (l ∷ ls) = ap suc (wide ls)

-- a row of passes to parkers that have parts
pub are_for : (ls ws : List ParkerDeeds) → parkers_of ls ≡ parkers_of ws → All IsLink ls → All (λ (w : ParkerDeeds). 0 < w.deeds.parts) ws → AreFor ls ws
are_for [] ws same each parts = tt
are_for (l ∷ ls) [] same each parts = absurd (let e = same in cc)
are_for (l ∷ ls) (w ∷ ws) same each parts =
    let one : l.parker ≡ w.parker = let e = same in cc in
    let more : parkers_of ls ≡ parkers_of ws = let e = same in cc in (
      (one, All-head IsLink l ls each, All-head (λ (x : ParkerDeeds). 0 < x.deeds.parts) w ws parts),
      are_for ls ws more (All-tail IsLink l ls each) (All-tail (λ (x : ParkerDeeds). 0 < x.deeds.parts) w ws parts),
    )

-- what a row changes of the parkers
pub row_parkers : (ws : List ParkerDeeds) (ns : List ℕ) → parkers_of (with_row ws ns) ≡ parkers_of ws
row_parkers ws [] = refl
row_parkers [] (n ∷ ns) = refl
row_parkers (w ∷ ws) (n ∷ ns) = ap (λ (ts : List TableId). w.parker ∷ ts) (row_parkers ws ns)

pub row_has_parts : (ws : List ParkerDeeds) (ns : List ℕ) → All (λ (w : ParkerDeeds). 0 < w.deeds.parts) ws → All (λ (w : ParkerDeeds). 0 < w.deeds.parts) (with_row ws ns)
row_has_parts ws [] all = all
row_has_parts [] (n ∷ ns) all = all
row_has_parts (w ∷ ws) (n ∷ ns) all =
    All-cons (λ (x : ParkerDeeds). 0 < x.deeds.parts) (parker_deeds w.parker (added w.deeds (deeds 1 n 0))) (with_row ws ns) (omega arith)
    (row_has_parts ws ns (All-tail (λ (x : ParkerDeeds). 0 < x.deeds.parts) w ws all))

row_wakes : (ws : List ParkerDeeds) (ns : List ℕ) → map (λ (w : ParkerDeeds). w.deeds.woke) (with_row ws ns) ≡ plus (map (λ (w : ParkerDeeds). w.deeds.woke) ws) ns
row_wakes ws [] = refl
row_wakes [] (n ∷ ns) = refl
row_wakes (w ∷ ws) (n ∷ ns) = ap (λ (ms : List ℕ). (w.deeds.woke + n) ∷ ms) (row_wakes ws ns)

abbrev HasParts : ℕ → ParkerDeeds → Type 0
HasParts m w = (w.deeds.parts ≡ m) × (w.deeds.rested ≡ 0)

row_parts : (m : ℕ) (ws : List ParkerDeeds) (ns : List ℕ) → length ns ≡ length ws → All (HasParts m) ws → All (HasParts (m + 1)) (with_row ws ns)
row_parts m [] [] many all = All-nil (HasParts (m + 1))
row_parts m [] (n ∷ ns) many all = All-nil (HasParts (m + 1))
row_parts m (w ∷ ws) [] many all = absurd (omega (arith, many))
row_parts m (w ∷ ws) (n ∷ ns) many all =
    let one = All-head (HasParts m) w ws all in
    All-cons (HasParts (m + 1)) (parker_deeds w.parker (added w.deeds (deeds 1 n 0))) (with_row ws ns)
    ((let p = one.0 in omega arith), (let r = one.1 in omega arith))
    (row_parts m ws ns (omega (arith, many)) (All-tail (HasParts m) w ws all))

-- what all rows change
all_parkers : (ws : List ParkerDeeds) (ps : List Post) → parkers_of (gathered ws ps) ≡ parkers_of ws
all_parkers ws [] = refl
all_parkers ws (p ∷ ps) = all_parkers (with_row ws p.wakes) ps ∙ row_parkers ws p.wakes

all_wakes : (ws : List ParkerDeeds) (ps : List Post) → map (λ (w : ParkerDeeds). w.deeds.woke) (gathered ws ps) ≡ woken (map (λ (w : ParkerDeeds). w.deeds.woke) ws) ps
all_wakes ws [] = refl
all_wakes ws (p ∷ ps) = all_wakes (with_row ws p.wakes) ps ∙ ap (λ (ns : List ℕ). woken ns ps) (row_wakes ws p.wakes)

all_parts : (m : ℕ) (ws : List ParkerDeeds) (ps : List Post) → All (λ (p : Post). p.crew ≡ parkers_of ws) ps → All (λ (p : Post). length p.wakes ≡ length p.crew) ps
    → All (HasParts m) ws → All (HasParts (m + length ps)) (gathered ws ps)
all_parts m ws [] own wide all = subst (λ (k : ℕ). All (HasParts k) ws) (omega arith) all
all_parts m ws (p ∷ ps) own wide all =
    let crew = All-head (λ (q : Post). q.crew ≡ parkers_of ws) p ps own in
    let many : length p.wakes ≡ length ws =
    All-head (λ (q : Post). length q.wakes ≡ length q.crew) p ps wide ∙ ap (λ (ts : List TableId). length ts) crew ∙ parkers_length ws in
    let here = row_parts m ws p.wakes many all in
    let more = subst (λ (ts : List TableId). All (λ (q : Post). q.crew ≡ ts) ps) (sym (row_parkers ws p.wakes))
    (All-tail (λ (q : Post). q.crew ≡ parkers_of ws) p ps own) in
    let done = all_parts (m + 1) (with_row ws p.wakes) ps more (All-tail (λ (q : Post). length q.wakes ≡ length q.crew) p ps wide) here in
    subst (λ (k : ℕ). All (HasParts k) (gathered (with_row ws p.wakes) ps)) (omega arith) done

-- a list without its first so many
abbrev behind : ℕ → List TableId → List TableId
behind zero ts = ts
behind (suc k) [] = []
behind (suc k) (t ∷ ts) = behind k ts

behind_at : (k : ℕ) (ts : List TableId) (t : TableId) (us : List TableId) → t ∷ us ≡ behind k ts → (slice_get ts k ≡ Some t) × (us ≡ behind (suc k) ts)
behind_at zero [] t us is = absurd (let e = is in cc)
behind_at zero (x ∷ xs) t us is = ((let e = is in cc), (let e = is in cc))
behind_at (suc k) [] t us is = absurd (let e = is in cc)
behind_at (suc k) (x ∷ xs) t us is = behind_at k xs t us is

-- with all passes back, each parker can end
each_ends : (k : ℕ) (ts : List TableId) (ws os : List ParkerDeeds) (ps : List Post) → parkers_of ws ≡ behind k ts → All (HasParts 8191) ws → length ps ≡ length ws
    → AreInWorkerOrder k ps → All (λ (p : Post). p.crew ≡ ts) ps → map told os ≡ map told_by_post ps → EachEnds ws os
each_ends k ts [] [] [] parkers parts many order own same = tt
each_ends k ts [] (o ∷ os) [] parkers parts many order own same = absurd (let e = same in cc)
each_ends k ts [] os (p ∷ ps) parkers parts many order own same = absurd (omega (arith, many))
each_ends k ts (w ∷ ws) os [] parkers parts many order own same = absurd (omega (arith, many))
each_ends k ts (w ∷ ws) [] (p ∷ ps) parkers parts many order own same = absurd (let e = same in cc)
each_ends k ts (w ∷ ws) (o ∷ os) (p ∷ ps) parkers parts many order own same =
    let at = behind_at k ts w.parker (parkers_of ws) parkers in
    let one : told o ≡ told_by_post p = let e = same in cc in
    let more : map told os ≡ map told_by_post ps = let e = same in cc in
    let crew = All-head (λ (q : Post). q.crew ≡ ts) p ps own in
    let place : slice_get p.crew p.worker ≡ Some w.parker =
    ap (λ (us : List TableId). slice_get us p.worker) crew ∙ ap (λ (n : ℕ). slice_get ts n) order.0 ∙ at.0 in
    let parker : o.parker ≡ w.parker = same_some o.parker w.parker (ap (λ (x : Option TableId × Deeds). x.0) one ∙ place) in
    let did : o.deeds ≡ one_rested p.rests = ap (λ (x : Option TableId × Deeds). x.1) one in (
      (parker, (All-head (HasParts 8191) w ws parts).0, did ∙ ap (λ (v : Deeds). one_rested v.rested) (sym did)),
      each_ends (suc k) ts ws os ps at.1 (All-tail (HasParts 8191) w ws parts) (omega (arith, many)) order.1
          (All-tail (λ (q : Post). q.crew ≡ ts) p ps own) more,
    )

-- and what is told is what the stands say
ends_told : (ws os : List ParkerDeeds) (ps : List Post) → map told os ≡ map told_by_post ps → rests_between ws os ≡ ended ps (map (λ (w : ParkerDeeds). w.deeds.woke) ws)
ends_told ws [] [] same = refl
ends_told ws [] (p ∷ ps) same = absurd (let e = same in cc)
ends_told [] (o ∷ os) [] same = absurd (let e = same in cc)
ends_told [] (o ∷ os) (p ∷ ps) same = refl
ends_told (w ∷ ws) (o ∷ os) [] same = absurd (let e = same in cc)
ends_told (w ∷ ws) (o ∷ os) (p ∷ ps) same =
    let one : told o ≡ told_by_post p = let e = same in cc in
    let more : map told os ≡ map told_by_post ps = let e = same in cc in
    let rests : o.deeds.rested ≡ p.rests = ap (λ (x : Option TableId × Deeds). x.1.rested) one in
    ap (λ (n : ℕ). rested_of n w.deeds.woke ∷ rests_between ws os) rests
    ∙ ap (λ (rs : List Rested). rested_of p.rests w.deeds.woke ∷ rs) (ends_told ws os ps more)

first_parts : (m : ℕ) (ws : List ParkerDeeds) → All (λ (w : ParkerDeeds). w.deeds ≡ deeds m 0 0) ws → All (HasParts m) ws
first_parts m [] all = All-nil (HasParts m)
first_parts m (w ∷ ws) all =
    let is = All-head (λ (x : ParkerDeeds). x.deeds ≡ deeds m 0 0) w ws all in
    All-cons (HasParts m) w ws (ap (λ (v : Deeds). v.parts) is, ap (λ (v : Deeds). v.rested) is)
    (first_parts m ws (All-tail (λ (x : ParkerDeeds). x.deeds ≡ deeds m 0 0) w ws all))

first_wakes : (m : ℕ) (ws : List ParkerDeeds) → All (λ (w : ParkerDeeds). w.deeds ≡ deeds m 0 0) ws → map (λ (w : ParkerDeeds). w.deeds.woke) ws ≡ no_wakes (parkers_of ws)
first_wakes m [] all = refl
first_wakes m (w ∷ ws) all =
    ap (λ (v : Deeds). v.woke ∷ map (λ (x : ParkerDeeds). x.deeds.woke) ws) (All-head (λ (x : ParkerDeeds). x.deeds ≡ deeds m 0 0) w ws all)
    ∙ ap (λ (ns : List ℕ). 0 ∷ ns) (first_wakes m ws (All-tail (λ (x : ParkerDeeds). x.deeds ≡ deeds m 0 0) w ws all))

-- a crew whose stands are all back
module _ (ws os : List ParkerDeeds) (ps : List Post) (few : length ws ≤ 4096) (rest : All (λ (w : ParkerDeeds). w.deeds ≡ deeds (8191 - length ws) 0 0) ws)
    (are : AreAll (parkers_of ws) ps) (wide : All (λ (p : Post). length p.wakes ≡ length p.crew) ps) (same : map told os ≡ map told_by_post ps) where
  many : length ps ≡ length ws
  many = are.many ∙ parkers_length ws

  pub all_end : EachEnds (gathered ws ps) os
  all_end =
      let parts = all_parts (8191 - length ws) ws ps are.own wide (first_parts (8191 - length ws) ws rest) in
      let whole : 8191 - length ws + length ps ≡ 8191 = let m = many in omega (arith, few) in
      let parkers = all_parkers ws ps in
      let as_many : length ps ≡ length (gathered ws ps) =
      let a = parkers_length (gathered ws ps) in let b = ap (λ (ts : List TableId). length ts) parkers in let c = are.many in omega arith in
      each_ends 0 (parkers_of ws) (gathered ws ps) os ps parkers (subst (λ (k : ℕ). All (HasParts k) (gathered ws ps)) whole parts) as_many are.order are.own
      same

  pub all_told : rests_between (gathered ws ps) os ≡ ended ps (woken (no_wakes (parkers_of ws)) ps)
  all_told =
      ends_told (gathered ws ps) os ps same
      ∙ ap (λ (ns : List ℕ). ended ps ns) (all_wakes ws ps)
      ∙ ap (λ (ns : List ℕ). ended ps (woken ns ps)) (first_wakes (8191 - length ws) ws rest)
