-- Lists of passes, as one of them changes, and as they are cut off the parkers one by one.
use Rattle.std.proofs.Common.{◌≡◌, ℕ, zero, suc, ◌+◌, ◌-◌, ◌<◌, ◌≤◌, List, [], ◌∷◌, ◌++◌, map, length, set, get_or, refl, sym, ◌∙◌, ap, subst, arith}
use Rattle.std.specs.Prelude.{All, Some, None, slice_get, slice_index}
use Rattle.std.proofs.lemmas.Option.{slice_get_read}
use Rattle.std.proofs.lemmas.List.Elements.{All-nil, All-cons, All-head, All-tail, All-set}
use Rattle.atomic_table.specs.Seated.{TableId}
use Rattle.scq_park.specs.Exports.{Deeds, deeds, once_woken, once_rested, post, no_wakes, first_post, with_wake, ParkerDeeds, parker_deeds}
use Rattle.scq_park.specs.Exports.{parkers_of, one_rested, IsLink, post_of, IsStand, first_link, with_part_less, cut_below}

pub same_some : {A : Type 0} (x y : A) → Some x ≡ Some y → x ≡ y
same_some x y is = cc

not_some : {A : Type 0} (x : A) → None ≡ Some x → ⊥
not_some x is = cc

-- a list read in range
pub read_at : (ls : List ParkerDeeds) (k : ℕ) (l : ParkerDeeds) → k < length ls → l ≡ get_or ls k l → slice_get ls k ≡ Some l
read_at ls k l low is = slice_get_read ls (length ls) k l refl low is

pub parkers_length : (ws : List ParkerDeeds) → length (parkers_of ws) ≡ length ws
parkers_length [] = refl
parkers_length (w ∷ ws) = ap suc (parkers_length ws)

-- a change of what one pass stands for changes no parker
pub same_parkers : (ls : List ParkerDeeds) (k : ℕ) (l : ParkerDeeds) (v : Deeds) → slice_get ls k ≡ Some l → parkers_of (set ls k (parker_deeds l.parker v)) ≡ parkers_of ls
same_parkers [] k l v at = refl
same_parkers (x ∷ xs) zero l v at = ap (λ (y : ParkerDeeds). y.parker ∷ parkers_of xs) (sym (same_some x l at))
same_parkers (x ∷ xs) (suc k) l v at = ap (λ (ts : List TableId). x.parker ∷ ts) (same_parkers xs k l v at)

one_wake : (ls : List ParkerDeeds) (k : ℕ) (l : ParkerDeeds) → slice_get ls k ≡ Some l
    → map (λ (y : ParkerDeeds). y.deeds.woke) (set ls k (parker_deeds l.parker (once_woken l.deeds)))
    ≡ set (map (λ (y : ParkerDeeds). y.deeds.woke) ls) k (slice_index (map (λ (y : ParkerDeeds). y.deeds.woke) ls) k + 1)
one_wake [] k l at = refl
one_wake (x ∷ xs) zero l at = ap (λ (y : ParkerDeeds). (y.deeds.woke + 1) ∷ map (λ (z : ParkerDeeds). z.deeds.woke) xs) (sym (same_some x l at))
one_wake (x ∷ xs) (suc k) l at = ap (λ (ns : List ℕ). x.deeds.woke ∷ ns) (one_wake xs k l at)

-- what holds of all passes holds of one
pub one_of_all : (P : ParkerDeeds → Type 0) (ls : List ParkerDeeds) (k : ℕ) (l : ParkerDeeds) → All P ls → slice_get ls k ≡ Some l → P l
one_of_all P [] k l all at = absurd (not_some l at)
one_of_all P (x ∷ xs) zero l all at = subst (λ (y : ParkerDeeds). P y) (same_some x l at) (All-head P x xs all)
one_of_all P (x ∷ xs) (suc k) l all at = one_of_all P xs k l (All-tail P x xs all) at

-- two passes in one place, where the parkers are the same
parker_at : (ls : List ParkerDeeds) (k : ℕ) (l : ParkerDeeds) → slice_get ls k ≡ Some l → slice_get (parkers_of ls) k ≡ Some l.parker
parker_at [] k l at = absurd (not_some l at)
parker_at (x ∷ xs) zero l at = ap (λ (y : ParkerDeeds). Some y.parker) (same_some x l at)
parker_at (x ∷ xs) (suc k) l at = parker_at xs k l at

pub same_parker : (ls ws : List ParkerDeeds) (k : ℕ) (l w : ParkerDeeds) → parkers_of ls ≡ parkers_of ws → slice_get ls k ≡ Some l → slice_get ws k ≡ Some w
    → l.parker ≡ w.parker
same_parker ls ws k l w same at there =
    same_some l.parker w.parker (sym (parker_at ls k l at) ∙ ap (λ (ts : List TableId). slice_get ts k) same ∙ parker_at ws k w there)

-- the stand after a wake, and after a rest
pub stand_woke : (worker : ℕ) (own : ParkerDeeds) (ls : List ParkerDeeds) (k : ℕ) (l : ParkerDeeds) → IsStand worker own ls → slice_get ls k ≡ Some l
    → IsStand worker own (set ls k (parker_deeds l.parker (once_woken l.deeds)))
stand_woke worker own ls k l is at =
    let one = one_of_all IsLink ls k l is.each at in
    record {
      place = ap (λ (ts : List TableId). slice_get ts worker) (same_parkers ls k l (once_woken l.deeds) at) ∙ is.place;
      one = is.one;
      each = All-set IsLink ls k (parker_deeds l.parker (once_woken l.deeds)) (ap once_woken one) is.each;
    }

pub post_woke : (worker : ℕ) (own : ParkerDeeds) (ls : List ParkerDeeds) (k : ℕ) (l : ParkerDeeds) → slice_get ls k ≡ Some l
    → post_of worker own (set ls k (parker_deeds l.parker (once_woken l.deeds))) ≡ with_wake k (post_of worker own ls)
post_woke worker own ls k l at =
    ap (λ (both : List TableId × List ℕ). post both.0 worker both.1 own.deeds.rested)
    (λ i. (same_parkers ls k l (once_woken l.deeds) at i, one_wake ls k l at i))

pub stand_rested : (worker : ℕ) (own : ParkerDeeds) (ls : List ParkerDeeds) → IsStand worker own ls
    → IsStand worker (parker_deeds own.parker (once_rested own.deeds)) ls
stand_rested worker own ls is = record { place = is.place; one = ap once_rested is.one; each = is.each }

-- passes cut off the first so many parkers
pub cut_at : (k : ℕ) (ws : List ParkerDeeds) → slice_get (cut_below k ws) k ≡ slice_get ws k
cut_at zero ws = refl
cut_at (suc k) [] = refl
cut_at (suc k) (w ∷ ws) = cut_at k ws

pub cut_next : (k : ℕ) (ws : List ParkerDeeds) (w : ParkerDeeds) → slice_get ws k ≡ Some w → set (cut_below k ws) k (with_part_less w) ≡ cut_below (suc k) ws
cut_next zero [] w at = absurd (not_some w at)
cut_next zero (x ∷ xs) w at = ap (λ (y : ParkerDeeds). with_part_less y ∷ xs) (sym (same_some x w at))
cut_next (suc k) [] w at = absurd (not_some w at)
cut_next (suc k) (x ∷ xs) w at = ap (λ (ys : List ParkerDeeds). with_part_less x ∷ ys) (cut_next k xs w at)

length-cut_below : (k : ℕ) (ws : List ParkerDeeds) → length (cut_below k ws) ≡ length ws
length-cut_below zero ws = refl
length-cut_below (suc k) [] = refl
length-cut_below (suc k) (w ∷ ws) = ap suc (length-cut_below k ws)

-- the parker at a place, where those before it were cut
pub uncut_at : (k : ℕ) (ws now : List ParkerDeeds) (w : ParkerDeeds) → now ≡ cut_below k ws → k < length ws → w ≡ get_or now k w → slice_get ws k ≡ Some w
uncut_at k ws now w is low read =
    let many = ap (λ (xs : List ParkerDeeds). length xs) is ∙ length-cut_below k ws in
    sym (cut_at k ws) ∙ ap (λ (xs : List ParkerDeeds). slice_get xs k) (sym is) ∙ read_at now k w (omega (arith, low, many)) read

pub cut_all : (k : ℕ) (ws : List ParkerDeeds) → length ws ≤ k → cut_below k ws ≡ map with_part_less ws
cut_all zero [] all = refl
cut_all zero (w ∷ ws) all = absurd (omega (arith, all))
cut_all (suc k) [] all = refl
cut_all (suc k) (w ∷ ws) all = ap (λ (ys : List ParkerDeeds). with_part_less w ∷ ys) (cut_all k ws (omega (arith, all)))

-- the first passes to the first so many parkers, and to the rest
abbrev pub links_below : ℕ → List ParkerDeeds → List ParkerDeeds
links_below zero ws = []
links_below (suc k) [] = []
links_below (suc k) (w ∷ ws) = first_link w ∷ links_below k ws

abbrev pub links_from : ℕ → List ParkerDeeds → List ParkerDeeds
links_from zero ws = map first_link ws
links_from (suc k) [] = []
links_from (suc k) (w ∷ ws) = links_from k ws

pub links_next : (k : ℕ) (ws : List ParkerDeeds) (w : ParkerDeeds) → slice_get ws k ≡ Some w → links_below k ws ++ first_link w ∷ [] ≡ links_below (suc k) ws
links_next zero [] w at = absurd (not_some w at)
links_next zero (x ∷ xs) w at = ap (λ (y : ParkerDeeds). first_link y ∷ []) (sym (same_some x w at))
links_next (suc k) [] w at = absurd (not_some w at)
links_next (suc k) (x ∷ xs) w at = ap (λ (ys : List ParkerDeeds). first_link x ∷ ys) (links_next k xs w at)

pub links_all : (k : ℕ) (ws : List ParkerDeeds) → length ws ≤ k → links_below k ws ≡ map first_link ws
links_all zero [] all = refl
links_all zero (w ∷ ws) all = absurd (omega (arith, all))
links_all (suc k) [] all = refl
links_all (suc k) (w ∷ ws) all = ap (λ (ys : List ParkerDeeds). first_link w ∷ ys) (links_all k ws (omega (arith, all)))

-- the next of the first passes: its parker, what it stands for, and those behind it
pub record IsNextPass (k : ℕ) (ws : List ParkerDeeds) (own : ParkerDeeds) (others : List ParkerDeeds) : Type 0 where
  pub place : slice_get (parkers_of ws) k ≡ Some own.parker
  pub one : own.deeds ≡ deeds 1 0 0
  pub more : others ≡ links_from (suc k) ws

pub next_link : (k : ℕ) (ws : List ParkerDeeds) (own : ParkerDeeds) (rest : List ParkerDeeds) → own ∷ rest ≡ links_from k ws → IsNextPass k ws own rest
next_link zero [] own rest is = absurd (let e = is in cc)
next_link zero (w ∷ ws) own rest is =
    let one : own ≡ first_link w = let e = is in cc in
    let more : rest ≡ map first_link ws = let e = is in cc in
    record { place = ap (λ (l : ParkerDeeds). Some l.parker) (sym one); one = ap (λ (l : ParkerDeeds). l.deeds) one; more = more }
next_link (suc k) [] own rest is = absurd (let e = is in cc)
next_link (suc k) (w ∷ ws) own rest is =
    let it = next_link k ws own rest is in
    record { place = it.place; one = it.one; more = it.more }

-- the first passes of a row
pub first_parkers : (ws : List ParkerDeeds) → parkers_of (map first_link ws) ≡ parkers_of ws
first_parkers [] = refl
first_parkers (w ∷ ws) = ap (λ (ts : List TableId). w.parker ∷ ts) (first_parkers ws)

pub less_parkers : (ws : List ParkerDeeds) → parkers_of (map with_part_less ws) ≡ parkers_of ws
less_parkers [] = refl
less_parkers (w ∷ ws) = ap (λ (ts : List TableId). w.parker ∷ ts) (less_parkers ws)

first_wakes : (ws : List ParkerDeeds) → map (λ (l : ParkerDeeds). l.deeds.woke) (map first_link ws) ≡ no_wakes (parkers_of ws)
first_wakes [] = refl
first_wakes (w ∷ ws) = ap (λ (ns : List ℕ). 0 ∷ ns) (first_wakes ws)

first_each : (ws : List ParkerDeeds) → All IsLink (map first_link ws)
first_each [] = All-nil IsLink
first_each (w ∷ ws) = All-cons IsLink (first_link w) (map first_link ws) refl (first_each ws)

-- a new stand
pub new_stand : (worker : ℕ) (own : ParkerDeeds) (ws : List ParkerDeeds) → slice_get (parkers_of ws) worker ≡ Some own.parker → own.deeds ≡ deeds 1 0 0
    → IsStand worker own (map first_link ws)
new_stand worker own ws place one =
    record {
      place = ap (λ (ts : List TableId). slice_get ts worker) (first_parkers ws) ∙ place;
      one = one ∙ ap (λ (v : Deeds). one_rested v.rested) (sym one);
      each = first_each ws;
    }

pub new_post : (worker : ℕ) (own : ParkerDeeds) (ws : List ParkerDeeds) → own.deeds ≡ deeds 1 0 0
    → post_of worker own (map first_link ws) ≡ first_post (parkers_of ws) worker
new_post worker own ws one =
    ap (λ (all : List TableId × (List ℕ × ℕ)). post all.0 worker all.1.0 all.1.1)
    (λ i. (first_parkers ws i, (first_wakes ws i, ap (λ (v : Deeds). v.rested) one i)))

-- parkers that have so many parts, after one more was cut off each
pub less_parts : (n m : ℕ) (ws : List ParkerDeeds) → n ≡ m - 1 → All (λ (w : ParkerDeeds). w.deeds ≡ deeds m 0 0) ws
    → All (λ (w : ParkerDeeds). w.deeds ≡ deeds n 0 0) (map with_part_less ws)
less_parts n m [] is all = All-nil (λ (w : ParkerDeeds). w.deeds ≡ deeds n 0 0)
less_parts n m (w ∷ ws) is all =
    All-cons (λ (x : ParkerDeeds). x.deeds ≡ deeds n 0 0) (with_part_less w) (map with_part_less ws)
    (ap (λ (v : Deeds). deeds (v.parts - 1) v.woke v.rested) (All-head (λ (x : ParkerDeeds). x.deeds ≡ deeds m 0 0) w ws all) ∙ ap (λ (k : ℕ). deeds k 0 0) (sym is))
    (less_parts n m ws is (All-tail (λ (x : ParkerDeeds). x.deeds ≡ deeds m 0 0) w ws all))

pub more_parts : (k m : ℕ) (ws : List ParkerDeeds) → k < m → All (λ (w : ParkerDeeds). w.deeds ≡ deeds m 0 0) ws → All (λ (w : ParkerDeeds). k < w.deeds.parts) ws
more_parts k m [] few all = All-nil (λ (w : ParkerDeeds). k < w.deeds.parts)
more_parts k m (w ∷ ws) few all =
    let is = ap (λ (v : Deeds). v.parts) (All-head (λ (x : ParkerDeeds). x.deeds ≡ deeds m 0 0) w ws all) in
    All-cons (λ (x : ParkerDeeds). k < x.deeds.parts) w ws (omega (arith, is, few)) (more_parts k m ws few (All-tail (λ (x : ParkerDeeds). x.deeds ≡ deeds m 0 0) w ws all))
