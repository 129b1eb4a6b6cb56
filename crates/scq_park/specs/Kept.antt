-- For private calls: what passes, stands and a crew keep.
use Rattle.std.specs.Prelude.{◌≡◌, ℕ, zero, suc, ◌-◌, ◌<◌, ◌≤◌, List, [], ◌∷◌, map, length, All}
use Rattle.std.specs.Prelude.{Option, Some, slice_get}
use Rattle.atomic_table.specs.Seated.{TableId}
use Rattle.scq_park.specs.declared.rested.Rested.{Rested}
use Rattle.scq_park.specs.Rule.{Deeds, deeds, one_part_less, added}
use Rattle.scq_park.specs.Crews.{Post, post, rested_of}

-- a pass to a parker, and what it stands for
pub record ParkerDeeds : Type 0 where
  pub parker : TableId
  pub deeds : Deeds

abbrev pub parker_deeds : TableId → Deeds → ParkerDeeds
parker_deeds t v = record { parker = t; deeds = v }

abbrev pub parkers_of : List ParkerDeeds → List TableId
parkers_of ws = map (λ (w : ParkerDeeds). w.parker) ws

-- what a worker's own pass stands for, where it rested so often
abbrev pub one_rested : ℕ → Deeds
one_rested n = deeds 1 0 n

-- a stand's pass to a worker's parker
abbrev pub IsLink : ParkerDeeds → Type 0
IsLink l = l.deeds ≡ deeds 1 l.deeds.woke 0

-- a stand of a worker, with its own pass and those to all parkers
abbrev pub post_of : ℕ → ParkerDeeds → List ParkerDeeds → Post
post_of worker own links =
    post (parkers_of links) worker (map (λ (l : ParkerDeeds). l.deeds.woke) links) own.deeds.rested

pub record IsStand (worker : ℕ) (own : ParkerDeeds) (links : List ParkerDeeds) : Type 0 where
  pub place : slice_get (parkers_of links) worker ≡ Some own.parker
  pub one : own.deeds ≡ one_rested own.deeds.rested
  pub each : All IsLink links

-- what a crew keeps: of each parker the parts that the stands don't have, and empty lists with room
-- for all passes and counts
pub record IsCrew (wakers : List ParkerDeeds) (owns : List ParkerDeeds) (own_room : ℕ)
    (rested : List Rested) (room : ℕ) : Type 0 where
  pub few : length wakers ≤ 4096
  pub rest : All (λ (w : ParkerDeeds). w.deeds ≡ deeds (8191 - length wakers) 0 0) wakers
  pub no_own : owns ≡ []
  pub all_own : length wakers ≤ own_room
  pub no_rested : rested ≡ []
  pub all_rested : length wakers ≤ room

-- a first pass to a parker; a parker with one part less; and the first so many of a list with one
-- part less
abbrev pub first_link : ParkerDeeds → ParkerDeeds
first_link w = parker_deeds w.parker (deeds 1 0 0)

abbrev pub with_part_less : ParkerDeeds → ParkerDeeds
with_part_less w = parker_deeds w.parker (one_part_less w.deeds)

abbrev pub cut_below : ℕ → List ParkerDeeds → List ParkerDeeds
cut_below zero ws = ws
cut_below (suc k) [] = []
cut_below (suc k) (w ∷ ws) = with_part_less w ∷ cut_below k ws

-- these passes are to the first of these parkers, in order
abbrev pub AreFor : List ParkerDeeds → List ParkerDeeds → Type 0
AreFor [] ws = Unit {0}
AreFor (l ∷ ls) [] = ⊥
AreFor (l ∷ ls) (w ∷ ws) = ((l.parker ≡ w.parker) × IsLink l × (0 < w.deeds.parts)) × AreFor ls ws

-- parkers to which a pass with so many wakes came back; and all passes of these stands
abbrev pub with_row : List ParkerDeeds → List ℕ → List ParkerDeeds
with_row ws [] = ws
with_row [] (n ∷ ns) = []
with_row (w ∷ ws) (n ∷ ns) = parker_deeds w.parker (added w.deeds (deeds 1 n 0)) ∷ with_row ws ns

abbrev pub gathered : List ParkerDeeds → List Post → List ParkerDeeds
gathered ws [] = ws
gathered ws (p ∷ ps) = gathered (with_row ws p.wakes) ps

-- what is told of a worker's own pass: its parker, and what it stands for; and the same by its
-- stand
abbrev pub told : ParkerDeeds → Option TableId × Deeds
told o = (Some o.parker, o.deeds)

abbrev pub told_by_post : Post → Option TableId × Deeds
told_by_post p = (slice_get p.crew p.worker, one_rested p.rests)

-- all parts of each parker are there, but for the one of its worker
abbrev pub CanEnd : ParkerDeeds → ParkerDeeds → Type 0
CanEnd w o = (o.parker ≡ w.parker) × (w.deeds.parts ≡ 8191) × (o.deeds ≡ one_rested o.deeds.rested)

abbrev pub EachEnds : List ParkerDeeds → List ParkerDeeds → Type 0
EachEnds [] [] = Unit {0}
EachEnds [] (o ∷ os) = ⊥
EachEnds (w ∷ ws) [] = ⊥
EachEnds (w ∷ ws) (o ∷ os) = CanEnd w o × EachEnds ws os

abbrev pub rests_between : List ParkerDeeds → List ParkerDeeds → List Rested
rests_between ws [] = []
rests_between [] (o ∷ os) = []
rests_between (w ∷ ws) (o ∷ os) = rested_of o.deeds.rested w.deeds.woke ∷ rests_between ws os
