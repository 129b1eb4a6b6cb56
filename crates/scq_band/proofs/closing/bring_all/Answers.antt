use Rattle.std.proofs.Common.{◌≡◌, ◌<◌, ◌≤◌, ◌∙◌, ℕ, List, ◌∷◌, refl, sym, ap, subst, map, length, arith}
use Rattle.std.specs.Prelude.{IsTrue, is_none}
use Rattle.atomic_table.specs.Table.{Me, rest}
use Rattle.scq_law.specs.Exports.{times}
use Rattle.scq_band.specs.Slots.{SlotStanding}
use Rattle.scq_band.specs.Exports.{LiesIn, Sight, known_in, known_me, front_bytes, times_lifted, MayBring, AreHoles, indices_of, MayLeave}
use Rattle.scq_band.specs.Known.{Known}
use Rattle.scq_band.proofs.Slots.{noted_none, times-rotated}
use Rattle.scq_band.proofs.GoingHome.{stands_first, turned_may, turned_went, lifted-rotated, holes-rotated, leaves, goes_on, left_all, left_there, left_same, left_less, none_left, went_none, went_more}
use Rattle.scq_band.proofs.Holes.{front_hole, rest_holes, laid_rest}
use Rattle.scq_band.proofs.closing.bring_all.Goals as goal
use Rattle.scq_band.proofs.closing.bring_all.Goals.{After-bring_to_front, After-loop-index}

-- once the slot of an index that is held was turned to the front, the seat may leave as before
may : (g : _) (c : After-bring_to_front g) → MayLeave g.B.Buffer.IsSameBuffer c.args.words.now.key.given.value.items (known_me c.bring_to_front.new.token.me)
    (map g.T.Lifted.pair c.loop-index.out.items)
may g c =
    let to = c.bring_to_front.ensures.2 in
    turned_may g.B.Buffer.IsSameBuffer c.args.words.now.key.given.value.items (known_me c.loop-index.token.me) (known_me c.bring_to_front.new.token.me)
    (map g.T.Lifted.pair c.loop-index.out.items) c.loop-index.invariant.2 (ap known_in to.view) to.slots

-- and its slot stands first, with its buffer or as a hole
front : (g : _) (c : After-bring_to_front g) → (slot : SlotStanding g.row.B.Denot) × (c.bring_to_front.new.token.me.1
    ≡ (c.loop-index.index, slot) ∷ rest c.bring_to_front.new.token.me.1)
    × (IsTrue (is_none slot.buffer) → 0 < times c.loop-index.index (indices_of (map g.T.Lifted.pair c.loop-index.out.items)))
front g c =
    let to = c.bring_to_front.ensures.2 in
    let was : 0 < times c.loop-index.index (indices_of c.loop-index.token.me.1) =
    left_there c.args.held.items c.loop-index.index c.loop-index.token.me.1 c.index.result.now c.loop-index.invariant.7
    (omega (arith, c.loop-index-test.true, c.len-count.ensures, c.args.held.ok)) c.index.ensures c.if-not-index.false in
    stands_first g.B.Buffer.IsSameBuffer c.args.words.now.key.given.value.items (known_me c.bring_to_front.new.token.me) c.loop-index.index
    (map g.T.Lifted.pair c.loop-index.out.items) (may g c)
    (let same = times-rotated c.loop-index.index c.loop-index.token.me.1 c.bring_to_front.new.token.me.1 to.slots in omega (arith, same, was)) to.first

-- all indices were looked at
seen_all : (g : _) (c : After-loop-index g) → length c.args.held.items ≤ c.loop-index.index
seen_all g c = omega (arith, c.loop-index-test.false, c.len-count.ensures, c.args.held.ok)

pub bring_to_front-requires : goal.bring_to_front-requires
bring_to_front-requires g c =
    left_there c.args.held.items c.loop-index.index c.loop-index.token.me.1 c.index.result.now c.loop-index.invariant.7
    (omega (arith, c.loop-index-test.true, c.len-count.ensures, c.args.held.ok)) c.index.ensures c.if-not-index.false

-- an index that is not held leaves all as it was
pub loop-index-preserved-then-not-index : goal.loop-index-preserved-then-not-index
loop-index-preserved-then-not-index g c =
    let i = c.loop-index.invariant in (
      i.0,
      i.1,
      i.2,
      i.3,
      i.4,
      i.5,
      i.6,
      left_same c.args.held.items c.loop-index.index c.loop-index.token.me.1 i.7
          (noted_none c.args.held.items c.loop-index.index c.index.result.now
          (omega (arith, c.loop-index-test.true, c.len-count.ensures, c.args.held.ok)) c.index.ensures c.if-not-index.true),
    )

pub lay_back-requires-clause-first : goal.lay_back-requires-clause-first
lay_back-requires-clause-first g c κs within =
    let at = (goal.at.lay_back-requires-clause-first g c).After-bring_to_front in
    let first = front g at in (
      first.0,
      first.1,
      first.2,
      λ all. front_hole c.bring_to_front.new.token.me.1 _ first.0 first.1
          (holes-rotated c.loop-index.token.me.1 c.bring_to_front.new.token.me.1 c.bring_to_front.ensures.2.slots (c.loop-index.invariant.6 all)),
    )

pub bring_home-requires-clause-may : goal.bring_home-requires-clause-may
bring_home-requires-clause-may g c κs within =
    let at = (goal.at.bring_home-requires-clause-may g c).After-bring_to_front in
    let l = leaves g.B.Buffer.contents _ _ (known_me c.bring_to_front.new.token.me) _ _ _ _ (may g at) c.lay_back.ensures.laid in
    subst (λ (v : Known). MayBring (LiesIn g.B.Buffer.contents g.B.Buffer.IsSameBuffer c.args.words.now.key.given.value.items)
    (front_bytes g.B.Buffer.contents c.lay_back.new.token.me.1) (v, c.lay_back.new.token.me.1)) (sym (ap known_in c.lay_back.ensures.view)) l.bring

pub loop-index-preserved : goal.loop-index-preserved
loop-index-preserved g c =
    let at = (goal.at.loop-index-preserved g c).After-bring_to_front in
    let to = c.bring_to_front.ensures.2 in
    let was = known_me c.loop-index.token.me in
    let me = known_me c.bring_to_front.new.token.me in
    let may_so = may g at in
    let out = map g.T.Lifted.pair c.loop-index.out.items in
    let l = leaves g.B.Buffer.contents _ _ me _ _ _ _ may_so c.lay_back.ensures.laid in
    let n = goes_on g.B.Buffer.contents _ _ me (known_me c.lay_back.new.token.me) (known_me c.bring_home.new.token.me) _ _ _ l
    (ap known_in c.lay_back.ensures.view) c.bring_home.ensures.home in
    let turned = went_more g.B.Buffer.contents (known_me c.args.token.now.me) was me (map g.T.Lifted.pair c.args.out.now.items) out out
    c.loop-index.invariant.3 (turned_went g.B.Buffer.contents was me out c.loop-index.invariant.2.seats (ap known_in to.view) to.slots) in (
      c.bring_home.ensures.own.0 ∙ c.lay_back.ensures.own.0 ∙ c.bring_to_front.ensures.0 ∙ c.loop-index.invariant.0,
      c.bring_home.ensures.own.1 ∙ c.lay_back.ensures.own.1 ∙ c.bring_to_front.ensures.1 ∙ c.loop-index.invariant.1,
      n.may,
      went_more g.B.Buffer.contents (known_me c.args.token.now.me) me (known_me c.bring_home.new.token.me) (map g.T.Lifted.pair c.args.out.now.items)
          out (map g.T.Lifted.pair c.lay_back.new.out.items) turned n.went,
      λ j.
          let now = n.less j in
          let before = c.loop-index.invariant.4 j in
          let same = lifted-rotated j c.loop-index.token.me.1 c.bring_to_front.new.token.me.1 to.slots in
          omega (arith, now, before, same),
      c.bring_home.ensures.seen ∙ ap (λ (v : Sight). v.seen) (c.lay_back.ensures.view ∙ to.view) ∙ c.loop-index.invariant.5,
      λ all.
          let first = front g at in
          let gone : c.bring_home.new.token.me.1 ≡ rest c.bring_to_front.new.token.me.1 =
          ap (λ (m : Me (SlotStanding g.row.B.Denot) Known). m.1) c.bring_home.ensures.home ∙ laid_rest _ _ _ _ _ c.lay_back.ensures.laid in
          subst (λ (l : List (ℕ × SlotStanding g.row.B.Denot)). AreHoles l) (sym gone)
          (rest_holes c.bring_to_front.new.token.me.1 _ first.0 first.1
          (holes-rotated c.loop-index.token.me.1 c.bring_to_front.new.token.me.1 to.slots (c.loop-index.invariant.6 all))),
      left_less c.args.held.items c.loop-index.index c.loop-index.token.me.1 c.bring_home.new.token.me.1 c.loop-index.invariant.7
          (λ j. n.others j ∙ times-rotated j c.loop-index.token.me.1 c.bring_to_front.new.token.me.1 to.slots),
    )

pub loop-index-init : goal.loop-index-init
loop-index-init g c = (
  refl,
  refl,
  c.requires.may,
  went_none g.B.Buffer.contents g.B.Buffer.IsSameBuffer c.args.words.now.key.given.value.items (known_me c.args.token.now.me)
      (map g.T.Lifted.pair c.args.out.now.items) c.requires.may,
  λ i. refl,
  refl,
  c.requires.holes,
  left_all c.args.held.items c.args.token.now.me.1 c.requires.noted,
)

pub returns-clause-none : goal.returns-clause-none
returns-clause-none g c =
    none_left c.args.held.items c.loop-index.index c.loop-index.token.me.1 c.loop-index.invariant.7
    (seen_all g (goal.at.returns-clause-none g c).After-loop-index)

pub returns-clause-less : goal.returns-clause-less
returns-clause-less g c i =
    let lifted = ap (times_lifted i) (none_left c.args.held.items c.loop-index.index c.loop-index.token.me.1 c.loop-index.invariant.7 (seen_all g (goal.at.returns-clause-less g c).After-loop-index)) in
    let all = c.loop-index.invariant.4 i in
    omega (arith, lifted, all)
