use Rattle.std.proofs.Common.{◌≡◌, ◌∙◌, List, sym, subst, map, length, arith}
use Rattle.std.specs.Prelude.{Some, IsTrue}
use Rattle.std.proofs.lemmas.List.{length-map}
use Rattle.std.proofs.lemmas.List.Elements.{All-pop}
use Rattle.atomic_table.specs.Table.{Me}
use Rattle.scq_law.specs.Exports.{times}
use Rattle.scq_band.specs.Slots.{SlotStanding}
use Rattle.scq_band.specs.Exports.{Member, Sight, identity_of, indices_of, lifted_of, OutOrHome, SeatsAreGathered, HoldsLifted}
use Rattle.scq_band.specs.Standing.{Standing}
use Rattle.scq_band.proofs.Gathering.{gathered_first, gathered_more, out_joined, all_home_then, out_some, out_less, none_left_out, all_gathered}
use Rattle.scq_band.proofs.closing.gather.Goals as goal

pub loop-seat-init : goal.loop-seat-init
loop-seat-init g c =
    let w = c.bring_seat_home-first.result.me.0.known in
    let e = c.bring_seat_home-first.ensures in
    let left = c.pop.new.self.items in
    let bands = All-pop (λ (s : Standing g.row.B.Denot). s.band ≡ identity_of c.args.words.now.table_id c.args.words.now.key) c.args.seats.items left
    (Some c.in-Some.last)
    c.in-Some.ensures.items c.requires.bands in (
      e.own,
      bands.0,
      λ i.
          out_less (λ (s : Standing g.row.B.Denot). times i (lifted_of s.hand)) c.args.seats.items left c.in-Some.last
          (times i (indices_of (map g.T.Lifted.pair c.args.out.items)))
          (times i (indices_of (map g.T.Lifted.pair c.bring_seat_home-first.new.out.items))) (c.requires.lifted i) c.in-Some.ensures.items (e.less i),
      e.given,
      gathered_first g.B.Buffer.contents c.args.words.now.key.setup.rings c.args.seats.items left c.in-Some.last w c.in-Some.ensures.items e.alone e.member
          e.numbers.0 e.numbers.1 e.gate c.bring_seat_home-first.result.me.0.seen e.seen,
      subst (λ (xs : List Member). OutOrHome g.B.Buffer.contents (map g.T.Lifted.pair c.args.out.items) (map g.T.Lifted.pair c.bring_seat_home-first.new.out.items) xs)
          (sym e.alone) e.home,
      (All-pop (λ (s : Standing g.row.B.Denot). IsTrue g.L.Looks.all → HoldsLifted s) c.args.seats.items left (Some c.in-Some.last)
          c.in-Some.ensures.items c.requires.holes).0,
    )

pub bring_seat_home-first-requires-clause-band : goal.bring_seat_home-first-requires-clause-band
bring_seat_home-first-requires-clause-band g c κs within =
    let bands = All-pop (λ (s : Standing g.row.B.Denot). s.band ≡ identity_of c.args.words.now.table_id c.args.words.now.key) c.args.seats.items
    c.pop.new.self.items (Some c.in-Some.last) c.in-Some.ensures.items c.requires.bands in
    bands.1

pub bring_seat_home-first-requires-clause-holes : goal.bring_seat_home-first-requires-clause-holes
bring_seat_home-first-requires-clause-holes g c κs within =
    (All-pop (λ (s : Standing g.row.B.Denot). IsTrue g.L.Looks.all → HoldsLifted s) c.args.seats.items c.pop.new.self.items (Some c.in-Some.last)
    c.in-Some.ensures.items c.requires.holes).1

pub bring_seat_home-first-requires-clause-lifted : goal.bring_seat_home-first-requires-clause-lifted
bring_seat_home-first-requires-clause-lifted g c κs within i =
    out_some (λ (s : Standing g.row.B.Denot). times i (lifted_of s.hand)) c.args.seats.items c.pop.new.self.items c.in-Some.last
    (times i (indices_of (map g.T.Lifted.pair c.args.out.items))) (c.requires.lifted i) c.in-Some.ensures.items

pub bring_seat_home-token-requires-clause-band : goal.bring_seat_home-token-requires-clause-band
bring_seat_home-token-requires-clause-band g c κs within =
    let bands = All-pop (λ (s : Standing g.row.B.Denot). s.band ≡ identity_of c.args.words.now.table_id c.args.words.now.key) c.loop-seat.seats.items
    c.pop-in-loop-seat.new.self.items (Some c.in-Some-pop.seat) c.in-Some-pop.ensures.items c.loop-seat.invariant.1 in
    bands.1

pub bring_seat_home-token-requires-clause-holes : goal.bring_seat_home-token-requires-clause-holes
bring_seat_home-token-requires-clause-holes g c κs within =
    (All-pop (λ (s : Standing g.row.B.Denot). IsTrue g.L.Looks.all → HoldsLifted s) c.loop-seat.seats.items c.pop-in-loop-seat.new.self.items
    (Some c.in-Some-pop.seat) c.in-Some-pop.ensures.items c.loop-seat.invariant.6).1

pub bring_seat_home-token-requires-clause-lifted : goal.bring_seat_home-token-requires-clause-lifted
bring_seat_home-token-requires-clause-lifted g c κs within i =
    out_some (λ (s : Standing g.row.B.Denot). times i (lifted_of s.hand)) c.loop-seat.seats.items c.pop-in-loop-seat.new.self.items c.in-Some-pop.seat
    (times i (indices_of (map g.T.Lifted.pair c.loop-seat.out.items))) (c.loop-seat.invariant.2 i) c.in-Some-pop.ensures.items

pub take_in-requires-clause-own : goal.take_in-requires-clause-own
take_in-requires-clause-own g c κs within = (c.loop-seat.invariant.0, c.bring_seat_home-token.ensures.own)

pub take_in-requires-clause-room : goal.take_in-requires-clause-room
take_in-requires-clause-room g c κs within = c.requires.room

pub take_in-requires-clause-stands : goal.take_in-requires-clause-stands
take_in-requires-clause-stands g c κs within = c.loop-seat.invariant.4.some

pub take_in-requires-clause-empty : goal.take_in-requires-clause-empty
take_in-requires-clause-empty g c κs within = c.bring_seat_home-token.ensures.none

pub loop-seat-preserved : goal.loop-seat-preserved
loop-seat-preserved g c =
    let e = c.bring_seat_home-token.ensures in
    let v = c.loop-seat.first.me.0.known in
    let w = c.bring_seat_home-token.result.me.0.known in
    let told = c.loop-seat.first.me.0.seen in
    let before = c.loop-seat.seats.items in
    let left = c.pop-in-loop-seat.new.self.items in
    let rings = c.args.words.now.key.setup.rings in
    let bands = All-pop (λ (s : Standing g.row.B.Denot). s.band ≡ identity_of c.args.words.now.table_id c.args.words.now.key) before left
    (Some c.in-Some-pop.seat)
    c.in-Some-pop.ensures.items c.loop-seat.invariant.1 in
    let more = gathered_more g.B.Buffer.contents rings c.args.seats.items before left c.in-Some-pop.seat v w told c.loop-seat.invariant.4
    c.in-Some-pop.ensures.items e.alone e.member
    e.numbers.0 e.numbers.1 e.gate c.bring_seat_home-token.result.me.0.seen e.seen in
    let out = map g.T.Lifted.pair c.args.out.items in
    let still = map g.T.Lifted.pair c.bring_seat_home-token.new.out.items in
    let home = out_joined g.B.Buffer.contents out (map g.T.Lifted.pair c.loop-seat.out.items) still v w e.alone c.loop-seat.invariant.5 e.home in (
      c.take_in.ensures.own.0 ∙ c.loop-seat.invariant.0,
      bands.0,
      λ i.
          out_less (λ (s : Standing g.row.B.Denot). times i (lifted_of s.hand)) before left c.in-Some-pop.seat
          (times i (indices_of (map g.T.Lifted.pair c.loop-seat.out.items)))
          (times i (indices_of (map g.T.Lifted.pair c.bring_seat_home-token.new.out.items))) (c.loop-seat.invariant.2 i) c.in-Some-pop.ensures.items (e.less i),
      e.given,
      subst (λ (m : Me (SlotStanding g.row.B.Denot) Sight). SeatsAreGathered g.B.Buffer.contents rings c.args.seats.items left m.0.known m.0.seen)
          (sym c.take_in.ensures.both) more,
      subst (λ (m : Me (SlotStanding g.row.B.Denot) Sight). OutOrHome g.B.Buffer.contents out still m.0.known.seats) (sym c.take_in.ensures.both) home,
      (All-pop (λ (s : Standing g.row.B.Denot). IsTrue g.L.Looks.all → HoldsLifted s) before left (Some c.in-Some-pop.seat)
          c.in-Some-pop.ensures.items c.loop-seat.invariant.6).0,
    )

pub destroy_empty-requires-2 : goal.destroy_empty-requires-2
destroy_empty-requires-2 g c =
    let items : length c.loop-seat.seats.items ≡ 0 = omega (arith, c.in_default-pop.ensures.cases.0, c.loop-seat.seats.ok) in
    let none = none_left_out g.T.Lifted.pair c.loop-seat.out.items c.loop-seat.seats.items c.loop-seat.invariant.2 items in
    omega (arith, none, c.loop-seat.out.ok)

pub returns-clause-own : goal.returns-clause-own
returns-clause-own g c = c.loop-seat.invariant.0

pub returns-clause-all : goal.returns-clause-all
returns-clause-all g c =
    let items : length c.loop-seat.seats.items ≡ 0 = omega (arith, c.in_default-pop.ensures.cases.0, c.loop-seat.seats.ok) in
    (all_gathered _ _ _ _ _ _ c.loop-seat.invariant.4 items).0

pub returns-clause-seen : goal.returns-clause-seen
returns-clause-seen g c =
    let items : length c.loop-seat.seats.items ≡ 0 = omega (arith, c.in_default-pop.ensures.cases.0, c.loop-seat.seats.ok) in
    (all_gathered _ _ _ _ _ _ c.loop-seat.invariant.4 items).1

pub returns-clause-home : goal.returns-clause-home
returns-clause-home g c =
    let pair = g.T.Lifted.pair in
    let items : length c.loop-seat.seats.items ≡ 0 = omega (arith, c.in_default-pop.ensures.cases.0, c.loop-seat.seats.ok) in
    let none = none_left_out pair c.loop-seat.out.items c.loop-seat.seats.items c.loop-seat.invariant.2 items in
    all_home_then g.B.Buffer.contents (map pair c.args.out.items) (map pair c.loop-seat.out.items) c.loop-seat.first.me.0.known.seats
    c.loop-seat.invariant.5 (length-map c.loop-seat.out.items pair ∙ none)
