use Rattle.std.proofs.Common.{◌≡◌, suc, ◌++◌, List, [], ◌∷◌, All, reverse, sym, ◌∙◌, ap, subst, arith}
use Rattle.std.specs.Prelude.{vec_len}
use Rattle.std.proofs.lemmas.List.{reverse-append, append_assoc}
use Rattle.scq_band.specs.declared.making.Room.{Room}
use Rattle.scq_band.specs.Exports.{first_standing, first_standings, identity_of, IsRoom, sight_below}
use Rattle.scq_band.specs.Standing.{Standing}
use Rattle.scq_band.proofs.Starting.{all_last, all_prefix}
use Rattle.scq_band.proofs.splitting.split_all.Goals as goal

pub peel-requires-clause-some : goal.peel-requires-clause-some
peel-requires-clause-some g c κs within =
    let n = vec_len c.pop.new.self in
    let many : vec_len c.loop-room.rooms ≡ suc n = let l = c.in-Some.ensures.len in omega (arith, l) in
    (n, c.loop-room.invariant.1 ∙ ap (sight_below c.args.key.now.setup) many)

pub peel-requires-clause-room : goal.peel-requires-clause-room
peel-requires-clause-room g c κs within =
    let k = c.args.key.now.setup in
    all_last (IsRoom k) c.pop.new.self.items c.in-Some.room
    (subst (λ (rs : List Room). All (IsRoom k) rs) c.in-Some.ensures.items c.loop-room.invariant.2)

pub loop-room-preserved : goal.loop-room-preserved
loop-room-preserved g c =
    let k = c.args.key.now.setup in
    let band = identity_of c.args.words.now.table_id c.args.key.now in
    let n = vec_len c.pop.new.self in
    let many : vec_len c.loop-room.rooms ≡ suc n = let l = c.in-Some.ensures.len in omega (arith, l) in
    let next = c.peel.ensures.peeled n (c.loop-room.invariant.1 ∙ ap (sight_below k) many) in
    let seats = c.loop-room.seats.items in
    let turned : reverse c.push_reserved.new.self.items ≡ first_standing band n ∷ reverse seats = ap reverse c.push_reserved.ensures.items
    ∙ reverse-append seats (c.peel.result ∷ []) ∙ ap (λ (s : Standing g.row.B.Denot). s ∷ reverse seats) next.1 in (
      c.peel.ensures.own ∙ c.loop-room.invariant.0,
      next.0,
      all_prefix (IsRoom k) c.pop.new.self.items (c.in-Some.room ∷ [])
          (subst (λ (rs : List Room). All (IsRoom k) rs) c.in-Some.ensures.items c.loop-room.invariant.2),
      (let few = c.loop-room.invariant.3 in
          let more = c.push_reserved.ensures.len in
          let same = c.push_reserved.ensures.capacity in
          omega (arith, many)),
      ap (λ ss. first_standings band n ++ ss) turned ∙ sym (append_assoc (first_standings band n) (first_standing band n ∷ []) (reverse seats))
          ∙ ap (λ m. first_standings band m ++ reverse seats) (sym many) ∙ c.loop-room.invariant.4,
    )
