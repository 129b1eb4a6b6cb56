use Rattle.std.proofs.Common.{◌≡◌, ◌∙◌, sym, ap, refl, arith, List, ◌∷◌, ◌++◌, [], length, map, reverse, append_assoc}
use Rattle.std.proofs.lemmas.List.{append-nil, nil_from_length, map-append}
use Rattle.scq_rest.specs.declared.threads.Work.{Work}
use Rattle.scq_passes.proofs.Parting.{turned}
use Rattle.scq_rest.proofs.Settling.{desk_of, stand_of}
use Rattle.scq_rest.proofs.resting.pair_all.Goals as goal

-- one more of a list was put behind others
moved : {X Y : Type 0} (f : X → Y) (xs now : List X) (x : X) (old rest : List Y) (y : Y) (all : List Y) → map f xs ++ reverse old ≡ all
    → now ≡ xs ++ x ∷ [] → old ≡ rest ++ y ∷ [] → f x ≡ y → map f now ++ reverse rest ≡ all
moved f xs now x old rest y all was is left same =
    ap (λ l. map f l ++ reverse rest) is ∙ ap (λ l. l ++ reverse rest) (map-append f xs (x ∷ []))
    ∙ append_assoc (map f xs) (f x ∷ []) (reverse rest) ∙ ap (λ z. map f xs ++ z ∷ reverse rest) same
    ∙ ap (λ l. map f xs ++ l) (sym (turned old rest y left)) ∙ was

pub pairs-init : goal.pairs-init
pairs-init g c =
    let S = g.row.S.Denot in
    let none = c.requires.empty in
    record {
      desks = ap (λ (ws : List (Work S)). map desk_of ws ++ reverse c.args.desks.now.items) none;
      stands = ap (λ (ws : List (Work S)). map stand_of ws ++ reverse c.args.stands.now.items) none;
      many = c.requires.many;
      room = omega (arith, c.requires.room, ap length none, c.args.given.now.ok.0);
      desk_room = refl;
      stand_room = refl;
    }

pub pairs-preserved : goal.pairs-preserved
pairs-preserved g c =
    let inv = c.pairs.invariant in
    let desk = c.in-Some.desk in
    let stand = c.in-Some-pop.stand in
    let work : Work _ = record { desk = desk; stand = stand } in
    record {
      desks = moved desk_of c.pairs.given.items c.push_reserved.new.self.items work c.pairs.desks.items c.pop.new.self.items desk
          (reverse c.args.desks.now.items) inv.desks c.push_reserved.ensures.items c.in-Some.ensures.items refl;
      stands = moved stand_of c.pairs.given.items c.push_reserved.new.self.items work c.pairs.stands.items c.pop-in-Some.new.self.items stand
          (reverse c.args.stands.now.items) inv.stands c.push_reserved.ensures.items c.in-Some-pop.ensures.items refl;
      many = omega (arith, inv.many, c.in-Some.ensures.cases, c.in-Some-pop.ensures.cases);
      room = omega (arith, inv.room, c.in-Some.ensures.cases, c.push_reserved.ensures.len, c.push_reserved.ensures.capacity);
      desk_room = c.in-Some.ensures.capacity ∙ inv.desk_room;
      stand_room = c.in-Some-pop.ensures.capacity ∙ inv.stand_room;
    }

pub returns-clause-emptied : goal.returns-clause-emptied
returns-clause-emptied g c = (
  nil_from_length c.pop.new.self.items (omega (arith, c.in_default.ensures.cases, c.pop.new.self.ok.0)),
  nil_from_length c.pairs.stands.items (omega (arith, c.in_default.ensures.cases, c.pairs.invariant.many, c.pairs.stands.ok.0)),
)

pub returns-clause-stands : goal.returns-clause-stands
returns-clause-stands g c =
    let none : c.pairs.stands.items ≡ [] =
    nil_from_length c.pairs.stands.items (omega (arith, c.in_default.ensures.cases, c.pairs.invariant.many, c.pairs.stands.ok.0)) in
    sym (ends-whole (map stand_of c.pairs.given.items) c.pairs.stands.items none) ∙ c.pairs.invariant.stands where
      ends-whole : {Y : Type 0} (xs ys : List Y) → ys ≡ [] → xs ++ reverse ys ≡ xs
      ends-whole xs ys is = rw is (append-nil xs)
