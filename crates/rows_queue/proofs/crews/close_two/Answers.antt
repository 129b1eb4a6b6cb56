use Rattle.std.proofs.Common.{◌≡◌, List, [], ◌∷◌, ◌++◌, sym, ◌∙◌, ap, subst}
use Rattle.std.specs.Prelude.{All}
use Rattle.std.proofs.lemmas.List.Elements.{All-nil, All-cons}
use Rattle.scq_park.specs.Exports.{Post, AreAll}
use Rattle.rows_queue.proofs.crews.close_two.Goals as goal

pub close-requires : goal.close-requires
close-requires c =
    let first = c.args.first in
    let second = c.args.second in
    let crew = c.args.crew in
    let P : Post → Type 0 = λ p. p.crew ≡ crew in
    let all : c.push_reserved-2.new.self.items ≡ first ∷ second ∷ [] =
    c.push_reserved-2.ensures.items
    ∙ ap (λ (ps : List Post). ps ++ second ∷ [])
    (c.push_reserved.ensures.items ∙ ap (λ (ps : List Post). ps ++ first ∷ []) c.requires.room.0) in
    let own : All P (first ∷ second ∷ []) = All-cons P first (second ∷ []) c.requires.first.0 (All-cons P second [] c.requires.second.0 (All-nil P)) in
    record {
      stands =
          subst (λ (ps : List Post). AreAll crew ps) (sym all)
          (record {
            own = own;
            order = (c.requires.first.1, (c.requires.second.1, tt));
            many = sym c.requires.two;
          });
    }
