use Rattle.std.proofs.Common.{◌≡◌, List, [], ◌∷◌, length, rules, sym, ◌∙◌, ap, subst, arith}
use Rattle.std.specs.Prelude.{reverse}
use Rattle.std.proofs.lemmas.List.{reverse-append, reverse-reverse}
use Rattle.std.proofs.lemmas.List.Elements.{All-cons}
use Rattle.std.proofs.lemmas.Grind.{common_steps}
use Rattle.scq_queue.specs.Exports.{fulls_in, PassStanding, AllFullsStand}
use Rattle.scq_queue.proofs.closing.unpack.Goals as goal

pub loop-pass-init : goal.loop-pass-init
loop-pass-init g c =
    let whole = ap reverse c.reverse.ensures.items ∙ reverse-reverse c.args.passes.items in (
      search rules,
      search rules,
      search rules,
      search rules,
      search rules,
      search rules,
      λ all. subst (λ (ps : List (PassStanding g.row.B.Denot)). AllFullsStand ps) whole all,
    )

pub loop-pass-preserved : goal.loop-pass-preserved
loop-pass-preserved g c =
    let left = c.pop.new.self.items in
    let pass = c.in-Some.pass in
    let turned : reverse c.loop-pass.passes.items ≡ pass ∷ reverse left = ap reverse c.in-Some.ensures.items ∙ reverse-append left (pass ∷ []) in
    let stands : length pass.fulls ≡ fulls_in pass.calls =
    subst (λ (p : PassStanding g.row.B.Denot). length p.fulls ≡ fulls_in p.calls) c.pass.view_is c.pass.invariant.all_fulls in (
      grind (arith, common_steps),
      grind (arith, common_steps),
      search rules,
      search rules,
      grind (arith, common_steps),
      search rules,
      λ all.
          c.loop-pass.invariant.6 (subst (λ (ps : List (PassStanding g.row.B.Denot)). AllFullsStand ps) (sym turned)
          (All-cons (λ (p : PassStanding g.row.B.Denot). length p.fulls ≡ fulls_in p.calls) pass (reverse left) stands all)),
    )
