use Rattle.std.proofs.Common.{◌≡◌, List, [], ◌∷◌, ◌++◌, map, rules, sym, ◌∙◌, ap, arith, false}
use Rattle.std.specs.Prelude.{reverse, Some}
use Rattle.std.proofs.lemmas.List.{reverse-append, append_assoc}
use Rattle.std.proofs.lemmas.List.Elements.{All-pop}
use Rattle.std.proofs.lemmas.Grind.{common_steps}
use Rattle.scq_band.specs.Standing.{Standing}
use Rattle.scq_queue.specs.Exports.{PassStanding, was_told, pass_over}
use Rattle.scq_queue.proofs.queue.passes_of.Goals as goal

pub loop-seat-preserved : goal.loop-seat-preserved
loop-seat-preserved g c =
    let left = c.pop.new.self.items in
    let seat = c.in-Some.seat in
    let passes = c.loop-seat.passes.items in
    let over = map (λ (s : Standing g.row.B.Denot). pass_over s []) (reverse left) in
    let turned : reverse c.loop-seat.seats.items ≡ seat ∷ reverse left = ap reverse c.in-Some.ensures.items ∙ reverse-append left (seat ∷ []) in
    let pushed : c.push_reserved.new.self.items ≡ passes ++ pass_over seat [] ∷ [] =
    c.push_reserved.ensures.items ∙ ap (λ (p : PassStanding g.row.B.Denot). passes ++ p ∷ []) c.pass_of.ensures in (
      ap (λ (ps : List (PassStanding g.row.B.Denot)). ps ++ over) pushed ∙ append_assoc passes (pass_over seat [] ∷ []) over
          ∙ ap (λ (ss : List (Standing g.row.B.Denot)). passes ++ map (λ (s : Standing g.row.B.Denot). pass_over s []) ss) (sym turned)
          ∙ c.loop-seat.invariant.0,
      (All-pop (λ (s : Standing g.row.B.Denot). (s.hand ≡ []) × (s.calls ≡ []) × (was_told s.gate ≡ false)) c.loop-seat.seats.items left (Some seat)
          c.in-Some.ensures.items c.loop-seat.invariant.1).0,
      grind (arith, common_steps),
      search rules,
    )
