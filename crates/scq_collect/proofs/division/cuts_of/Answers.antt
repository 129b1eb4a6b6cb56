use Rattle.std.proofs.Common.{◌≡◌, ◌∙◌, sym, ap, arith, ◌-◌, List, ◌++◌, drop, take, Bor}
use Rattle.std.specs.Prelude.{flat_map}
use Rattle.std.proofs.lemmas.List.{take-append-drop}
use Rattle.scq_collect.specs.declared.spans.Span.{Span}
use Rattle.scq_collect.proofs.Cutting.{behind-end}
use Rattle.scq_collect.proofs.InChunks.{flat-more}
use Rattle.scq_collect.proofs.division.cuts_of.Goals as goal

pub cuts-preserved : goal.cuts-preserved
cuts-preserved c =
    let now : Bor (List Span) → List Span = λ cut. cut.now in
    let all = c.args.spans.now in
    let at = c.cuts.at in
    let end = c.min-end.result in
    let cuts = c.cuts.cuts.items in
    let whole : take (end - at) (drop at all) ++ drop end all ≡ drop at all =
    ap (λ (rest : List Span). take (end - at) (drop at all) ++ rest) (sym (behind-end all at end (omega arith))) ∙ take-append-drop (end - at) (drop at all) in
    record {
      within = omega arith;
      size = c.cuts.invariant.size;
      all = flat-more now cuts c.push.new.self.items _ (drop end all) c.in_ok-push.ensures.items
          ∙ ap (λ (rest : List Span). flat_map now cuts ++ rest) whole ∙ c.cuts.invariant.all;
    }
