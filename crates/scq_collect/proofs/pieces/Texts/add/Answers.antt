use Rattle.std.proofs.Common.{rules, ◌≡◌, ◌∙◌, sym, ap, arith, ℕ, ◌+◌, List, ◌++◌}
use Rattle.std.specs.Prelude.{Vec, flat_map}
use Rattle.std.specs.Global.{Global}
use Rattle.std.proofs.lemmas.Grind.{flat_map-append}
use Rattle.std.proofs.lemmas.List.{length-append}
use Rattle.std.proofs.lemmas.Result.{IfOk-at_ok}
use Rattle.scq_collect.specs.Exports.{reply_line, IsStretchOf, pieces_bytes}
use Rattle.scq_collect.proofs.InChunks.{flat-push}
use Rattle.scq_collect.proofs.pieces.Texts.add.Goals as goal

pub add-requires : goal.add-requires
add-requires c =
    let given = c.requires in
    let is = IfOk-at_ok (IsStretchOf given.0 given.2) c.in_ok-stretch.was given.4 in
    let sum : c.in_ok-self.field-0 ≡ c.args.self.now.parts + c.in_ok-stretch.stretch.parts = search rules in
    record { room = (given.1, given.2, given.3.totals, is.piece.totals, omega (arith, given.3.few, is.few, sum)) }

pub returns-clause-added : goal.returns-clause-added
returns-clause-added c = λ topics answers more are made.
    let text : Vec ℕ Global = c.in_ok-stretch.stretch.piece.text in
    let texts : List (Vec ℕ Global) = c.args.self.now.texts.items in
    let line = reply_line topics in
    let is = IfOk-at_ok (IsStretchOf topics more) c.in_ok-stretch.was made in
    let sum : c.in_ok-self.field-0 ≡ c.args.self.now.parts + c.in_ok-stretch.stretch.parts = search rules in
    record {
      text = ap pieces_bytes c.in_ok-push.ensures.items ∙ flat-push (λ (t : Vec ℕ Global). t.items) texts text
          ∙ ap (λ (last : List ℕ). pieces_bytes texts ++ last) is.piece.text
          ∙ ap (λ (first : List ℕ). first ++ flat_map line more) are.text
          ∙ sym (flat_map-append line answers more);
      totals = c.add.ensures answers more are.totals is.piece.totals;
      few = omega (arith, length-append answers more, are.few, is.few, sum);
    }
