use Rattle.std.proofs.Common.{◌≡◌, ◌∙◌, sym, ap, ℕ, List, Option, Some, None, arith}
use Rattle.std.specs.Prelude.{IfSome}
use Rattle.std.specs.Option.{option_map}
use Rattle.scq_frames.specs.Exports.{IsNumbered, BeginsWith, part_at, part_of_view}
use Rattle.scq_frames.specs.declared.encoded.View.{View}
use Rattle.scq_frames.proofs.EncodedLemmas.{AreBytes, part_at-found, part_at-again}
use Rattle.scq_frames.proofs.encoded.decode.Goals as goal

found_if : (bytes : List ℕ) (r : Option View) → AreBytes bytes → option_map part_of_view r ≡ part_at bytes
    → IfSome r (λ view. BeginsWith bytes (part_of_view view))
found_if bytes None small e = tt
found_if bytes (Some view) small e = (part_at-found bytes (part_of_view view) small (sym e)).0

numbered_if : (bytes : List ℕ) (r : Option View) → AreBytes bytes → option_map part_of_view r ≡ part_at bytes
    → IfSome r (λ view. IsNumbered view.part view.parts)
numbered_if bytes None small e = tt
numbered_if bytes (Some view) small e = (part_at-found bytes (part_of_view view) small (sym e)).1

pub returns-clause-found : goal.returns-clause-found
returns-clause-found c = found_if c.args.bytes.now c.read_part.result (λ i. omega (arith, c.type_inv.bytes i)) c.read_part.ensures

pub returns-clause-numbered : goal.returns-clause-numbered
returns-clause-numbered c = numbered_if c.args.bytes.now c.read_part.result (λ i. omega (arith, c.type_inv.bytes i)) c.read_part.ensures

pub returns-clause-only : goal.returns-clause-only
returns-clause-only c = λ p fits begins. c.read_part.ensures ∙ ap part_at begins.1 ∙ part_at-again p begins.0 fits
