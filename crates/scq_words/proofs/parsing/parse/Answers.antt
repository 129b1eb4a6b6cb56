use Rattle.std.proofs.Common.{◌≡◌, ◌∙◌, refl, subst, ap, map, length, Bool, true, false, Ok, Err}
use Rattle.std.specs.Prelude.{◌&&◌, string_bytes, nat_lt}
use Rattle.clap.specs.Words.{App, Kinds, app_of, is_simple_and_free}
use Rattle.scq_words.specs.Exports.{refused_if, Parses}
use Rattle.scq_words.specs.declared.fault.WordsFault.TheVariants.{NotUnderstood}
use Rattle.scq_words.proofs.Refusals.{not-taken, not-understood}
use Rattle.scq_words.proofs.parsing.parse.Goals as goal

first-holds : (a b : Bool) → (a && b) ≡ true → a ≡ true
first-holds true b both = refl
first-holds false b both = both

pub returns-in-Ok : goal.returns-in-Ok
returns-in-Ok c = λ app simple is.
    let same : app_of c.in_ok-command.field-0 ≡ app = rw c.in_ok-command.was at is in
    let plain : is_simple_and_free (app_of c.in_ok-command.field-0) ≡ true = ap is_simple_and_free same ∙ simple in
    subst (λ (app : App). Parses app (map string_bytes c.args.words.now) (Ok c.in-Ok.matches)) same (record {
      rows = (c.in-Ok.ensures.matches (first-holds _ _ plain)).0;
      passes = ap (λ (kinds : Kinds). refused_if (nat_lt 0 (length kinds)) NotUnderstood) (c.in-Ok.ensures.kinds plain);
      refused = tt;
    })

pub returns-in-Err : goal.returns-in-Err
returns-in-Err c = λ app simple is.
    let same : app_of c.in_ok-command.field-0 ≡ app = rw c.in_ok-command.was at is in
    let plain : is_simple_and_free (app_of c.in_ok-command.field-0) ≡ true = ap is_simple_and_free same ∙ simple in
    let words = map string_bytes c.args.words.now in
    subst (λ (app : App). Parses app (map string_bytes c.args.words.now) (Err c.error_of.result)) same (record {
      rows = tt;
      passes = tt;
      refused = λ other. let said = c.error_of.ensures other in (
        said.0,
        not-understood (app_of c.in_ok-command.field-0) words c.in-Err.error (c.in-Err.ensures.kinds plain) said.1,
        not-taken (app_of c.in_ok-command.field-0) words c.in-Err.error c.in-Err.ensures.passes said.1,
      );
    })
