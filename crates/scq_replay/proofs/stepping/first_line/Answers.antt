-- Without a line, and where the first one says no setup, a text gives the fault of line 1.
use Rattle.std.proofs.Common.{◌≡◌, ℕ, List, [], ◌∷◌, Err, ap, subst}
use Rattle.scq_word.specs.declared.setup.Setup.{Setup}
use Rattle.scq_lines.specs.Exports.{lines_of}
use Rattle.scq_replay.specs.declared.replaying.ScheduleFault.TheVariants.{BadLine}
use Rattle.scq_replay.specs.Exports.{IsSetupLine, Gives, no_setup}
use Rattle.scq_replay.proofs.stepping.first_line.Goals as goal

no_line : (lines : List (List ℕ)) → lines ≡ [] → Gives lines (Err (BadLine 1))
no_line lines none = no_setup (λ c steps has. let e = has.stands in absurd cc)

no_setup_line : (lines : List (List ℕ)) (line : List ℕ) (more : List (List ℕ)) → lines ≡ line ∷ more → ((c : Setup) → ¬ IsSetupLine line c)
    → Gives lines (Err (BadLine 1))
no_setup_line lines line more cut none =
    no_setup (λ c steps has. let e = has.stands in let same : has.first ≡ line = cc in none c (subst (λ l. IsSetupLine l c) same has.says))

pub returns-in_default-clause-refused : goal.returns-in_default-clause-refused
returns-in_default-clause-refused c = no_line (lines_of c.args.text.now) (ap lines_of c.in_default.ensures.line)

pub returns-in-None-clause-refused : goal.returns-in-None-clause-refused
returns-in-None-clause-refused c =
    no_setup_line (lines_of c.args.text.now) c.in-Some.line.now (lines_of c.in-Some.steps.now) c.in-Some.ensures.line c.in-None.ensures
