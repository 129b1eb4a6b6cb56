-- The messages that a file gave.
use Rattle.std.specs.Prelude.{List, [], ◌∷◌, ◌++◌}
use Rattle.scq_frames.specs.declared.message.Message.{Message}
use Rattle.scq_files.specs.declared.given.Given.{Given}
use Rattle.scq_files.specs.declared.given.Given.TheVariants.{Nothing, After'}

-- in the order in which they were given
abbrev pub given_in : Given → List Message
given_in Nothing = []
given_in (After' p before message) = given_in before ++ message.value ∷ []
