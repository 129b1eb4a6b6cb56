-- The sources of files as they were at some time
use Rattle.std.specs.Prelude.{List, [], ◌∷◌, ◌++◌}
use Rattle.scq_service.specs.declared.sources.Line.{Line}
use Rattle.scq_service.specs.declared.sources.Line.TheVariants.{Nothing, These, After'}

-- what contracts see of them: in the order of the files
pub record SourceList (S : Type 0) : Type 0 where
  pub items : List S

abbrev pub sources_in : {S : Type 0} → Line S → List S
sources_in Nothing = []
sources_in (These sources) = sources.value.items
sources_in (After' p before source) = sources_in before ++ source.value ∷ []
