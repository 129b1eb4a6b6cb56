-- What workers answered, where the bytes of all files are visible.
use Rattle.std.proofs.Common.{◌≡◌, subst, ℕ, List, Option, Some, None}
use Rattle.std.specs.Prelude.{IfSome}
use Rattle.scq_topics.specs.declared.kind.Kind.{Kind}
use Rattle.scq_frames.specs.declared.message.Message.{Message}
use Rattle.scq_files.specs.Exports.{messages_in}
use Rattle.scq_work.specs.Exports.{HasWorked}
use Rattle.scq_work.specs.declared.worked.Worked.{Worked}

-- where the bytes of all files are visible, the work is done on their contents
pub told-worked : (topics : List (List ℕ × Kind)) (size most workers : ℕ) (given : List (List Message)) (w : Worked) (o : Option (List (List ℕ)))
    → IfSome o (λ contents. given ≡ messages_in topics 1 contents) → HasWorked topics size most workers given w
    → IfSome o (λ contents. HasWorked topics size most workers (messages_in topics 1 contents) w)
told-worked topics size most workers given w None is has = tt
told-worked topics size most workers given w (Some contents) is has = subst (λ g. HasWorked topics size most workers g w) is has
