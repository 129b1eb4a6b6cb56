-- What workers finished, where the bytes of all files are visible.
use Rattle.std.proofs.Common.{◌≡◌, subst, ℕ, List, [], Option, Some, None}
use Rattle.std.specs.Prelude.{IfSome}
use Rattle.scq_frames.specs.declared.message.Message.{Message}
use Rattle.scq_files.specs.Exports.{messages_in}
use Rattle.scq_stages.specs.Exports.{HasStaged}
use Rattle.scq_stages.specs.declared.staged.Staged.{Staged}

-- where the bytes of all files are visible, what was finished is of their contents
pub told-staged : (workers : ℕ) (given : List (List Message)) (s : Staged) (o : Option (List (List ℕ)))
    → IfSome o (λ contents. given ≡ messages_in [] 1 contents) → HasStaged workers given s
    → IfSome o (λ contents. HasStaged workers (messages_in [] 1 contents) s)
told-staged workers given s None is has = tt
told-staged workers given s (Some contents) is has = subst (λ g. HasStaged workers g s) is has
