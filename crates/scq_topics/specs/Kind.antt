-- The words of the kinds.
use Rattle.std.specs.Prelude.{ℕ, List, Option, Some, None, codes, if◌then◌else◌}
use Rattle.std.specs.Str.{bytes_eq}
use Rattle.scq_topics.specs.declared.kind.Kind.{Kind}
use Rattle.scq_topics.specs.declared.kind.Kind.TheVariants.{Len, Words, Sum, Sha256, Echo}

-- the kind that a word names, if it names one
abbrev pub kind_named : List ℕ → Option Kind
kind_named word =
    if bytes_eq word (codes "len") then Some Len
    else if bytes_eq word (codes "words") then Some Words
    else if bytes_eq word (codes "sum") then Some Sum
    else if bytes_eq word (codes "sha256") then Some Sha256
    else if bytes_eq word (codes "echo") then Some Echo
    else None
