-- The text of an option, as it stands in the words.
use Rattle.std.specs.Prelude.{ℕ, ◌==◌, ◌||◌, Bool, true, false, List, [], ◌∷◌, codes, drop}
use Rattle.std.specs.Prelude.{length, take}
use Rattle.std.specs.Prelude.{Option, Some, None, slice_get, if◌then◌else◌}
use Rattle.std.specs.Str.{bytes_eq}

-- what follows this front of a word
abbrev pub behind : List ℕ → List ℕ → Option (List ℕ)
behind front word =
    if bytes_eq (take (length front) word) front then Some (drop (length front) word) else None

-- the text where this follows `--name` in a word: the next word, or what stands behind `=`
abbrev pub text_after : Option (List ℕ) → List (List ℕ) → Option (List ℕ) → Option (List ℕ)
text_after None words other = other
text_after (Some []) words other = slice_get words 0
text_after (Some (byte ∷ text)) words other = if byte == 61 then Some text else other

-- the text of `--name VALUE` or `--name=VALUE`, by `--name`. The words behind `--` are files
abbrev pub option_text : List ℕ → List (List ℕ) → Option (List ℕ)
option_text option [] = None
option_text option (word ∷ words) =
    if bytes_eq word (codes "--") then None
    else text_after (behind option word) words (option_text option words)

-- whether a first word is a command: of a program that understands `run` alone, whether it is that
abbrev pub is_command : Bool → List ℕ → Bool
is_command run_alone word =
    if bytes_eq word (codes "run") then true
    else if run_alone then false
    else bytes_eq word (codes "self") || bytes_eq word (codes "judge")
    || bytes_eq word (codes "check") || bytes_eq word (codes "replay")
    || bytes_eq word (codes "stages")
