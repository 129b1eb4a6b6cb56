-- Numbers on a command line.
use Rattle.std.specs.Prelude.{ℕ, ◌&&◌, nat_lt, nat_le, List, length, Option, Some, None, option_map}
use Rattle.std.specs.Prelude.{if◌then◌else◌}
use Rattle.std.specs.Borrow.{Bor}
use Rattle.std.specs.Str.{all_ascii_digits}
use Rattle.std.specs.Str.Parse.{digits_value}
use Rattle.scq_words.specs.declared.fault.WordsFault.{WordsFault}

-- the number that a text of 1 to 10 ASCII digits writes
abbrev pub number_in : List ℕ → Option ℕ
number_in text =
    if nat_lt 0 (length text) && nat_le (length text) 10 && all_ascii_digits text
    then Some (digits_value 10 text) else None

-- the fault where there is no number from low to high
abbrev pub fault_outside : ℕ → ℕ → WordsFault → Option ℕ → Option WordsFault
fault_outside low high fault None = Some fault
fault_outside low high fault (Some number) =
    if nat_le low number && nat_le number high then None else Some fault

-- an option that is given has a number from low to high
abbrev pub refused_outside : ℕ → ℕ → WordsFault → Option (List ℕ) → Option WordsFault
refused_outside low high fault None = None
refused_outside low high fault (Some text) = fault_outside low high fault (number_in text)

-- the number of an option, which has a default where it isn't given
abbrev pub number_or : ℕ → Option (List ℕ) → ℕ
number_or default None = default
number_or default (Some text) = digits_value 10 text

-- the bytes of a text that may be given
abbrev pub text_in : Option (Bor (List ℕ)) → Option (List ℕ)
text_in text = option_map (λ t. t.now) text
