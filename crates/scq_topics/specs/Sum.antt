-- The sum of the numbers that tokens write.
use Rattle.std.specs.Prelude.{ℕ, Bool, ◌^◌, ◌&&◌, nat_lt, nat_le, List, length, Option, Some, None}
use Rattle.std.specs.Prelude.{if◌then◌else◌, sum_by}
use Rattle.std.specs.List.{list_all}
use Rattle.std.specs.Str.{all_ascii_digits}
use Rattle.std.specs.Str.Parse.{digits_value}

-- a token of at most 20 digits, and nothing else, whose value fits 64 bits
abbrev pub is_number : List ℕ → Bool
is_number token =
    nat_le (length token) 20 && all_ascii_digits token && nat_lt (digits_value 10 token) (2 ^ 64)

-- the values of the tokens, added up
abbrev pub value_sum : List (List ℕ) → ℕ
value_sum tokens = sum_by (digits_value 10) tokens

-- the sum of the tokens, where each is a number and the sum fits 64 bits
abbrev pub sum_of : List (List ℕ) → Option ℕ
sum_of tokens =
    if list_all is_number tokens && nat_lt (value_sum tokens) (2 ^ 64) then Some (value_sum tokens)
    else None
