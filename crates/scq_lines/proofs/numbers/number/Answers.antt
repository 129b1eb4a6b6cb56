-- The bytes so far are digits, of this value; a byte that is none ends them all.
use Rattle.std.proofs.Common.{◌≡◌, ℕ, Bool, true, false, ◌&&◌, cond, ltb, leb, List, Some, None, length, arith, sym, ◌∙◌, refl}
use Rattle.std.specs.Str.{all_ascii_digits}
use Rattle.std.specs.Str.Parse.{digits_value}
use Rattle.scq_lines.specs.Exports.{number_of}
use Rattle.scq_lines.proofs.Digits.{digits_more, digits_end, value_more, value_short}
use Rattle.scq_lines.proofs.numbers.number.Goals as goal

refused : (field : List ℕ) → all_ascii_digits field ≡ false → None ≡ number_of field
refused field none = rw none (refused_by (ltb 0 (length field)) (leb (length field) 19))
  where
    refused_by : (a b : Bool) → None ≡ cond (a && b && false) (Some (digits_value 10 field)) None
    refused_by true true = refl
    refused_by true false = refl
    refused_by false b = refl

pub returns-then-not-is_ascii_digit : goal.returns-then-not-is_ascii_digit
returns-then-not-is_ascii_digit c =
    refused c.args.field.now
    (digits_end c.args.field.now c.loop-byte.byte-index (omega arith) (sym c.is_ascii_digit.ensures.value ∙ c.if-not-is_ascii_digit.true))

pub overflow_mul-value : goal.overflow_mul-value
overflow_mul-value c =
    omega (arith, value_short c.args.field.now c.loop-byte.byte-index (omega arith) (omega arith) c.loop-byte.invariant.0)

pub overflow_add-value : goal.overflow_add-value
overflow_add-value c =
    omega (arith, value_short c.args.field.now c.loop-byte.byte-index (omega arith) (omega arith) c.loop-byte.invariant.0)

pub loop-byte-preserved : goal.loop-byte-preserved
loop-byte-preserved c =
    let digit = sym c.is_ascii_digit.ensures.value ∙ c.if-not-is_ascii_digit.false in
    let value = value_more c.args.field.now c.loop-byte.byte-index (omega arith) digit in
    (digits_more c.args.field.now c.loop-byte.byte-index (omega arith) c.loop-byte.invariant.0 digit, omega (arith, value))
