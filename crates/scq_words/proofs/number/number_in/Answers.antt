use Rattle.std.proofs.Common.{◌≡◌, ◌∙◌, ◌≤◌, true, false, refl, sym, ap, arith, rules, tests, leb, length}
use Rattle.std.specs.List.{list_all}
use Rattle.std.specs.Char.{is_ascii_digit}
use Rattle.std.specs.Str.{all_ascii_digits}
use Rattle.std.proofs.lemmas.Bool.Decides.{nat_tests}
use Rattle.std.proofs.lemmas.Iterator.{YieldsList-from_slice}
use Rattle.std.proofs.lemmas.Iterator.Search.{all_from_yields_List}
use Rattle.scq_words.proofs.Digits.{all-digits, and-false, number-none, number-parsed}
use Rattle.scq_words.proofs.number.number_in.Goals as goal
use Rattle.scq_words.proofs.number.number_in.Goals.{then-bytes-gt-MOST_DIGITS-via-then-bytes-gt-MOST_DIGITS, then-bytes-gt-MOST_DIGITS-via-else-bytes-gt-MOST_DIGITS+then-not-all}

pub returns-then-bytes-gt-MOST_DIGITS : goal.returns-then-bytes-gt-MOST_DIGITS
returns-then-bytes-gt-MOST_DIGITS c =
    let text = c.args.text.now in
    let bytes = c.as_bytes-bytes.result.now in
    let same = c.as_bytes-bytes.ensures.value in
    elim c.then-bytes-gt-MOST_DIGITS.branch [
      | then-bytes-gt-MOST_DIGITS-via-then-bytes-gt-MOST_DIGITS w ↦
          let long : leb (length text) 10 ≡ false = grind (arith, nat_tests, ap length same, w.if-bytes-gt-MOST_DIGITS.true) in
          sym (number-none text false (all_ascii_digits text) long refl refl)
      | then-bytes-gt-MOST_DIGITS-via-else-bytes-gt-MOST_DIGITS+then-not-all w ↦
          let each = all_from_yields_List is_ascii_digit _ _ w.all.result w.all.ensures.ran (YieldsList-from_slice bytes cc)
          (λ x b q k. search (rules, tests)) in
          let other : all_ascii_digits text ≡ false = sym (all-digits text) ∙ ap (list_all is_ascii_digit) (sym same) ∙ sym each ∙ w.if-not-all.true in
          sym (number-none text (leb (length text) 10) false refl other (and-false (leb (length text) 10)))
    ]

pub returns : goal.returns
returns c =
    let text = c.args.text.now in
    let bytes = c.as_bytes-bytes.result.now in
    let same = c.as_bytes-bytes.ensures.value in
    let each = all_from_yields_List is_ascii_digit _ _ c.all.result c.all.ensures.ran (YieldsList-from_slice bytes cc) (λ x b q k. search (rules, tests)) in
    let all : all_ascii_digits text ≡ true = sym (all-digits text) ∙ ap (list_all is_ascii_digit) (sym same) ∙ sym each ∙ c.if-not-all.false in
    let few : length text ≤ 10 = omega (arith, ap length same, c.if-bytes-gt-MOST_DIGITS.false) in
    c.ok.ensures.value ∙ number-parsed text c.parse.result c.parse.ensures.value.0 all few
