use Rattle.std.proofs.Common.{◌≡◌, ◌∙◌, sym, ap, arith, rules, ℕ, List, ◌-◌, ◌∷◌, ◌++◌, codes, decimal, drop, set, length, append_assoc}
use Rattle.std.proofs.lemmas.List.{length-set, length-drop, take_all}
use Rattle.scq_collect.proofs.Positions.{colon, short}
use Rattle.scq_collect.proofs.text.push_position.Goals as goal

pub write_digits-from-requires : goal.write_digits-from-requires
write_digits-from-requires c = (omega (arith, short c.from.result (omega (arith, c.from.ensures, c.ranges.line.fits))), omega arith)

pub overflow_sub-bytes : goal.overflow_sub-bytes
overflow_sub-bytes c = omega (arith, c.write_digits-from.ensures.start, short c.from.result (omega (arith, c.from.ensures, c.ranges.line.fits)))

pub overflow_sub-from : goal.overflow_sub-from
overflow_sub-from c = omega (arith, c.write_digits-from.ensures.start, short c.from.result (omega (arith, c.from.ensures, c.ranges.line.fits)))

pub write_digits-start-requires : goal.write_digits-start-requires
write_digits-start-requires c =
    let long : length c.write_digits-from.new.buf ≡ 22 = search rules in
    let first = short c.from.result (omega (arith, c.from.ensures, c.ranges.line.fits)) in
    let second = short c.from-2.result (omega (arith, c.from-2.ensures, c.ranges.file.fits)) in (
      omega (arith, c.write_digits-from.ensures.start, first, second),
      omega (arith, c.write_digits-from.ensures.start, length-set c.write_digits-from.new.buf (c.write_digits-from.result - 1) 58, long),
    )

pub returns : goal.returns
returns c =
    let old = c.args.text.now.items in
    let line = c.write_digits-from.new.buf in
    let at = c.write_digits-from.result in
    let bytes = c.write_digits-start.new.buf in
    let long : length line ≡ 22 = search rules in
    let first = short c.from.result (omega (arith, c.from.ensures, c.ranges.line.fits)) in
    let digits : drop at line ≡ decimal c.args.line ++ codes " " = c.write_digits-from.ensures.written ∙ ap (λ n. decimal n ++ codes " ") c.from.ensures in
    let before : drop (at - 1) (set line (at - 1) 58) ≡ 58 ∷ (decimal c.args.line ++ codes " ") =
    colon line at (omega (arith, c.write_digits-from.ensures.start, first)) (omega (arith, c.write_digits-from.ensures.start, long))
    ∙ ap (λ (rest : List ℕ). 58 ∷ rest) digits in
    let all : drop c.write_digits-start.result bytes ≡ decimal c.args.file ++ (58 ∷ (decimal c.args.line ++ codes " ")) =
    c.write_digits-start.ensures.written ∙ ap (λ n. decimal n ++ drop (at - 1) (set line (at - 1) 58)) c.from-2.ensures
    ∙ ap (λ (rest : List ℕ). decimal c.args.file ++ rest) before in
    let last = drop c.write_digits-start.result bytes in
    let full : length bytes ≡ 22 = search rules in
    let whole = take_all (22 - c.write_digits-start.result) last (omega (arith, length-drop c.write_digits-start.result bytes, full)) in
    let line_digits = decimal c.args.line in
    let colon_first = append_assoc (decimal c.args.file ++ codes ":") line_digits (codes " ")
    ∙ append_assoc (decimal c.args.file) (codes ":") (line_digits ++ codes " ") in
    c.in_ok-extend_from_slice.ensures.items ∙ ap (λ (pushed : List ℕ). old ++ pushed) (whole ∙ all ∙ sym colon_first)
