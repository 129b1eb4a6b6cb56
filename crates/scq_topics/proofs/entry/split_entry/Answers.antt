use Rattle.std.proofs.Common.{◌≡◌, refl, true, false, ℕ, Bool, Some, None, eqb, ltb, length, take, drop, ◌+◌, ◌-◌, ◌∙◌, length-drop, ap, sym, arith, rules, tests}
use Rattle.std.specs.Prelude.{if◌then◌else◌}
use Rattle.std.specs.List.{list_any, position_or_len}
use Rattle.std.proofs.lemmas.List.{take_all}
use Rattle.std.proofs.lemmas.Bool.Decides.{nat_tests}
use Rattle.std.proofs.lemmas.Iterator.{YieldsList-from_slice}
use Rattle.std.proofs.lemmas.Iterator.Search.{position_from_yields_List}
use Rattle.scq_topics.specs.Exports.{kind_named}
use Rattle.scq_topics.proofs.Found.{at_position, nowhere, list_any-position}
use Rattle.scq_topics.proofs.entry.split_entry.Goals as goal
use Rattle.scq_topics.proofs.entry.split_entry.Goals.{After-position}

abbrev is_equals : ℕ → Bool
is_equals byte = eqb byte 61

-- where the first `=` was found
found : (c : After-position) → c.position.result ≡ (if ltb (position_or_len is_equals c.args.entry.now) (length c.args.entry.now)
    then Some (position_or_len is_equals c.args.entry.now) else None)
found c = position_from_yields_List is_equals _ _ c.position.result c.position.ensures.ran (YieldsList-from_slice c.args.entry.now cc)
    (λ x b q k. search (rules, tests))

pub returns-in-Some-clause-name : goal.returns-in-Some-clause-name
returns-in-Some-clause-name c =
    let entry = c.args.entry.now in
    let found = found (goal.at.returns-in-Some-clause-name c).After-position in
    ap (λ end. take end entry) (at_position (position_or_len is_equals entry) (length entry) c.position.result c.in-Some.end found c.in-Some.is)

pub returns-in-Some-clause-kind : goal.returns-in-Some-clause-kind
returns-in-Some-clause-kind c =
    let entry = c.args.entry.now in
    let found = found (goal.at.returns-in-Some-clause-kind c).After-position in
    let at = at_position (position_or_len is_equals entry) (length entry) c.position.result c.in-Some.end found c.in-Some.is in
    let has : list_any is_equals entry ≡ true = rw (list_any-position is_equals entry) (grind (arith, nat_tests)) in
    let word = take_all (length entry - (c.in-Some.end + 1)) (drop (c.in-Some.end + 1) entry) (omega (arith, length-drop (c.in-Some.end + 1) entry))
    ∙ ap (λ end. drop (end + 1) entry) at in
    rw has (c.named.ensures ∙ ap kind_named word)

pub returns-in-None-clause-name : goal.returns-in-None-clause-name
returns-in-None-clause-name c =
    let entry = c.args.entry.now in
    let found = found (goal.at.returns-in-None-clause-name c).After-position in
    let past = nowhere (position_or_len is_equals entry) (length entry) c.position.result found c.in-None.is in
    sym (take_all (position_or_len is_equals entry) entry past)

pub returns-in-None-clause-kind : goal.returns-in-None-clause-kind
returns-in-None-clause-kind c =
    let entry = c.args.entry.now in
    let found = found (goal.at.returns-in-None-clause-kind c).After-position in
    let past = nowhere (position_or_len is_equals entry) (length entry) c.position.result found c.in-None.is in
    let none : list_any is_equals entry ≡ false = rw (list_any-position is_equals entry) (grind (arith, nat_tests, past)) in
    rw none refl
