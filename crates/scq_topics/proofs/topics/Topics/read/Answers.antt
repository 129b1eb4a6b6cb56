-- Each iteration has the next entry. A fault of it is the first fault of all; else the entry joins
-- the topics, and the first fault of the rest is that of all.
use Rattle.std.proofs.Common.{◌≡◌, ℕ, [], length, ap, sym, ◌∙◌, Some, Result, Ok, Err, rules, tests, eqb, Bool}
use Rattle.std.proofs.lemmas.Iterator.Splits.{YieldsList-from_slice_split}
use Rattle.std.proofs.lemmas.Iterator.Consumers.{YieldsList-turn, YieldsList-end}
use Rattle.std.proofs.lemmas.List.{length_push}
use Rattle.std.specs.Result.{IsErrAnd, result_err}
use Rattle.scq_topics.specs.Exports.{entries_of, first_fault}
use Rattle.scq_topics.proofs.EntriesRead.{IsRead-more, first_fault-met, IsRead-all}
use Rattle.scq_topics.proofs.topics.Topics.read.Goals as goal

abbrev is_comma : ℕ → Bool
is_comma byte = eqb byte 44

-- what `?` passes on is the error
result_err-passed_on : {T E : Type 0} (r : Result T E) (e : E) → IsErrAnd r (λ passed. passed ≡ e) → result_err r ≡ Some e
result_err-passed_on (Ok x) e h = absurd h
result_err-passed_on (Err passed) e h = ap Some h

pub loop-entry-init : goal.loop-entry-init
loop-entry-init c = record { later = ap (λ topics. first_fault topics (entries_of c.args.text.now)) c.none-topics.ensures; earlier = c.none-topics.ensures }

pub loop-entry-preserved : goal.loop-entry-preserved
loop-entry-preserved c =
    let entries = entries_of c.args.text.now in
    let all = YieldsList-from_slice_split _ is_comma c.args.text.now (cc) (cc) (cc) (λ x b q k. search (rules, tests)) in
    let turn = YieldsList-turn all c.loop-entry.yielded _ c.loop-entry.yielded_by _ _ c.in-Some.entry c.in-Some.is c.next.ensures.steps in
    IsRead-more entries (first_fault [] entries) (length c.loop-entry.yielded) _ c.loop-entry.topics c.declare.new.self c.in-Some.entry.now
    record { inside = turn.0; is = turn.1 } c.loop-entry.invariant (sym c.in_ok-declare.ensures.refused) c.in_ok-declare.ensures.declared
    (length_push c.loop-entry.yielded c.in-Some.entry)

pub returns-in_err-declare-clause-refused : goal.returns-in_err-declare-clause-refused
returns-in_err-declare-clause-refused c =
    let entries = entries_of c.args.text.now in
    let all = YieldsList-from_slice_split _ is_comma c.args.text.now (cc) (cc) (cc) (λ x b q k. search (rules, tests)) in
    let turn = YieldsList-turn all c.loop-entry.yielded _ c.loop-entry.yielded_by _ _ c.in-Some.entry c.in-Some.is c.next.ensures.steps in
    let met = first_fault-met entries (first_fault [] entries) (length c.loop-entry.yielded) c.loop-entry.topics c.in-Some.entry.now c.in_err-declare.field-0.0
    record { inside = turn.0; is = turn.1 } c.loop-entry.invariant (sym c.in_err-declare.ensures.refused) in
    result_err-passed_on c.from_residual.result c.in_err-declare.field-0.0 c.from_residual.ensures.1 ∙ met

pub returns-clause-refused : goal.returns-clause-refused
returns-clause-refused c =
    let entries = entries_of c.args.text.now in
    let all = YieldsList-from_slice_split _ is_comma c.args.text.now (cc) (cc) (cc) (λ x b q k. search (rules, tests)) in
    let end = YieldsList-end all c.loop-entry.yielded _ c.loop-entry.yielded_by _ _ c.in-None.is c.next.ensures.steps in
    (IsRead-all entries (first_fault [] entries) (length c.loop-entry.yielded) c.loop-entry.topics end.1 c.loop-entry.invariant).0

pub returns-clause-declared : goal.returns-clause-declared
returns-clause-declared c =
    let entries = entries_of c.args.text.now in
    let all = YieldsList-from_slice_split _ is_comma c.args.text.now (cc) (cc) (cc) (λ x b q k. search (rules, tests)) in
    let end = YieldsList-end all c.loop-entry.yielded _ c.loop-entry.yielded_by _ _ c.in-None.is c.next.ensures.steps in
    (IsRead-all entries (first_fault [] entries) (length c.loop-entry.yielded) c.loop-entry.topics end.1 c.loop-entry.invariant).1
