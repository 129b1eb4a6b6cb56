-- The words of a call, added one after another.
use Rattle.std.proofs.Common.{◌≡◌, ℕ, ◌-◌, ◌<◌, ◌≤◌, List, [], ◌++◌, append_assoc, length, get_or, Bor, Some, None, Result, Ok, Err, refl, sym, ◌∙◌, ap}
use Rattle.std.specs.Prelude.{OnOk, MatchOption, IfSome, Option, codes, decimal, slice_get}
use Rattle.std.specs.List.{HoldsAt}
use Rattle.std.proofs.lemmas.Option.{slice_get_past, slice_get_read}
use Rattle.std.specs.Option.{option_copied}
use Rattle.scq_core.specs.declared.ended.Ended.{Ended}
use Rattle.scq_core.specs.Exports.{machine_of}
use Rattle.scq_law.specs.declared.ordered.Ordered.{Ordered}
use Rattle.scq_replay.specs.Exports.{member_words, reply_words}
use Rattle.scq_replay.proofs.ordering.add_words.Goals as goal

-- what is read of a list at a place
read_is : (o : Option (Bor Ended)) (xs : List Ended) (i : ℕ) → MatchOption o (length xs ≤ i) (λ x. (i < length xs) × HoldsAt (λ y. x.now ≡ y) xs i)
    → IfSome o (λ x. x.now ≡ get_or xs i x.now) → option_copied o ≡ slice_get xs i
read_is None xs i past is = sym (slice_get_past xs i past)
read_is (Some x) xs i within is = sym (slice_get_read xs (length xs) i x.now refl within.0 is)

on_ok : {T E P Q : Type 0} (r : Result T E) → (P → Q) → OnOk r P → OnOk r Q
on_ok (Ok x) then p = then p
on_ok (Err e) then p = p

joined : (old one two reply : List ℕ) (seat from number : ℕ) → from ≡ seat → one ≡ old ++ [] ++ decimal from → two ≡ one ++ codes " " ++ decimal number
    → two ++ reply ≡ old ++ (decimal seat ++ codes " " ++ decimal number ++ reply)
joined old one two reply seat from number same a b = rw (b, a, same) (simp append_assoc refl)

pub returns-in_ok-add_number-in-Call-2 : goal.returns-in_ok-add_number-in-Call-2
returns-in_ok-add_number-in-Call-2 c =
    let m = machine_of c.args.state.now in
    let old = c.args.text.now.items in
    let mid = c.add_number-in-Call-2.new.text.items in
    let reply = slice_get (m.part c.in-Call.seat).calls (c.in-Call.number - 1) in
    let said : option_copied c.get.result ≡ reply =
    read_is c.get.result c.calls.result.now (c.in-Call.number - 1) c.get.ensures.lookup.3 c.get.ensures.lookup.1
    ∙ ap (λ (calls : List Ended). slice_get calls (c.in-Call.number - 1)) c.calls.ensures in
    on_ok c.add_reply.result
    (λ is.
    is ∙ ap (λ (ended : Option Ended). mid ++ reply_words ended) said
    ∙ joined old c.add_number-in-Call.new.text.items mid (reply_words reply) c.in-Call.seat c.from-in-Call.result c.in-Call.number c.from-in-Call.ensures
    c.in_ok-add_number-in-Call.ensures c.in_ok-add_number-in-Call-2.ensures
    ∙ ap (λ (x : Ordered). old ++ member_words m x) (sym c.in-Call.is))
    c.add_reply.ensures
