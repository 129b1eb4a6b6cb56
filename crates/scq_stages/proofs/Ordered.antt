-- What becomes of the messages that files gave stands in order of file and line, one file behind the other. So no two members have one file and line.
use Rattle.std.proofs.Common.{◌≡◌, ◌∙◌, refl, sym, ap, subst, inl, inr, arith, ℕ, ◌+◌, ◌<◌, ◌≤◌, List, [], ◌∷◌, ◌++◌, map, Option, Some, None}
use Rattle.std.specs.Prelude.{IfSome, flat_map}
use Rattle.std.specs.List.{All}
use Rattle.std.specs.List.Sorted.{IsPermutation}
use Rattle.std.proofs.lemmas.List.{map-append}
use Rattle.std.proofs.lemmas.List.Elements.{All-nil, All-cons, All-append, All-weaker}
use Rattle.scq_topics.specs.declared.kind.Kind.{Kind}
use Rattle.scq_topics.specs.Exports.{topic_of}
use Rattle.scq_frames.specs.declared.message.Message.{Message}
use Rattle.scq_frames.specs.Exports.{numbered, messages_of}
use Rattle.scq_collect.specs.Exports.{AreApart, IsBefore}
use Rattle.scq_collect.proofs.Orders.{Ascends, ascends-append}
use Rattle.scq_desk.proofs.Apart.{apart-shown}
use Rattle.scq_files.specs.Exports.{AreGiven, all_left, messages_in, AreOf}
use Rattle.scq_files.proofs.Lists.{map-map}
use Rattle.scq_files.proofs.GivenLemmas.{given-told}
use Rattle.scq_stages.specs.declared.finished.Finished.{Finished}
use Rattle.scq_stages.specs.Exports.{handled_of, Handled, position_of_finished, position_of_handled, all_handled, without_way}

-- messages of this file, handled, that ascend from above a line
record AreAbove (file line : ℕ) (handled : List Handled) : Type 0 where
  up : Ascends position_of_handled handled
  past : All (λ r. (r.file ≡ file) × (line < r.line)) handled

file-ascends : (known file line : ℕ) (ms : List Message) → AreOf known file line ms → AreAbove file line (map handled_of ms)
file-ascends known file line [] of = record { up = tt; past = All-nil (λ (r : Handled). (r.file ≡ file) × (line < r.line)) }
file-ascends known file line (m ∷ ms) of =
    let rest = file-ascends known file m.line ms of.3 in
    let first = handled_of m in
    let others = map handled_of ms in
    record {
      up = (
        All-weaker (λ (r : Handled). (r.file ≡ file) × (m.line < r.line)) (λ (r : Handled). IsBefore (position_of_handled first) (position_of_handled r))
            (λ r h. inr (of.0 ∙ sym h.0, inl h.1)) others rest.past,
        rest.up,
      );
      past = All-cons (λ (r : Handled). (r.file ≡ file) × (line < r.line)) first others (of.0, of.1)
          (All-weaker (λ (r : Handled). (r.file ≡ file) × (m.line < r.line)) (λ (r : Handled). (r.file ≡ file) × (line < r.line))
          (λ r h. (h.0, omega (arith, h.1, of.1))) others rest.past);
    }

-- handled messages that ascend, of this file and those behind it
record AreFrom (file : ℕ) (handled : List Handled) : Type 0 where
  up : Ascends position_of_handled handled
  past : All (λ r. file ≤ r.file) handled

-- all messages of files
abbrev all_of : List (List Message) → List Message
all_of given = flat_map (λ own. own) given

given-ascends : {S : Type 0} (topics : List (List ℕ × Kind)) (size : ℕ) (left : S → Option (List ℕ)) (file : ℕ) (was : List S)
    (given : List (List Message)) → AreGiven topics size left file was given
    → AreFrom file (map handled_of (all_of given))
given-ascends topics size left file [] [] gave = record { up = tt; past = All-nil (λ (r : Handled). file ≤ r.file) }
given-ascends topics size left file [] (own ∷ more) gave = absurd gave
given-ascends topics size left file (x ∷ xs) [] gave = absurd gave
given-ascends topics size left file (x ∷ xs) (own ∷ more) gave =
    let here = file-ascends _ file 0 own gave.0.of in
    let rest = given-ascends topics size left (file + 1) xs more gave.1 in
    let mine = map handled_of own in
    let others = map handled_of (all_of more) in
    let whole : AreFrom file (mine ++ others) = record {
      up = ascends-append position_of_handled mine others here.up rest.up
          (All-weaker (λ (r : Handled). (r.file ≡ file) × (0 < r.line)) (λ (x : Handled). All (λ y. IsBefore (position_of_handled x) (position_of_handled y)) others)
          (λ x h. All-weaker (λ (r : Handled). file + 1 ≤ r.file) (λ (y : Handled). IsBefore (position_of_handled x) (position_of_handled y))
          (λ y later. inl (omega (arith, h.0, later))) others rest.past) mine here.past);
      past = All-append (λ (r : Handled). file ≤ r.file) mine others
          (All-weaker (λ (r : Handled). (r.file ≡ file) × (0 < r.line)) (λ (r : Handled). file ≤ r.file) (λ r h. omega (arith, h.0)) mine here.past)
          (All-weaker (λ (r : Handled). file + 1 ≤ r.file) (λ (r : Handled). file ≤ r.file) (λ r later. omega (arith, later)) others rest.past);
    } in
    subst (AreFrom file) (sym (map-append handled_of own (all_of more))) whole

-- members that are what becomes of given messages, in some order, are apart
pub members-apart : {S : Type 0} (topics : List (List ℕ × Kind)) (size : ℕ) (left : S → Option (List ℕ)) (was : List S) (given : List (List Message))
    (members : List Finished) → AreGiven topics size left 1 was given
    → IsPermutation (map without_way members) (map handled_of (all_of given)) → AreApart position_of_finished members
members-apart topics size left was given members gave same =
    apart-shown position_of_handled without_way members (map handled_of (all_of given)) (given-ascends topics size left 1 was given gave).up same

-- what becomes of the messages in contents is what one thread makes of them
told-handled : (file : ℕ) (contents : List (List ℕ)) → map handled_of (all_of (messages_in [] file contents)) ≡ all_handled file contents
told-handled file [] = refl
told-handled file (content ∷ more) =
    let framed = messages_of content in
    let own = map (numbered file (topic_of [])) framed in
    map-append handled_of own (all_of (messages_in [] (file + 1) more)) ∙ ap (λ (l : List Handled). map handled_of own ++ l) (told-handled (file + 1) more)
    ∙ ap (λ (l : List Handled). l ++ all_handled (file + 1) more) (map-map handled_of (numbered file (topic_of [])) framed)

-- where the bytes of all files are visible, the members are what one thread makes of the contents
pub members-told : {S : Type 0} (size : ℕ) (left : S → Option (List ℕ)) (was : List S) (given : List (List Message))
    (members : List Finished) → AreGiven [] size left 1 was given
    → IsPermutation (map without_way members) (map handled_of (all_of given))
    → IfSome (all_left left was) (λ contents. IsPermutation (map without_way members) (all_handled 1 contents))
members-told size left was given members gave same = at (all_left left was) (given-told [] size left 1 was given gave) where
  at : (o : Option (List (List ℕ))) → IfSome o (λ contents. given ≡ messages_in [] 1 contents)
      → IfSome o (λ contents. IsPermutation (map without_way members) (all_handled 1 contents))
  at None is = tt
  at (Some contents) is =
      subst (IsPermutation (map without_way members)) (ap (λ g. map handled_of (all_of g)) is ∙ told-handled 1 contents) same
