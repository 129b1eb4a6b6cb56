-- What becomes of the messages of files, one file behind the other, ascends.
use Rattle.std.proofs.Common.{◌≡◌, refl, sym, inl, inr, arith, ℕ, ◌+◌, ◌≤◌, List, [], ◌∷◌, map}
use Rattle.std.specs.List.{All}
use Rattle.std.proofs.lemmas.List.Elements.{All-nil, All-cons, All-append, All-weaker}
use Rattle.scq_frames.specs.Exports.{framed, messages_after, messages_from, text_lines}
use Rattle.scq_collect.specs.Exports.{IsBefore}
use Rattle.scq_collect.proofs.Orders.{Ascends, ascends-append}
use Rattle.scq_stages.specs.Exports.{Handled, handled_to, all_handled, position_of_handled}

-- messages of one file, handled, that ascend, from a line on
record AreOf (file line : ℕ) (handled : List Handled) : Type 0 where
  up : Ascends position_of_handled handled
  past : All (λ r. (r.file ≡ file) × (line ≤ r.line)) handled

lines-ascend : (file number : ℕ) (lines : List (List ℕ)) → AreOf file number (map (handled_to file) (messages_from number lines))
lines-ascend file number [] = record { up = tt; past = All-nil (λ (r : Handled). (r.file ≡ file) × (number ≤ r.line)) }
lines-ascend file number ([] ∷ more) =
    let rest = lines-ascend file (number + 1) more in
    record {
      up = rest.up;
      past = All-weaker (λ (r : Handled). (r.file ≡ file) × (number + 1 ≤ r.line)) (λ (r : Handled). (r.file ≡ file) × (number ≤ r.line))
          (λ r h. (h.0, omega (arith, h.1)))
          (map (handled_to file) (messages_from (number + 1) more)) rest.past;
    }
lines-ascend file number ((b ∷ bs) ∷ more) =
    let rest = lines-ascend file (number + 1) more in
    let others = map (handled_to file) (messages_from (number + 1) more) in
    let first = handled_to file (framed number (b ∷ bs)) in
    record {
      up = (
        All-weaker (λ (r : Handled). (r.file ≡ file) × (number + 1 ≤ r.line)) (λ (r : Handled). IsBefore (position_of_handled first) (position_of_handled r))
            (λ r h. inr (sym h.0, inl (omega (arith, h.1)))) others rest.past,
        rest.up,
      );
      past = All-cons (λ (r : Handled). (r.file ≡ file) × (number ≤ r.line)) first others (refl, omega arith)
          (All-weaker (λ (r : Handled). (r.file ≡ file) × (number + 1 ≤ r.line)) (λ (r : Handled). (r.file ≡ file) × (number ≤ r.line))
          (λ r h. (h.0, omega (arith, h.1))) others rest.past);
    }

file-ascends : (file : ℕ) (content : List ℕ) → AreOf file 1 (map (handled_to file) (messages_after 0 content))
unfolding messages_after
file-ascends file content = lines-ascend file 1 (text_lines content)

-- handled messages that ascend, of this file and those behind it
record AreFrom (file : ℕ) (handled : List Handled) : Type 0 where
  up : Ascends position_of_handled handled
  past : All (λ r. file ≤ r.file) handled

files-ascend : (file : ℕ) (contents : List (List ℕ)) → AreFrom file (all_handled file contents)
files-ascend file [] = record { up = tt; past = All-nil (λ (r : Handled). file ≤ r.file) }
files-ascend file (content ∷ more) =
    let own = file-ascends file content in
    let rest = files-ascend (file + 1) more in
    let mine = map (handled_to file) (messages_after 0 content) in
    let others = all_handled (file + 1) more in
    record {
      up = ascends-append position_of_handled mine others own.up rest.up
          (All-weaker (λ (r : Handled). (r.file ≡ file) × (1 ≤ r.line)) (λ (x : Handled). All (λ y. IsBefore (position_of_handled x) (position_of_handled y)) others)
          (λ x h. All-weaker (λ (r : Handled). file + 1 ≤ r.file) (λ (y : Handled). IsBefore (position_of_handled x) (position_of_handled y))
          (λ y later. inl (omega (arith, h.0, later))) others rest.past) mine own.past);
      past = All-append (λ (r : Handled). file ≤ r.file) mine others
          (All-weaker (λ (r : Handled). (r.file ≡ file) × (1 ≤ r.line)) (λ (r : Handled). file ≤ r.file) (λ r h. omega (arith, h.0)) mine own.past)
          (All-weaker (λ (r : Handled). file + 1 ≤ r.file) (λ (r : Handled). file ≤ r.file) (λ r later. omega (arith, later)) others rest.past);
    }

pub handled-ascend : (file : ℕ) (contents : List (List ℕ)) → Ascends position_of_handled (all_handled file contents)
handled-ascend file contents = (files-ascend file contents).up
