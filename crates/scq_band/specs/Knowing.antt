-- For the law of views (`each_view_knows_the_truth`) alone; no public call's contract cites it.
-- What the seats and notes of a band know, told of the running words.
use Rattle.std.specs.Prelude.{◌≡◌, ◌⊎◌, ℕ, ◌<◌, ◌≤◌, List, Option, Some, slice_get, slice_index}
use mathlib.Core.Option.{some}
use lib.ListN.{get_elem?}
use Rattle.atomic_table.specs.Table.{State}
use Rattle.scq_word.specs.declared.setup.Setup.{Setup}
use Rattle.scq_core.specs.declared.step.Step.{Step}
use Rattle.scq_core.specs.Exports.{tail_of, head_of}
use Rattle.scq_core.specs.Machine.{Machine}
use Rattle.scq_law.specs.Exports.{IsFinished}
use Rattle.scq_band.specs.declared.numbers.Numbers.{Numbers}
use Rattle.scq_band.specs.Numbers.{before_places}
use Rattle.scq_band.specs.Layout.{gate_word, at}
use Rattle.scq_band.specs.Known.{Known}
use Rattle.scq_band.specs.Shown.{Shown}

-- a view knows the truth of these words, which show the state m
pub record KnowsTruth (c : Setup) (m : Machine) (words : List ℕ) (v : Known) : Type 0 where
  -- Head is at or past each head number, and Tail is past each seen number
  pub head : (r : ℕ) (x : Numbers) → r < c.rings → slice_get v.numbers r ≡ Some x
      → x.head ≤ slice_index words (at c (head_of r))
  pub seen : (r : ℕ) (x : Numbers) → r < c.rings → slice_get v.numbers r ≡ Some x
      → x.seen < slice_index words (at c (tail_of r))
  -- each finished number is the place of a put that has ended, or what is known at the start
  pub finished : (r : ℕ) (x : Numbers) → slice_get v.numbers r ≡ Some x
      → (x.finished ≡ before_places c r) ⊎ IsFinished c m r x.finished
  -- the gate is no higher than when it was last read
  pub gate : (n : ℕ) → v.gate ≡ Some n → slice_index words gate_word ≤ n

-- each view does, whatever words and views the rule allows
abbrev pub EachViewKnowsTruth : {S : Type 0} → (ℕ → S → List ℕ → Type 0) → List (List ℕ) → Setup
    → Type 0
EachViewKnowsTruth {S} Lies opening c =
    (gone : ℕ → Option ℕ) (run : List (ℕ × Step)) (s : State S Known)
    (shown : Shown Lies opening c gone run s) (id : ℕ) (v : Known)
    → get_elem? s.views id ≡ some v → KnowsTruth c shown.scene.state s.words v
