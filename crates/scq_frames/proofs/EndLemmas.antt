-- How often the end of a source was answered since a call began, and what became of the source.
use Rattle.std.proofs.Common.{◌≡◌, ◌≤◌, ℕ, Bool, true, false, refl, sym, ◌∙◌, subst}
use Rattle.std.specs.Prelude.{IsTrue}
use Rattle.std.proofs.lemmas.Bool.{true≢false}
use Rattle.scq_outside.specs.Exports.{Rose}
use Rattle.scq_outside.specs.declared.source.Source.{Ghosts as SourceOf}
use Rattle.scq_frames.specs.Exports.{ReadsFrom, EndsOnce, visible_size}
use Rattle.scq_frames.specs.Framing.{Framing}

-- nothing was read
pub ends-start : (was : Bool) (n : ℕ) → EndsOnce was was n n
ends-start was n = record {
  rose = λ going ended. absurd (true≢false (sym ended ∙ going));
  going = λ _. refl;
  over = λ _. refl;
}

-- what was not over when a call began, since it is not now
pub began-going : (was is : Bool) → (IsTrue was → IsTrue is) → is ≡ false → was ≡ false
began-going false is keeps going = refl
began-going true is keeps going = absurd (true≢false (sym (keeps refl) ∙ going))

-- a read of a framer that went on
pub ends-read : (was mid is : Bool) (before between after : ℕ) → was ≡ false → mid ≡ false
    → EndsOnce was mid before between → EndsOnce mid is between after → EndsOnce was is before after
ends-read was mid is before between after began going one two =
    let same : between ≡ before = one.going going in
    record {
      rose = λ _ ended. subst (λ (n : ℕ). Rose n after) same (two.rose going ended);
      going = λ goes. two.going goes ∙ same;
      over = λ over. absurd (true≢false (sym over ∙ began));
    }

-- what became of the source in the last part of a call before which no read failed and the end was not read
pub reads-on : {S : Type 0} (src : SourceOf S) (failed told : Type 0) (first mid new : Framing) (start between after : S) → first.ended ≡ false
    → mid.ended ≡ false → EndsOnce first.ended mid.ended (src.ends start) (src.ends between)
    → visible_size mid (src.left between) ≡ visible_size first (src.left start) → src.faults between ≡ src.faults start
    → ReadsFrom src failed mid new between after → (told → failed) → (failed → told) → ReadsFrom src told first new start after
reads-on src failed told first mid new start between after began going one size kept two to from = record {
  end = λ _. two.end (λ h. absurd (true≢false (sym h ∙ going)));
  stays = λ h. absurd (true≢false (sym h ∙ began));
  once = ends-read first.ended mid.ended new.ended (src.ends start) (src.ends between) (src.ends after) began going one two.once;
  size = two.size ∙ size;
  faults =
      record {
        rose = λ f. subst (λ (n : ℕ). Rose n (src.faults after)) kept (two.faults.rose (to f));
        kept = λ other. two.faults.kept (λ f. other (from f)) ∙ kept;
      };
  never_falls = subst (λ (n : ℕ). n ≤ src.faults after) kept two.never_falls;
  going = λ _. began;
}
