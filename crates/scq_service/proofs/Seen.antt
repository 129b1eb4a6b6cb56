-- What is seen of the queue of a run's workers.
use Rattle.std.proofs.Common.{◌≡◌, refl, true, false, Option, Some, None, Result, Ok, Err}
use Rattle.std.specs.Prelude.{is_some}
use Rattle.scq_words.specs.Exports.{run, generated, judged, whole, staged}
use Rattle.scq_words.specs.Asked.{Asked}
use Rattle.scq_words.specs.declared.fault.WordsFault.{WordsFault}
use Rattle.scq_service.specs.Exports.{IsSeenAt}
use Rattle.scq_service.specs.declared.fault.Fault.TheVariants.{NoMemory}

-- at want of memory nothing need be seen
pub unseen : (asked : Result Asked WordsFault) → IsSeenAt asked (Some NoMemory) false
unseen (Err fault) = refl
unseen (Ok (run a)) = λ none. refl
unseen (Ok (generated a)) = λ none. refl
unseen (Ok (judged a)) = refl
unseen (Ok (whole a)) = refl
unseen (Ok (staged a)) = refl

-- an option that has no value is None
pub none-seen : {X : Type 0} (o : Option X) → is_some o ≡ false → o ≡ None
none-seen None none = refl
none-seen (Some x) none = absurd (cc)

-- an option that can't be None has a value
pub some-seen : {X : Type 0} (o : Option X) → (o ≡ None → ⊥) → is_some o ≡ true
some-seen None gone = absurd (gone refl)
some-seen (Some x) gone = refl
