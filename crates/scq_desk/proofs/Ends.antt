-- How the reading of all files ended: where no memory was found for a queue, and where the queue was closed.
use Rattle.std.proofs.Common.{◌≡◌, refl, sym, ap, subst, inl, ℕ, List, [], length, Option, Some, None, Bool, false, Err}
use Rattle.std.specs.Prelude.{IfErr, IfOk, slice_index_or}
use Rattle.std.specs.Option.{option_map}
use Rattle.scq_frames.specs.declared.fault.FrameFault.{FrameFault}
use Rattle.scq_files.specs.Exports.{AreGathered, HasMoved, SourceOf, StopsAtFaults}
use Rattle.scq_files.proofs.ReadLemmas.{stops-unread}
use Rattle.scq_passes.proofs.Results.{err-then, ok-on}
use Rattle.scq_desk.specs.Exports.{EndsReading, fault_of_workers}
use Rattle.scq_desk.specs.declared.end.End.{End}
use Rattle.scq_desk.specs.declared.fault.EndFault.{EndFault}
use Rattle.scq_desk.specs.declared.fault.EndFault.TheVariants.{NoMemory}
use Rattle.scq_desk.proofs.Faults.{caused, memory-first}

-- a source that nobody read is as it was
unmoved : {S : Type 0} (src : SourceOf S) (source : S) → HasMoved src source source
unmoved src source = record { bytes = []; moved = at (src.left source); counted = inl refl } where
  at : (o : Option (List ℕ)) → o ≡ option_map (λ (rest : List ℕ). rest) o
  at None = refl
  at (Some rest) = refl

module _ {T S : Type 0} (workers size : ℕ) (src : SourceOf S) (sources : List S) (end : End T S) where
  pub reading-starved : end.sources.items ≡ sources → end.result ≡ Err NoMemory → EndsReading workers size src sources end
  reading-starved same fault = record {
    count = ap length same;
    moved = λ k d less. subst (λ (l : List S). HasMoved src (slice_index_or sources k d) (slice_index_or l k d)) (sym same)
        (unmoved src (slice_index_or sources k d));
    stops = stops-unread workers size src sources end.sources.items same;
    whole = rw fault tt;
    none = λ is. rw fault refl;
    cause = rw fault tt;
    none_starved = rw fault tt;
  }

  pub reading-gathered : (made : T) (starved : Bool) (first : Option (ℕ × FrameFault)) → AreGathered size src sources end.sources.items first starved
      → StopsAtFaults workers size src sources end.sources.items → IfOk end.result (λ m. (m ≡ made) × (starved ≡ false) × (first ≡ None))
      → IfErr end.result (λ f. fault_of_workers starved first ≡ Some f) → (end.left ≡ None → ⊥) → EndsReading workers size src sources end
  reading-gathered made starved first gathered stops ok err there = record {
    count = gathered.count;
    moved = gathered.moved;
    stops = stops;
    whole = ok-on end.result _ _ ok (λ m why. gathered.sound why.2);
    none = λ is. absurd (there is);
    cause = err-then end.result _ _
        (λ (fault : EndFault) why. caused size src sources end.sources.items starved first fault why gathered.cause) err;
    none_starved = err-then end.result _ _
        (λ (fault : EndFault) why. memory-first size src sources end.sources.items starved first fault why gathered.fed) err;
  }
