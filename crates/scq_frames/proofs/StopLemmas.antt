-- What a call of `next` says of the framer and its source where it stops.
use Rattle.std.proofs.Common.{◌≡◌, ◌⊎◌, inl, inr, ℕ, ◌+◌, ◌≤◌, false, Bool, Option, Some, Result, Ok, Err, List, [], length, refl, sym, ◌∙◌, ap, subst, add-zero, ⊎_elim, arith}
use Rattle.std.specs.Prelude.{IsTrue, IfErr, IfOk, IsErr, IsErrOf}
use Rattle.std.specs.Option.{option_map}
use Rattle.std.specs.Result.{IsErrAnd}
use Rattle.std.proofs.lemmas.Bool.{true≢false}
use Rattle.std.proofs.lemmas.Result.{IfOk-from_err}
use Rattle.scq_outside.specs.declared.source.Source.{Ghosts as SourceOf}
use Rattle.scq_frames.specs.Exports.{Found, GivesFirst, GoesOn, HasFault, ReadsFrom, IsTooLong, EndsOnce, payload_of}
use Rattle.scq_frames.specs.Framing.{Framing}
use Rattle.scq_frames.specs.declared.message.Message.{Message}
use Rattle.scq_frames.specs.declared.fault.FrameFault.{FrameFault}
use Rattle.scq_frames.specs.declared.fault.FrameFault.TheVariants.{ReadFault, TooLong, TooLarge, NoMemory}
use Rattle.scq_frames.proofs.AheadLemmas.{Passed, PassedLast, first-line, first-last, last-kept}
use Rattle.scq_frames.proofs.EndLemmas.{began-going, reads-on}
use Rattle.scq_frames.proofs.FoundLemmas.{Found-line, Found-last, Found-memory}
use Rattle.scq_frames.proofs.NextLemmas.{Searches}

-- the source is as it was while the call searched: no read failed
pub reads-no_more : {S : Type 0} {number : List ℕ → ℕ} (src : SourceOf S) (failed : Type 0) {first now new : Framing} {source after : S}
    → Searches number src.left src.faults first now source after → EndsOnce first.ended now.ended (src.ends source) (src.ends after)
    → new.ended ≡ now.ended → new.read ≡ now.read → (failed → ⊥) → ReadsFrom src failed first new source after
reads-no_more src failed {first} {now} {new} {source} {after} s once over read none = record {
  end = λ nothing ended. s.end nothing (sym over ∙ ended);
  stays = λ h. let stays = s.ended h in (stays.0, over ∙ stays.1);
  once = subst (λ (b : Bool). EndsOnce first.ended b (src.ends source) (src.ends after)) (sym over) once;
  size = ap (λ (n : ℕ). option_map (λ bytes. n + length bytes) (src.left after)) read ∙ s.size;
  faults = record { rose = λ f. absurd (none f); kept = λ _. s.kept };
  never_falls = omega (arith, s.kept);
  going = λ f. absurd (none f);
}

-- the fault of a line is no other
abbrev pub IsOfLine : FrameFault → Type 0
IsOfLine fault = ((at : ℕ) × (count : ℕ) × (fault ≡ TooLong at count)) ⊎ (fault ≡ NoMemory)

no-read_fault : (fault : FrameFault) → IsOfLine fault → fault ≡ ReadFault → ⊥
no-read_fault fault (inl (at, count, is)) e = cc
no-read_fault fault (inr is) e = cc

no-large : (fault : FrameFault) (bytes : ℕ) → IsOfLine fault → fault ≡ TooLarge bytes → ⊥
no-large fault bytes (inl (at, count, is)) e = cc
no-large fault bytes (inr is) e = cc

abbrev pub refuses_line : FrameFault → Result (Option Message) FrameFault
refuses_line fault = Err fault

-- a call stops with this answer, which is a fault
pub record Stops {S : Type 0} (src : SourceOf S) (first new : Framing) (before after : S) (result : Result (Option Message) FrameFault) : Type 0 where
  pub is_err : IsErr result
  pub found : Found first new (src.left before) (src.left after) result
  pub fault : IfErr result (HasFault first new)
  pub source : ReadsFrom src (IsErrOf result ReadFault) first new before after
  pub goes_on : GoesOn first new result

pub no_answer : {S : Type 0} {src : SourceOf S} {first new : Framing} {before after : S} {result : Result (Option Message) FrameFault}
    (P : Option Message → Type 0) → Stops src first new before after result → IfOk result P
no_answer {result = result} P s = IfOk-from_err result P s.is_err

-- a `?` answers it
pub stops-passed : {S : Type 0} {src : SourceOf S} {first new : Framing} {source after : S} {fault : FrameFault}
    (result : Result (Option Message) FrameFault) → IsErrAnd result (λ error. error ≡ fault) → Stops src first new source after (Err fault)
    → Stops src first new source after result
stops-passed (Ok given) is s = absurd is
stops-passed {src = src} {first} {new} {source} {after} (Err error) is s =
    subst (λ (f : FrameFault). Stops src first new source after (Err f)) (sym is) s

module _ {S : Type 0} {number : List ℕ → ℕ} (src : SourceOf S) {first now : Framing} {source mid : S}
    (s : Searches number src.left src.faults first now source mid) (once : EndsOnce first.ended now.ended (src.ends source) (src.ends mid))
    (bound : first.weight ≤ first.most + 1) where
  -- where no framer that is done gives one
  goes_on-err : (new : Framing) (fault : FrameFault) → new ≡ record now { held = new.held; read = new.read; ended = new.ended }
      → length new.held ≤ new.size + 4130 → (IsTrue first.ended → first.held ≡ [] → ⊥) → GoesOn first new (Err fault)
  goes_on-err new fault same held over = record {
    file = ap (λ (f : Framing). f.file) same ∙ s.file;
    payload = ap (λ (f : Framing). f.size) same ∙ s.payload;
    most = ap (λ (f : Framing). f.most) same ∙ s.most;
    failed = ap (λ (f : Framing). f.failed) same ∙ s.failing;
    rises = subst (λ (n : ℕ). first.line ≤ n) (sym (ap (λ (f : Framing). f.line) same)) s.line;
    weight = ap (λ (f : Framing). f.weight) same ∙ s.weight ∙ sym (add-zero first.weight);
    bounded = omega (arith, bound, ap (λ (f : Framing). f.weight) same, s.weight, ap (λ (f : Framing). f.most) same, s.most);
    read = tt;
    held = held;
    over = λ h none. absurd (over h none);
  }

  -- at a line
  pub stops-at_line : {new : Framing} (line : List ℕ) (fault : FrameFault) → new ≡ now → IsOfLine fault
      → ((at count : ℕ) → refuses_line fault ≡ refuses_line (TooLong at count) → IsTooLong now.size (now.line + 1) line at count)
      → ((at count : ℕ) → IsTooLong now.size (now.line + 1) line at count → Found first now (src.left source) (src.left mid) (Err (TooLong at count)))
      → (IsTrue first.ended → first.held ≡ [] → ⊥) → Stops src first new source mid (Err fault)
  stops-at_line line fault same of long found over =
      let Finds : FrameFault → Type 0 = λ f. Found first now (src.left source) (src.left mid) (Err f) in
      subst (λ (f : Framing). Stops src first f source mid (Err fault)) (sym same) (record {
        is_err = refl;
        found = ⊎_elim
            (λ (which : (at : ℕ) × (count : ℕ) × (fault ≡ TooLong at count)).
            subst Finds (sym which.2) (found which.0 which.1 (long which.0 which.1 (ap refuses_line which.2))))
            (λ (memory : fault ≡ NoMemory). subst Finds (sym memory) (Found-memory s.found s.quiet)) of;
        fault =
            record {
              too_long = λ at count e.
                  let its = long at count (ap refuses_line e) in (omega (arith, its.number, s.line), omega (arith, its.above, s.payload));
              too_large = λ bytes e. absurd (no-large fault bytes of e);
            };
        source = reads-no_more src _ s once refl refl (λ e. no-read_fault fault of (cc));
        goes_on = goes_on-err now fault refl s.short over;
      })

  -- in a read, or in several
  pub stops-reading : {after : S} (new : Framing) (fault : FrameFault) (failed : Type 0)
      → new ≡ record now { held = new.held; read = new.read; ended = new.ended } → now.ended ≡ false → length new.held ≤ new.size + 4130
      → HasFault now new fault → ReadsFrom src failed now new mid after
      → (fault ≡ ReadFault → failed) → (failed → fault ≡ ReadFault)
      → Found first new (src.left source) (src.left after) (Err fault) → Stops src first new source after (Err fault)
  stops-reading {after} new fault failed same going held its reads to from found = record {
    is_err = refl;
    found = found;
    fault =
        record {
          too_long = λ at count e. let long = its.too_long at count e in (omega (arith, long.0, s.line), omega (arith, long.1, s.payload));
          too_large = its.too_large;
        };
    source = reads-on src failed _ first now new source mid after (began-going _ _ (λ h. (s.ended h).1) going) going once s.size s.kept reads
        (λ e. to (cc)) (λ f. ap refuses_line (from f));
    goes_on = goes_on-err new fault same held (λ h none. true≢false (sym (s.ended h).1 ∙ going));
  }

-- a call has given this, a message or the end
pub record Ends {S : Type 0} (number : List ℕ → ℕ) (src : SourceOf S) (first now new : Framing) (before after : S)
    (given : Option Message) : Type 0 where
  pub gives : GivesFirst number first new (src.left before) (src.left after) given
  pub found : Found first new (src.left before) (src.left after) (Ok given)
  pub ended : new.ended ≡ now.ended
  pub read : new.read ≡ now.read

module _ {S : Type 0} {number : List ℕ → ℕ} (src : SourceOf S) {first now new : Framing} {source mid : S} {given : Option Message}
    (s : Searches number src.left src.faults first now source mid) where
  pub ends-line : {m : Message} (len : ℕ) → Passed number now new len given → given ≡ Some m → Ends number src first now new source mid (Some m)
  ends-line {m} len passed some = record {
    gives = first-line number first now new (src.left source) (src.left mid) len given m s.ahead passed some;
    found = Found-line number first now new (src.left source) (src.left mid) len given m s.found s.quiet passed s.within some;
    ended = ap (λ (f : Framing). f.ended) passed.after;
    read = ap (λ (f : Framing). f.read) passed.after;
  }

  pub ends-last : PassedLast number now new given → length (payload_of now.held) ≤ now.size → Ends number src first now new source mid given
  ends-last last fits = record {
    gives = first-last number first now new (src.left source) (src.left mid) given s.ahead last;
    found = Found-last number first now new (src.left source) (src.left mid) given s.found s.quiet last s.within fits;
    ended = (last-kept number now new given last).0;
    read = (last-kept number now new given last).1;
  }
