-- A worker that passes messages on one by one, or stops at one, whatever a worker is. `IsAt` says
-- where it stands that has passed on these, and `IsOver` where it stands that met a ticket past the
-- limit with at most these passed on.
use Rattle.std.proofs.Common.{◌≡◌, refl, sym, ◌∙◌, subst, ℕ, Bool, false, List, [], ◌++◌}
use Rattle.std.proofs.Common.{append_assoc, Option, Some, None}
use Rattle.std.specs.Prelude.{IfSome, IsSomeAnd}
use Rattle.std.proofs.lemmas.List.{append-nil}
use Rattle.scq_frames.specs.declared.message.Message.{Message}
use Rattle.scq_band.specs.Exports.{Identity}
use Rattle.scq_queue.specs.Exports.{PassStanding, HeldStanding, after_spent_put, having_seen}
use Rattle.scq_passes.specs.Exports.{Suits, index_of}

-- the pass of a worker that met a ticket past the limit before it retired, and the value that it
-- keeps. `HasFew` says that it has few calls
pub record HasStopped {B : Type 0} (HasFew : PassStanding B → Type 0) (shared : Identity B)
    (p : PassStanding B) (kept : Option (HeldStanding B)) : Type 0 where
  pub spent : (ticket : ℕ) × (p.spent ≡ Some ticket)
  pub few_calls : HasFew p
  pub queue : p.queue ≡ shared
  pub stays : p.retired ≡ None
  pub held : p.held ≡ index_of kept
  pub its : IfSome kept (λ h. h.queue ≡ shared)

-- a put to this ring of the value that it held met a ticket past the limit: that value came back
abbrev pub CameBack : {B : Type 0} → ℕ → HeldStanding B → PassStanding B → PassStanding B
    → Option (HeldStanding B) → Type 0
CameBack ring held old new kept = IsSomeAnd kept (λ k. (k.index ≡ held.index)
    × (k.queue ≡ held.queue)
    × ((ticket : ℕ) × (new ≡ having_seen new.seen (after_spent_put ring ticket old))))

module _ {W B : Type 0} where
  -- it has its number still, and where it wants no memory it wanted none before
  pub record IsStill (pass_of : W → PassStanding B) (starved_of : W → Bool) (old new : W)
      : Type 0 where
    pub fed : starved_of new ≡ false → starved_of old ≡ false
    pub number : (pass_of new).number ≡ (pass_of old).number

  -- behind whatever it had passed on it has passed these messages on, and goes on
  pub record HasGoneOn (pass_of : W → PassStanding B) (starved_of : W → Bool)
      (IsAt : List Message → W → Type 0) (shared : Identity B) (declared : ℕ)
      (messages : List Message) (old new : W) : Type 0 where
    pub suits : Suits shared declared (pass_of new)
    pub stays : (pass_of new).retired ≡ None
    pub work : (before : List Message) → IsAt before old → IsAt (before ++ messages) new
    pub still : IsStill pass_of starved_of old new

  -- where it had passed on those before, it met a ticket past the limit with at most those and
  -- these passed on
  pub record HasStoppedAt (pass_of : W → PassStanding B) (starved_of : W → Bool)
      (IsAt : List Message → W → Type 0)
      (IsOver : List Message → W → Option (HeldStanding B) → Type 0)
      (messages : List Message) (old new : W) (kept : Option (HeldStanding B)) : Type 0 where
    pub left : (before : List Message) → IsAt before old → IsOver (before ++ messages) new kept
    pub still : IsStill pass_of starved_of old new

module _ {W B : Type 0} {pass_of : W → PassStanding B} {starved_of : W → Bool} where
  pub still-along : (u v w : W) → IsStill pass_of starved_of u v → IsStill pass_of starved_of v w
      → IsStill pass_of starved_of u w
  still-along u v w one more =
      record { fed = λ fed. one.fed (more.fed fed); number = more.number ∙ one.number }

module _ {W B : Type 0} (pass_of : W → PassStanding B) (starved_of : W → Bool)
    (IsAt : List Message → W → Type 0) (shared : Identity B) (declared : ℕ) where
  -- it has passed nothing on
  pub gone-none : (w : W) → Suits shared declared (pass_of w) → (pass_of w).retired ≡ None
      → HasGoneOn pass_of starved_of IsAt shared declared [] w w
  gone-none w suits stays = record {
    suits = suits;
    stays = stays;
    work = λ before was. subst (λ (ms : List Message). IsAt ms w) (sym (append-nil before)) was;
    still = record { fed = λ fed. fed; number = refl };
  }

  -- more messages behind these
  pub gone-along : (ms ns : List Message) (u v w : W)
      → HasGoneOn pass_of starved_of IsAt shared declared ms u v
      → HasGoneOn pass_of starved_of IsAt shared declared ns v w
      → HasGoneOn pass_of starved_of IsAt shared declared (ms ++ ns) u w
  gone-along ms ns u v w one more = record {
    suits = more.suits;
    stays = more.stays;
    work = λ before was.
        subst (λ (l : List Message). IsAt l w) (append_assoc before ms ns)
        (more.work (before ++ ms) (one.work before was));
    still = still-along u v w one.still more.still;
  }

  -- it stopped at one of those
  pub gone-stopped : (IsOver : List Message → W → Option (HeldStanding B) → Type 0)
      (ms ns : List Message) (u v w : W) (kept : Option (HeldStanding B))
      → HasGoneOn pass_of starved_of IsAt shared declared ms u v
      → HasStoppedAt pass_of starved_of IsAt IsOver ns v w kept
      → HasStoppedAt pass_of starved_of IsAt IsOver (ms ++ ns) u w kept
  gone-stopped IsOver ms ns u v w kept one more = record {
    left = λ before was.
        subst (λ (l : List Message). IsOver l w kept) (append_assoc before ms ns)
        (more.left (before ++ ms) (one.work before was));
    still = still-along u v w one.still more.still;
  }
