-- What a call found in all, where it gave a message or read the end.
use Rattle.std.proofs.Common.{◌≡◌, ◌≢◌, ℕ, ◌+◌, ◌≤◌, Bool, true, false, Option, Some, None, Ok, Err, List, [], ◌∷◌, ◌++◌, length, take, map, refl, sym, ◌∙◌, ap, subst, arith, length-append}
use Rattle.std.specs.Prelude.{IsTrue, sum_by}
use Rattle.std.proofs.lemmas.Bool.{true≢false}
use Rattle.std.proofs.lemmas.List.{append_assoc}
use Rattle.scq_frames.specs.Exports.{EndsAt, HasNoLineFeed, MayFollow, Fetched, Finds, IsTooLong, payload_of, weight_of, Comes, IsNeeded, Found, counted_ahead}
use Rattle.scq_frames.specs.declared.fault.FrameFault.{FrameFault}
use Rattle.scq_frames.specs.declared.fault.FrameFault.TheVariants.{ReadFault, TooLong, TooLarge, NoMemory}
use Rattle.scq_frames.proofs.CutLemmas.{bare}
use Rattle.std.specs.Option.{option_to_list}
use Rattle.scq_frames.specs.Framing.{Framing}
use Rattle.scq_frames.specs.declared.message.Message.{Message}
use Rattle.scq_frames.proofs.AheadLemmas.{Passed, PassedLast, last-kept, no_line}
use Rattle.scq_frames.proofs.FindingLemmas.{Gave, Gave-fetched, Refuses, moved-moved, trouble-line, Finds-none, Finds-last, Finds-long, Finds-long_last, Finds-read_err}
use Rattle.scq_frames.proofs.ComingLemmas.{Quiet, Comes-none, Comes-long, Comes-long_last, Comes-read_err, needed-fetched, long_same, none_came, none_whole}

module _ (number : List ℕ → ℕ) where
  -- where the end gave nothing, nothing was held
  none_held : (old new : Framing) (given : Option Message) → PassedLast number old new given → given ≡ None → old.held ≡ []
  none_held old new given p none = no_line number (old.line + 1) old.file old.held (sym (ap option_to_list none) ∙ p.gave)

  -- a message was passed: what the source gave so far is found in the call
  pub Found-line : (first old new : Framing) (before after : Option (List ℕ)) (len : ℕ) (given : Option Message) (m : Message)
      (g : Gave first old before after) → Quiet first old g.bytes
      → Passed number old new len given → old.read ≤ old.most → given ≡ Some m → Found first new before after (Ok (Some m))
  Found-line first old new before after len given m g q p within some =
      let line = trouble-line first old g.bytes len (old.weight + sum_by weight_of (option_to_list given)) g.trouble p.ends within p.fits in
      subst (λ (f : Framing). Found first f before after (Ok (Some m))) (sym p.after)
      (record { bytes = g.bytes; count = g.count; moved = g.moved; idle = g.idle; needed = q.needed; finds = line; comes = tt })

  -- the end was read, with the last line or without one
  pub Found-last : (first old new : Framing) (before after : Option (List ℕ)) (given : Option Message) (g : Gave first old before after)
      → Quiet first old g.bytes → PassedLast number old new given
      → old.read ≤ old.most → length (payload_of old.held) ≤ old.size → Found first new before after (Ok given)
  Found-last first old new before after None g q p within fits = record {
    bytes = g.bytes;
    count = (last-kept number old new None p).1 ∙ g.count;
    moved = g.moved;
    idle = g.idle;
    needed = q.needed;
    finds = Finds-none first old new before after g p.clear within fits;
    comes = Comes-none first old new g.bytes q p.clear within (none_held old new None p refl);
  }
  Found-last first old new before after (Some m) g q p within fits = record {
    bytes = g.bytes;
    count = (last-kept number old new (Some m) p).1 ∙ g.count;
    moved = g.moved;
    idle = g.idle;
    needed = q.needed;
    finds = Finds-last first old new before after m g p.clear within fits (ap (λ (f : Framing). f.ended) p.some ∙ p.ended) (ap (λ (f : Framing). f.held) p.some)
        (subst (λ (f : Framing). f.read ≤ f.most) (sym p.some) within);
    comes = tt;
  }

-- what the source gave so far is found in a call that ends with a fault
Found-fault : {first now : Framing} {before after : Option (List ℕ)} (fault : FrameFault) (g : Gave first now before after) → IsNeeded first g.bytes
    → Finds first now g.bytes (Err fault) → Comes first now g.bytes (Err fault) → Found first now before after (Err fault)
Found-fault fault g needed finds comes = record {
  bytes = g.bytes;
  count = g.count;
  moved = g.moved;
  idle = g.idle;
  needed = needed;
  finds = finds;
  comes = comes;
}

module _ {first now : Framing} {before after : Option (List ℕ)} (g : Gave first now before after) (q : Quiet first now g.bytes) where
  -- a line is too long
  pub Found-long : (len at count : ℕ) → EndsAt now.held len → now.read ≤ now.most → IsTooLong now.size (now.line + 1) (take len now.held) at count
      → Found first now before after (Err (TooLong at count))
  Found-long len at count ends within long =
      Found-fault (TooLong at count) g q.needed (Finds-long first now now before after len at count g ends within long)
      (Comes-long first now now len at count g.bytes q ends within (λ h. h) long)

  -- the last one is
  pub Found-long_last : (at count : ℕ) → HasNoLineFeed now.held 0 (length now.held) → now.read ≤ now.most → IsTrue now.ended
      → IsTooLong now.size (now.line + 1) now.held at count → Found first now before after (Err (TooLong at count))
  Found-long_last at count clear within ended long =
      Found-fault (TooLong at count) g q.needed (Finds-long_last first now now before after at count g clear within long)
      (Comes-long_last first now now at count g.bytes q clear within ended long)

  pub Found-memory : Found first now before after (Err NoMemory)
  Found-memory = Found-fault NoMemory g q.needed tt tt

-- a read was refused
pub Found-read_err : (first old new : Framing) (before mid after : Option (List ℕ)) (fault : FrameFault) (g : Gave first old before mid)
    → Quiet first old g.bytes → Fetched old new mid after → HasNoLineFeed old.held 0 (length old.held) → first.ended ≡ false → old.ended ≡ false
    → old.read ≤ old.most → new.read ≤ old.read + 4096 → new ≡ record old { held = new.held; read = new.read; ended = new.ended }
    → Refuses old new fault → Found first new before after (Err fault)
Found-read_err first old new before mid after fault g q fetched clear began going within few same why =
    Found-fault fault (Gave-fetched first old new before mid after g fetched began going within same)
    (needed-fetched first old new mid after g.bytes q fetched clear going within few)
    (Finds-read_err first old new before mid after fault g fetched clear within going same why)
    (Comes-read_err first old new mid after fault g.bytes q fetched clear within going same why)

-- nothing came while no line was whole
none_early : (old : Framing) (early bytes last : List ℕ) → bytes ≡ early ++ last → (bytes ≢ [] → counted_ahead old true early ≡ [])
    → HasNoLineFeed old.held 0 (length old.held)
    → old.read ≤ old.most → counted_ahead old true early ≡ []
none_early old [] bytes last parts none clear within = none_whole old clear within
none_early old (b ∷ early) bytes last parts none clear within = none (λ is. cc)

-- what an answer says of what came since an earlier moment of the call it says of the whole call
module _ (first old new : Framing) (before mid after : Option (List ℕ)) (g : Gave first old before mid) (q : Quiet first old g.bytes)
    (going : old.ended ≡ false) where
  begun : {failed : Bool} {more : List ℕ} → MayFollow old failed more
  begun h = absurd (true≢false (sym h ∙ going))

  Finds-later : (fault : FrameFault) (bytes : List ℕ) → Finds old new bytes (Err fault) → Finds first new (g.bytes ++ bytes) (Err fault)
  Finds-later ReadFault bytes finds = g.trouble true bytes begun ∙ finds
  Finds-later (TooLong line len) bytes finds = g.trouble false bytes begun ∙ finds
  Finds-later (TooLarge count) bytes finds = g.trouble false bytes begun ∙ finds
  Finds-later NoMemory bytes finds = tt

  Comes-later : (fault : FrameFault) (bytes : List ℕ) → Comes old new bytes (Err fault) → Comes first new (g.bytes ++ bytes) (Err fault)
  Comes-later ReadFault bytes comes = none_came first old g.bytes bytes true q going comes
  Comes-later (TooLong line len) bytes comes = λ failed more may.
      long_same line len (counted_ahead first failed ((g.bytes ++ bytes) ++ more)) (counted_ahead old failed (bytes ++ more))
      (ap (λ (l : List ℕ). map bare (counted_ahead first failed l)) (append_assoc g.bytes bytes more) ∙ q.same failed (bytes ++ more) begun)
      (comes failed more may)
  Comes-later (TooLarge count) bytes comes = none_came first old g.bytes bytes false q going comes
  Comes-later NoMemory bytes comes = tt

  pub Found-later : (fault : FrameFault) → Found old new mid after (Err fault) → (IsTrue first.ended → IsTrue old.ended)
      → HasNoLineFeed old.held 0 (length old.held) → old.read ≤ old.most
      → Found first new before after (Err fault)
  Found-later fault f stays clear within = record {
    bytes = g.bytes ++ f.bytes;
    count = omega (arith, g.count, f.count, length-append g.bytes f.bytes);
    moved = moved-moved g.bytes f.bytes before mid after g.moved f.moved;
    idle = λ h. absurd (true≢false (sym (stays h) ∙ going));
    needed =
        record {
          early = g.bytes ++ f.needed.early;
          last = f.needed.last;
          parts = ap (λ (l : List ℕ). g.bytes ++ l) f.needed.parts ∙ sym (append_assoc g.bytes f.needed.early f.needed.last);
          most = f.needed.most;
          none = λ _. none_came first old g.bytes f.needed.early true q going
              (none_early old f.needed.early f.bytes f.needed.last f.needed.parts f.needed.none clear within);
        };
    finds = Finds-later fault f.bytes f.finds;
    comes = Comes-later fault f.bytes f.comes;
  }
