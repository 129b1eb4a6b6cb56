-- What a framer keeps while it looks for the next message.
use Rattle.std.proofs.Common.{◌≡◌, ℕ, ◌+◌, ◌≤◌, true, false, Option, None, List, [], ◌++◌, length, take, drop, refl, sym, ◌∙◌, ap, subst, add-zero, arith, length-drop}
use Rattle.std.specs.Prelude.{IsTrue, sum_by}
use Rattle.std.specs.Option.{option_map, option_to_list}
use Rattle.std.proofs.lemmas.Bool.{true≢false}
use Rattle.scq_frames.specs.Exports.{HasNoLineFeed, message_in, numbered, IsTrimmed, Fetched, NothingLeft, SameTrouble, visible_ahead, visible_size, weight_of}
use Rattle.scq_frames.proofs.AheadLemmas.{Passed, gives-line, no_line, option_map-nothing}
use Rattle.scq_frames.proofs.FindingLemmas.{Gave, Gave-start, Gave-fetched, trouble-line}
use Rattle.scq_frames.proofs.ComingLemmas.{Quiet, Quiet-start, Quiet-line, Quiet-fetched}
use Rattle.scq_frames.proofs.CutLemmas.{Overlooks}
use Rattle.scq_frames.proofs.TrimLemmas.{length-trimmed, visible_ahead-trimmed, trouble_ahead-trimmed, counted_ahead-trimmed}
use Rattle.scq_frames.proofs.EndLemmas.{began-going}
use Rattle.scq_frames.specs.Framing.{Framing}
use Rattle.scq_frames.specs.declared.message.Message.{Message}

module _ (number : List ℕ → ℕ) where
  -- no message was given since the call began
  pub record Searches {S : Type 0} (left : S → Option (List ℕ)) (faults : S → ℕ) (first now : Framing) (source after : S) : Type 0 where
    pub file : now.file ≡ first.file
    pub payload : now.size ≡ first.size
    pub most : now.most ≡ first.most
    pub failing : now.failed ≡ true
    pub ahead : visible_ahead number first (left source) ≡ visible_ahead number now (left after)
    pub size : visible_size now (left after) ≡ visible_size first (left source)
    pub end : (IsTrue first.ended → NothingLeft (left source)) → IsTrue now.ended → NothingLeft (left after)
    pub ended : IsTrue first.ended → (after ≡ source) × IsTrue now.ended
    pub line : first.line ≤ now.line
    pub weight : now.weight ≡ first.weight
    pub within : now.read ≤ now.most
    pub short : length now.held ≤ now.size + 4130
    pub kept : faults after ≡ faults source
    pub empty : IsTrue first.ended → first.held ≡ [] → now.held ≡ []
    pub found : Gave first now (left source) (left after)
    pub quiet : Quiet first now found.bytes

  -- a call begins
  pub Searches-start : {S : Type 0} (left : S → Option (List ℕ)) (faults : S → ℕ) (first now : Framing) (source : S) → now ≡ record first { failed = true }
      → first.read ≤ first.most
      → length first.held ≤ first.size + 4130 → Searches left faults first now source source
  Searches-start left faults first now source same within short = subst (λ (f : Framing). Searches left faults first f source source) (sym same) (record {
    file = refl;
    payload = refl;
    most = refl;
    failing = refl;
    ahead = refl;
    size = refl;
    end = λ end. end;
    ended = λ h. (refl, h);
    line = omega arith;
    weight = refl;
    within = within;
    short = short;
    kept = refl;
    empty = λ _ none. none;
    found = Gave-start first (record first { failed = true }) (left source) (λ failed more. refl) refl;
    quiet = Quiet-start first (record first { failed = true }) (λ failed more. refl);
  })

  -- nothing was read, and the search goes on
  Searches-held : {S : Type 0} (left : S → Option (List ℕ)) (faults : S → ℕ) (first old : Framing) (source after : S) (line weight : ℕ)
      (held : List ℕ) (s : Searches left faults first old source after) → let new = record old { line = line; held = held; weight = weight } in
      visible_ahead number first (left source) ≡ visible_ahead number new (left after) → first.line ≤ line → weight ≡ first.weight
      → length held ≤ length old.held → (IsTrue first.ended → first.held ≡ [] → held ≡ []) → SameTrouble first new s.found.bytes
      → Quiet first new s.found.bytes → Searches left faults first new source after
  Searches-held left faults first old source after line weight held s ahead rises same fewer empty trouble quiet = record {
    file = s.file;
    payload = s.payload;
    most = s.most;
    failing = s.failing;
    ahead = ahead;
    size = s.size;
    end = s.end;
    ended = s.ended;
    line = rises;
    weight = same;
    within = s.within;
    short = omega (arith, s.short, fewer);
    kept = s.kept;
    empty = empty;
    found = record { bytes = s.found.bytes; count = s.found.count; moved = s.found.moved; idle = s.found.idle; trouble = trouble };
    quiet = quiet;
  }

  -- an empty line was passed
  pub Searches-line : {S : Type 0} (left : S → Option (List ℕ)) (faults : S → ℕ) (first old new : Framing) (source after : S) (len : ℕ) (given : Option Message)
      → Searches left faults first old source after → Passed number old new len given → given ≡ None → Searches left faults first new source after
  Searches-line left faults first old new source after len given s passed none =
      let nothing : option_to_list given ≡ [] = ap option_to_list none in
      let weight : ℕ = old.weight + sum_by weight_of (option_to_list given) in
      let same : (visible : Option (List Message)) → option_map (λ rest. option_to_list given ++ rest) visible ≡ visible =
      λ visible. ap (λ (ms : List Message). option_map (λ rest. ms ++ rest) visible) nothing ∙ option_map-nothing visible in
      let blank : message_in (old.line + 1) (take len old.held) ≡ [] =
      ap (message_in (old.line + 1)) (no_line number (old.line + 1) old.file (take len old.held) (sym nothing ∙ passed.gave)) in
      subst (λ (f : Framing). Searches left faults first f source after) (sym passed.after)
      (Searches-held left faults first old source after (old.line + 1) weight (drop (len + 1) old.held) s
      (gives-line number first old new (left source) (left after) len given s.ahead passed ∙ same _
      ∙ ap (λ (f : Framing). visible_ahead number f (left after)) passed.after)
      (omega (arith, s.line)) (ap (λ ms. old.weight + sum_by weight_of ms) nothing ∙ add-zero old.weight ∙ s.weight)
      (omega (arith, length-drop (len + 1) old.held)) (λ ended none. absurd (omega (arith, passed.ends.within, ap length (s.empty ended none))))
      (trouble-line first old s.found.bytes len weight s.found.trouble passed.ends s.within passed.fits)
      (Quiet-line first old s.found.bytes len weight s.quiet passed.ends s.within blank))

  -- the topic of a line that has not ended was cut
  pub Searches-trim : {S : Type 0} (left : S → Option (List ℕ)) (faults : S → ℕ) (first old new : Framing) (source after : S)
      → Searches left faults first old source after → IsTrimmed 33 old.held new.held → HasNoLineFeed old.held 0 (length old.held) → old.ended ≡ false
      → Overlooks 33 (numbered old.file number) → new ≡ record old { held = new.held } → Searches left faults first new source after
  Searches-trim left faults first old new source after s trimmed clear going over same =
      subst (λ (f : Framing). Searches left faults first f source after) (sym same)
      (Searches-held left faults first old source after old.line old.weight new.held s
      (s.ahead ∙ visible_ahead-trimmed old new.held 33 (omega arith) trimmed clear number over (left after)) s.line s.weight
      (length-trimmed 33 old.held new.held trimmed) (λ h _. absurd (true≢false (sym (s.ended h).1 ∙ going)))
      (λ failed more may. s.found.trouble failed more may ∙ trouble_ahead-trimmed old new.held 33 (omega arith) trimmed clear s.within failed more)
      (record {
        same = λ failed more may. s.quiet.same failed more may
            ∙ counted_ahead-trimmed old new.held 33 (omega arith) trimmed clear s.within failed more;
        needed = s.quiet.needed;
      }))

  -- something was read, and the search goes on
  pub Searches-read : {S : Type 0} (left : S → Option (List ℕ)) (faults : S → ℕ) (first old new : Framing) (source mid after : S)
      → Searches left faults first old source mid → old.ended ≡ false → new ≡ record old { held = new.held; read = new.read; ended = new.ended }
      → visible_ahead number old (left mid) ≡ visible_ahead number new (left after) → visible_size new (left after) ≡ visible_size old (left mid)
      → (IsTrue new.ended → NothingLeft (left after)) → new.read ≤ new.most → faults after ≡ faults mid → Fetched old new (left mid) (left after)
      → HasNoLineFeed old.held 0 (length old.held) → new.read ≤ old.read + 4096 → length new.held ≤ new.size + 4130
      → Searches left faults first new source after
  Searches-read left faults first old new source mid after s going same ahead size end within kept fetched clear few short = record {
    file = ap (λ (f : Framing). f.file) same ∙ s.file;
    payload = ap (λ (f : Framing). f.size) same ∙ s.payload;
    most = ap (λ (f : Framing). f.most) same ∙ s.most;
    failing = ap (λ (f : Framing). f.failed) same ∙ s.failing;
    ahead = s.ahead ∙ ahead;
    size = size ∙ s.size;
    end = λ _. end;
    ended = λ h. absurd (true≢false (sym (s.ended h).1 ∙ going));
    line = subst (λ (n : ℕ). first.line ≤ n) (sym (ap (λ (f : Framing). f.line) same)) s.line;
    weight = ap (λ (f : Framing). f.weight) same ∙ s.weight;
    within = within;
    short = short;
    kept = kept ∙ s.kept;
    empty = λ h _. absurd (true≢false (sym (s.ended h).1 ∙ going));
    found = Gave-fetched first old new (left source) (left mid) (left after) s.found fetched
        (began-going _ _ (λ h. (s.ended h).1) going) going s.within same;
    quiet = Quiet-fetched first old new (left mid) (left after) s.found.bytes s.quiet fetched clear going s.within few same;
  }
