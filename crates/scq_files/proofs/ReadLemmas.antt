-- How the answers of a framer add up to what is known of its file: the messages that it gave, and how its reading ended.
use Rattle.std.proofs.Common.{◌≡◌, ◌≢◌, ◌∙◌, refl, sym, ap, subst, arith, rules, Bool, true, false, ℕ, zero, suc, ◌+◌, ◌<◌, ◌≤◌, ◌^◌, List, [], ◌∷◌, ◌++◌, Option, Some, None, Result, Ok, Err, length, map, append_assoc}
use Rattle.std.specs.Prelude.{IfSome, IsTrue, All, slice_index_or, sum_by}
use Rattle.std.proofs.lemmas.List.Elements.{All-nil, All-push}
use Rattle.std.specs.Option.{option_map}
use Rattle.std.proofs.lemmas.Bool.{true≢false}
use Rattle.std.proofs.lemmas.List.{append-nil, length-append, length-map}
use Rattle.std.proofs.lemmas.List.Sums.{sum_by-append}
use Rattle.scq_outside.specs.Exports.{Rose}
use Rattle.scq_topics.specs.declared.kind.Kind.{Kind}
use Rattle.scq_topics.specs.Exports.{topic_of}
use Rattle.scq_frames.specs.declared.message.Message.{Message}
use Rattle.scq_frames.specs.Exports.{messages_of, numbered, EndsOnce, IsNext, NothingLeft, fresh, visible_ahead, visible_size, Found}
use Rattle.scq_frames.specs.declared.fault.FrameFault.{FrameFault}
use Rattle.scq_frames.specs.declared.fault.FrameFault.TheVariants.{ReadFault, TooLong, TooLarge, NoMemory}
use Rattle.scq_frames.specs.Framing.{Framing}
use Rattle.scq_frames.proofs.FindingLemmas.{Gave, Gave-found, Found-gave}
use Rattle.scq_frames.proofs.Judging.{if-visible, judged-end, judged-fault, judged-long, sized}
use Rattle.scq_files.specs.Exports.{StopsAtFaults, AreOf, EndsSo, IsRead, most_parts, SourceOf, IsNew, given_in}
use Rattle.scq_files.specs.declared.own_file.OwnFile.{OwnFile}
use Rattle.scq_files.specs.declared.own_file.FileEnd.{FileEnd}
use Rattle.scq_files.specs.declared.own_file.FileEnd.TheVariants.{Unread, Whole, Stopped}

-- these messages were given of those that were ahead before
pub record WereGivenOf (before ahead : Option (List Message)) (given : List Message) : Type 0 where
  pub visible : before ≡ option_map (λ rest. given ++ rest) ahead

-- two fronts are one
fronts : (given : List Message) (m : Message) (o : Option (List Message)) →
    option_map (λ rest. given ++ rest) (option_map (λ rest. (m ∷ []) ++ rest) o) ≡ option_map (λ rest. (given ++ m ∷ []) ++ rest) o
fronts given m None = refl
fronts given m (Some rest) = ap Some (sym (append_assoc given (m ∷ []) rest))

-- one message more was given
pub given-next : (before ahead after : Option (List Message)) (given given' : List Message) (m : Message) → WereGivenOf before ahead given
    → ahead ≡ option_map (λ rest. (m ∷ []) ++ rest) after → given' ≡ given ++ m ∷ [] → WereGivenOf before after given'
given-next before ahead after given given' m g next more = record {
  visible = g.visible ∙ ap (option_map (λ rest. given ++ rest)) next ∙ fronts given m after
      ∙ ap (λ (front : List Message). option_map (λ rest. front ++ rest) after) (sym more);
}

-- all were given once none is ahead
pub given-all : (topics : List (List ℕ × Kind)) (size file : ℕ) (content left : Option (List ℕ)) (ahead : Option (List Message)) (given : List Message)
    → WereGivenOf (visible_ahead (topic_of topics) (fresh file size (2 ^ 30)) content) ahead given → ahead ≡ option_map (λ _. []) left
    → IfSome content (λ content. given ≡ map (numbered file (topic_of topics)) (messages_of content))
given-all topics size file None left ahead given g none = tt
given-all topics size file (Some content) left ahead given g none =
    all left (g.visible ∙ ap (option_map (λ rest. given ++ rest)) none)
  where
    ms : List Message
    ms = map (numbered file (topic_of topics)) (messages_of content)

    all : (left : Option (List ℕ)) → Some ms ≡ option_map (λ rest. given ++ rest) (option_map (λ _. []) left) → given ≡ ms
    all None e = cc
    all (Some rest) e = sym (append-nil given) ∙ cc

-- messages of a file whose lines rise from above one line up to another at most
abbrev pub AreOfUpTo : ℕ → ℕ → ℕ → ℕ → List Message → Type 0
AreOfUpTo known file line last [] = line ≤ last
AreOfUpTo known file line last (m ∷ ms) = (m.file ≡ file) × (line < m.line) × (m.topic ≤ known) × AreOfUpTo known file m.line last ms

pub of-up_to : (known file line last : ℕ) (ms : List Message) → AreOfUpTo known file line last ms → AreOf known file line ms
of-up_to known file line last [] of = tt
of-up_to known file line last (m ∷ ms) of = (of.0, of.1, of.2, of-up_to known file m.line last ms of.3)

-- one message more, above the last line
pub of-more : (known file line last : ℕ) (ms : List Message) (m : Message) → AreOfUpTo known file line last ms → m.file ≡ file → last < m.line → m.topic ≤ known
    → AreOfUpTo known file line m.line (ms ++ m ∷ [])
of-more known file line last [] m of same above low = (same, omega (arith, of, above), low, omega arith)
of-more known file line last (x ∷ ms) m of same above low = (of.0, of.1, of.2, of-more known file x.line last ms m of.3 same above low)

-- the end of a source was answered at most once since its reading began, and so it is after one answer more of its framer
once-along : (mid is : Bool) (start between after : ℕ) → (IsTrue mid → IsTrue is) → EndsOnce false mid start between → EndsOnce mid is between after
    → EndsOnce false is start after
once-along false is start between after stays one two =
    let same : between ≡ start = one.going refl in
    record {
      rose = λ _ ended. subst (λ (n : ℕ). Rose n after) same (two.rose refl ended);
      going = λ goes. two.going goes ∙ same;
      over = λ over. absurd (cc);
    }
once-along true is start between after stays one two =
    let same : after ≡ between = two.over refl in
    record {
      rose = λ _ _. subst (Rose start) (sym same) (one.rose refl refl);
      going = λ goes. absurd (true≢false (sym (stays refl) ∙ goes));
      over = λ over. absurd (cc);
    }

-- a file is being read: so far its source gave what the framer has, and that had no trouble
pub record FileIsBeingRead {S : Type 0} (topics : List (List ℕ × Kind)) (size : ℕ) (src : SourceOf S) (file : ℕ) (start now : S)
    (framer : Framing) (given : List Message) : Type 0 where
  pub ahead : WereGivenOf (visible_ahead (topic_of topics) (fresh file size (2 ^ 30)) (src.left start)) (visible_ahead (topic_of topics) framer (src.left now)) given
  pub all : AreOfUpTo (length topics) file 0 framer.line given
  pub short : All (λ m. length m.payload ≤ size) given
  pub number : framer.file ≡ file
  pub gave : Gave (fresh file size (2 ^ 30)) framer (src.left start) (src.left now)
  pub going : framer.failed ≡ false
  pub payload : framer.size ≡ size
  pub most : framer.most ≡ 2 ^ 30
  pub bounded : framer.weight ≤ 2 ^ 30 + 1
  pub few : sum_by most_parts given + length given ≤ framer.weight
  pub end : IsTrue framer.ended → NothingLeft (src.left now)
  pub size_same : visible_size framer (src.left now) ≡ visible_size (fresh file size (2 ^ 30)) (src.left start)
  pub once : EndsOnce false framer.ended (src.ends start) (src.ends now)
  pub kept : src.faults now ≡ src.faults start

-- what each answer of a framer says of it and of its source
pub record Answers {S : Type 0} (src : SourceOf S) (before now : S) (old new : Framing) : Type 0 where
  pub file : new.file ≡ old.file
  pub payload : new.size ≡ old.size
  pub most : new.most ≡ old.most
  pub bounded : new.weight ≤ new.most + 1
  pub end : (IsTrue old.ended → NothingLeft (src.left before)) → IsTrue new.ended → NothingLeft (src.left now)
  pub stays : IsTrue old.ended → IsTrue new.ended
  pub size_same : visible_size new (src.left now) ≡ visible_size old (src.left before)
  pub once : EndsOnce old.ended new.ended (src.ends before) (src.ends now)

none-given : (o : Option (List Message)) → o ≡ option_map (λ rest. [] ++ rest) o
none-given None = refl
none-given (Some ms) = refl

-- before the first message
pub reading-first : {S : Type 0} (topics : List (List ℕ × Kind)) (size : ℕ) (src : SourceOf S) (file : ℕ) (start : S)
    → FileIsBeingRead topics size src file start start (fresh file size (2 ^ 30)) []
reading-first topics size src file start = record {
  ahead = record { visible = none-given (visible_ahead (topic_of topics) (fresh file size (2 ^ 30)) (src.left start)) };
  all = omega arith;
  short = All-nil (λ (m : Message). length m.payload ≤ size);
  number = refl;
  gave = search rules;
  going = refl;
  payload = refl;
  most = refl;
  bounded = omega arith;
  few = omega arith;
  end = λ over. absurd (cc);
  size_same = refl;
  once = record { rose = λ _ over. absurd (cc); going = λ _. refl; over = λ over. absurd (cc) };
  kept = refl;
}

-- it gave a message more
pub reading-next : {S : Type 0} (topics : List (List ℕ × Kind)) (size : ℕ) (src : SourceOf S) (file : ℕ) (start before now : S)
    (old new : Framing) (given given' : List Message) (m : Message) → FileIsBeingRead topics size src file start before old given → Answers src before now old new
    → visible_ahead (topic_of topics) old (src.left before) ≡ option_map (λ rest. (m ∷ []) ++ rest) (visible_ahead (topic_of topics) new (src.left now))
    → IsNext (length topics) old new m → Found old new (src.left before) (src.left now) (Ok (Some m)) → new.failed ≡ false
    → src.faults now ≡ src.faults before → given' ≡ given ++ m ∷ [] → FileIsBeingRead topics size src file start now new given'
reading-next topics size src file start before now old new given given' m r said gives next found going kept grown =
    let first = fresh file size (2 ^ 30) in
    let all = Gave-found first old new (src.left start) (src.left before) (src.left now) (Ok (Some m)) r.gave found (λ h. absurd (cc)) said.stays (λ e. absurd (cc)) in
    let O : List Message → Type 0 = λ ms. AreOfUpTo (length topics) file 0 new.line ms in
    let of = of-more (length topics) file 0 old.line given m r.all (next.file ∙ r.number) next.above next.topic in
    let long : length given' ≡ length given + 1 = ap length grown ∙ length-append given (m ∷ []) in
    let alone : sum_by most_parts (m ∷ []) ≡ most_parts m = omega arith in
    let spread : sum_by most_parts given' ≡ sum_by most_parts given + most_parts m =
    ap (sum_by most_parts) grown ∙ sum_by-append most_parts given (m ∷ []) ∙ ap (λ (n : ℕ). sum_by most_parts given + n) alone in
    record {
      ahead = given-next _ _ (visible_ahead (topic_of topics) new (src.left now)) _ _ m r.ahead gives grown;
      all = subst O (sym grown) (subst (λ n. AreOfUpTo (length topics) file 0 n (given ++ m ∷ [])) (sym next.line) of);
      short = subst (All (λ (x : Message). length x.payload ≤ size)) (sym grown)
          (All-push (λ (x : Message). length x.payload ≤ size) given m r.short (omega (arith, next.fits, r.payload)));
      number = said.file ∙ r.number;
      gave = Found-gave first new (src.left start) (src.left now) m all;
      going = going;
      payload = said.payload ∙ r.payload;
      most = said.most ∙ r.most;
      bounded = omega (arith, said.bounded, said.most, r.most);
      few = omega (arith, r.few, next.weight, long, spread);
      end = said.end r.end;
      size_same = said.size_same ∙ r.size_same;
      once = once-along old.ended new.ended _ _ _ said.stays r.once said.once;
      kept = kept ∙ r.kept;
    }

-- the messages that were given have so few parts
few-given : (given : List Message) (weight : ℕ) → sum_by most_parts given + length given ≤ weight → weight ≤ 2 ^ 30 + 1
    → sum_by most_parts given ≤ 2 ^ 30
few-given [] weight few bounded = omega arith
few-given (m ∷ ms) weight few bounded = omega arith

-- it was read to its end
pub reading-whole : {S : Type 0} (topics : List (List ℕ × Kind)) (size : ℕ) (src : SourceOf S) (file : ℕ) (start before now : S)
    (old new : Framing) (given : List Message) → FileIsBeingRead topics size src file start before old given → Answers src
    before now old new
    → visible_ahead (topic_of topics) old (src.left before) ≡ option_map (λ _. []) (src.left before) → Found old new (src.left before) (src.left now) (Ok None)
    → IsTrue new.ended → src.faults now ≡ src.faults before → IsRead topics size src file start now given Whole
reading-whole topics size src file start before now old new given r said none found over kept = record {
  ends = record {
    judged = judged-end size file new (src.left start) (src.left now)
        (Gave-found (fresh file size (2 ^ 30)) old new (src.left start) (src.left before) (src.left now) (Ok None) r.gave found (λ h. absurd (cc)) said.stays
        (λ e. absurd (cc)));
    ended = said.end r.end over;
    once = (once-along old.ended new.ended _ _ _ said.stays r.once said.once).rose refl over;
    kept = kept ∙ r.kept;
  };
  gave = given-all topics size file (src.left start) (src.left before) _ given r.ahead none;
  all = of-up_to (length topics) file 0 old.line given r.all;
  short = r.short;
  few = few-given given old.weight r.few r.bounded;
}

-- it was read up to a fault
pub reading-fault : {S : Type 0} (topics : List (List ℕ × Kind)) (size : ℕ) (src : SourceOf S) (file : ℕ) (start before now : S)
    (old new : Framing) (given : List Message) (fault : FrameFault) → FileIsBeingRead topics size src file start before old given → Answers src before now old new
    → Found old new (src.left before) (src.left now) (Err fault) → (fault ≡ ReadFault → Rose (src.faults before) (src.faults now)) → (fault ≡ ReadFault → old.ended ≡ false)
    → (fault ≢ ReadFault → src.faults now ≡ src.faults before) → ((line len : ℕ) → fault ≡ TooLong line len → (old.line < line) × (old.size < len))
    → ((n : ℕ) → fault ≡ TooLarge n → (n ≡ new.most + 1) × (new.read ≡ n)) → IsRead topics size src file start now given (Stopped fault)
reading-fault {S} topics size src file start before now old new given fault r said found rose going kept long large =
    let all = Gave-found (fresh file size (2 ^ 30)) old new (src.left start) (src.left before) (src.left now) (Err fault) r.gave found (λ h. absurd (cc)) said.stays
    (λ e. going (fault-is fault (Err fault) refl e)) in
    let many : (n : ℕ) → fault ≡ TooLarge n → (n ≡ 2 ^ 30 + 1) × (option_map length (src.left start) ≡ option_map (λ rest. n + length rest) (src.left now)) = λ n e.
    let its = large n e in
    (omega (arith, its.0, said.most, r.most), sized n new.read (src.left start) (src.left now) its.1 (said.size_same ∙ r.size_same)) in
    record {
      ends = record {
        judged = judged-fault size file new (src.left start) (src.left now) fault all (λ n e. let its = many n e in (omega (arith, its.0), its.1))
            (λ line len e.
            let its = long line len e in
            let F : FrameFault → Type 0 = λ x. Found old new (src.left before) (src.left now) (Err x) in
            judged-long size file old new (src.left start) (src.left before) (src.left now) line len r.gave (subst F e found) its.1 said.stays (said.end r.end));
        rose = λ e. subst (λ n. Rose n (src.faults now)) r.kept (rose e);
        kept = λ other. kept other ∙ r.kept;
        long = λ line len e. let its = long line len e in (omega (arith, its.0), omega (arith, its.1, r.payload));
        large = many;
      };
      gave = tt;
      all = of-up_to (length topics) file 0 old.line given r.all;
      short = r.short;
      few = few-given given old.weight r.few r.bounded;
    } where
      fault-is : (x : FrameFault) (r : Result (Option Message) FrameFault) → r ≡ Err x → r ≡ Err ReadFault → x ≡ ReadFault
      fault-is x r is e = cc

-- its worker leaves it
pub reading-left : {S : Type 0} (topics : List (List ℕ × Kind)) (size : ℕ) (src : SourceOf S) (file : ℕ) (start now : S)
    (framer : Framing) (given : List Message) → FileIsBeingRead topics size src file start now framer given
    → IsRead topics size src file start now given (Stopped NoMemory)
reading-left topics size src file start now framer given r = record {
  ends = record {
    judged = record { bytes = r.gave.bytes; moved = r.gave.moved; judges = if-visible (src.left now) _ (λ rest e. tt) };
    rose = λ e. absurd (cc);
    kept = λ other. r.kept;
    long = λ line len e. absurd (cc);
    large = λ n e. absurd (cc);
  };
  gave = tt;
  all = of-up_to (length topics) file 0 framer.line given r.all;
  short = r.short;
  few = few-given given framer.weight r.few r.bounded;
}

-- a file that isn't read yet
pub reading-unread : {S : Type 0} (topics : List (List ℕ × Kind)) (size : ℕ) (src : SourceOf S) (f : OwnFile S) → IsNew f
    → IsRead topics size src f.number f.was.value f.source (given_in f.given.value) f.end
reading-unread topics size src f new =
    subst (λ (end : FileEnd). IsRead topics size src f.number f.was.value f.source (given_in f.given.value) end) (sym new.end)
    (subst (λ (ms : List Message). IsRead topics size src f.number f.was.value f.source ms Unread) (sym new.given)
    (record { ends = new.source; gave = refl; all = tt; short = All-nil (λ (m : Message). length m.payload ≤ size); few = omega arith }))

-- where no source was read, none was read behind another
unread-each : {S : Type 0} (sources : List S) (k : ℕ) (e : FileEnd) → k < length sources
    → slice_index_or (map (λ (source : S). Unread) sources) k e ≡ Unread
unread-each [] k e less = absurd (omega arith)
unread-each (x ∷ xs) zero e less = refl
unread-each (x ∷ xs) (suc k) e less = unread-each xs k e (omega arith)

pub stops-unread : {S : Type 0} (workers size : ℕ) (src : SourceOf S) (olds news : List S) → news ≡ olds → StopsAtFaults workers size src olds news
stops-unread {S} workers size src olds news same = record {
  end_of = map (λ (source : S). Unread) olds;
  count = length-map olds (λ (source : S). Unread);
  ends = λ k d e less.
      subst (EndsSo size src (slice_index_or olds k d) (slice_index_or news k d)) (sym (unread-each olds k e less))
      (ap (λ (xs : List S). slice_index_or xs k d) same);
  stops = λ i j e fault before less same_worker is. unread-each olds j e less;
}
