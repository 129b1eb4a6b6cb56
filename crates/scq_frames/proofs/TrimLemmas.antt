-- A framer that cut its line's topic has the same ahead of it, but for that topic.
use Rattle.std.proofs.Common.{◌≡◌, ℕ, ◌+◌, ◌-◌, ◌<◌, ◌≤◌, Bool, false, not, Option, Some, None, List, [], ◌++◌, length, take, drop, map, refl, sym, ◌∙◌, ap, subst, ⊎_elim, arith, length-append, length-drop}
use Rattle.std.specs.Prelude.{if◌then◌else◌}
use Rattle.std.specs.List.{All, before_first, position_or_len}
use Rattle.std.proofs.lemmas.List.{append_assoc, take-append-drop, length-take-le, length-take, get_or-take}
use Rattle.std.proofs.lemmas.List.Sums.{fails_before_first, passes_at_first, prefix_len-drop_all, prefix_len-drop_no, prefix_len-le-length}
use Rattle.std.proofs.lemmas.List.Elements.{All-append, All-take, All-drop}
use Rattle.std.proofs.Math.Seq.{take-add}
use Rattle.scq_topics.specs.Exports.{is_space}
use Rattle.scq_frames.specs.Exports.{numbered, HasNoLineFeed, Framed, messages_after, is_line_feed, counted_bytes, trouble_after, visible_ahead}
use Rattle.scq_frames.specs.Exports.{limit_left, trouble_ahead, counted_ahead, IsCut, IsTrimmed}
use Rattle.scq_frames.specs.Framing.{Framing}
use Rattle.std.proofs.lemmas.Bool.{cases_lt}
use Rattle.scq_frames.proofs.TextLemmas.{no_line_feed}
use Rattle.scq_frames.proofs.TroubleLemmas.{all_clear}
use Rattle.scq_frames.proofs.CutLemmas.{bare, bare-overlooks, Overlooks, IsTopic, All-clear, messages-cut, position-append}
use Rattle.scq_frames.proofs.CutTroubleLemmas.{counted_messages-cut, trouble_after-cut}

-- bytes with a part in the middle, none of whose front ends a topic or a line
record Parts (most : ℕ) (old new : List ℕ) : Type 0 where
  front : List ℕ
  gone : List ℕ
  rest : List ℕ
  before : old ≡ (front ++ gone) ++ rest
  after : new ≡ front ++ rest
  long : length front ≡ most
  all : IsTopic (front ++ gone)
  first : IsTopic front

-- the bytes before the first space
topic_part : (held : List ℕ) (n : ℕ) → n ≤ length (before_first is_space held) → HasNoLineFeed held 0 (length held) → IsTopic (take n held)
topic_part held n within clear =
    let bound : n ≤ position_or_len is_space held = omega (arith, within, length-take (position_or_len is_space held) held) in
    let inside : n ≤ length held = omega (arith, within, length-take (position_or_len is_space held) held) in
    record {
      no_space =
          λ k d low.
          let low' : k < n = omega (arith, low, length-take-le n held inside) in
          ap is_space (get_or-take n held k d low') ∙ fails_before_first is_space held k d (omega (arith, low', bound));
      no_line_feed = no_line_feed held n inside (λ k low high. clear k low (omega (arith, high, inside)));
    }

parts_of : (most : ℕ) (old new : List ℕ) → IsCut most old new → HasNoLineFeed old 0 (length old) → Parts most old new
parts_of most old new cut clear =
    let inside : cut.to ≤ length old = omega (arith, cut.within, length-take (position_or_len is_space old) old) in
    let sum : most + (cut.to - most) ≡ cut.to = omega (arith, cut.behind) in
    let joined : take cut.to old ≡ take most old ++ take (cut.to - most) (drop most old) =
    ap (λ (n : ℕ). take n old) (sym sum) ∙ take-add most (cut.to - most) old in
    record {
      front = take most old;
      gone = take (cut.to - most) (drop most old);
      rest = drop cut.to old;
      before = sym (take-append-drop cut.to old) ∙ ap (λ (l : List ℕ). l ++ drop cut.to old) joined;
      after = cut.after;
      long = length-take-le most old (omega (arith, inside, cut.behind));
      all = subst IsTopic joined (topic_part old cut.to cut.within clear);
      first = topic_part old most (omega (arith, cut.within, cut.behind)) clear;
    }

-- where no line ended, none ends
pub clear-cut : (from to : ℕ) (old : List ℕ) → HasNoLineFeed old 0 (length old)
    → HasNoLineFeed (take from old ++ drop to old) 0 (length (take from old ++ drop to old))
clear-cut from to old clear =
    let all = all_clear old clear in
    All-clear (take from old ++ drop to old)
    (All-append (λ b. is_line_feed b ≡ false) (take from old) (drop to old) (All-take (λ b. is_line_feed b ≡ false) from old all)
    (All-drop (λ b. is_line_feed b ≡ false) to old all))

pub clear-trimmed : (most : ℕ) (old new : List ℕ) → IsTrimmed most old new → HasNoLineFeed old 0 (length old) → HasNoLineFeed new 0 (length new)
clear-trimmed most old new trimmed clear =
    ⊎_elim
    (λ (same : new ≡ old). subst (λ (l : List ℕ). HasNoLineFeed l 0 (length l)) (sym same) clear)
    (λ (cut : IsCut most old new). subst (λ (l : List ℕ). HasNoLineFeed l 0 (length l)) (sym cut.after) (clear-cut most cut.to old clear))
    trimmed

-- nothing comes to what is held
pub length-trimmed : (most : ℕ) (old new : List ℕ) → IsTrimmed most old new → length new ≤ length old
length-trimmed most old new trimmed =
    ⊎_elim
    (λ (same : new ≡ old). omega (arith, ap length same))
    (λ (cut : IsCut most old new).
    omega (
      arith,
      ap length cut.after,
      length-append (take most old) (drop cut.to old),
      length-take most old,
      length-drop cut.to old,
      cut.behind,
      cut.within,
      length-take (position_or_len is_space old) old,
    ))
    trimmed

-- what a cut topic has
pub topic-cut : (most : ℕ) (old : List ℕ) → most ≤ length (before_first is_space old)
    → length (before_first is_space (take most old ++ drop (length (before_first is_space old)) old)) ≤ most
topic-cut most old long =
    let at : ℕ = position_or_len is_space old in
    let inside : at ≤ length old = prefix_len-le-length (λ b. not (is_space b)) old in
    let topic : length (before_first is_space old) ≡ at = length-take-le at old inside in
    let front : length (take most old) ≡ most = length-take-le most old (omega (arith, long, topic, inside)) in
    let none : All (λ b. is_space b ≡ false) (take most old) =
    λ k d low. ap is_space (get_or-take most old k d (omega (arith, low, front)))
    ∙ fails_before_first is_space old k d (omega (arith, low, front, long, topic)) in
    let first : position_or_len is_space (drop at old) ≡ 0 =
    ⊎_elim
    (λ (h : at < length old). prefix_len-drop_no (λ b. not (is_space b)) old at 0 h (ap not (passes_at_first is_space old 0 h)))
    (λ (h : length old ≤ at). prefix_len-drop_all (λ b. not (is_space b)) old at h)
    (cases_lt at (length old)) in
    let place : position_or_len is_space (take most old ++ drop at old) ≡ most =
    position-append is_space (take most old) (drop at old) none ∙ omega (arith, front, first) in
    let short : length (before_first is_space (take most old ++ drop at old)) ≤ most =
    omega (arith, place, length-take (position_or_len is_space (take most old ++ drop at old)) (take most old ++ drop at old)) in
    subst (λ (n : ℕ). length (before_first is_space (take most old ++ drop n old)) ≤ most) (sym topic) short

-- the framer that holds these bytes
abbrev pub holding : Framing → List ℕ → Framing
holding f held = record f { held = held }

module _ (f : Framing) (held : List ℕ) (most : ℕ) (some : 0 < most) (p : Parts most f.held held) (within : f.read ≤ f.most) (failed : Bool)
    (more : List ℕ) where
  text : f.held ++ more ≡ (p.front ++ p.gone) ++ (p.rest ++ more)
  text = ap (λ (l : List ℕ). l ++ more) p.before ∙ append_assoc (p.front ++ p.gone) p.rest more

  text_cut : held ++ more ≡ p.front ++ (p.rest ++ more)
  text_cut = ap (λ (l : List ℕ). l ++ more) p.after ∙ append_assoc p.front p.rest more

  long_held : length f.held ≡ length p.front + length p.gone + length p.rest
  long_held = ap length p.before ∙ omega (arith, length-append (p.front ++ p.gone) p.rest, length-append p.front p.gone)

  limit : limit_left f - length p.gone ≡ limit_left (holding f held)
  limit =
      let shorter : length held ≡ length p.front + length p.rest = ap length p.after ∙ length-append p.front p.rest in
      omega (arith, long_held, shorter, within)

  inside : length p.front + length p.gone ≤ limit_left f
  inside = omega (arith, long_held, within)

  counted_ahead-cut : {X : Type 0} (h : Framed → X) → Overlooks most h
      → map h (counted_ahead f failed more) ≡ map h (counted_ahead (holding f held) failed more)
  counted_ahead-cut h over =
      ap (λ (l : List ℕ). map h (messages_after f.line (counted_bytes (limit_left f) failed l))) text
      ∙ counted_messages-cut p.front p.gone p.all p.first (omega (arith, some, p.long)) (limit_left f) failed f.line (p.rest ++ more) inside most h over
      (omega (arith, p.long))
      ∙ ap (λ (n : ℕ). map h (messages_after f.line (counted_bytes n failed (p.front ++ (p.rest ++ more))))) limit
      ∙ ap (λ (l : List ℕ). map h (messages_after f.line (counted_bytes (limit_left (holding f held)) failed l))) (sym text_cut)

  trouble_ahead-cut : trouble_ahead f failed more ≡ trouble_ahead (holding f held) failed more
  trouble_ahead-cut =
      ap (λ (l : List ℕ). trouble_after f.size (limit_left f) failed f.line l) text
      ∙ trouble_after-cut p.front p.gone p.all p.first (omega (arith, some, p.long)) (limit_left f) failed f.line (p.rest ++ more) inside f.size
      ∙ ap (λ (n : ℕ). trouble_after f.size n failed f.line (p.front ++ (p.rest ++ more))) limit
      ∙ ap (λ (l : List ℕ). trouble_after f.size (limit_left (holding f held)) failed f.line l) (sym text_cut)

module _ (f : Framing) (held : List ℕ) (most : ℕ) (some : 0 < most) (trimmed : IsTrimmed most f.held held)
    (clear : HasNoLineFeed f.held 0 (length f.held)) where
  pub counted_ahead-trimmed : f.read ≤ f.most → (failed : Bool) (more : List ℕ)
      → map bare (counted_ahead f failed more) ≡ map bare (counted_ahead (holding f held) failed more)
  counted_ahead-trimmed within failed more =
      ⊎_elim
      (λ (same : held ≡ f.held). ap (λ (l : List ℕ). map bare (counted_ahead (holding f l) failed more)) (sym same))
      (λ (cut : IsCut most f.held held). counted_ahead-cut f held most some (parts_of most f.held held cut clear) within failed more bare (bare-overlooks most))
      trimmed

  pub trouble_ahead-trimmed : f.read ≤ f.most → (failed : Bool) (more : List ℕ) → trouble_ahead f failed more ≡ trouble_ahead (holding f held) failed more
  trouble_ahead-trimmed within failed more =
      ⊎_elim
      (λ (same : held ≡ f.held). ap (λ (l : List ℕ). trouble_ahead (holding f l) failed more) (sym same))
      (λ (cut : IsCut most f.held held). trouble_ahead-cut f held most some (parts_of most f.held held cut clear) within failed more)
      trimmed

  visible_ahead-cut : (number : List ℕ → ℕ) → Overlooks most (numbered f.file number) → Parts most f.held held → (left : Option (List ℕ))
      → visible_ahead number f left ≡ visible_ahead number (holding f held) left
  visible_ahead-cut number over p None = refl
  visible_ahead-cut number over p (Some left) =
      let behind = if f.ended then [] else left in
      ap (λ (l : List ℕ). Some (map (numbered f.file number) (messages_after f.line l)))
      (ap (λ (l : List ℕ). l ++ behind) p.before ∙ append_assoc (p.front ++ p.gone) p.rest behind)
      ∙ ap Some (messages-cut most (numbered f.file number) over p.front p.gone p.all p.first (omega (arith, p.long)) (omega (arith, some, p.long))
      f.line (p.rest ++ behind))
      ∙ ap (λ (l : List ℕ). Some (map (numbered f.file number) (messages_after f.line l)))
      (sym (ap (λ (l : List ℕ). l ++ behind) p.after ∙ append_assoc p.front p.rest behind))

  pub visible_ahead-trimmed : (number : List ℕ → ℕ) → Overlooks most (numbered f.file number) → (left : Option (List ℕ))
      → visible_ahead number f left ≡ visible_ahead number (holding f held) left
  visible_ahead-trimmed number over left =
      ⊎_elim
      (λ (same : held ≡ f.held). ap (λ (l : List ℕ). visible_ahead number (holding f l) left) (sym same))
      (λ (cut : IsCut most f.held held). visible_ahead-cut number over (parts_of most f.held held cut clear) left)
      trimmed
