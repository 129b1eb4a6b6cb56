-- The messages of files, one file behind the other: on known topics, with parts in order of file, line and number. So the answers of workers, which are
-- those to the parts in some order, are whole messages, on known topics.
use Rattle.std.proofs.Common.{◌≡◌, ◌∙◌, refl, sym, ap, subst, inl, inr, arith, zero, suc, ℕ, ◌+◌, ◌-◌, ◌<◌, ◌≤◌, List, [], ◌∷◌, ◌++◌, length, map, get_or, Option, Some, None}
use Rattle.std.specs.Prelude.{slice_index_or, IfSome, flat_map}
use Rattle.std.specs.List.{Contains, range_with_len}
use Rattle.std.specs.List.Sorted.{IsPermutation}
use Rattle.std.proofs.lemmas.Grind.{flat_map-append}
use Rattle.std.proofs.lemmas.List.{append_assoc, get_or-map, length-map}
use Rattle.std.proofs.lemmas.List.Elements.{Contains-get_or}
use Rattle.scq_topics.specs.declared.kind.Kind.{Kind}
use Rattle.scq_topics.specs.Exports.{topic_of}
use Rattle.scq_frames.specs.declared.message.Message.{Message}
use Rattle.scq_frames.specs.Exports.{numbered, Part, IsNumbered, all_parts, part_of, parts_of, messages_of}
use Rattle.scq_collect.specs.declared.answered.Answered.{Answered}
use Rattle.scq_collect.specs.Exports.{messages_to, AreWhole, PartAnswer, part_answer, part_answers, without_way, AreApart, IsBefore, StandInOrder}
use Rattle.scq_collect.specs.Exports.{position_of_part}
use Rattle.scq_collect.proofs.Orders.{ascends}
use Rattle.scq_desk.proofs.Apart.{apart-shown}
use Rattle.scq_files.specs.Exports.{AreOf, AreGiven, all_left, messages_in}
use Rattle.scq_files.proofs.GivenLemmas.{given-told}
use Rattle.scq_worker.specs.Exports.{parts_in}
use Rattle.scq_work.proofs.PartMembers.{IsPartOf, has-part, same-place, part-of-member, member-of-part}
use Rattle.scq_passes.proofs.ManyLists.{found-at, in-all}

-- where a part stands, and its answer
abbrev place_at : Part → ℕ × ℕ × ℕ
place_at p = (p.file, p.line, p.part)

abbrev position_of_text : PartAnswer → ℕ × ℕ × ℕ
position_of_text a = (a.file, a.line, a.part)

-- parts rise from behind a place
unfoldable Rises : ℕ × ℕ × ℕ → List Part → Type 0
Rises place [] = Unit {0}
Rises place (p ∷ ps) = IsBefore place (place_at p) × Rises (place_at p) ps

-- parts rise from behind each place of this file and of those in front of it
unfoldable RisesPast : ℕ → List Part → Type 0
RisesPast file ps = (place : ℕ × ℕ × ℕ) → place.0 ≤ file → Rises place ps

-- all messages of files
abbrev all_of : List (List Message) → List Message
all_of given = flat_map (λ own. own) given

-- the parts of a message from one of them on, and behind them others
rest-rise : (size part count : ℕ) (m : Message) (others : List Part) → ((last : ℕ) → Rises (m.file, m.line, last) others)
    → Rises (m.file, m.line, part) (map (part_of size m) (range_with_len (part + 1) count) ++ others)
unfolding Rises
rest-rise size part zero m others past = past part
rest-rise size part (suc count) m others past =
    let here : IsBefore (m.file, m.line, part) (m.file, m.line, part + 1) = inr (refl, inr (refl, omega arith)) in
    (here, rest-rise size (part + 1) count m others past)

-- all parts of a message, and behind them others
parts-rise : (size : ℕ) (place : ℕ × ℕ × ℕ) (m : Message) (others : List Part) → IsBefore place (m.file, m.line, 1)
    → ((last : ℕ) → Rises (m.file, m.line, last) others) → Rises place (all_parts size m ++ others)
unfolding Rises
parts-rise size place m others before past =
    let count = parts_of size m.payload in
    let some_ : suc (count - 1) ≡ count = omega arith in
    subst (λ (n : ℕ). Rises place (map (part_of size m) (range_with_len 1 n) ++ others)) some_ (before, rest-rise size 1 (count - 1) m others past)

-- the parts of messages of a file, and behind them others
own-rises : (size known file line part : ℕ) (ms : List Message) (others : List Part) → AreOf known file line ms → RisesPast file others
    → Rises (file, line, part) (parts_in size ms ++ others)
unfolding RisesPast
own-rises size known file line part [] others of past = past (file, line, part) (omega arith)
own-rises size known file line part (m ∷ ms) others of past =
    let before : IsBefore (file, line, part) (m.file, m.line, 1) = inr (sym of.0, inl of.1) in
    subst (Rises (file, line, part)) (sym (append_assoc (all_parts size m) (parts_in size ms) others))
    (parts-rise size (file, line, part) m (parts_in size ms ++ others) before
    (λ last. subst (λ (f : ℕ). Rises (f, m.line, last) (parts_in size ms ++ others)) (sym of.0) (own-rises size known file m.line last ms others of.3 past)))

own-past : (size known file : ℕ) (ms : List Message) (others : List Part) → AreOf known (file + 1) 0 ms → RisesPast (file + 1) others
    → RisesPast file (parts_in size ms ++ others)
unfolding RisesPast
own-past size known file [] others of past place within = past place (omega arith)
own-past size known file (m ∷ ms) others of past place within =
    let before : IsBefore place (m.file, m.line, 1) = inl (omega (arith, of.0, within)) in
    subst (Rises place) (sym (append_assoc (all_parts size m) (parts_in size ms) others))
    (parts-rise size place m (parts_in size ms ++ others) before
    (λ last. subst (λ (f : ℕ). Rises (f, m.line, last) (parts_in size ms ++ others)) (sym of.0)
    (own-rises size known (file + 1) m.line last ms others of.3 past)))

given-past : {S : Type 0} (topics : List (List ℕ × Kind)) (size longest : ℕ) (left : S → Option (List ℕ)) (file : ℕ) (was : List S)
    (given : List (List Message)) → AreGiven topics longest left (file + 1) was given
    → RisesPast file (parts_in size (all_of given))
unfolding Rises RisesPast
given-past topics size longest left file [] [] none place within = tt
given-past topics size longest left file [] (own ∷ more) none place within = absurd none
given-past topics size longest left file (x ∷ xs) [] none place within = absurd none
given-past topics size longest left file (x ∷ xs) (own ∷ more) gave place within =
    subst (Rises place) (sym (flat_map-append (all_parts size) own (all_of more)))
    (own-past size (length topics) file own (parts_in size (all_of more)) gave.0.of
    (given-past topics size longest left (file + 1) xs more gave.1) place within)

-- parts that rise are in order
in-order : (place : ℕ × ℕ × ℕ) (ps : List Part) → Rises place ps → (k : ℕ) (d : Part) → k + 1 < length ps
    → IsBefore (place_at (slice_index_or ps k d)) (place_at (slice_index_or ps (k + 1) d))
unfolding Rises
in-order place [] rises k d less = absurd (omega arith)
in-order place (p ∷ []) rises k d less = absurd (omega arith)
in-order place (p ∷ q ∷ ps) rises zero d less = rises.1.0
in-order place (p ∷ q ∷ ps) rises (suc k) d less =
    let next : suc (k + 1) ≡ suc k + 1 = omega arith in
    subst (λ j. IsBefore (place_at (slice_index_or (q ∷ ps) k d)) (place_at (slice_index_or (p ∷ q ∷ ps) j d))) next
    (in-order (place_at p) (q ∷ ps) rises.1 k d (omega arith))

given-in-order : {S : Type 0} (topics : List (List ℕ × Kind)) (size longest : ℕ) (left : S → Option (List ℕ)) (was : List S)
    (given : List (List Message)) → AreGiven topics longest left 1 was given
    → StandInOrder place_at (parts_in size (all_of given))
unfolding RisesPast
given-in-order topics size longest left was given gave =
    in-order (0, 0, 0) (parts_in size (all_of given)) (given-past topics size longest left 0 was given gave (0, 0, 0) (omega arith))

-- one file behind the other
told-messages : (topics : List (List ℕ × Kind)) (file : ℕ) (contents : List (List ℕ))
    → all_of (messages_in topics file contents) ≡ messages_to topics file contents
told-messages topics file [] = refl
told-messages topics file (content ∷ more) =
    ap (λ (l : List Message). map (numbered file (topic_of topics)) (messages_of content) ++ l) (told-messages topics (file + 1) more)

-- some part, to read past a list
no_part : Part
no_part = record { file = 0; line = 0; topic = 0; part = 0; parts = 0; payload = [] }

-- answers stand as their parts do
answers-in-order : (topics : List (List ℕ × Kind)) (ps : List Part) → StandInOrder place_at ps → StandInOrder position_of_text (map (part_answer topics) ps)
answers-in-order topics ps order k d less =
    let long : k + 1 < length ps = omega (arith, length-map ps (part_answer topics)) in
    rw (get_or-map (part_answer topics) ps k no_part d (omega arith), get_or-map (part_answer topics) ps (k + 1) no_part d long)
    (order k no_part long)

module _ {S : Type 0} (topics : List (List ℕ × Kind)) (size longest : ℕ) (left : S → Option (List ℕ)) (was : List S) (given : List (List Message))
    (members : List Answered) (gave : AreGiven topics longest left 1 was given)
    (same : IsPermutation (map without_way members) (part_answers topics size (all_of given))) where
  -- members whose answers are those to the parts, in some order, are apart
  members-apart : AreApart position_of_part members
  members-apart =
      let answers = part_answers topics size (all_of given) in
      apart-shown position_of_text without_way members answers
      (ascends position_of_text answers
      (answers-in-order topics (parts_in size (all_of given)) (given-in-order topics size longest left was given gave))) same

  -- those of one file and line are of one message
  one-message : (a b : Answered) → IsPartOf topics size (all_of given) a → IsPartOf topics size (all_of given) b → a.file ≡ b.file → a.line ≡ b.line
      → (a.topic ≡ b.topic) × (a.parts ≡ b.parts)
  one-message a b first second file line =
      let p = part_of size first.message 1 in
      let q = part_of size second.message 1 in
      let up = ascends place_at (parts_in size (all_of given)) (given-in-order topics size longest left was given gave) in
      let file_is : p.file ≡ q.file = ap (λ (x : PartAnswer). x.file) first.is ∙ file ∙ sym (ap (λ (x : PartAnswer). x.file) second.is) in
      let line_is : p.line ≡ q.line = ap (λ (x : PartAnswer). x.line) first.is ∙ line ∙ sym (ap (λ (x : PartAnswer). x.line) second.is) in
      let place_is : place_at p ≡ place_at q = λ i. (file_is i, line_is i, 1) in
      let is : p ≡ q = same-place place_at (parts_in size (all_of given)) p q up (stands a first) (stands b second) place_is in (
        sym (ap (λ (x : PartAnswer). x.topic) first.is) ∙ ap (λ (x : Part). x.topic) is ∙ ap (λ (x : PartAnswer). x.topic) second.is,
        sym (ap (λ (x : PartAnswer). x.parts) first.is) ∙ ap (λ (x : Part). x.parts) is ∙ ap (λ (x : PartAnswer). x.parts) second.is,
      )
    where
      stands : (c : Answered) (its : IsPartOf topics size (all_of given) c) → Contains (parts_in size (all_of given)) (part_of size its.message 1)
      stands c its =
          let at = found-at (all_of given) its.message its.stands in
          in-all (all_parts size) (all_of given) at.0 its.message (part_of size its.message 1) at.1
          (has-part size its.message 1 (record { first = omega arith; last = omega arith }))

  -- so they are whole messages
  pub members-whole : AreWhole members
  members-whole = record {
    apart = members-apart;
    numbered = λ k d less.
        let its = part-of-member topics size (all_of given) members same (get_or members k d) (Contains-get_or members k d less) in
        subst (λ (a : PartAnswer). IsNumbered a.part a.parts) its.is its.numbered;
    alike = λ a b has other file line.
        one-message a b (part-of-member topics size (all_of given) members same a has)
        (part-of-member topics size (all_of given) members same b other) file line;
    each = λ a part has numbered.
        let its = part-of-member topics size (all_of given) members same a has in
        let within : IsNumbered part (parts_of size its.message.payload) =
        subst (IsNumbered part) (sym (ap (λ (x : PartAnswer). x.parts) its.is)) numbered in
        let other = member-of-part topics size (all_of given) members same its.message part its.stands within in
        let file : other.0.file ≡ a.file = ap (λ (x : PartAnswer). x.file) other.2 ∙ ap (λ (x : PartAnswer). x.file) its.is in
        let line : other.0.line ≡ a.line = ap (λ (x : PartAnswer). x.line) other.2 ∙ ap (λ (x : PartAnswer). x.line) its.is in
        let at : other.0.part ≡ part = ap (λ (x : PartAnswer). x.part) other.2 in
        (other.0, other.1, λ i. (file i, line i, at i));
  }

  -- and where the bytes of all files are visible, they answer for the contents
  pub members-told : IfSome (all_left left was) (λ contents. IsPermutation (map without_way members) (part_answers topics size (messages_to topics 1 contents)))
  members-told = at (all_left left was) (given-told topics longest left 1 was given gave) where
    at : (o : Option (List (List ℕ))) → IfSome o (λ contents. given ≡ messages_in topics 1 contents)
        → IfSome o (λ contents. IsPermutation (map without_way members) (part_answers topics size (messages_to topics 1 contents)))
    at None is = tt
    at (Some contents) is =
        subst (IsPermutation (map without_way members)) (ap (part_answers topics size) (ap all_of is ∙ told-messages topics 1 contents)) same
